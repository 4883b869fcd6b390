-- What a message of a reply says is found again in how it is laid out.
use Rattle.std.proofs.Common.{Option, Some, None, ℕ, List, [], ◌∷◌, Bool, true, false, cond, ◌≡◌, refl, sym, ap, ◌∙◌, eq-eqb, ne_eqb, eqb}
use Rattle.services.specs.declared.ByService.{ByService}
use Rattle.facility.specs.declared.Component.{Component}
use Rattle.facility.specs.declared.Refusal.{Refusal}
use Rattle.rights.specs.declared.Service.{Service}
use Rattle.facility.specs.declared.Wish.{Wish}
use Rattle.facility.specs.Facility.{invoke_number}
use Rattle.message_fields.specs.declared.Facilities.{Facilities as LineFacilities}
use Rattle.message_fields.specs.declared.Message.{Message as LineMessage}
use Rattle.message_fields.specs.declared.Single.{Single}
use Rattle.elements.specs.Meaning.{and_says, first_three}
use Rattle.octet_promises.proofs.Promises.{alike}
use Rattle.octet_promises.proofs.Range.{range_fits}
use Rattle.services.specs.declared.Said.{Said}
use Rattle.sent.specs.declared.Level.{Level}
use Rattle.sent.specs.declared.Message.{Message}
use Rattle.wire_promises.specs.Sending.{single_for, component_for, Host, facilities_for, wire_of, Different, SaysTheSame, Apart}
use Rattle.wire_promises.proofs.Sending.{more_in, Fits, sent_fits, laid_out}

abbrev level_in : Single → Level
level_in Single.Absent = Level.Absent
level_in Single.MoreData = Level.Absent
level_in Single.Ready = Level.Ready
level_in Single.NotReady = Level.NotReady

level_again : (v : Level) (more : Bool) → level_in (single_for v more) ≡ v
level_again Level.Absent true = refl
level_again Level.Absent false = refl
level_again Level.Ready more = refl
level_again Level.NotReady more = refl

-- what is said under an invoke number
abbrev said_by : Component → Said
said_by (Component.Invoke id s Wish.Preferred) = Said.Preferred
said_by (Component.Invoke id s Wish.Required) = Said.Required
said_by (Component.Accepted id) = Said.Accepted
said_by (Component.Rejected id Refusal.ByUser) = Said.ByUser
said_by (Component.Rejected id Refusal.ByNetwork) = Said.ByNetwork

abbrev said_under : ℕ → List Component → Said
said_under id [] = Said.Nothing
said_under id (k ∷ ks) = cond (eqb (invoke_number k) id) (said_by k) (said_under id ks)

abbrev listed : LineFacilities → List Component
listed LineFacilities.Zero = []
listed (LineFacilities.One a) = a ∷ []
listed (LineFacilities.Two a b) = a ∷ b ∷ []
listed (LineFacilities.Three a b c) = a ∷ b ∷ c ∷ []

list_again : (a b c : Option Component) → listed (first_three (and_says a (and_says b (and_says c [])))) ≡ and_says a (and_says b (and_says c []))
list_again None None None = refl
list_again None None (Some z) = refl
list_again None (Some y) None = refl
list_again None (Some y) (Some z) = refl
list_again (Some x) None None = refl
list_again (Some x) None (Some z) = refl
list_again (Some x) (Some y) None = refl
list_again (Some x) (Some y) (Some z) = refl

taken_if : {A : Type 0} (b : Bool) (x y : A) → b ≡ true → cond b x y ≡ x
taken_if b x y h = rw h refl

left_if : {A : Type 0} (b : Bool) (x y : A) → b ≡ false → cond b x y ≡ y
left_if b x y h = rw h refl

here : (id : ℕ) (k : Service) (s : Said) (ks : List Component) → said_under id ks ≡ Said.Nothing → said_under id (and_says (component_for id k s) ks) ≡ s
here id k Said.Nothing ks n = n
here id k Said.Preferred ks n = taken_if _ _ _ (eq-eqb id id refl)
here id k Said.Required ks n = taken_if _ _ _ (eq-eqb id id refl)
here id k Said.Accepted ks n = taken_if _ _ _ (eq-eqb id id refl)
here id k Said.ByUser ks n = taken_if _ _ _ (eq-eqb id id refl)
here id k Said.ByNetwork ks n = taken_if _ _ _ (eq-eqb id id refl)

past : (id at : ℕ) (k : Service) (s : Said) (ks : List Component) → (at ≡ id → ⊥) → said_under id (and_says (component_for at k s) ks) ≡ said_under id ks
past id at k Said.Nothing ks n = refl
past id at k Said.Preferred ks n = left_if _ _ _ (ne_eqb at id n)
past id at k Said.Required ks n = left_if _ _ _ (ne_eqb at id n)
past id at k Said.Accepted ks n = left_if _ _ _ (ne_eqb at id n)
past id at k Said.ByUser ks n = left_if _ _ _ (ne_eqb at id n)
past id at k Said.ByNetwork ks n = left_if _ _ _ (ne_eqb at id n)

module _ (h : Host) (d : Different h) (s : ByService Said) where
  abbrev last : List Component
  last = and_says (component_for h.three Service.Three s.three) []

  abbrev later : List Component
  later = and_says (component_for h.two Service.Two s.two) last

  under : (id : ℕ) → said_under id (listed (facilities_for h s)) ≡ said_under id (and_says (component_for h.one Service.One s.one) later)
  under id =
      ap (λ (ks : List Component). said_under id ks)
      (list_again (component_for h.one Service.One s.one) (component_for h.two Service.Two s.two) (component_for h.three Service.Three s.three))

  one_again : said_under h.one (listed (facilities_for h s)) ≡ s.one
  one_again =
      under h.one
      ∙ here h.one Service.One s.one later
      (past h.one h.two Service.Two s.two last (λ e. d.one_two (sym e))
      ∙ past h.one h.three Service.Three s.three [] (λ e. d.one_three (sym e)))

  two_again : said_under h.two (listed (facilities_for h s)) ≡ s.two
  two_again =
      under h.two
      ∙ past h.two h.one Service.One s.one later d.one_two
      ∙ here h.two Service.Two s.two last (past h.two h.three Service.Three s.three [] (λ e. d.two_three (sym e)))

  three_again : said_under h.three (listed (facilities_for h s)) ≡ s.three
  three_again =
      under h.three
      ∙ past h.three h.one Service.One s.one later d.one_three
      ∙ past h.three h.two Service.Two s.two last d.two_three
      ∙ here h.three Service.Three s.three [] refl

module _ (h : Host) (d : Different h) (m m' : Message) (a b : ℕ) (f : Fits a m) (g : Fits b m') (e : wire_of h m ≡ wire_of h m') where
  said_same : (id : ℕ) → said_under id (listed (facilities_for h m.said)) ≡ said_under id (listed (facilities_for h m'.said))
  said_same id = ap (λ (w : LineMessage). said_under id (listed w.facility)) e

  wire_alike : SaysTheSame m m'
  wire_alike =
      record {
        kind = ap (λ (w : LineMessage). w.header.kind) e;
        cause = ap (λ (w : LineMessage). w.cause) e;
        level = sym (level_again m.level m.more) ∙ ap (λ (w : LineMessage). level_in w.single) e ∙ level_again m'.level m'.more;
        more = sym f.more ∙ ap (λ (w : LineMessage). more_in w.single) e ∙ g.more;
        one = sym (one_again h d m.said) ∙ said_same h.one ∙ one_again h d m'.said;
        two = sym (two_again h d m.said) ∙ said_same h.two ∙ two_again h d m'.said;
        three = sym (three_again h d m.said) ∙ said_same h.three ∙ three_again h d m'.said;
      }

pub apart : Apart
apart h i d l l' p q e =
    let r = laid_out p.call p.event l p.side p.message p.sent h i in
    let s = laid_out q.call q.event l' q.side q.message q.sent h i in
    let t = alike _ _ _ _ (range_fits _ _ r) (range_fits _ _ s) e in (
      wire_alike h d p.message q.message _ _ (sent_fits p.call p.event l p.side p.message p.sent)
          (sent_fits q.call q.event l' q.side q.message q.sent) t.0,
      t.1,
    )
