-- Our reader meets what is demanded of reading, and whatever meets it is ours.
use Rattle.std.specs.Prelude.{Option, Result, Ok, Err}
use Rattle.message_fields.specs.declared.Reading.{Reading}
use Rattle.message_fields.specs.declared.Place.{Place}
use Prim.Native.Nat.{ℕ, zero, suc}
use mathlib.Core.List.{List, [], ◌∷◌}
use mathlib.Core.Bool.{Bool, true, false, cond}
use mathlib.Core.Path.{◌≡◌, refl, sym, ap, ap₂, ◌∙◌}
use native.Mathlib.Omega.{arith}
use borrow.Author.Tests.{leb-true, leb-false}
use lib.ListN.{get_or}
use lib.Dec.{leb, eqb}
use Rattle.facility.specs.declared.Component.{Component}
use Rattle.message_types.specs.declared.Kind.{Kind}
use Rattle.message_fields.specs.declared.Width.{Width}
use Rattle.message_fields.specs.declared.Single.{Single}
use Rattle.message_fields.specs.declared.Facilities.{Facilities}
use Rattle.message_fields.specs.declared.Header.{Header}
use Rattle.message_fields.specs.declared.Fault.{Fault}
use Rattle.message_fields.specs.Numbers.{fault_number, read_number}
use Rattle.message_fields.specs.Width.{width_of}
use Rattle.elements.specs.Elements.{Split, cut, whole, counted}
use Rattle.elements.specs.Meaning.{first_three, reading_of, taken_from}
use Rattle.elements.specs.Scan.{listed}
use Rattle.message.specs.Reading.{reference_of, header_of, read_of}
use Rattle.octet_promises.specs.Promises.{IsKind}
use Rattle.octet_promises.specs.Ours.{start, SaysCause, SaysComponent, SaysPlace, SaysSingle, Next, Silent, First, first, none, Three, silent, GivesCause, GivesSingle, GivesFacilities, GivesPlace}
use Rattle.octet_promises.specs.Ours as ours
use Rattle.octet_promises.specs.ReadingDemands.{HasReference, HasFlag, set, clear, HasHeader, Gives, DemandsOfReading, AtMostOne, EachOne}
use Rattle.octet_promises.specs.ReadingDemands as demand
use Rattle.octet_promises.proofs.Nine.{kind_octet_lem}
use Rattle.octet_promises.proofs.Ways.{read_by_lem}
use Rattle.octet_promises.proofs.Walk.{ListsIn, lists_in}
use Rattle.octet_promises.proofs.Given.{single_octet, gives_cause, gives_single, gives_place, gives_facilities}
use Rattle.octet_promises.proofs.Promises.{reads}

-- MEETS, from the elements back to the first octet
module _ (m : List ℕ) where
  has_reference : (w : Width) → get_or m 1 0 ≡ width_of w → HasReference m w (reference_of w (get_or m 2 0) (get_or m 3 0))
  has_reference Width.One e = demand.one e
  has_reference Width.Two e = demand.two e

  has_flag : (b : Bool) → leb 0x80 (get_or m 2 0) ≡ b → HasFlag m b
  has_flag true e = set (leb-true _ _ e)
  has_flag false e = clear (leb-false _ _ e)

  abbrev Given : Result Reading Fault → Type 0
  Given (Ok r) = Gives m r
  Given (Err f) = Unit {0}

  given_split : (h : Header) (s : Split) → HasHeader m h → ListsIn m (start m) s → Given (taken_from h s)
  unfolding taken_from reading_of
  given_split h cut i l = tt
  given_split h (whole es) i l =
      record {
        header = i;
        single = gives_single m (counted false es) l h.kind;
        cause = gives_cause m (counted false es) l;
        facility = gives_facilities m (counted false es) l;
        user = gives_place m (counted false es) l;
      }

  given : Given (read_of m)
  given =
      read_by_lem m Given (λ f. tt)
      (λ w k e i. given_split (header_of w m k) _ (record { reference = has_reference w e; flag = has_flag _ refl; kind = i }) (lists_in m (start m)))

pub meets : DemandsOfReading read_of
meets = record { numbers = reads; gives = λ m r e. rw e at (given m) }

-- ONE. The first that says anything stands at one place, and says one thing.
not_silent : {A : Type 0} {says : ℕ → A → Type 0} {i p : ℕ} {a : A} → Next says i p a → Silent says i → ⊥
not_silent {p = p} {a} s n = n p a s.since s.said

module _ {A : Type 0} (says : ℕ → A → Type 0) (same : (p : ℕ) (a b : A) → says p a → says p b → a ≡ b) where
  place_one : {i p q : ℕ} {a b : A} → Next says i p a → Next says i q b → (x y : Bool) → leb p q ≡ x → leb q p ≡ y → p ≡ q
  place_one {p = p} {q} s t true true e f = let u = leb-true p q e in let v = leb-true q p f in omega arith
  place_one {p = p} {q} {a} {b} s t true false e f = absurd (t.before p a s.since (leb-false q p f) s.said)
  place_one {p = p} {q} {a} {b} s t false y e f = absurd (s.before q b t.since (leb-false p q e) t.said)

  next_one : {i p q : ℕ} {a b : A} → Next says i p a → Next says i q b → (p ≡ q) × (a ≡ b)
  next_one {p = p} {q} {a} {b} s t =
      let e = place_one s t _ _ refl refl in
      (e, same p a b s.said (rw e t.said))

  pub first_one : {absent : A} {i : ℕ} {a b : A} → First says absent i a → First says absent i b → a ≡ b
  first_one (first s) (first t) = (next_one s t).1
  first_one (first s) (none n) = absurd (not_silent s n)
  first_one (none n) (first t) = absurd (not_silent t n)
  first_one (none n) (none n') = refl

cause_one : (m : List ℕ) (p : ℕ) (a b : Option ℕ) → SaysCause m p a → SaysCause m p b → a ≡ b
cause_one m p a b s t = sym s.says ∙ t.says

place_says : (m : List ℕ) (p : ℕ) (a b : Option Place) → SaysPlace m p a → SaysPlace m p b → a ≡ b
place_says m p a b s t = sym s.says ∙ t.says

single_one : (m : List ℕ) (k : Kind) (p : ℕ) (a b : Single) → SaysSingle m k p a → SaysSingle m k p b → a ≡ b
single_one m k p a b s t = sym (single_octet s.says) ∙ single_octet t.says

component_one : (m : List ℕ) (p : ℕ) (a b : Component) → SaysComponent m p a → SaysComponent m p b → a ≡ b
component_one m p a b s t = cc (s.says, t.says)

-- the first n that say anything, in order
data Upto {A : Type 0} (says : ℕ → A → Type 0) : ℕ → ℕ → List A → Type 0 where
  full : {i : ℕ} → Upto says zero i []
  stop : {n i : ℕ} → Silent says i → Upto says (suc n) i []
  then : {n i p : ℕ} {a : A} {l : List A} → Next says i p a → Upto says n (suc p) l → Upto says (suc n) i (a ∷ l)

upto_one : {A : Type 0} {says : ℕ → A → Type 0} → ((p : ℕ) (a b : A) → says p a → says p b → a ≡ b) → {n i : ℕ} {k l : List A} → Upto says n i k → Upto says n i l → k ≡ l
upto_one same full full = refl
upto_one same (stop s) (stop t) = refl
upto_one same (stop s) (then y t) = absurd (not_silent y s)
upto_one same (then x s) (stop t) = absurd (not_silent x t)
upto_one {says = says} same (then x s) (then y t) = let e = next_one says same x y in ap₂ ◌∷◌ e.1 (upto_one same s (rw e.0 t))

upto_three : {says : ℕ → Component → Type 0} {i : ℕ} {f : Facilities} → Three says i f → Upto says 3 i (listed f)
upto_three (silent n) = stop n
upto_three (ours.one x n) = then x (stop n)
upto_three (ours.two x y n) = then x (then y (stop n))
upto_three (ours.three x y z) = then x (then y (then z full))

listed_first : (f : Facilities) → first_three (listed f) ≡ f
listed_first Facilities.Zero = refl
listed_first (Facilities.One a) = refl
listed_first (Facilities.Two a b) = refl
listed_first (Facilities.Three a b c) = refl

facilities_one : (m : List ℕ) → AtMostOne (GivesFacilities m)
facilities_one m f g s t = sym (listed_first f) ∙ ap first_three (upto_one (component_one m) (upto_three s) (upto_three t)) ∙ listed_first g

-- the header
reference_one : {m : List ℕ} {v w : Width} {a b : ℕ} → HasReference m v a → HasReference m w b → (v ≡ w) × (a ≡ b)
reference_one (demand.one e) (demand.one f) = (refl, refl)
reference_one (demand.one e) (demand.two f) = absurd (omega arith)
reference_one (demand.two e) (demand.one f) = absurd (omega arith)
reference_one (demand.two e) (demand.two f) = (refl, refl)

flag_one : {m : List ℕ} {a b : Bool} → HasFlag m a → HasFlag m b → a ≡ b
flag_one (set e) (set f) = refl
flag_one (set e) (clear f) = absurd (omega arith)
flag_one (clear e) (set f) = absurd (omega arith)
flag_one (clear e) (clear f) = refl

kind_one : {x : ℕ} {j k : Kind} → IsKind x j → IsKind x k → j ≡ k
kind_one s t = cc (kind_octet_lem s, kind_octet_lem t)

header_one : (m : List ℕ) → AtMostOne (HasHeader m)
header_one m g h s t =
    let r = reference_one s.reference t.reference in
    let f = flag_one s.flag t.flag in
    let k = kind_one s.kind t.kind in
    λ i. record { width = r.0 i; flag = f i; reference = r.1 i; kind = k i }

singles_one : (m : List ℕ) (k : Kind) → AtMostOne (GivesSingle m k)
singles_one m k a b s t = first_one (SaysSingle m k) (single_one m k) s t

causes_one : (m : List ℕ) → AtMostOne (GivesCause m)
causes_one m a b s t = first_one (SaysCause m) (cause_one m) s t

places_one : (m : List ℕ) → AtMostOne (GivesPlace m)
places_one m a b s t = first_one (SaysPlace m) (place_says m) s t

pub gives_one : (m : List ℕ) → AtMostOne (Gives m)
gives_one m r s x y =
    let h = header_one m r.message.header s.message.header x.header y.header in
    let a = singles_one m r.message.header.kind r.message.single s.message.single x.single (rw (ap (λ (h : Header). h.kind) h) y.single) in
    let c = causes_one m r.message.cause s.message.cause x.cause y.cause in
    let f = facilities_one m r.message.facility s.message.facility x.facility y.facility in
    let u = places_one m r.user s.user x.user y.user in
    λ i. record { message = record { header = h i; single = a i; cause = c i; facility = f i }; user = u i }

pub each_one : (m : List ℕ) → EachOne m
each_one m =
    record {
      header = header_one m;
      single = singles_one m;
      cause = causes_one m;
      facility = facilities_one m;
      user = places_one m;
      all = gives_one m;
    }

-- DECIDED. A fault is known by its number.
fault_for : ℕ → Fault
fault_for n =
    cond (eqb n 1) Fault.Short (cond (eqb n 2) Fault.TooLong (cond (eqb n 3) Fault.Foreign (cond (eqb n 4) Fault.Reference Fault.Kind)))

fault_so : (f : Fault) → fault_for (fault_number f) ≡ f
unfolding fault_for
fault_so Fault.Short = refl
fault_so Fault.TooLong = refl
fault_so Fault.Foreign = refl
fault_so Fault.Reference = refl
fault_so Fault.Kind = refl

fault_some : (f : Fault) → fault_number f ≡ 0 → ⊥
fault_some Fault.Short e = omega arith
fault_some Fault.TooLong e = omega arith
fault_some Fault.Foreign e = omega arith
fault_some Fault.Reference e = omega arith
fault_some Fault.Kind e = omega arith

module _ (f g : List ℕ → Result Reading Fault) (p : DemandsOfReading f) (q : DemandsOfReading g) (m : List ℕ) where
  same_read : (a b : Result Reading Fault) → f m ≡ a → g m ≡ b → read_number a ≡ read_number b → a ≡ b
  same_read (Ok r) (Ok s) e h n = ap Ok (gives_one m r s (p.gives m r e) (q.gives m s h))
  same_read (Ok r) (Err c) e h n = absurd (fault_some c (sym n))
  same_read (Err c) (Ok s) e h n = absurd (fault_some c n)
  same_read (Err c) (Err d) e h n = ap Err (sym (fault_so c) ∙ ap fault_for n ∙ fault_so d)

  pub same : f m ≡ g m
  same = same_read (f m) (g m) refl refl ((p.numbers m (read_number (g m))).1 ((q.numbers m (read_number (g m))).0 refl))

pub decided : (g : List ℕ → Result Reading Fault) → DemandsOfReading g → (m : List ℕ) → g m ≡ read_of m
decided g p m = same g read_of p meets m
