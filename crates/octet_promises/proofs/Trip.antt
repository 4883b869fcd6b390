-- What is written reads back.
use Rattle.std.specs.Prelude.{Option, Some, None, Ok}
use Rattle.message_fields.specs.declared.Place.{Place}
use Prim.Native.Nat.{ℕ, suc, ◌+◌, ◌*◌, ◌/◌, ◌%◌, ◌<◌, ◌≤◌}
use mathlib.Core.List.{List, [], ◌∷◌, ◌++◌, append_assoc, append-nil}
use mathlib.Core.Bool.{Bool, true, false, true≢false}
use mathlib.Core.Logic.{◌⊎◌, inl, inr, ⊎_elim}
use mathlib.Core.Path.{◌≡◌, refl, sym, ap, ◌∙◌}
use native.Mathlib.Omega.{arith}
use native.Mathlib.Numerals.{add-two}
use borrow.Author.Tests.{ltb-true, le-leb, lt-leb, le-ltb}
use lib.ListN.{length, length-append}
use lib.Seq.{take-length, drop_at}
use lib.Dec.{leb}
use Rattle.facility.specs.declared.Component.{Component}
use Rattle.facility.specs.Facility.{component_fits}
use Rattle.facility.specs.Filling.{body_of, facility_octets}
use Rattle.facility.proofs.filling.Back.{facility_back, cause_back}
use Rattle.message_types.specs.declared.Class.{Class}
use Rattle.message_types.specs.declared.Kind.{Kind}
use Rattle.message_fields.specs.declared.Width.{Width}
use Rattle.message_fields.specs.declared.Single.{Single}
use Rattle.message_fields.specs.declared.Facilities.{Facilities}
use Rattle.message_fields.specs.declared.Header.{Header}
use Rattle.message_fields.specs.declared.Message.{Message}
use Rattle.elements.specs.declared.so_far.Found.{Found}
use Rattle.message_types.specs.Kind.{kind_of, kind_octet, class_of}
use Rattle.elements.specs.Elements.{element, elements, counted}
use Rattle.elements.specs.Single.{more_in, level_in, single_of}
use Rattle.elements.specs.SoFar.{one_more, cause_seen}
use Rattle.elements.specs.Meaning.{taken_from}
use Rattle.message.specs.Reading.{read_of}
use Rattle.message.specs.Parts.{part_of, user_user_of}
use Rattle.elements.specs.Scan.{Adds, taken_with, going_on}
use Rattle.writer.specs.Fitting.{reference_fits, plain_fits, more_fits, class_fits, single_fits, causes_fit, facilities_fit, message_fits}
use Rattle.writer.specs.Writing.{top_of, header_octets, single_octets, causes_octets, facilities_octets, front_octets, message_octets}
use Rattle.octet_promises.specs.Promises.{place_for}
use Rattle.elements.proofs.Splitting.{alone, lengthy}
use Rattle.elements.proofs.Noting.{adds_cause, adds_facility, adds_place, adds_single}
use Rattle.elements.proofs.Turns.{nothing, at_first, at_last, notes}
use Rattle.message.proofs.Heading.{headed_known}
use Rattle.logic.proofs.Tests.{both}
use Rattle.writer.proofs.fitting.Ranges.{fits}
use Rattle.writer.proofs.sizes.Sizes.{small, front_is, message_is}
use Rattle.user_element.proofs.writable.Whole.{element_in_lem}
use Rattle.message_fields.specs.Width.{header_size}
use Rattle.user_element.specs.Writable.{UserElement}

-- THE HEADER
kind_back : (k : Kind) → kind_of (kind_octet k) ≡ Some k
unfolding kind_of
kind_back Kind.Alerting = refl
kind_back Kind.CallProceeding = refl
kind_back Kind.Setup = refl
kind_back Kind.Connect = refl
kind_back Kind.UserInformation = refl
kind_back Kind.Disconnect = refl
kind_back Kind.ReleaseComplete = refl
kind_back Kind.Facility = refl
kind_back Kind.CongestionControl = refl

flag_back : (f : Bool) (r : ℕ) → leb 0x80 (top_of f r) ≡ f
flag_back true r = le-leb 128 (r % 128 + 128) (omega arith)
flag_back false r = lt-leb 128 (r % 128) (omega arith)

low_back : (f : Bool) (r : ℕ) → r < 128 → top_of f r % 128 ≡ r
low_back true r h = omega arith
low_back false r h = omega arith

high_back : (f : Bool) (r : ℕ) → r < 32768 → top_of f (r / 256) % 128 * 256 + r % 256 ≡ r
high_back true r h = omega arith
high_back false r h = omega arith

abbrev header_with : Width → Bool → ℕ → Kind → Header
header_with w f r k = record { width = w; flag = f; reference = r; kind = k }

header_read : (w : Width) (f : Bool) (r : ℕ) (k : Kind) (rest : List ℕ) → reference_fits w r ≡ true → length (header_octets (header_with w f r k) ++ rest) ≤ 260 → read_of (header_octets (header_with w f r k) ++ rest) ≡ taken_from (header_with w f r k) (elements (header_size w) 0 rest)
unfolding read_of
header_read Width.One f r k rest h s =
    let m : List ℕ = 8 ∷ 1 ∷ top_of f r ∷ kind_octet k ∷ rest in
    simp (le-ltb 260 (length m) s, le-ltb (length m) 1 (omega arith), le-ltb (length m) 2 (omega arith))
    (sym (headed_known Width.One m k (omega arith) (kind_back k)) ∙ rw (flag_back f r, low_back f r (ltb-true _ _ h)) refl)
header_read Width.Two f r k rest h s =
    let m : List ℕ = 8 ∷ 2 ∷ top_of f (r / 256) ∷ r % 256 ∷ kind_octet k ∷ rest in
    simp (le-ltb 260 (length m) s, le-ltb (length m) 1 (omega arith), le-ltb (length m) 2 (omega arith))
    (sym (headed_known Width.Two m k (omega arith) (kind_back k)) ∙ rw (flag_back f (r / 256), high_back f r (ltb-true _ _ h)) refl)

-- THE ELEMENTS, one kind after another
more_back : (c : Class) → class_fits c Single.MoreData ≡ true → more_in c ≡ Single.MoreData
more_back Class.Plain h = absurd (true≢false (sym h))
more_back Class.Information h = refl
more_back Class.Congestion h = absurd (true≢false (sym h))

level_back : (s : Single) → plain_fits s ≡ false → more_fits s ≡ false → (c : Class) → class_fits c s ≡ true → level_in c s ≡ s
level_back s p m Class.Plain h = absurd (true≢false (sym h ∙ p))
level_back s p m Class.Information h = absurd (true≢false (sym h ∙ m))
level_back s p m Class.Congestion h = refl

abbrev seen_for : Option ℕ → Option (Option ℕ)
seen_for None = None
seen_for (Some v) = Some (Some v)

abbrev found : Single → Option (Option ℕ) → Facilities → Option Place → Found
found s c f u = record { single = s; cause = c; facility = f; user = u }

-- where an element stands that begins at p
abbrev placed : ℕ → List ℕ → Option Place
placed p [] = None
placed p (x ∷ xs) = Some (record { at = p; size = (length (x ∷ xs)) })

module _ (h : Header) where
  noted : (p q x : ℕ) (b rest : List ℕ) (f g : Found) → x < 128 → p + 2 + length b ≡ q → Adds h f (element p x b) g → going_on h false f (elements p 0 (x ∷ length b ∷ (b ++ rest))) ≡ going_on h false g (elements q 0 rest)
  noted p q x b rest f g l e a =
      ap (going_on h false f) (lengthy p q x b rest l e) ∙ sym (notes h f g (element p x b) (elements q 0 rest) a (inl (omega arith)))

  noted_alone : (p x : ℕ) (rest : List ℕ) (f g : Found) → 160 ≤ x → Adds h f (element p x []) g → going_on h false f (elements p 0 (x ∷ rest)) ≡ going_on h false g (elements (suc p) 0 rest)
  noted_alone p x rest f g l a =
      ap (going_on h false f) (alone p x rest (omega arith)) ∙ sym (notes h f g (element p x []) (elements (suc p) 0 rest) a (inr l))

  single_is : (p q x : ℕ) (s : Single) (rest : List ℕ) → suc p ≡ q → 160 ≤ x → single_of h.kind x ≡ s → going_on h false nothing (elements p 0 (x ∷ rest)) ≡ going_on h false (found s None Facilities.Zero None) (elements q 0 rest)
  single_is p q x s rest e l i =
      rw (← e) (noted_alone p x rest nothing _ l (rw i at (adds_single h nothing (element p x []) (λ z. omega arith) (λ z. omega arith) (λ z. omega arith))))

  single_read : (s : Single) (p q : ℕ) (rest : List ℕ) → p + length (single_octets s) ≡ q → single_fits h.kind s ≡ true → going_on h false nothing (elements p 0 (single_octets s ++ rest)) ≡ going_on h false (found s None Facilities.Zero None) (elements q 0 rest)
  unfolding single_of
  single_read Single.Absent p q rest e f = let s : p ≡ q = omega arith in rw s refl
  single_read Single.MoreData p q rest e f = single_is p q 0xA0 Single.MoreData rest (omega arith) (omega arith) (more_back (class_of h.kind) f)
  single_read Single.Ready p q rest e f = single_is p q 0xB0 Single.Ready rest (omega arith) (omega arith) (level_back Single.Ready refl refl (class_of h.kind) f)
  single_read Single.NotReady p q rest e f = single_is p q 0xBF Single.NotReady rest (omega arith) (omega arith) (level_back Single.NotReady refl refl (class_of h.kind) f)

  cause_read : (c : Option ℕ) (p q : ℕ) (s : Single) (rest : List ℕ) → p + length (causes_octets c) ≡ q → causes_fit c ≡ true → going_on h false (found s None Facilities.Zero None) (elements p 0 (causes_octets c ++ rest)) ≡ going_on h false (found s (seen_for c) Facilities.Zero None) (elements q 0 rest)
  cause_read None p q s rest e f = let z : p ≡ q = omega arith in rw z refl
  cause_read (Some v) p q s rest e f =
      noted p q 0x08 (0x82 ∷ (0x80 + v) ∷ []) rest _ _ (omega arith) (omega arith) (rw (cause_back v f) at (adds_cause h (found s None Facilities.Zero None) (element p 0x08 (0x82 ∷ (0x80 + v) ∷ [])) refl))

  component_read : (c : Component) (p q : ℕ) (s : Single) (n : Option (Option ℕ)) (f : Facilities) (rest : List ℕ) → p + length (facility_octets c) ≡ q → component_fits c ≡ true → going_on h false (found s n f None) (elements p 0 (facility_octets c ++ rest)) ≡ going_on h false (found s n (one_more f c) None) (elements q 0 rest)
  component_read c p q s n f rest e k =
      noted p q 0x1C (body_of c) rest _ _ (omega arith) (omega arith) (rw (facility_back c k) at (adds_facility h (found s n f None) (element p 0x1C (body_of c)) refl))

  facility_read : (f : Facilities) (p q : ℕ) (s : Single) (n : Option (Option ℕ)) (rest : List ℕ) → p + length (facilities_octets f) ≡ q → facilities_fit f ≡ true → going_on h false (found s n Facilities.Zero None) (elements p 0 (facilities_octets f ++ rest)) ≡ going_on h false (found s n f None) (elements q 0 rest)
  facility_read Facilities.Zero p q s n rest e k = let z : p ≡ q = omega arith in rw z refl
  facility_read (Facilities.One a) p q s n rest e k = component_read a p q s n Facilities.Zero rest e k
  facility_read (Facilities.Two a b) p q s n rest e k =
      let t = both _ _ k in
      let z = simp length-append at e in
      rw (append_assoc (facility_octets a) (facility_octets b) rest)
      (component_read a p (p + length (facility_octets a)) s n Facilities.Zero (facility_octets b ++ rest) refl t.0
      ∙ component_read b (p + length (facility_octets a)) q s n (Facilities.One a) rest (omega arith) t.1)
  facility_read (Facilities.Three a b c) p q s n rest e k =
      let t = both _ _ k in
      let u = both _ _ t.0 in
      let z = simp length-append at e in
      rw (append_assoc (facility_octets a ++ facility_octets b) (facility_octets c) rest, append_assoc (facility_octets a) (facility_octets b) (facility_octets c ++ rest))
      (component_read a p (p + length (facility_octets a)) s n Facilities.Zero (facility_octets b ++ (facility_octets c ++ rest)) refl u.0
      ∙ component_read b (p + length (facility_octets a)) (p + length (facility_octets a) + length (facility_octets b)) s n (Facilities.One a) (facility_octets c ++ rest) refl u.1
      ∙ component_read c (p + length (facility_octets a) + length (facility_octets b)) q s n (Facilities.Two a b) rest (omega arith) t.1)

  ended : (p : ℕ) (f : Found) → going_on h false f (elements p 0 []) ≡ taken_with h f
  unfolding going_on elements counted
  ended p f = at_last h f

  user_read : (u : List ℕ) (p : ℕ) (s : Single) (n : Option (Option ℕ)) (f : Facilities) → (length u ≡ 0) ⊎ UserElement u → going_on h false (found s n f None) (elements p 0 u) ≡ taken_with h (found s n f (placed p u))
  user_read [] p s n f k = ended p _
  user_read (x ∷ []) p s n f (inl k) = absurd (omega arith)
  user_read (x ∷ []) p s n f (inr k) = let l = k.least in absurd (omega arith)
  user_read (x ∷ y ∷ b) p s n f (inl k) = absurd (omega arith)
  user_read (x ∷ y ∷ b) p s n f (inr k) =
      let i : x ≡ 0x7E = k.first in
      let j : y ≡ length b = omega (arith, k.second) in
      rw (i, j)
      (ap (λ (l : List ℕ). going_on h false (found s n f None) (elements p 0 (0x7E ∷ length b ∷ l))) (sym (append-nil b))
      ∙ noted p (p + 2 + length b) 0x7E b [] _ _ (omega arith) refl (adds_place h (found s n f None) (element p 0x7E b) refl)
      ∙ ended (p + 2 + length b) _
      ∙ simp add-two)

-- THE WHOLE MESSAGE
part_back : (w : Message) (d l : List ℕ) → length (front_octets w) ≡ length d → part_of (d ++ l) (place_for w l) ≡ l
part_back w d [] e = refl
part_back w d (x ∷ xs) e =
    rw (e, le-leb (length d + length (x ∷ xs)) (length (d ++ (x ∷ xs))) (rw (length-append d (x ∷ xs)) (omega arith)), drop_at d (x ∷ xs) (length d) refl) (take-length (x ∷ xs))

module _ (w : Message) (u : List ℕ) (h : message_fits w u ≡ true) where
  short : length (message_octets w u) ≤ 260
  short =
      let s = small w in
      let f = front_is w in
      ⊎_elim (λ z. omega (arith, message_is w u)) (λ e. let m = e.most in omega (arith, message_is w u)) (element_in_lem u (fits w u h).user)

  abbrev head : ℕ
  head = header_size w.header.width

  abbrev after_single : ℕ
  after_single = head + length (single_octets w.single)

  abbrev after_cause : ℕ
  after_cause = after_single + length (causes_octets w.cause)

  abbrev after_facility : ℕ
  after_facility = after_cause + length (facilities_octets w.facility)

  regroup : (a b c d e : List ℕ) → (a ++ b ++ c ++ d) ++ e ≡ a ++ (b ++ (c ++ (d ++ e)))
  regroup a b c d e = simp append_assoc

  apart : message_octets w u ≡ header_octets w.header ++ (single_octets w.single ++ (causes_octets w.cause ++ (facilities_octets w.facility ++ u)))
  unfolding message_octets front_octets
  apart = regroup (header_octets w.header) (single_octets w.single) (causes_octets w.cause) (facilities_octets w.facility) u

  cause_same : (c : Option ℕ) → cause_seen (seen_for c) ≡ c
  cause_same None = refl
  cause_same (Some v) = refl

  place_same : (l : List ℕ) → placed after_facility l ≡ place_for w l
  place_same [] = refl
  place_same (x ∷ xs) = rw (front_is w) refl

  pub message_back : read_of (message_octets w u) ≡ Ok (record { message = w; user = place_for w u })
  message_back =
      let f = fits w u h in
      let d = w.header in
      rw apart
      (header_read d.width d.flag d.reference d.kind _ f.reference (rw apart at short)
      ∙ sym (at_first d _)
      ∙ single_read d w.single head after_single _ refl f.single
      ∙ cause_read d w.cause after_single after_cause w.single _ refl f.cause
      ∙ facility_read d w.facility after_cause after_facility w.single (seen_for w.cause) u refl f.facility
      ∙ user_read d u after_facility w.single (seen_for w.cause) w.facility (element_in_lem u f.user)
      ∙ simp (cause_same w.cause, place_same u))

  pub element_back : user_user_of (message_octets w u) ≡ u
  unfolding user_user_of message_octets
  element_back = rw message_back (part_back w (front_octets w) u refl)
