-- What is read of octets is small, and so is its line.
use Rattle.std.specs.Prelude.{Option, Some, None, Result, Ok, Err}
use Rattle.message_types.specs.declared.Kind.{Kind}
use Rattle.message_fields.specs.declared.Fault.{Fault}
use Rattle.message_fields.specs.declared.Place.{Place}
use Prim.Native.Nat.{ℕ, ◌+◌, ◌<◌, ◌≤◌}
use mathlib.Core.List.{List, [], ◌∷◌, ◌++◌}
use mathlib.Core.Bool.{false}
use mathlib.Core.Path.{◌≡◌, refl, ap}
use native.Mathlib.Omega.{arith}
use borrow.Author.Tests.{ltb-true, ltb-false}
use lib.Dec.{ltb, leb, eqb}
use lib.ListN.{length, get_or, drop, length-append}
use Rattle.facility.specs.declared.Wish.{Wish}
use Rattle.facility.specs.declared.Refusal.{Refusal}
use Rattle.facility.specs.declared.Component.{Component}
use Rattle.cause.specs.Element.{cause_of}
use Rattle.facility.specs.Facility.{invoke_number}
use Rattle.facility.specs.Forms.{Slot, service_of, wish_of, refusal_of, invoke_says, error_says, read_as, invoke_form, result_form, error_form, invoke_of, result_of, error_of, or, facility_of, spells}
use Rattle.message_fields.specs.declared.Width.{Width}
use Rattle.message_fields.specs.declared.Single.{Single}
use Rattle.message_fields.specs.declared.Facilities.{Facilities}
use Rattle.message_fields.specs.declared.Header.{Header}
use Rattle.message_fields.specs.declared.Reading.{Reading}
use Rattle.message_types.specs.Kind.{kind_of}
use Rattle.elements.specs.Elements.{Element, Split, cut, whole, elements, counted}
use Rattle.elements.specs.Meaning.{first_cause, and_says, components, first_three, reading_of, taken_from}
use Rattle.message.specs.Reading.{reference_of, typed_of, headed_of, read_of}
use Rattle.message.specs.Parts.{place_in}
use Rattle.octet_promises.specs.Promises.{CauseIn, FacilitiesIn}
use Rattle.octet_promises.proofs.Promises.{element}
use Rattle.text.specs.Decimal.{decimal_of}
use Rattle.text.proofs.Digits.{at_most}
use Rattle.text.specs.Columns.{column}
use Rattle.message_line.specs.Column.{component_text, facility_column}
use Rattle.message_line.specs.Columns.{cause_column, single_column, element_column, head_columns, taken_columns, columns_of}
use Rattle.message_line.specs.Line.{line_with, line_of}
use Rattle.message_line.proofs.Words.{taken_text, refused_text}
use Rattle.capture.specs.Promises.{Octets, Bounded}
use Rattle.logic.proofs.Decide.{by_cond}
use Rattle.message_fields.specs.Width.{width_of}

-- the Cause
body_cause : (b : List ℕ) → CauseIn (cause_of b)
unfolding cause_of
body_cause b =
    by_cond CauseIn (ltb (length b) 2) (λ t. tt)
    (λ t. by_cond CauseIn (leb 0x80 (get_or b 0 0)) (λ u. omega arith)
    (λ u. by_cond CauseIn (ltb (length b) 3) (λ v. tt) (λ v. omega arith)))

small_cause : (es : List Element) → CauseIn (first_cause es)
unfolding first_cause
small_cause [] = tt
small_cause (e ∷ es) = by_cond CauseIn (eqb e.id 0x08) (λ t. body_cause e.body) (λ t. small_cause es)

-- the invoke numbers
abbrev SaysSmall : Option Component → Type 0
SaysSmall None = Unit {0}
SaysSmall (Some c) = invoke_number c ≤ 127

by_form : (f : List Slot) (b : List ℕ) (says : Option Component) → (get_or b 5 0 < 128 → SaysSmall says) → SaysSmall (read_as f b says)
unfolding read_as
by_form f b says h =
    by_cond SaysSmall (spells f b) (λ t. by_cond SaysSmall (ltb (get_or b 5 0) 128) (λ u. h (ltb-true _ _ u)) (λ u. tt)) (λ t. tt)

asked : (id x : ℕ) (w : Wish) → id < 128 → SaysSmall (invoke_says id (service_of x) w)
unfolding service_of
asked id x w h =
    by_cond (λ n. SaysSmall (invoke_says id n w)) (eqb x 1) (λ t. omega arith)
    (λ t. by_cond (λ n. SaysSmall (invoke_says id n w)) (eqb x 2) (λ u. omega arith)
    (λ u. by_cond (λ n. SaysSmall (invoke_says id n w)) (eqb x 3) (λ v. omega arith) (λ v. tt)))

rejected : (id x : ℕ) → id < 128 → SaysSmall (error_says id (refusal_of x))
unfolding refusal_of
rejected id x h =
    by_cond (λ e. SaysSmall (error_says id e)) (eqb x 1) (λ t. omega arith)
    (λ t. by_cond (λ e. SaysSmall (error_says id e)) (eqb x 2) (λ u. omega arith) (λ u. tt))

either : (a b : Option Component) → SaysSmall a → SaysSmall b → SaysSmall (or a b)
either None b p q = q
either (Some c) b p q = p

invoke_says_lem : (b : List ℕ) → SaysSmall (invoke_of b)
unfolding invoke_of
invoke_says_lem b = by_form invoke_form b (invoke_says (get_or b 5 0) (service_of (get_or b 13 0)) (wish_of (get_or b 16 0))) (λ h. asked (get_or b 5 0) (get_or b 13 0) (wish_of (get_or b 16 0)) h)

result_says : (b : List ℕ) → SaysSmall (result_of b)
unfolding result_of
result_says b = by_form result_form b (Some (Component.Accepted (get_or b 5 0))) (λ h. omega arith)

error_says_lem : (b : List ℕ) → SaysSmall (error_of b)
unfolding error_of
error_says_lem b = by_form error_form b (error_says (get_or b 5 0) (refusal_of (get_or b 8 0))) (λ h. rejected (get_or b 5 0) (get_or b 8 0) h)

body_says : (b : List ℕ) → SaysSmall (facility_of b)
unfolding facility_of
body_says b = either (invoke_of b) (or (result_of b) (error_of b)) (invoke_says_lem b) (either (result_of b) (error_of b) (result_says b) (error_says_lem b))

abbrev AllSmall : List Component → Type 0
AllSmall [] = Unit {0}
AllSmall (c ∷ cs) = (invoke_number c ≤ 127) × AllSmall cs

one_more : (f : Option Component) (cs : List Component) → SaysSmall f → AllSmall cs → AllSmall (and_says f cs)
one_more None cs p q = q
one_more (Some c) cs p q = (p, q)

small_components : (es : List Element) → AllSmall (components es)
unfolding components
small_components [] = tt
small_components (e ∷ es) = by_cond AllSmall (eqb e.id 0x1C) (λ t. one_more (facility_of e.body) _ (body_says e.body) (small_components es)) (λ t. small_components es)

three : (cs : List Component) → AllSmall cs → FacilitiesIn (first_three cs)
three [] h = tt
three (a ∷ []) h = h.0
three (a ∷ b ∷ []) h = (h.0, h.1.0)
three (a ∷ b ∷ c ∷ cs) h = (h.0, h.1.0, h.1.1.0)

-- a whole message
abbrev ReadIn : Result Reading Fault → Type 0
ReadIn (Ok r) = (r.message.header.reference ≤ 32767) × CauseIn r.message.cause × FacilitiesIn r.message.facility
ReadIn (Err f) = Unit {0}

taken_in : (h : Header) (s : Split) → h.reference ≤ 32767 → ReadIn (taken_from h s)
unfolding taken_from reading_of
taken_in h cut k = tt
taken_in h (whole es) k = (k, small_cause (counted false es), three (components (counted false es)) (small_components (counted false es)))

reference_in_lem : (w : Width) (a b : ℕ) → a < 256 → b < 256 → reference_of w a b ≤ 32767
reference_in_lem Width.One a b h k = omega arith
reference_in_lem Width.Two a b h k = omega arith

typed_in : (w : Width) (m : List ℕ) (t : Option Kind) → Octets m → ReadIn (typed_of w m t)
typed_in w m None h = tt
typed_in w m (Some k) h = taken_in _ (elements (width_of w + 3) 0 (drop (width_of w + 3) m)) (reference_in_lem w (get_or m 2 0) (get_or m 3 0) (h 2) (h 3))

headed_in : (w : Width) (m : List ℕ) → Octets m → ReadIn (headed_of w m)
unfolding headed_of
headed_in w m h = by_cond ReadIn (ltb (length m) (width_of w + 3)) (λ t. tt) (λ t. typed_in w m (kind_of (get_or m (width_of w + 2) 0)) h)

read_in : (m : List ℕ) → Octets m → ReadIn (read_of m)
unfolding read_of
read_in m h =
    by_cond ReadIn (ltb 260 (length m)) (λ t. tt)
    (λ t. by_cond ReadIn (ltb (length m) 1) (λ t. tt)
    (λ t. by_cond ReadIn (eqb (get_or m 0 0) 8)
    (λ t. by_cond ReadIn (ltb (length m) 2) (λ t. tt)
    (λ t. by_cond ReadIn (eqb (get_or m 1 0) 1) (λ t. headed_in Width.One m h)
    (λ t. by_cond ReadIn (eqb (get_or m 1 0) 2) (λ t. headed_in Width.Two m h) (λ t. tt))))
    (λ t. tt)))

-- one that is longer than 260 octets is not taken
short_in : (m : List ℕ) (r : Reading) → read_of m ≡ Ok r → length m ≤ 260
unfolding read_of
short_in m r =
    by_cond (λ (x : Result Reading Fault). x ≡ Ok r → length m ≤ 260) (ltb 260 (length m))
    (λ t e. let z : ◌≡◌ {A = ℕ} 0 1 = cc in absurd (omega arith))
    (λ t e. ltb-false 260 (length m) t)

-- the columns
few : (n : ℕ) → n ≤ 999 → length (decimal_of n) ≤ 3
few n h = at_most 2 n (omega arith)

component_short : (c : Component) → invoke_number c ≤ 127 → length (component_text c) ≤ 11
component_short (Component.Invoke id s w) h = let f = few id (omega arith) in simp length-append (omega arith)
component_short (Component.Accepted id) h = let f = few id (omega arith) in simp length-append (omega arith)
component_short (Component.Rejected id Refusal.ByUser) h = let f = few id (omega arith) in simp length-append (omega arith)
component_short (Component.Rejected id Refusal.ByNetwork) h = let f = few id (omega arith) in simp length-append (omega arith)

cause_short : (c : Option ℕ) → CauseIn c → length (cause_column c) ≤ 3
cause_short None h = omega arith
cause_short (Some v) h = few v (omega arith)

single_short : (s : Single) → length (single_column s) ≤ 2
single_short Single.Absent = omega arith
single_short Single.MoreData = omega arith
single_short Single.Ready = omega arith
single_short Single.NotReady = omega arith

facility_short : (f : Facilities) → FacilitiesIn f → length (facility_column f) ≤ 35
facility_short Facilities.Zero h = omega arith
facility_short (Facilities.One a) h = omega (arith, component_short a h)
facility_short (Facilities.Two a b) h = let p = component_short a h.0 in let q = component_short b h.1 in simp length-append (omega arith)
facility_short (Facilities.Three a b c) h =
    let p = component_short a h.0 in
    let q = component_short b h.1 in
    let r = component_short c h.2 in
    simp length-append (omega arith)

abbrev PlaceIn : Option Place → Type 0
PlaceIn None = Unit {0}
PlaceIn (Some s) = s.at + s.size ≤ 260

element_short : (p : Option Place) → PlaceIn p → length (element_column p) ≤ 7
element_short None h = omega arith
element_short (Some s) h = let f = few s.at (omega arith) in let g = few s.size (omega arith) in simp length-append (omega arith)

place_in_lem : (m : List ℕ) (p : Option Place) → length m ≤ 260 → place_in (read_of m) ≡ p → PlaceIn p
place_in_lem m None h e = tt
place_in_lem m (Some s) h e = let w = (element m s.at s.size e).within in omega arith

head_short : (h : Header) → h.reference ≤ 32767 → length (head_columns h) ≤ 11
unfolding head_columns
head_short h k = let n = at_most 4 h.reference (omega arith) in omega arith

six_long : (a b c d e f : List ℕ) → length (a ++ b ++ c ++ d ++ e ++ f) ≡ length a + length b + length c + length d + length e + length f
six_long a b c d e f = simp length-append

taken_short : (r : Reading) → r.message.header.reference ≤ 32767 → CauseIn r.message.cause → FacilitiesIn r.message.facility → PlaceIn r.user → length (taken_columns r) ≤ 64
unfolding taken_columns
taken_short r a b c d =
    let o : length (decimal_of 0) ≡ 1 = ap length taken_text in
    let n = head_short r.message.header a in
    let p = cause_short r.message.cause b in
    let q = single_short r.message.single in
    let s = facility_short r.message.facility c in
    let t = element_short r.user d in
    omega
    (arith, six_long (column (decimal_of 0)) (head_columns r.message.header) (column (cause_column r.message.cause)) (column (single_column r.message.single)) (column (facility_column r.message.facility)) (column (element_column r.user)))

columns_short : (m : List ℕ) (x : Result Reading Fault) → read_of m ≡ x → ReadIn x → length (columns_of x) ≤ 64
unfolding columns_of
columns_short m (Ok r) e h = taken_short r h.0 h.1 h.2 (place_in_lem m r.user (short_in m r e) (ap place_in e))
columns_short m (Err f) e h = simp refused_text (omega arith)

pub bounded : Bounded
unfolding line_of line_with
bounded m offset h k =
    let n = at_most 19 offset (omega arith) in
    let c = columns_short m (read_of m) refl (read_in m h) in
    simp length-append (omega arith)
