-- What stands behind a shift that counts changes nothing.
use Rattle.std.specs.Prelude.{Option, Result, Ok}
use Rattle.message_fields.specs.declared.Fault.{Fault}
use Rattle.message_fields.specs.declared.Place.{Place}
use Prim.Native.Nat.{ℕ, zero, suc, ◌+◌, ◌-◌, ◌<◌, ◌≤◌}
use mathlib.Core.List.{List, [], ◌∷◌}
use mathlib.Core.Bool.{Bool, true, false}
use mathlib.Core.Path.{◌≡◌, refl, sym, ap, ◌∙◌}
use native.Mathlib.Omega.{arith}
use lib.ListN.{length, get_or, take, drop, length-take, length-drop}
use lib.Seq.{take-take, get_or-take, get_or-drop, drop-drop}
use Rattle.cause.specs.Element.{cause_of}
use Rattle.facility.specs.declared.Component.{Component}
use Rattle.facility.specs.Forms.{facility_of}
use Rattle.message_types.specs.declared.Kind.{Kind}
use Rattle.message_fields.specs.declared.Width.{Width}
use Rattle.message_fields.specs.declared.Single.{Single}
use Rattle.message_fields.specs.declared.Facilities.{Facilities}
use Rattle.message_fields.specs.declared.Header.{Header}
use Rattle.message_fields.specs.declared.Reading.{Reading}
use Rattle.elements.specs.Elements.{then, elements, counted}
use Rattle.elements.specs.Meaning.{first_place, reading_of, taken_from}
use Rattle.message_types.specs.Kind.{kind_of}
use Rattle.message.specs.Reading.{headed_of, read_of}
use Rattle.octet_promises.specs.Ours.{Ends, alone, lengthy, Locking, NonLocking, Looks, here, passed, shifted, onward, start, Ours, body_at, SaysCause, SaysComponent, SaysPlace, SaysSingle, Next, Silent, First, first, none, Three, silent}
use Rattle.octet_promises.specs.Ours as ours
use Rattle.octet_promises.specs.ReadingDemands.{HasReference, HasFlag, set, clear, HasHeader, Gives, DemandsOfReading, BehindLock, BehindShift, ReadingMet, OurReading}
use Rattle.octet_promises.specs.ReadingDemands as demand
use Rattle.octet_promises.proofs.Walk.{ends_one, ends_after, looks_in, not_shifting, locked}
use Rattle.octet_promises.proofs.Decided.{meets, gives_one, each_one, decided}

-- an element starts before the next one that the scan comes to
stepped : {m : List ℕ} {a q p : ℕ} {b : Bool} → Ends m a q → Looks m q b p → (a < p) × (q ≤ p)
stepped d s = let u = ends_after d in let k = (looks_in s).0 in (omega arith, k)

-- an element that is the same in both
record Alike (m n : List ℕ) (r : ℕ) : Type 0 where
  octet : get_or m r 0 ≡ get_or n r 0
  size : get_or m r 0 < 0x80 → get_or m (r + 1) 0 ≡ get_or n (r + 1) 0
  body : get_or m r 0 < 0x80 → body_at m r ≡ body_at n r

part : (a k j : ℕ) (l : List ℕ) → a + k ≤ j → take k (drop a (take j l)) ≡ take k (drop a l)
part zero k j l h = take-take k j l (omega arith)
part (suc a) k zero l h = absurd (omega arith)
part (suc a) k (suc j) [] h = refl
part (suc a) k (suc j) (x ∷ xs) h = part a k j xs (omega arith)

-- two messages that are the same in their first j octets
module _ (m n : List ℕ) (j : ℕ) (same : take j m ≡ take j n) where
  octet_front : (i : ℕ) → i < j → get_or m i 0 ≡ get_or n i 0
  octet_front i h = sym (get_or-take j m i 0 h) ∙ ap (λ (l : List ℕ). get_or l i 0) same ∙ get_or-take j n i 0 h

  part_front : (a k : ℕ) → a + k ≤ j → take k (drop a m) ≡ take k (drop a n)
  part_front a k h = sym (part a k j m h) ∙ ap (λ (l : List ℕ). take k (drop a l)) same ∙ part a k j n h

  long_front : (i : ℕ) → i < j → i < length m → i < length n
  long_front i h l =
      let x = length-take j m in
      let y = length-take j n in
      let z = ap length same in
      omega arith

  ends_front : {a q : ℕ} → Ends m a q → q ≤ j → Ends n a q
  ends_front {a} (alone h) k = alone (rw (octet_front a (omega arith)) at h)
  ends_front {a} (lengthy h) k = rw (octet_front (a + 1) (omega arith)) (lengthy (rw (octet_front a (omega arith)) at h))

  alike_front : {a q : ℕ} → Ends m a q → q ≤ j → Alike m n a
  alike_front {a} (alone h) k = record { octet = octet_front a (omega arith); size = λ l. absurd (omega arith); body = λ l. absurd (omega arith) }
  alike_front {a} (lengthy h) k =
      let e = octet_front (a + 1) (omega arith) in
      record { octet = octet_front a (omega arith); size = λ l. e; body = λ l. rw (← e) (part_front (a + 2) (get_or m (a + 1) 0) (omega arith)) }

  -- what the scan looks at is the same, if it is from a place p on
  module _ (p : ℕ) (in-j : p < j) (base : (r : ℕ) → Looks m p false r → Looks n p false r × Alike m n r) where
    follow : {a r : ℕ} {b : Bool} → Looks m a b p → Looks m a b r → Looks n a b r × Alike m n r
    follow {r = r} (here l) s = base r s
    follow (passed d s) (passed d' s') =
        let t = follow s (rw (ends_one d' d) at s') in
        let k = stepped d s in
        (passed (ends_front d (omega arith)) t.0, t.1)
    follow {a} (shifted x d s) (here l) =
        let k = stepped d s in
        (here (long_front a (omega arith) l), alike_front d (omega arith))
    follow {a} (shifted x d s) (shifted x' d' s') =
        let t = follow s (rw (ends_one d' d) at s') in
        let k = stepped d s in
        (shifted (rw (octet_front a (omega arith)) at x) (ends_front d (omega arith)) t.0, t.1)
    follow (shifted x d s) (onward x' d' s') = absurd (not_shifting x' x)
    follow {a} (onward x d s) (here l) =
        let k = stepped d s in
        (here (long_front a (omega arith) l), alike_front d (omega arith))
    follow (onward x d s) (shifted x' d' s') = absurd (not_shifting x x')
    follow {a} (onward x d s) (onward x' d' s') =
        let t = follow s (rw (ends_one d' d) at s') in
        let k = stepped d s in
        (onward (rw (octet_front a (omega arith)) at x) (ends_front d (omega arith)) t.0, t.1)

-- two messages that are the same from place q on
module _ (m n : List ℕ) (q : ℕ) (same : drop q m ≡ drop q n) where
  drop_back : (i : ℕ) → q ≤ i → drop i m ≡ drop i n
  drop_back i h =
      let z : q + (i - q) ≡ i = omega arith in
      rw (← z) (sym (drop-drop (i - q) q m) ∙ ap (drop (i - q)) same ∙ drop-drop (i - q) q n)

  octet_back : (i : ℕ) → q ≤ i → get_or m i 0 ≡ get_or n i 0
  octet_back i h =
      let z : i + 0 ≡ i = omega arith in
      rw z at (sym (get_or-drop i m 0 0) ∙ ap (λ (l : List ℕ). get_or l 0 0) (drop_back i h) ∙ get_or-drop i n 0 0)

  long_back : (i : ℕ) → q ≤ i → i < length m → i < length n
  long_back i h l =
      let x = length-drop i m in
      let y = length-drop i n in
      let z = ap length (drop_back i h) in
      omega arith

  ends_back : {a e : ℕ} → Ends m a e → q ≤ a → Ends n a e
  ends_back {a} (alone h) k = alone (rw (octet_back a k) at h)
  ends_back {a} (lengthy h) k = rw (octet_back (a + 1) (omega arith)) (lengthy (rw (octet_back a k) at h))

  alike_back : (r : ℕ) → q ≤ r → Alike m n r
  alike_back r k =
      let e = octet_back (r + 1) (omega arith) in
      record { octet = octet_back r k; size = λ l. e; body = λ l. rw (← e) (ap (take (get_or m (r + 1) 0)) (drop_back (r + 2) (omega arith))) }

  follow_back : {a r : ℕ} {b : Bool} → q ≤ a → Looks m a b r → Looks n a b r
  follow_back {a} k (here l) = here (long_back a k l)
  follow_back k (passed d s) = let u = ends_after d in passed (ends_back d k) (follow_back (omega arith) s)
  follow_back {a} k (shifted x d s) = let u = ends_after d in shifted (rw (octet_back a k) at x) (ends_back d k) (follow_back (omega arith) s)
  follow_back {a} k (onward x d s) = let u = ends_after d in onward (rw (octet_back a k) at x) (ends_back d k) (follow_back (omega arith) s)

-- whoever says the same gives the same
module _ {A : Type 0} {says says' : ℕ → A → Type 0} (to : (r : ℕ) (a : A) → says r a → says' r a) (back : (r : ℕ) (a : A) → says' r a → says r a) where
  silent_over : {i : ℕ} → Silent says i → Silent says' i
  silent_over s = λ q b h t. s q b h (back q b t)

  next_over : {i p : ℕ} {a : A} → Next says i p a → Next says' i p a
  next_over {p = p} {a} s = record { since = s.since; said = to p a s.said; before = λ q b h k t. s.before q b h k (back q b t) }

  first_over : {absent : A} {i : ℕ} {a : A} → First says absent i a → First says' absent i a
  first_over (first s) = first (next_over s)
  first_over (none s) = none (silent_over s)

three_over : {says says' : ℕ → Component → Type 0} → ((r : ℕ) (a : Component) → says r a → says' r a) → ((r : ℕ) (a : Component) → says' r a → says r a) → {i : ℕ} {f : Facilities} → Three says i f → Three says' i f
three_over to back (silent x) = silent (silent_over to back x)
three_over to back (ours.one x y) = ours.one (next_over to back x) (silent_over to back y)
three_over to back (ours.two x y z) = ours.two (next_over to back x) (next_over to back y) (silent_over to back z)
three_over to back (ours.three x y z) = ours.three (next_over to back x) (next_over to back y) (next_over to back z)

-- our elements are those of the other, and the same
abbrev Over : List ℕ → List ℕ → Type 0
Over m n = (r : ℕ) → Ours m r → Ours n r × Alike m n r

module _ (m n : List ℕ) (over : Over m n) where
  cause_over : (p : ℕ) (c : Option ℕ) → SaysCause m p c → SaysCause n p c
  cause_over p c s =
      let t = over p s.ours in
      let o = s.octet in
      record { ours = t.0; octet = sym t.1.octet ∙ o; says = ap cause_of (sym (t.1.body (omega arith))) ∙ s.says }

  component_over : (p : ℕ) (c : Component) → SaysComponent m p c → SaysComponent n p c
  component_over p c s =
      let t = over p s.ours in
      let o = s.octet in
      record { ours = t.0; octet = sym t.1.octet ∙ o; says = ap facility_of (sym (t.1.body (omega arith))) ∙ s.says }

  place_over : (p : ℕ) (u : Option Place) → SaysPlace m p u → SaysPlace n p u
  place_over p u s =
      let t = over p s.ours in
      let o = s.octet in
      record { ours = t.0; octet = sym t.1.octet ∙ o; says = rw (← (t.1.size (omega arith))) s.says }

  single_over : (k : Kind) (p : ℕ) (x : Single) → SaysSingle m k p x → SaysSingle n k p x
  single_over k p x s = let t = over p s.ours in record { ours = t.0; says = rw t.1.octet at s.says }

-- two messages that are the same as far as the header and our elements go
module _ (m n : List ℕ) (header : (i : ℕ) → i < start m → get_or m i 0 ≡ get_or n i 0) (to : Over m n) (back : Over n m) where
  length_over : get_or m 1 0 ≡ get_or n 1 0
  length_over = header 1 (omega arith)

  reference_over : {w : Width} {a : ℕ} → HasReference m w a → HasReference n w a
  reference_over (demand.one e) = rw (header 2 (omega arith)) (demand.one (sym length_over ∙ e))
  reference_over (demand.two e) = rw (header 2 (omega arith), header 3 (omega arith)) (demand.two (sym length_over ∙ e))

  flag_over : {b : Bool} → HasFlag m b → HasFlag n b
  flag_over (set h) = set (rw (header 2 (omega arith)) at h)
  flag_over (clear h) = clear (rw (header 2 (omega arith)) at h)

  header_over : (h : Header) → HasHeader m h → HasHeader n h
  header_over h x =
      record {
        reference = reference_over x.reference;
        flag = flag_over x.flag;
        kind = rw (← length_over, ← (header (get_or m 1 0 + 2) (omega arith))) x.kind;
      }

  gives_over : (r : Reading) → Gives m r → Gives n r
  gives_over r x =
      let k = r.message.header.kind in
      record {
        header = header_over r.message.header x.header;
        single = rw (← length_over) (first_over (single_over m n to k) (single_over n m back k) x.single);
        cause = rw (← length_over) (first_over (cause_over m n to) (cause_over n m back) x.cause);
        facility = rw (← length_over) (three_over (component_over m n to) (component_over n m back) x.facility);
        user = rw (← length_over) (first_over (place_over m n to) (place_over n m back) x.user);
      }

-- the two shifts
module _ (m n : List ℕ) (p : ℕ) (o : Ours m p) (same : take (p + 1) m ≡ take (p + 1) n) where
  at_shift : 0x90 ≤ get_or m p 0 → Looks n p false p × Alike m n p
  at_shift h = (
    here (long_front m n (p + 1) same p (omega arith) (looks_in o).1),
    record { octet = octet_front m n (p + 1) same p (omega arith); size = λ l. absurd (omega arith); body = λ l. absurd (omega arith) },
  )

  header_front : (i : ℕ) → i < start m → get_or m i 0 ≡ get_or n i 0
  header_front i h = let k = (looks_in o).0 in octet_front m n (p + 1) same i (omega arith)

  over_from : ((r : ℕ) → Looks m p false r → Looks n p false r × Alike m n r) → Over m n
  over_from base = λ r s.
      let t = follow m n (p + 1) same p (omega arith) base o s in
      (rw (header_front 1 (omega arith)) at t.0, t.1)

  over_lock : Locking (get_or m p 0) → Over m n
  over_lock l = over_from (λ r s. rw (locked m l s) (at_shift l.0))

  module _ (l : NonLocking (get_or m p 0)) (q : ℕ) (d : Ends m (p + 1) q) (d' : Ends n (p + 1) q) (rest : drop q m ≡ drop q n) where
    after_shift : {r : ℕ} → Looks m (p + 1) true r → Looks n (p + 1) true r × Alike m n r
    after_shift {r} (passed e s) =
        let t = rw (ends_one e d) at s in
        (passed d' (follow_back m n q rest (omega arith) t), alike_back m n q rest r (looks_in t).0)

    past_shift : (r : ℕ) → Looks m p false r → Looks n p false r × Alike m n r
    past_shift r (here h) = at_shift (omega arith)
    past_shift r (shifted x (alone h) s) =
        let t = after_shift s in
        let e = octet_front m n (p + 1) same p (omega arith) in
        (shifted (rw e at x) (alone (rw e at h)) t.0, t.1)
    past_shift r (shifted x (lengthy h) s) = absurd (omega arith)
    past_shift r (onward x e s) = absurd (not_shifting x l)

    over_shift : Over m n
    over_shift = over_from past_shift

-- what is taken of two such messages is the same
one_reading : (g : List ℕ → Result Reading Fault) → DemandsOfReading g → (m n : List ℕ) (r s : Reading) → ((i : ℕ) → i < start m → get_or m i 0 ≡ get_or n i 0) → Over m n → Over n m → g m ≡ Ok r → g n ≡ Ok s → r ≡ s
one_reading g d m n r s h to back e f = gives_one n r s (gives_over m n h to back r (d.gives m r e)) (d.gives n s f)

pub behind_lock : (g : List ℕ → Result Reading Fault) → DemandsOfReading g → BehindLock g
behind_lock g d m n p r s o l same e f =
    let to = over_lock m n p o same l in
    let t = to p o in
    one_reading g d m n r s (header_front m n p o same) to (over_lock n m p t.0 (sym same) (rw t.1.octet at l)) e f

pub behind_shift : (g : List ℕ → Result Reading Fault) → DemandsOfReading g → BehindShift g
behind_shift g d m n p q r s o l same x y rest e f =
    let to = over_shift m n p o same l q x y rest in
    let t = to p o in
    one_reading g d m n r s (header_front m n p o same) to (over_shift n m p t.0 (sym same) (rw t.1.octet at l) q y x (sym rest)) e f

-- the premises are met
met : ReadingMet
unfolding read_of headed_of kind_of elements then taken_from reading_of counted first_place
met =
    record {
      counts = λ s x. here {p = 4} (omega arith);
      ends = λ s x h. lengthy h;
      lock = (refl, refl);
      other_lock = (refl, refl);
      shift = refl;
      other_shift = refl;
    }

pub our_reading : OurReading
our_reading = record { meets = meets; decided = decided; one = each_one; lock = behind_lock; shift = behind_shift; met = met }
