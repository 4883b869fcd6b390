-- The user-user element that is given back is whole.
use Rattle.std.specs.Prelude.{Option, Some, None, Result}
use Rattle.message_fields.specs.declared.Reading.{Reading}
use Rattle.message_fields.specs.declared.Fault.{Fault}
use Rattle.message_fields.specs.declared.Place.{Place}
use Prim.Native.Nat.{ℕ, zero, suc, ◌+◌, ◌-◌, ◌<◌, ◌≤◌}
use mathlib.Core.List.{List, [], ◌∷◌}
use mathlib.Core.Bool.{Bool, true, false}
use mathlib.Core.Path.{◌≡◌, refl, sym, ap, ◌∙◌}
use native.Mathlib.Omega.{arith}
use native.Mathlib.Numerals.{add-one}
use borrow.Author.Tests.{leb-true, leb-false, eqb-true, le-leb}
use lib.ListN.{length, get_or, take, drop, length-drop}
use lib.Seq.{length-take-le, drop-drop, get_or-drop}
use lib.Dec.{leb, eqb}
use Rattle.message_fields.specs.declared.Header.{Header}
use Rattle.elements.specs.Elements.{element, Split, cut, whole, then, elements, locking, shifting, counted}
use Rattle.elements.specs.Elements as el
use Rattle.elements.specs.Meaning.{first_place, reading_of, taken_from}
use Rattle.message.specs.Reading.{header_of, read_of}
use Rattle.message.specs.Parts.{place_in, user_user_of}
use Rattle.octet_promises.specs.Promises as promise
use Rattle.octet_promises.specs.Ours.{start}
use Rattle.octet_promises.proofs.Ways.{read_by_lem}
use Rattle.elements.proofs.Splitting.{short}
use Rattle.logic.proofs.Decide.{by_cond}

module _ (m : List ℕ) where
  -- an element with a length lies in m as it was split off
  pub record Lies (e : el.Element) : Type 0 where
    pub within : e.at + (length e.body + 2) ≤ length m
    pub first : get_or m e.at 0 ≡ e.id
    pub second : get_or m (e.at + 1) 0 ≡ length e.body

  abbrev In : el.Element → Type 0
  In e = e.id < 128 → Lies e

  abbrev Each : List el.Element → Type 0
  Each [] = Unit {0}
  Each (e ∷ es) = In e × Each es

  abbrev SplitIn : Split → Type 0
  SplitIn cut = Unit {0}
  SplitIn (whole es) = Each es

  then_in : (e : el.Element) (s : Split) → In e → SplitIn s → SplitIn (then e s)
  unfolding then
  then_in e cut h t = tt
  then_in e (whole es) h t = (h, t)

  then_short : (e : el.Element) (s : Split) → s ≡ cut → SplitIn (then e s)
  unfolding then
  then_short e s h = rw h tt

  tail_of : (p x : ℕ) (xs : List ℕ) → drop p m ≡ x ∷ xs → drop (suc p) m ≡ xs
  tail_of p x xs h = let n : suc p ≡ p + 1 = omega arith in rw n (sym (drop-drop 1 p m) ∙ ap (drop 1) h)

  head_of : (p x : ℕ) (xs : List ℕ) → drop p m ≡ x ∷ xs → get_or m p 0 ≡ x
  head_of p x xs h = let n : p + 0 ≡ p = omega arith in rw n at (sym (get_or-drop p m 0 0) ∙ ap (λ (l : List ℕ). get_or l 0 0) h)

  size_of : (p : ℕ) (l : List ℕ) → drop p m ≡ l → length m - p ≡ length l
  size_of p l h = sym (length-drop p m) ∙ ap length h

  -- its length octet and as many octets follow
  lengthy_in : (p x : ℕ) (xs : List ℕ) → drop p m ≡ x ∷ xs → suc (get_or xs 0 0) ≤ length xs → Lies (element p x (take (get_or xs 0 0) (drop 1 xs)))
  lengthy_in p x [] h k = absurd (omega arith)
  lengthy_in p x (n ∷ ys) h k =
      let a = length-take-le n ys (omega arith) in
      let b = size_of p (x ∷ n ∷ ys) h in
      record {
        within = rw a (omega arith);
        first = head_of p x (n ∷ ys) h;
        second = rw (a, add-one) (head_of (suc p) n ys (tail_of p x (n ∷ ys) h));
      }

  long_in : (p x : ℕ) (xs : List ℕ) (b : Bool) → leb (suc (get_or xs 0 0)) (length xs) ≡ b → drop p m ≡ x ∷ xs → SplitIn (elements (suc p) (suc (get_or xs 0 0)) xs) → SplitIn (then (element p x (take (get_or xs 0 0) (drop 1 xs))) (elements (suc p) (suc (get_or xs 0 0)) xs))
  long_in p x xs true e h r = then_in _ _ (λ l. lengthy_in p x xs h (leb-true _ _ e)) r
  long_in p x xs false e h r = then_short _ _ (short (suc p) (suc (get_or xs 0 0)) xs (leb-false _ _ e))

  elements_in : (l : List ℕ) (p k : ℕ) → drop p m ≡ l → SplitIn (elements p k l)
  unfolding elements
  elements_in [] p zero h = tt
  elements_in [] p (suc k) h = tt
  elements_in (x ∷ xs) p (suc k) h = elements_in xs (suc p) k (tail_of p x xs h)
  elements_in (x ∷ xs) p zero h =
      by_cond SplitIn (leb 0x80 x)
      (λ t. then_in _ _ (λ l. absurd (omega (arith, leb-true))) (elements_in xs (suc p) zero (tail_of p x xs h)))
      (λ t. long_in p x xs _ refl h (elements_in xs (suc p) (suc (get_or xs 0 0)) (tail_of p x xs h)))

  counted_in : (pass : Bool) (es : List el.Element) → Each es → Each (counted pass es)
  unfolding counted
  counted_in true [] h = tt
  counted_in false [] h = tt
  counted_in true (e ∷ es) h = counted_in false es h.1
  counted_in false (e ∷ es) h =
      by_cond Each (locking e) (λ _. tt) (λ _. by_cond Each (shifting e) (λ _. counted_in true es h.1) (λ _. (h.0, counted_in false es h.1)))

  -- a place that is a whole user-user element
  pub record Stands (p n : ℕ) : Type 0 where
    pub within : p + n ≤ length m
    pub first : get_or m p 0 ≡ 0x7E
    pub second : get_or m (p + 1) 0 + 2 ≡ n

  abbrev PlaceIn : Option Place → Type 0
  PlaceIn None = Unit {0}
  PlaceIn (Some s) = Stands s.at s.size

  place_in_lem : (es : List el.Element) → Each es → PlaceIn (first_place es)
  unfolding first_place
  place_in_lem [] h = tt
  place_in_lem (e ∷ es) h =
      by_cond PlaceIn (eqb e.id 0x7E)
      (λ t.
      let i = eqb-true e.id 0x7E t in
      let l = h.0 (omega arith) in
      record { within = l.within; first = l.first ∙ i; second = rw l.second refl })
      (λ _. place_in_lem es h.1)

  split_in : (h : Header) (s : Split) → SplitIn s → PlaceIn (place_in (taken_from h s))
  unfolding taken_from reading_of
  split_in h cut i = tt
  split_in h (whole es) i = place_in_lem (counted false es) (counted_in false es i)

  read_in : PlaceIn (place_in (read_of m))
  read_in = read_by_lem m (λ (r : Result Reading Fault). PlaceIn (place_in r)) (λ f. tt) (λ w k e i. split_in (header_of w m k) _ (elements_in (drop (start m) m) (start m) 0 refl))

  pub stands : (p n : ℕ) → place_in (read_of m) ≡ Some (record { at = p; size = n }) → Stands p n
  stands p n e = rw e at read_in

  pub whole_element_lem : (p n : ℕ) → place_in (read_of m) ≡ Some (record { at = p; size = n }) → promise.Element m p n
  unfolding user_user_of
  whole_element_lem p n e =
      let s = stands p n e in
      record {
        within = s.within;
        first = s.first;
        second = s.second;
        octets = rw (e, le-leb (p + n) (length m) s.within) refl;
      }
