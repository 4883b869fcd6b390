-- Octets split into elements, one element at a time.
use Prim.Native.Nat.{ℕ, zero, suc, ◌+◌, ◌-◌, ◌<◌, ◌≤◌}
use mathlib.Core.List.{List, [], ◌∷◌, ◌++◌}
use mathlib.Core.Path.{◌≡◌, refl, ap, ◌∙◌}
use native.Mathlib.Omega.{arith}
use native.Mathlib.Numerals.{add-one}
use borrow.Author.Tests.{le-leb, lt-leb}
use lib.ListN.{length, get_or, take, drop, length-take, length-drop, drop_of_length-le, length-append}
use lib.Seq.{drop-cons, drop-drop, get_or-drop, take-append_seam, drop-append_seam}
use Rattle.elements.specs.Elements.{Element, element, cut, whole, then, elements, Ended}

-- past k octets that are there
skip : (p q k : ℕ) (l : List ℕ) → p + k ≡ q → k ≤ length l → elements p k l ≡ elements q 0 (drop k l)
unfolding elements
skip p q zero l e h = ap (λ (n : ℕ). elements n 0 l) (omega arith)
skip p q (suc k) [] e h = absurd (omega arith)
skip p q (suc k) (x ∷ xs) e h = skip (suc p) q k xs (omega arith) (omega arith)

-- past k octets that are not all there
pub short : (p k : ℕ) (l : List ℕ) → length l < k → elements p k l ≡ cut
unfolding elements
short p zero l h = absurd (omega arith)
short p (suc k) [] h = refl
short p (suc k) (x ∷ xs) h = short (suc p) k xs (omega arith)

-- an octet that stands alone, and what follows it
pub alone : (p x : ℕ) (xs : List ℕ) → 128 ≤ x → elements p 0 (x ∷ xs) ≡ then (element p x []) (elements (suc p) 0 xs)
unfolding elements
alone p x xs h = simp (le-leb _ _ h)

announced : (p x : ℕ) (xs : List ℕ) → x < 128 → elements p 0 (x ∷ xs) ≡ then (element p x (take (get_or xs 0 0) (drop 1 xs))) (elements (suc p) (suc (get_or xs 0 0)) xs)
unfolding elements
announced p x xs h = simp (lt-leb _ _ h)

-- an element with its length, written out, and what follows it
pub lengthy : (p q x : ℕ) (b r : List ℕ) → x < 128 → p + 2 + length b ≡ q → elements p 0 (x ∷ length b ∷ (b ++ r)) ≡ then (element p x b) (elements q 0 r)
lengthy p q x b r h e =
    announced p x (length b ∷ (b ++ r)) h
    ∙ rw (take-append_seam b r, skip (suc p) q (suc (length b)) (length b ∷ (b ++ r)) (omega arith) (simp length-append (omega arith)), drop-append_seam b r) refl

pub none_left : (m : List ℕ) (i : ℕ) → length m ≤ i → elements i 0 (drop i m) ≡ whole []
unfolding elements
none_left m i h = rw (drop_of_length-le m) refl

-- as many octets as the code counts
pub counts : (m : List ℕ) (i e : ℕ) → i + 2 ≤ e → e ≤ length m → length (take (e - (i + 2)) (drop (i + 2) m)) + 2 ≡ e - i
counts m i e h k = simp (length-take, length-drop) (omega arith)

-- the element at a place i of m
module _ (m : List ℕ) (i : ℕ) (in-m : i < length m) where
  opened : drop i m ≡ get_or m i 0 ∷ drop (i + 1) m
  opened = rw add-one (drop-cons m i 0 in-m)

  no_body : suc i - (i + 2) ≡ 0
  no_body = omega arith

  the_rest : i + 1 + 1 ≡ i + 2
  the_rest = omega arith

  the_end : i + 1 + suc (get_or m (i + 1) 0) ≡ i + 2 + get_or m (i + 1) 0
  the_end = omega arith

  the_size : i + 2 + get_or m (i + 1) 0 - (i + 2) ≡ get_or m (i + 1) 0
  the_size = omega arith

  second : get_or (drop (i + 1) m) 0 0 ≡ get_or m (i + 1) 0
  second = get_or-drop (i + 1) m 0 0 ∙ ap (λ (n : ℕ). get_or m n 0) (omega arith)

  pub ends_alone : 128 ≤ get_or m i 0 → Ended m i (i + 1)
  ends_alone h = record {
    after = omega arith;
    within = omega arith;
    long = λ l. absurd (omega arith);
    turn = ap (elements i 0) opened ∙ alone i (get_or m i 0) (drop (i + 1) m) h ∙ simp (add-one, no_body) refl;
  }

  pub ends_lengthy : get_or m i 0 < 128 → i + 2 + get_or m (i + 1) 0 ≤ length m → Ended m i (i + 2 + get_or m (i + 1) 0)
  ends_lengthy h fits = record {
    after = omega arith;
    within = fits;
    long = λ l. omega arith;
    turn =
        ap (elements i 0) opened
        ∙ announced i (get_or m i 0) (drop (i + 1) m) h
        ∙ rw (
          second,
          skip (suc i) (i + 2 + get_or m (i + 1) 0) (suc (get_or m (i + 1) 0)) (drop (i + 1) m) (omega arith) (simp length-drop (omega arith)),
          drop-drop,
          drop-drop,
          the_rest,
          the_end,
          the_size,
        ) refl;
  }

  then_cut : (e : Element) → then e cut ≡ cut
  unfolding then
  then_cut e = refl

  pub ends_cut : get_or m i 0 < 128 → length m < i + 2 + get_or m (i + 1) 0 → elements i 0 (drop i m) ≡ cut
  ends_cut h l =
      ap (elements i 0) opened
      ∙ announced i (get_or m i 0) (drop (i + 1) m) h
      ∙ rw (second, short (suc i) (suc (get_or m (i + 1) 0)) (drop (i + 1) m) (simp length-drop (omega arith))) (then_cut _)
