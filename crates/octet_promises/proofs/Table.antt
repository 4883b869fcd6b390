-- The reader's number is that of the first row that applies.
use Rattle.std.specs.Prelude.{Option, Some, None, Result, Err}
use Rattle.message_fields.specs.declared.Reading.{Reading}
use Prim.Native.Nat.{ℕ, zero, suc, ◌+◌, ◌<◌, ◌≤◌}
use mathlib.Core.List.{List, [], ◌∷◌}
use mathlib.Core.Bool.{Bool, true, false, cond, true≢false}
use mathlib.Core.Logic.{inl, inr}
use mathlib.Core.Path.{◌≡◌, refl, sym, ap, ◌∙◌}
use native.Mathlib.Omega.{arith}
use borrow.Author.Tests.{ltb-true, ltb-false, leb-true, leb-false, eqb-true, eqb-false}
use lib.ListN.{length, get_or, take, drop, take-append-drop}
use lib.Seq.{length-take-le}
use lib.Dec.{ltb, leb, eqb}
use Rattle.logic.specs.First.{Rows, end, row, First}
use Rattle.message_types.specs.declared.Kind.{Kind}
use Rattle.message_fields.specs.declared.Width.{Width}
use Rattle.message_fields.specs.declared.Header.{Header}
use Rattle.message_fields.specs.declared.Fault.{Fault}
use Rattle.message_types.specs.Kind.{kind_of}
use Rattle.elements.specs.Elements.{Split, cut, whole, elements, is_whole}
use Rattle.elements.specs.Meaning.{taken_from}
use Rattle.message.specs.Reading.{header_of, typed_of, headed_of, read_of}
use Rattle.message_fields.specs.Numbers.{fault_number, read_number}
use Rattle.octet_promises.specs.Promises.{Whole, none, alone, announced, IsKind, read_rows}
use Rattle.octet_promises.proofs.Nine.{kind_octet_lem, names}
use Rattle.elements.proofs.Splitting as split
use Rattle.elements.proofs.Turns.{whole_then}
use Rattle.logic.proofs.Decide.{by_cond}
use Rattle.message_fields.specs.Width.{width_of}

splits : {l : List ℕ} → Whole l → (p : ℕ) → is_whole (elements p 0 l) ≡ true
unfolding elements
splits none p = refl
splits (alone {x} {l} h w) p = rw (split.alone p x l h, ← (whole_then _ _)) (splits w (suc p))
splits (announced {x} b l h w) p = rw (split.lengthy p (p + 2 + length b) x b l h refl, ← (whole_then _ _)) (splits w (p + 2 + length b))

again : (x n : ℕ) (ys : List ℕ) → x < 128 → n ≤ length ys → Whole (drop n ys) → Whole (x ∷ n ∷ ys)
again x n ys h k w = rw (length-take-le n ys k, take-append-drop n ys) at (announced {x = x} (take n ys) (drop n ys) h w)

lengthy : (x : ℕ) (xs : List ℕ) → x < 128 → suc (get_or xs 0 0) ≤ length xs → Whole (drop (suc (get_or xs 0 0)) xs) → Whole (x ∷ xs)
lengthy x [] h k w = absurd (omega arith)
lengthy x (n ∷ ys) h k w = again x n ys h (omega arith) w

joins : (p k : ℕ) (l : List ℕ) → is_whole (elements p k l) ≡ true → (k ≤ length l) × Whole (drop k l)
unfolding elements
joins p zero [] h = (omega arith, none)
joins p (suc k) [] h = absurd (true≢false (sym h))
joins p (suc k) (x ∷ xs) h = let t = joins (suc p) k xs h in (omega arith, t.1)
joins p zero (x ∷ xs) h = (
  omega arith,
  by_cond (λ (s : Split). is_whole s ≡ true → Whole (x ∷ xs)) (leb 0x80 x)
      (λ t e. alone (leb-true _ _ t) (joins (suc p) zero xs (whole_then _ _ ∙ e)).1)
      (λ t e. let i = joins (suc p) (suc (get_or xs 0 0)) xs (whole_then _ _ ∙ e) in lengthy x xs (leb-false _ _ t) i.0 i.1)
      h,
)

-- a row that is asked by a test, and one that is asked by the test's failing
asked : {P : Type 0} (rows : Rows) (b : Bool) (f : Fault) (y : Result Reading Fault) → (b ≡ true → P) → (b ≡ false → P → ⊥) → (b ≡ false → First rows (read_number y)) → First (row P (fault_number f) rows) (read_number (cond b (Err f) y))
asked rows true f y p n r = inl (p refl, refl)
asked rows false f y p n r = inr (n refl, r refl)

asked_not : {P : Type 0} (rows : Rows) (b : Bool) (f : Fault) (y : Result Reading Fault) → (b ≡ false → P) → (b ≡ true → P → ⊥) → (b ≡ true → First rows (read_number y)) → First (row P (fault_number f) rows) (read_number (cond b y (Err f)))
asked_not rows true f y p n r = inr (n refl, r refl)
asked_not rows false f y p n r = inl (p refl, refl)

too_many : {a b : ℕ} → b ≤ a → a < b → ⊥
too_many h k = omega arith

-- the rows, from the last one back
abbrev on_elements : ℕ → List ℕ → Rows
on_elements n m = row (Whole (drop (n + 3) m) → ⊥) 1 end

abbrev on_type : ℕ → List ℕ → Rows
on_type n m = row ((k : Kind) → IsKind (get_or m (n + 2) 0) k → ⊥) 5 (on_elements n m)

abbrev on_reference : ℕ → List ℕ → Rows
on_reference n m = row (length m < n + 3) 1 (on_type n m)

abbrev on_width : ℕ → List ℕ → Rows
on_width n m = row ((n ≡ 1 → ⊥) × (n ≡ 2 → ⊥)) 4 (on_reference n m)

abbrev on_second : List ℕ → Rows
on_second m = row (length m < 2) 1 (on_width (get_or m 1 0) m)

abbrev on_first : List ℕ → Rows
on_first m = row (get_or m 0 0 ≡ 8 → ⊥) 3 (on_second m)

element_rows : (h : Header) (p : ℕ) (l : List ℕ) (s : Split) → elements p 0 l ≡ s → First (row (Whole l → ⊥) 1 end) (read_number (taken_from h s))
unfolding taken_from
element_rows h p l cut e = inl ((λ w. true≢false (sym (splits w p) ∙ ap is_whole e)), refl)
element_rows h p l (whole es) e = inr ((λ n. n (joins p 0 l (ap is_whole e)).1), refl)

typed_rows : (w : Width) (m : List ℕ) (t : Option Kind) → kind_of (get_or m (width_of w + 2) 0) ≡ t → First (on_type (width_of w) m) (read_number (typed_of w m t))
typed_rows w m None e = inl ((λ k i. let z : ◌≡◌ {A = ℕ} 0 1 = cc (e, kind_octet_lem i) in absurd (omega arith)), refl)
typed_rows w m (Some k) e =
    inr ((λ u. u k (names _ e)), element_rows (header_of w m k) (width_of w + 3) (drop (width_of w + 3) m) _ refl)

headed_rows : (w : Width) (m : List ℕ) → First (on_reference (width_of w) m) (read_number (headed_of w m))
unfolding headed_of
headed_rows w m =
    asked (on_type (width_of w) m) (ltb (length m) (width_of w + 3)) Fault.Short _ (λ t. ltb-true _ _ t) (λ t. too_many (ltb-false _ _ t)) (λ t. typed_rows w m _ refl)

-- the rows from the reference length on
width_rows : (m : List ℕ) (n : ℕ) → get_or m 1 0 ≡ n → First (on_width n m) (read_number (cond (eqb n 1) (headed_of Width.One m) (cond (eqb n 2) (headed_of Width.Two m) (Err Fault.Reference))))
width_rows m n e =
    by_cond (λ (r : Result Reading Fault). First (on_width n m) (read_number r)) (eqb n 1)
    (λ t. let one = eqb-true n 1 t in inr ((λ p. p.0 one), rw one (headed_rows Width.One m)))
    (λ t.
    by_cond (λ (r : Result Reading Fault). First (on_width n m) (read_number r)) (eqb n 2)
    (λ u. let two = eqb-true n 2 u in inr ((λ p. p.1 two), rw two (headed_rows Width.Two m)))
    (λ u. inl ((eqb-false n 1 t, eqb-false n 2 u), refl)))

pub read_rows_lem : (m : List ℕ) → First (read_rows m) (read_number (read_of m))
unfolding read_of
read_rows_lem m =
    asked (row (length m < 1) 1 (on_first m)) (ltb 260 (length m)) Fault.TooLong _ (λ t. ltb-true _ _ t) (λ t. too_many (ltb-false _ _ t))
    (λ _.
    asked (on_first m) (ltb (length m) 1) Fault.Short _ (λ t. ltb-true _ _ t) (λ t. too_many (ltb-false _ _ t))
    (λ _.
    asked_not (on_second m) (eqb (get_or m 0 0) 8) Fault.Foreign _ (λ t. eqb-false _ _ t) (λ t p. p (eqb-true _ _ t))
    (λ _.
    asked (on_width (get_or m 1 0) m) (ltb (length m) 2) Fault.Short _ (λ t. ltb-true _ _ t) (λ t. too_many (ltb-false _ _ t)) (λ _. width_rows m (get_or m 1 0) refl))))
