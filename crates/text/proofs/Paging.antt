-- The end of a text is its first zero, or where it ends without one.
use Prim.Native.Nat.{ℕ, suc, ◌+◌, ◌≤◌}
use mathlib.Core.List.{List}
use mathlib.Core.Bool.{Bool, true, false, cond}
use mathlib.Core.Path.{◌≡◌, refl, sym, ◌∙◌}
use native.Mathlib.Omega.{arith}
use borrow.Author.Tests.{ltb-false}
use lib.Dec.{ltb, eqb}
use lib.ListN.{length}
use Rattle.std.specs.Prelude.{Some, None, unwrap_or, position}
use Rattle.std.specs.List.{position_or_len}
use Rattle.std.proofs.lemmas.List.Sums.{prefix_len-le-length}
use Rattle.std.proofs.lemmas.List.Recursion.{is_position_or_len}
use Rattle.text.specs.Page.{text_end}

pub first_zero : (l : List ℕ) → text_end l ≡ position_or_len (λ (x : ℕ). eqb x 0) l
unfolding text_end
first_zero l = is_position_or_len text_end (λ (x : ℕ). eqb x 0) refl (λ x xs. let e : suc (text_end xs) ≡ 1 + text_end xs = omega arith in rw e refl) l

where_found : (t : Bool) (n k : ℕ) → ltb n k ≡ t → n ≤ k → unwrap_or (cond t (Some n) None) k ≡ n
where_found true n k e h = refl
where_found false n k e h = let b = ltb-false n k e in omega arith

pub or_its_end : (l : List ℕ) → unwrap_or (position (λ (x : ℕ). eqb x 0) l) (length l) ≡ text_end l
or_its_end l = where_found _ (position_or_len (λ (x : ℕ). eqb x 0) l) (length l) refl (prefix_len-le-length _ l) ∙ sym (first_zero l)
