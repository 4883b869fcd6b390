-- Zeros, octet by octet.
use Prim.Native.Nat.{ℕ}
use mathlib.Core.List.{List, [], ◌∷◌}
use mathlib.Core.Bool.{Bool, true, false, cond, ◌&&◌}
use mathlib.Core.Path.{◌≡◌, refl}
use lib.Dec.{eqb}
use Rattle.std.specs.List.{list_all}
use Rattle.trace.specs.ElementField.{blank_of}

one_more : (z : Bool) (a b : Bool) → a ≡ b → z && a ≡ cond z b false
one_more true a b e = e
one_more false a b e = refl

pub all_blank : (s : List ℕ) → list_all (λ x. eqb x 0) s ≡ blank_of s
unfolding blank_of
all_blank [] = refl
all_blank (x ∷ xs) = one_more (eqb x 0) (list_all (λ x. eqb x 0) xs) (blank_of xs) (all_blank xs)
