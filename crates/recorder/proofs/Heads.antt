-- A record is begun: its first three octets.
use Prim.Native.Nat.{ℕ, ◌≤◌}
use mathlib.Core.List.{List, [], ◌∷◌}
use mathlib.Core.Path.{◌≡◌, refl}
use native.Mathlib.Omega.{arith}
use lib.ListN.{length, set, drop}

pub begun : (a b c : ℕ) (l : List ℕ) → 3 ≤ length l → set (set (set l 0 a) 1 b) 2 c ≡ a ∷ b ∷ c ∷ drop 3 l
begun a b c [] h = absurd (omega (arith, h))
begun a b c (x ∷ []) h = absurd (omega (arith, h))
begun a b c (x ∷ y ∷ []) h = absurd (omega (arith, h))
begun a b c (x ∷ y ∷ z ∷ l) h = refl
