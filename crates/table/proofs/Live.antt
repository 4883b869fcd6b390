-- The first live record of a reference, and the first free place, as an iterator finds them.
use Rattle.std.specs.Prelude.{Some}
use mathlib.Core.Path.{◌≡◌, refl, ap, ◌∙◌}
use Prim.Native.Nat.{ℕ, ◌+◌}
use mathlib.Core.Bool.{cond}
use mathlib.Core.List.{List, [], ◌∷◌}
use Rattle.std.specs.List.{position, position_from}
use Rattle.std.proofs.lemmas.Iterator.Adapters.{position_from-zero}
use Rattle.call.specs.declared.Call.{Call}
use Rattle.table.specs.Sought.{live_as, free_of}
use Rattle.table.specs.Table.{find_from, place_from}

live_from : (l : List Call) (i n : ℕ) → position_from (λ c. live_as c n) i l ≡ find_from l i n
live_from [] i n = refl
live_from (c ∷ cs) i n = ap (cond (live_as c n) (Some i)) (live_from cs (i + 1) n)

free_from : (l : List Call) (i : ℕ) → position_from free_of i l ≡ place_from l i
free_from [] i = refl
free_from (c ∷ cs) i = ap (cond (free_of c) (Some i)) (free_from cs (i + 1))

pub finds_live : (l : List Call) (n : ℕ) → position (λ c. live_as c n) l ≡ find_from l 0 n
finds_live l n = position_from-zero (λ c. live_as c n) l ∙ live_from l 0 n

pub finds_free : (l : List Call) → position free_of l ≡ place_from l 0
finds_free l = position_from-zero free_of l ∙ free_from l 0
