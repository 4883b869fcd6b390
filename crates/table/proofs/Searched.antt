-- A record is found exactly if there is one.
use Rattle.std.specs.Prelude.{Option, Some}
use mathlib.Core.Path.{◌≡◌, refl}
use Prim.Native.Nat.{ℕ, ◌+◌}
use mathlib.Core.Bool.{Bool, true, false, cond, ◌||◌}
use mathlib.Core.List.{List, [], ◌∷◌}
use Rattle.call.specs.declared.Call.{Call}
use Rattle.table.specs.Sought.{live_as, is_at}
use Rattle.table.specs.Table.{find_from, held_in}

one_held : (t : Bool) (i : ℕ) (r : Option ℕ) (s : Bool) → is_at r ≡ s → is_at (cond t (Some i) r) ≡ t || s
one_held true i r s e = refl
one_held false i r s e = e

pub at_held : (l : List Call) (i n : ℕ) → is_at (find_from l i n) ≡ held_in l n
at_held [] i n = refl
at_held (c ∷ cs) i n = one_held (live_as c n) i (find_from cs (i + 1) n) (held_in cs n) (at_held cs (i + 1) n)
