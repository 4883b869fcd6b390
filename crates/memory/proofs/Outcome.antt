-- The three ways in which writing ends.
use Rattle.std.specs.Prelude.{Result, Ok, Err}
use Prim.Native.Nat.{ℕ, ◌+◌, ◌<◌, ◌≤◌}
use mathlib.Core.List.{List}
use mathlib.Core.Bool.{Bool, true, false}
use mathlib.Core.Path.{◌≡◌}
use borrow.Author.Tests.{le-leb, lt-leb}
use lib.ListN.{length}
use Rattle.memory.specs.declared.Bar.{Bar}
use Rattle.memory.specs.Room.{placed, wrote_of, left_of, Written}

module _ {fits : Bool} {at : ℕ} {p l : List ℕ} where
  pub barred : fits ≡ false → Written fits at p l l (Err Bar.Range)
  unfolding wrote_of left_of
  barred h = record { answer = simp h; buffer = simp h }

  pub no_room : fits ≡ true → length l < at + length p → Written fits at p l l (Err Bar.Room)
  unfolding wrote_of left_of
  no_room h k =
      let t = lt-leb (at + length p) (length l) k in
      record { answer = simp (h, t); buffer = simp (h, t) }

  pub put_in : {l' : List ℕ} {r : ℕ} → fits ≡ true → at + length p ≤ length l → r ≡ at + length p → l' ≡ placed at p l → Written fits at p l l' (Ok r)
  unfolding wrote_of left_of
  put_in h k e f =
      let t = le-leb (at + length p) (length l) k in
      record { answer = simp (h, t, e); buffer = simp (h, t, f) }

  -- a piece that is in range
  pub in_range_lem : {l' : List ℕ} {r : Result ℕ Bar} → fits ≡ true → Written true at p l l' r → Written fits at p l l' r
  in_range_lem h w = rw h w
