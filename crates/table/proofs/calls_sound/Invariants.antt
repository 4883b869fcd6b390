-- The records before the rest are sound, and none of them has a later twin.
use Rattle.std.proofs.Common.{length, ◌≡◌}
use Rattle.table.specs.Table.{calls_sound}
use Rattle.table.proofs.calls_sound.Given as goal

abbrev pub invariant-loop-c : goal.invariant-loop-c
invariant-loop-c l = calls_sound l.t ≡ calls_sound l.rest

abbrev pub decreases-loop-c : goal.decreases-loop-c
decreases-loop-c l = length l.rest
