-- Message by message: what is to come makes up what the whole piece makes.
use Rattle.std.proofs.Common.{length, ◌-◌}
use Rattle.capture.proofs.Digesting.{Going}
use Rattle.capture.proofs.frames.digest.Given as goal

abbrev pub invariant-loop-message : goal.invariant-loop-message
invariant-loop-message l = Going l.piece l.offset l.initial.out l.out l.done.used l.done.wrote

abbrev pub decreases-loop-message : goal.decreases-loop-message
decreases-loop-message l = length l.piece - l.done.used
