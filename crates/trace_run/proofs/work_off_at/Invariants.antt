-- What has been worked off, and what is left of the piece, make up what the whole piece makes.
use Rattle.std.proofs.Common.{length, ◌-◌}
use Rattle.trace_run.specs.Course.{lines}
use Rattle.trace_run.proofs.Running.{Kept}
use Rattle.trace_run.proofs.work_off_at.Given as goal

abbrev pub invariant-records : goal.invariant-records
invariant-records l = Kept (lines l.explained) l.last l.fn.t l.piece l.fn.out l.s l.t l.out

abbrev pub decreases-records : goal.decreases-records
decreases-records l = length l.piece - l.s.used
