-- What is still to go out is no longer than the piece. No step rests on it: a wrong program that counts its tries by
-- itself has its measure here.
use Rattle.std.proofs.Common.{◌≤◌, length}
use Rattle.streams.proofs.send.Given as goal

abbrev pub invariant-tries : goal.invariant-tries
invariant-tries g l = length l.rest ≤ length l.fn.piece
