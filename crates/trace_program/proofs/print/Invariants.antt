-- What is held ends within the buffer. No step rests on it: a wrong program that counts its turns by itself has its
-- measure here.
use Rattle.std.proofs.Common.{◌≤◌}
use Rattle.trace_program.proofs.print.Given as goal

abbrev pub invariant-turns : goal.invariant-turns
invariant-turns g l = l.to ≤ 131072
