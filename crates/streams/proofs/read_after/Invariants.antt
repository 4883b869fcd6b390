-- So far each read went after the octets that are held, and nothing came.
use Rattle.streams.specs.Refill.{ReadAfter}
use Rattle.streams.proofs.read_after.Given as goal

abbrev pub invariant-loop : goal.invariant-loop
invariant-loop g l = ReadAfter l.left l.fn.buf l.buf 0
