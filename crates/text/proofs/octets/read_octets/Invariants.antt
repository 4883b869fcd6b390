-- What is read so far and what is still to be read make the whole.
use Rattle.text.proofs.Spelling.{Going}
use Rattle.text.proofs.octets.read_octets.Given as goal

abbrev pub invariant-loop-used : goal.invariant-loop-used
invariant-loop-used l = Going l.text l.initial.reading l.initial.out l.out l.used l.wrote l.reading
