use Rattle.text.proofs.Spelling.{ends_whole, ends_full, ends_wrong}
use Rattle.text.proofs.octets.read_octets.Goals as goal

pub returns-then-wrote-out : goal.returns-then-wrote-out
returns-then-wrote-out c = ends_full c.loop-used.invariant c.loop-used-test.true c.if-wrote-out.true c.in-Whole.ensures

pub returns-in-Fault : goal.returns-in-Fault
returns-in-Fault c = ends_wrong c.loop-used.invariant c.loop-used-test.true c.in-Fault.ensures

pub returns : goal.returns
returns c = ends_whole c.loop-used.invariant c.loop-used-test.false
