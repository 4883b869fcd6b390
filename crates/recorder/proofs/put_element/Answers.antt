use Rattle.recorder.proofs.Joining.{field_written}
use Rattle.recorder.proofs.put_element.Goals as goal

pub returns : goal.returns
returns c = field_written c.args.u.now c.requires.room (rw c.requires.zeros at c.write_octets.ensures)
