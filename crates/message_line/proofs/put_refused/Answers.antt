use Rattle.std.proofs.Common.{arith, append_assoc, length-append}
use Rattle.message_line.specs.Columns.{columns_of}
use Rattle.message_line.proofs.Words.{refused_text}
use Rattle.message_line.proofs.put_refused.Goals as goal

pub returns : goal.returns
unfolding columns_of
returns c =
    let n = c.put_numbered.ensures.room (omega (arith, c.requires)) in
    let rest = c.put.ensures.room (simp (n.0, length-append) (omega (arith, n.1, c.requires))) in
    (simp (n.0, rest.0, c.fault_number.ensures, append_assoc), simp refused_text (omega arith))
