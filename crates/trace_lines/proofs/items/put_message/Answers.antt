use Rattle.std.proofs.Common.{arith, refl}
use Rattle.text.proofs.Pieced.{octet}
use Rattle.trace_lines.proofs.Joined.{bare, spaced}
use Rattle.trace_lines.proofs.items.put_message.Goals as goal

pub returns-then-line-start : goal.returns-then-line-start
returns-then-line-start c = bare _ c.requires c.put_items.ensures c.if-line-start.true c.put.ensures

pub returns-else-line-start : goal.returns-else-line-start
returns-else-line-start c = spaced _ c.requires c.put_items.ensures c.if-line-start.false refl refl (octet (omega (arith, c.requires, c.put_items.ensures.long)))
