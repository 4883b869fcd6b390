use Rattle.std.proofs.Common.{arith, append_assoc}
use Rattle.trace_lines.proofs.Grown.{two, spelled}
use Rattle.trace_lines.proofs.Joined.{commas_append}
use Rattle.trace_lines.specs.Items.{items_of}
use Rattle.trace_lines.proofs.items.put_items.Goals as goal

pub returns : goal.returns
unfolding items_of
returns c =
    spelled (simp (commas_append, append_assoc)) (omega arith)
    (two {m = 71} {n = 8} (omega (arith, c.requires))
    (two {m = 66} {n = 5} (omega (arith, c.requires))
    (two {m = 56} {n = 10} (omega (arith, c.requires))
    (two {m = 46} {n = 10} (omega (arith, c.requires))
    (two {m = 36} {n = 10} (omega (arith, c.requires))
    (two {m = 27} {n = 9} (omega (arith, c.requires)) c.put_cause.ensures c.put_level.ensures)
    c.put_said.ensures) c.put_said-2.ensures) c.put_said-3.ensures) c.put_more.ensures) c.put_element.ensures)
