use Rattle.std.proofs.Common.{arith, append_assoc}
use Rattle.trace_lines.proofs.Grown.{two, spelled}
use Rattle.trace_lines.specs.Line.{line_of}
use Rattle.trace_lines.proofs.report.put_line.Goals as goal

pub returns : goal.returns
unfolding line_of
returns c =
    spelled (simp append_assoc) (omega arith)
    (two {m = 247} {n = 1} (omega (arith, c.requires))
    (two {m = 89} {n = 158} (omega (arith, c.requires))
    (two {m = 83} {n = 6} (omega (arith, c.requires)) c.put_numbers.ensures c.put_types.ensures)
    c.put_saids.ensures) c.put.ensures)
