use Rattle.std.proofs.Common.{arith, refl}
use Rattle.memory.proofs.Outcome.{put_in}
use Rattle.trace_lines.proofs.Grown.{at_front}
use Rattle.trace_lines.proofs.report.write_line.Goals as goal

pub returns-then-buf-at-ge248 : goal.returns-then-buf-at-ge248
returns-then-buf-at-ge248 c =
    let put = c.write_there.ensures.put in
    put_in refl (omega (arith, c.write_there.ensures.small)) put.end put.octets

pub returns : goal.returns
returns c = rw (← (at_front c.write_there-n.ensures.put)) c.write_octets.ensures
