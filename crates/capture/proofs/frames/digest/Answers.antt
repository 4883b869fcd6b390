use Rattle.std.proofs.Common.{arith, length-drop}
use Rattle.capture.proofs.Digesting.{rest_is, start, stop_short, stop_full, go_on}
use Rattle.capture.proofs.frames.digest.Goals as goal

pub loop-message-init : goal.loop-message-init
loop-message-init c = start _ _ _ (omega arith)

pub returns-in_default-write_line : goal.returns-in_default-write_line
returns-in_default-write_line c =
    let m = rw (rest_is c.args.piece.now c.loop-message.done.used) at c.in-Some.ensures in
    stop_full c.loop-message.invariant m.0 m.1 (rw (c.in_default-write_line.is, c.later.ensures) at c.write_line.ensures)

pub loop-message-preserved : goal.loop-message-preserved
loop-message-preserved c =
    let m = rw (rest_is c.args.piece.now c.loop-message.done.used) at c.in-Some.ensures in
    go_on c.loop-message.invariant m.0 m.1 (rw (c.in-Ok.is, c.later.ensures) at c.write_line.ensures)

pub returns : goal.returns
returns c =
    stop_short c.loop-message.invariant (rw (rest_is c.args.piece.now c.loop-message.done.used, length-drop) at c.in_default.ensures)
