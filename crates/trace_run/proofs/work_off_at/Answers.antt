use Rattle.std.proofs.Common.{sym, arith, refl}
use Rattle.trace.proofs.Rows.{least}
use Rattle.trace_run.specs.Course.{lines}
use Rattle.trace_run.proofs.Running.{start, waits, faulty, faulty_full, within, record_full, onward}
use Rattle.trace_run.proofs.work_off_at.Goals as goal

pub records-init : goal.records-init
records-init c =
    record {
      counted = omega arith;
      unended = refl;
      going = start (lines c.args.explained) c.args.last c.args.t.now c.args.piece.now c.args.out.now;
    }

pub returns-in-None : goal.returns-in-None
returns-in-None c =
    waits (lines c.args.explained) c.args.last c.args.t.now c.args.piece.now c.args.out.now c.records.s c.records.t c.records.out c.records.invariant
    (sym c.in-None.ensures)

pub returns-in-Ok : goal.returns-in-Ok
returns-in-Ok c =
    faulty (lines c.args.explained) c.args.last c.args.t.now c.args.piece.now c.args.out.now c.records.s c.records.t c.records.out c.records.invariant
    (sym (rw c.in-Some-Err.field-0-is at c.in-Some-Err.ensures)) c.in-Ok.ensures

pub returns-in-Err : goal.returns-in-Err
returns-in-Err c =
    faulty_full (lines c.args.explained) c.args.last c.args.t.now c.args.piece.now c.args.out.now c.records.s c.records.t c.records.out c.records.invariant
    (sym (rw c.in-Some-Err.field-0-is at c.in-Some-Err.ensures)) c.in-Err.ensures

pub returns-in-Err-record_turn : goal.returns-in-Err-record_turn
returns-in-Err-record_turn c =
    rw c.in-Err-record_turn.ensures.refused
    (record_full (lines c.args.explained) c.args.last c.args.t.now c.args.piece.now c.args.out.now c.records.s c.records.t c.records.out c.records.invariant
    c.in-Some-Ok.e (sym (rw c.in-Some-Ok.field-0-is at c.in-Some-Ok.ensures)) c.in-Err-record_turn.ensures.text)

pub records-smaller : goal.records-smaller
records-smaller c =
    let w = within (lines c.args.explained) c.args.last c.args.t.now c.args.piece.now c.args.out.now c.records.s c.records.t c.records.out c.records.invariant
    c.in-Some-Ok.e (sym (rw c.in-Some-Ok.field-0-is at c.in-Some-Ok.ensures)) in
    let l = least c.in-Some-Ok.e.kind in
    rw c.size.ensures (omega (arith, w, l))

pub records-preserved : goal.records-preserved
records-preserved c =
    rw (c.size.ensures, c.in-Ok-record_turn.ensures.taken)
    (onward (lines c.args.explained) c.args.last c.args.t.now c.args.piece.now c.args.out.now c.records.s c.records.t c.records.out c.records.invariant
    c.in-Some-Ok.e (sym (rw c.in-Some-Ok.field-0-is at c.in-Some-Ok.ensures)) c.in-Ok-record_turn.ensures.text)
