use Rattle.std.proofs.Common.{rules, ◌≡◌, sym, ◌∙◌, Some, Err}
use Rattle.memory.specs.declared.Bar.{Bar}
use Rattle.memory.proofs.Outcome.{barred, in_range_lem}
use Rattle.recorder.specs.Writing.{kind_for}
use Rattle.recorder.proofs.Sizing.{fits_small}
use Rattle.recorder.proofs.Joining.{of_kind, no_kind}
use Rattle.recorder.proofs.write_record.Goals as goal

pub returns-then-not-record_fits : goal.returns-then-not-record_fits
returns-then-not-record_fits c = barred (sym c.record_fits.ensures ∙ c.if-not-record_fits.true)

pub put_record-requires-clause-room : goal.put_record-requires-clause-room
put_record-requires-clause-room c = fits_small c.args.r c.args.e c.args.u.now (sym c.record_fits.ensures ∙ c.if-not-record_fits.false)

pub returns-in_err-k : goal.returns-in_err-k
returns-in_err-k c =
    let n = no_kind c.args.r c.args.e c.args.u.now (sym c.kind_for.ensures ∙ c.in_err-k.ensures.ok_part) in
    let b : Bar.Range ≡ c.in_err-k.field-0.0 = search (rules, c.in_err-k.ensures.value, c.in_err-k.ensures.ok_part) in
    let r : c.from_residual.result ≡ Err Bar.Range = search (rules, c.from_residual.ensures, b) in
    rw r (barred n)

pub returns : goal.returns
returns c =
    let k : kind_for c.args.e ≡ Some c.in_ok-k.k = sym c.kind_for.ensures ∙ c.in_ok-k.ensures.ok_part in
    let r = c.put_record.ensures ∙ sym (of_kind c.args.r c.args.e c.args.u.now c.in_ok-k.k k) in
    in_range_lem (sym c.record_fits.ensures ∙ c.if-not-record_fits.false) (rw r at c.write_octets.ensures)
