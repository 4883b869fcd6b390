use Rattle.std.proofs.Common.{rules, ◌≡◌, refl, Err, ◌∙◌}
use Rattle.message_fields.specs.declared.Fault.{Fault}
use Rattle.elements.proofs.Turns.{at_first, out_cut}
use Rattle.elements.proofs.scan.Goals as goal

pub loop-element-init : goal.loop-element-init
loop-element-init c =
    let p = c.new-element-items.ensures in
    rw (c.into_iter-element-iterator.ensures.into_iter_gives, p.0, p.1) (refl, at_first _ _)

pub returns-in_err-i : goal.returns-in_err-i
returns-in_err-i c =
    let l = c.loop-element in
    let step = rw (c.in_err-i.was) at c.in-Some.ensures.steps.1 in
    let cut = rw l.invariant.0 at step.1 in
    let gives : c.from_residual.result ≡ Err Fault.Short = search rules in
    gives ∙ out_cut _ _ _ _ _ cut ∙ l.invariant.1
