use Rattle.std.proofs.Common.{rules, tests, eqb, drop, ◌∙◌}
use Rattle.std.proofs.lemmas.Iterator.{YieldsList-from_slice}
use Rattle.std.proofs.lemmas.Iterator.Adapters.{YieldsList-from_skip}
use Rattle.std.proofs.lemmas.Iterator.Search.{all_from_yields_List}
use Rattle.trace.proofs.Blank.{all_blank}
use Rattle.trace.proofs.element_field.blank.Goals as goal

pub returns : goal.returns
returns c =
    all_from_yields_List (λ x. eqb x 0) _ _ c.all.result c.all.ensures.ran (YieldsList-from_skip c.args.from (YieldsList-from_slice c.args.s.now cc) cc) (λ x b q k. search (rules, tests))
    ∙ all_blank (drop c.args.from c.args.s.now)
