use Rattle.std.proofs.Common.{rules, tests, ◌∙◌}
use Rattle.std.proofs.lemmas.Iterator.{YieldsList-from_slice}
use Rattle.std.proofs.lemmas.Iterator.Search.{position_from_yields_List}
use Rattle.table.specs.Sought.{live_as}
use Rattle.table.proofs.Live.{finds_live}
use Rattle.table.proofs.find.Goals as goal

pub returns : goal.returns
returns c =
    position_from_yields_List (λ d. live_as d c.args.reference) _ _ c.position.result c.position.ensures.ran (YieldsList-from_slice c.args.t.now cc) (λ x b q k. search (rules, tests))
    ∙ finds_live c.args.t.now c.args.reference
