use Rattle.std.proofs.Common.{rules, tests, ◌∙◌}
use Rattle.std.proofs.lemmas.Iterator.{YieldsList-from_slice}
use Rattle.std.proofs.lemmas.Iterator.Search.{position_from_yields_List}
use Rattle.table.specs.Sought.{free_of}
use Rattle.table.proofs.Live.{finds_free}
use Rattle.table.proofs.place.Goals as goal

pub returns : goal.returns
returns c =
    position_from_yields_List free_of _ _ c.position.result c.position.ensures.ran (YieldsList-from_slice c.args.t.now cc) (λ x b q k. search (rules, tests))
    ∙ finds_free c.args.t.now
