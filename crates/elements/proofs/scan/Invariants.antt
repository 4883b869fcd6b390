-- What was found and what is left give, at every turn, what the whole of the elements gives.
use Rattle.std.proofs.Common.{◌≡◌, drop}
use Rattle.elements.specs.Elements.{elements}
use Rattle.elements.specs.Meaning.{taken_from}
use Rattle.elements.specs.Scan.{way_on}
use Rattle.elements.proofs.scan.Given as goal

abbrev pub invariant-loop-element : goal.invariant-loop-element
invariant-loop-element l =
    (l.element-iterator.message.now ≡ l.m)
    × (way_on l.h l.way l.f (elements l.element-iterator.place 0 (drop l.element-iterator.place l.m)) ≡ taken_from l.h (elements l.start 0 (drop l.start l.m)))
