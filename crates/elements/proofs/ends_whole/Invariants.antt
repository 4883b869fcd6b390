-- What is left is whole, at every turn, where the whole of the elements is.
use Rattle.std.proofs.Common.{◌≡◌, drop}
use Rattle.elements.specs.Elements.{elements, is_whole}
use Rattle.elements.proofs.ends_whole.Given as goal

abbrev pub invariant-loop-element : goal.invariant-loop-element
invariant-loop-element l =
    (l.element-iterator.message.now ≡ l.m)
    × (is_whole (elements l.element-iterator.place 0 (drop l.element-iterator.place l.m)) ≡ is_whole (elements l.start 0 (drop l.start l.m)))
