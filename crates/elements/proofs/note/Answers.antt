use Rattle.std.proofs.Common.{arith}
use Rattle.elements.proofs.Splitting.{counts}
use Rattle.elements.proofs.Noting.{adds_cause, adds_place, adds_single}
use Rattle.elements.proofs.note.Goals as goal

pub returns-in-8 : goal.returns-in-8
returns-in-8 c = rw c.first_cause.ensures (adds_cause _ _ _ c.in-8.is)

pub returns-in-126 : goal.returns-in-126
returns-in-126 c =
    let h = c.requires.2 (omega arith) in
    rw (c.first_place.ensures, ← (counts c.args.m.now c.args.i c.args.e h c.requires.1)) (adds_place _ _ _ c.in-126.is)

pub returns-in_default : goal.returns-in_default
returns-in_default c =
    let d = c.in_default in
    rw (c.first_single.ensures, c.single_in.ensures) (adds_single _ _ _ (omega arith) (omega arith) (omega arith))
