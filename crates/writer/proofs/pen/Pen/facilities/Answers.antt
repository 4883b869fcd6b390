use Rattle.std.proofs.Common.{arith, length-append}
use Rattle.writer.proofs.Pens.{adds_none, adds_two}
use Rattle.writer.proofs.pen.Pen.facilities.Goals as goal

pub returns-in-Zero : goal.returns-in-Zero
returns-in-Zero c = rw c.in-Zero.is adds_none

pub returns-in-Two : goal.returns-in-Two
returns-in-Two c =
    let pre = rw c.in-Two.is at c.requires in
    let n = simp length-append at pre.1 in
    rw c.in-Two.is (adds_two (omega arith) c.component-in-Two.ensures c.component-in-Two-2.ensures)

pub returns-in-Three : goal.returns-in-Three
returns-in-Three c =
    let pre = rw c.in-Three.is at c.requires in
    let n = simp length-append at pre.1 in
    rw c.in-Three.is
    (adds_two (simp length-append (omega arith)) (adds_two (omega arith) c.component-in-Three.ensures c.component-in-Three-2.ensures)
    c.component-in-Three-3.ensures)
