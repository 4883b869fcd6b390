-- One piece after another, by the same pen.
use Prim.Native.Nat.{ℕ, ◌+◌, ◌≤◌}
use mathlib.Core.List.{List, [], ◌++◌}
use mathlib.Core.Path.{refl, ◌∙◌}
use native.Mathlib.Omega.{arith}
use lib.ListN.{length, length-append}
use Rattle.memory.proofs.Pieces.{no_put, puts}
use Rattle.writer.specs.declared.pen.Pen.{Pen}
use Rattle.writer.specs.Pen.{Adds}

pub adds_none : {s : Pen} → Adds [] s s
adds_none = record { same = refl; long = refl; put = no_put }

pub adds_two : {p q : List ℕ} {s t u : Pen} → s.at + length p ≤ length s.buf.now → Adds p s t → Adds q t u → Adds (p ++ q) s u
adds_two h a b = record { same = b.same ∙ a.same; long = b.long ∙ a.long; put = puts h a.put b.put }

pub adds_five : {a b c d e : List ℕ} {k l m n o p : Pen} → k.at + (length a + length b + length c + length d + length e) ≤ length k.buf.now → Adds a k l → Adds b l m → Adds c m n → Adds d n o → Adds e o p → Adds ((a ++ b ++ c ++ d) ++ e) k p
adds_five h f g i j t =
    adds_two (simp length-append (omega arith))
    (adds_two (simp length-append (omega arith)) (adds_two (simp length-append (omega arith)) (adds_two (omega arith) f g) i) j)
    t
