use Rattle.std.proofs.Common.{arith, ◌∷◌, [], append-nil}
use Rattle.text.specs.Decimal.{decimal_of}
use Rattle.trace_lines.specs.InPlace.{Grows}
use Rattle.trace_lines.specs.Items.{commas}
use Rattle.trace_lines.proofs.Grown.{two, spelled}
use Rattle.trace_lines.proofs.items.put_cause.Goals as goal

pub returns-in-Some : goal.returns-in-Some
unfolding commas
returns-in-Some c =
    let word : Grows 7 (44 ∷ 99 ∷ 97 ∷ 117 ∷ 115 ∷ 101 ∷ 46 ∷ []) _ _ = c.put.ensures in
    let number : Grows 20 (decimal_of c.from.result) _ _ = c.put_decimal.ensures in
    spelled (simp (c.in-Some.is, c.from.ensures, append-nil)) (omega arith) (two c.requires word number)
