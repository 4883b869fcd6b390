-- What a table answers.
use Rattle.std.specs.Prelude.{ℕ}
use Rattle.answer.specs.Answer.{number_of}
use Rattle.table.specs.declared.verdict.Verdict.{Verdict}

-- the paper's number of each verdict
abbrev pub verdict_number : Verdict → ℕ
verdict_number (Verdict.Heard a) = number_of a
verdict_number Verdict.NoPlace = 21
verdict_number Verdict.Held = 22
verdict_number Verdict.NoCall = 23
