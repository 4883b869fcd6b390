-- The paper's number for each case of an answer.
use Rattle.std.specs.Prelude.{Result, Ok, Err, ℕ}
use Rattle.memory.specs.declared.Bar.{Bar}

-- 6 writer: buffer shorter than the message; 7 writer: a field out of range
abbrev pub bar_number : Bar → ℕ
bar_number Bar.Room = 6
bar_number Bar.Range = 7

-- 0 taken
abbrev pub wrote_number : Result ℕ Bar → ℕ
wrote_number (Ok n) = 0
wrote_number (Err b) = bar_number b
