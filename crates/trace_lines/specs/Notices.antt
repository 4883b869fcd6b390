-- The lines that `replay` and `explain` print beside those of the records.
use Rattle.std.specs.Prelude.{ℕ, List, [], ◌∷◌, ◌++◌, Bool, true, false}
use Rattle.trace.specs.declared.Fault.{Fault}
use Rattle.trace.specs.Reading.{trace_fault_number}
use Rattle.text.specs.Decimal.{decimal_of}

-- "`kind ref answer note calling called`"
abbrev pub six_names : List ℕ
six_names =
    107 ∷ 105 ∷ 110 ∷ 100 ∷ 32
    ∷ 114 ∷ 101 ∷ 102 ∷ 32
    ∷ 97 ∷ 110 ∷ 115 ∷ 119 ∷ 101 ∷ 114 ∷ 32
    ∷ 110 ∷ 111 ∷ 116 ∷ 101 ∷ 32
    ∷ 99 ∷ 97 ∷ 108 ∷ 108 ∷ 105 ∷ 110 ∷ 103 ∷ 32
    ∷ 99 ∷ 97 ∷ 108 ∷ 108 ∷ 101 ∷ 100 ∷ []

-- First line exactly `kind ref answer note calling called to-calling to-called`: the same six names and two more
abbrev pub two_names : List ℕ
two_names =
    32 ∷ 116 ∷ 111 ∷ 45 ∷ 99 ∷ 97 ∷ 108 ∷ 108 ∷ 105 ∷ 110 ∷ 103
    ∷ 32 ∷ 116 ∷ 111 ∷ 45 ∷ 99 ∷ 97 ∷ 108 ∷ 108 ∷ 101 ∷ 100 ∷ []

-- "Its first line is exactly .."
abbrev pub first_line : Bool → List ℕ
first_line false = six_names ++ (10 ∷ [])
first_line true = six_names ++ two_names ++ (10 ∷ [])

-- "A trace fault prints `error 31` (or 32, 33)"
abbrev pub fault_line : Fault → List ℕ
fault_line f = 101 ∷ 114 ∷ 114 ∷ 111 ∷ 114 ∷ 32 ∷ (decimal_of (trace_fault_number f) ++ (10 ∷ []))
