-- The paper's number for each case of an answer. The writer's numbers are in `memory`.
use Rattle.std.specs.Prelude.{Result, Ok, Err, ℕ}
use Rattle.message_fields.specs.declared.Reading.{Reading}
use Rattle.message_fields.specs.declared.Fault.{Fault}

-- 1 message ends before a part that it announces; 2 longer than 260 octets; 3 first octet is not 8; 4 call reference
-- length octet is not 1 or 2; 5 message type not among the nine
abbrev pub fault_number : Fault → ℕ
fault_number Fault.Short = 1
fault_number Fault.TooLong = 2
fault_number Fault.Foreign = 3
fault_number Fault.Reference = 4
fault_number Fault.Kind = 5

-- 0 taken
abbrev pub read_number : Result Reading Fault → ℕ
read_number (Ok r) = 0
read_number (Err f) = fault_number f
