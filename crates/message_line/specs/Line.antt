-- The line of a message: the offset of its first octet in the capture, the number 0 to 5, and what the message says.
use Rattle.std.specs.Prelude.{Result, ℕ, List, [], ◌∷◌, ◌++◌}
use Rattle.message_fields.specs.declared.Reading.{Reading}
use Rattle.message_fields.specs.declared.Fault.{Fault}
use Rattle.message.specs.Reading.{read_of}
use Rattle.text.specs.Decimal.{decimal_of}
use Rattle.message_line.specs.Columns.{columns_of}

unfoldable pub line_with : ℕ → Result Reading Fault → List ℕ
line_with offset r = decimal_of offset ++ columns_of r ++ (10 ∷ [])

-- the line of a message that starts at an offset of its capture
unfoldable pub line_of : ℕ → List ℕ → List ℕ
line_of offset m = line_with offset (read_of m)
