-- What `replay` and `explain` print of a record.
use Rattle.std.specs.Prelude.{Option, Some, None, ℕ, List, [], ◌∷◌, ◌++◌, Bool, true, false}
use Rattle.sent.specs.declared.Message.{Message}
use Rattle.user_element.specs.Element.{note_number_of}
use Rattle.message_types.specs.Kind.{kind_octet}
use Rattle.trace.specs.Kind.{record_kind_octet}
use Rattle.text.specs.Decimal.{decimal_of}
use Rattle.text.specs.Hex.{hex_of}
use Rattle.text.specs.Columns.{dash, column}
use Rattle.trace_lines.specs.Items.{message_column}
use Rattle.trace_lines.specs.declared.report.Columns.{Columns}

-- "the last two columns the type sent in hexadecimal or `-`"
abbrev pub type_column : Option Message → List ℕ
type_column None = dash
type_column (Some m) = hex_of (kind_octet m.kind)

-- a line is the line of `replay` and two more columns: only where the messages are explained
abbrev pub said_columns : Bool → Columns → List ℕ
said_columns true o = column (message_column o.dispatch.calling) ++ column (message_column o.dispatch.called)
said_columns false o = []

-- kind, reference, answer and note, "in decimal"
unfoldable pub number_columns : Columns → List ℕ
number_columns o =
    decimal_of (record_kind_octet o.kind) ++ column (decimal_of o.reference) ++ column (decimal_of o.answer) ++ column (decimal_of (note_number_of o.note))

unfoldable pub type_columns : Columns → List ℕ
type_columns o = column (type_column o.dispatch.calling) ++ column (type_column o.dispatch.called)

-- "then one line a record in decimal", of `replay` or, explained, of `explain`: 10 ends it
unfoldable pub line_of : Bool → Columns → List ℕ
line_of explained o = number_columns o ++ type_columns o ++ said_columns explained o ++ (10 ∷ [])
