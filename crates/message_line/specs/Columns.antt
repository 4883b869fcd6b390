-- The columns of a line, `at number type flag ref cause single facility element`: those after the first.
use Rattle.std.specs.Prelude.{Option, Some, None, Result, Ok, Err, ℕ, List, [], ◌∷◌, ◌++◌, Bool, true, false}
use Rattle.message_fields.specs.declared.Fault.{Fault}
use Rattle.message_fields.specs.declared.Place.{Place}
use Rattle.message_fields.specs.declared.Single.{Single}
use Rattle.message_fields.specs.declared.Header.{Header}
use Rattle.message_fields.specs.declared.Reading.{Reading}
use Rattle.message_types.specs.Kind.{kind_octet}
use Rattle.message_fields.specs.Numbers.{read_number}
use Rattle.text.specs.Decimal.{decimal_of}
use Rattle.text.specs.Hex.{hex_of}
use Rattle.text.specs.Columns.{column, dash}
use Rattle.message_line.specs.Column.{facility_column}

-- flag 0 or 1
abbrev pub flag_digit : Bool → ℕ
flag_digit true = 49
flag_digit false = 48

-- type in two hexadecimal digits, capitals; flag 0 or 1; reference
unfoldable pub head_columns : Header → List ℕ
head_columns h = column (hex_of (kind_octet h.kind)) ++ column (flag_digit h.flag ∷ []) ++ column (decimal_of h.reference)

-- cause or `-`
abbrev pub cause_column : Option ℕ → List ℕ
cause_column None = dash
cause_column (Some v) = decimal_of v

-- single octet `A0`, `B0`, `BF` or `-`
abbrev pub single_column : Single → List ℕ
single_column Single.Absent = dash
single_column Single.MoreData = hex_of 0xA0
single_column Single.Ready = hex_of 0xB0
single_column Single.NotReady = hex_of 0xBF

-- the user-user element as `offset+length` within its message, or `-`
abbrev pub element_column : Option Place → List ℕ
element_column None = dash
element_column (Some p) = decimal_of p.at ++ (43 ∷ decimal_of p.size)

-- number 0, and what the message says
unfoldable pub taken_columns : Reading → List ℕ
taken_columns r =
    column (decimal_of 0) ++ head_columns r.message.header ++ column (cause_column r.message.cause) ++ column (single_column r.message.single)
    ++ column (facility_column r.message.facility) ++ column (element_column r.user)

-- the number 0 to 5, and if that is not 0 a `-` in each of the other seven columns
unfoldable pub columns_of : Result Reading Fault → List ℕ
columns_of (Ok r) = taken_columns r
columns_of (Err f) =
    column (decimal_of (read_number (Err f))) ++ column dash ++ column dash ++ column dash ++ column dash ++ column dash ++ column dash ++ column dash
