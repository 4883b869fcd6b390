-- What is said of a trace's fault on standard error: which record it is, the octet at which that begins, and which
-- field.
use Rattle.std.specs.Prelude.{ℕ, List, [], ◌∷◌, ◌++◌}
use Rattle.trace.specs.declared.Fault.{Fault}
use Rattle.trace.specs.declared.Field.{Field}
use Rattle.text.specs.Decimal.{decimal_of}
use Rattle.text.specs.Service.{service_digit}

-- `late`, `leave`, `side`, `what`, `cause`, `request 1`, `answer 1`, `element`, `what follows the element`
abbrev pub field_name : Field → List ℕ
field_name Field.Late = 108 ∷ 97 ∷ 116 ∷ 101 ∷ []
field_name Field.Leave = 108 ∷ 101 ∷ 97 ∷ 118 ∷ 101 ∷ []
field_name Field.Side = 115 ∷ 105 ∷ 100 ∷ 101 ∷ []
field_name Field.What = 119 ∷ 104 ∷ 97 ∷ 116 ∷ []
field_name Field.Cause = 99 ∷ 97 ∷ 117 ∷ 115 ∷ 101 ∷ []
field_name (Field.Request s) = 114 ∷ 101 ∷ 113 ∷ 117 ∷ 101 ∷ 115 ∷ 116 ∷ 32 ∷ service_digit s ∷ []
field_name (Field.Answer s) = 97 ∷ 110 ∷ 115 ∷ 119 ∷ 101 ∷ 114 ∷ 32 ∷ service_digit s ∷ []
field_name Field.Element = 101 ∷ 108 ∷ 101 ∷ 109 ∷ 101 ∷ 110 ∷ 116 ∷ []
field_name Field.Zeros = 119 ∷ 104 ∷ 97 ∷ 116 ∷ 32 ∷ 102 ∷ 111 ∷ 108 ∷ 108 ∷ 111 ∷ 119 ∷ 115 ∷ 32 ∷ 116 ∷ 104 ∷ 101 ∷ 32 ∷ 101 ∷ 108 ∷ 101 ∷ 109 ∷ 101 ∷ 110 ∷ 116 ∷ []

-- ` is out of range`
abbrev pub out_of_range : List ℕ
out_of_range = 32 ∷ 105 ∷ 115 ∷ 32 ∷ 111 ∷ 117 ∷ 116 ∷ 32 ∷ 111 ∷ 102 ∷ 32 ∷ 114 ∷ 97 ∷ 110 ∷ 103 ∷ 101 ∷ []

-- `unknown kind`, `cut short`, or the field that is out of range
abbrev pub fault_words : Fault → List ℕ
fault_words Fault.Kind = 117 ∷ 110 ∷ 107 ∷ 110 ∷ 111 ∷ 119 ∷ 110 ∷ 32 ∷ 107 ∷ 105 ∷ 110 ∷ 100 ∷ []
fault_words Fault.Short = 99 ∷ 117 ∷ 116 ∷ 32 ∷ 115 ∷ 104 ∷ 111 ∷ 114 ∷ 116 ∷ []
fault_words (Fault.Range f) = field_name f ++ out_of_range

-- `record N`, counted from 1, ` at octet M`, counted from 0, and `: `
unfoldable pub place_words : ℕ → ℕ → List ℕ
place_words number octet =
    ((114 ∷ 101 ∷ 99 ∷ 111 ∷ 114 ∷ 100 ∷ 32 ∷ []) ++ decimal_of number)
    ++ ((32 ∷ 97 ∷ 116 ∷ 32 ∷ 111 ∷ 99 ∷ 116 ∷ 101 ∷ 116 ∷ 32 ∷ []) ++ decimal_of octet)
    ++ (58 ∷ 32 ∷ [])

-- the whole line: 10 ends it
unfoldable pub words_of : ℕ → ℕ → Fault → List ℕ
words_of number octet f = place_words number octet ++ fault_words f ++ (10 ∷ [])
