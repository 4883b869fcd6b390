-- What a message says, as `explain` prints it: each `-` for no message, or these items joined by `,` in this order.
use Rattle.std.specs.Prelude.{Option, Some, None, ℕ, List, [], ◌∷◌, ◌++◌, Bool, true, false}
use Rattle.services.specs.declared.Said.{Said}
use Rattle.sent.specs.declared.Level.{Level}
use Rattle.sent.specs.declared.Message.{Message}
use Rattle.text.specs.Decimal.{decimal_of}
use Rattle.text.specs.Columns.{dash}

-- `cause.N`
abbrev pub cause_item : Option ℕ → List (List ℕ)
cause_item None = []
cause_item (Some n) = (99 ∷ 97 ∷ 117 ∷ 115 ∷ 101 ∷ 46 ∷ decimal_of n) ∷ []

-- `ready` or `notready`
abbrev pub level_item : Level → List (List ℕ)
level_item Level.Absent = []
level_item Level.Ready = (114 ∷ 101 ∷ 97 ∷ 100 ∷ 121 ∷ []) ∷ []
level_item Level.NotReady = (110 ∷ 111 ∷ 116 ∷ 114 ∷ 101 ∷ 97 ∷ 100 ∷ 121 ∷ []) ∷ []

-- for services 1, 2, 3 what is said of them, as `1.p` (asked as preferred), `1.r` (asked as required), `1.ok`
-- (accepted), `1.user` (rejectedByUser), `1.network` (rejectedByNetwork); the digit is that of the service
abbrev pub said_item : ℕ → Said → List (List ℕ)
said_item digit Said.Nothing = []
said_item digit Said.Preferred = (digit ∷ 46 ∷ 112 ∷ []) ∷ []
said_item digit Said.Required = (digit ∷ 46 ∷ 114 ∷ []) ∷ []
said_item digit Said.Accepted = (digit ∷ 46 ∷ 111 ∷ 107 ∷ []) ∷ []
said_item digit Said.ByUser = (digit ∷ 46 ∷ 117 ∷ 115 ∷ 101 ∷ 114 ∷ []) ∷ []
said_item digit Said.ByNetwork = (digit ∷ 46 ∷ 110 ∷ 101 ∷ 116 ∷ 119 ∷ 111 ∷ 114 ∷ 107 ∷ []) ∷ []

-- `more`
abbrev pub more_item : Bool → List (List ℕ)
more_item true = (109 ∷ 111 ∷ 114 ∷ 101 ∷ []) ∷ []
more_item false = []

-- `element`
abbrev pub element_item : Bool → List (List ℕ)
element_item true = (101 ∷ 108 ∷ 101 ∷ 109 ∷ 101 ∷ 110 ∷ 116 ∷ []) ∷ []
element_item false = []

-- these items .. in this order; 49, 50 and 51 are the digits 1, 2 and 3
unfoldable pub items_of : Message → List (List ℕ)
items_of m =
    cause_item m.cause ++ level_item m.level ++ said_item 49 m.said.one ++ said_item 50 m.said.two ++ said_item 51 m.said.three
    ++ more_item m.more ++ element_item m.element

-- items, each after a `,`
unfoldable pub commas : List (List ℕ) → List ℕ
commas [] = []
commas (i ∷ is) = 44 ∷ (i ++ commas is)

-- joined by `,`, and `bare` where there is none of these
unfoldable pub joined : List (List ℕ) → List ℕ
joined [] = 98 ∷ 97 ∷ 114 ∷ 101 ∷ []
joined (i ∷ is) = i ++ commas is

-- each `-` for no message
abbrev pub message_column : Option Message → List ℕ
message_column None = dash
message_column (Some m) = joined (items_of m)
