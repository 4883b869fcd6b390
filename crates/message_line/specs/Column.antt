-- The Facility column of a message's line.
use Rattle.std.specs.Prelude.{ℕ, ◌+◌, List, [], ◌∷◌, ◌++◌}
use Rattle.facility.specs.declared.Wish.{Wish}
use Rattle.facility.specs.declared.Refusal.{Refusal}
use Rattle.facility.specs.declared.Component.{Component}
use Rattle.facility.specs.Facility.{service_octet}
use Rattle.message_fields.specs.declared.Facilities.{Facilities}
use Rattle.text.specs.Decimal.{decimal_of}
use Rattle.text.specs.Columns.{dash}

-- `p` preferred, `r` required
abbrev pub wish_letter : Wish → ℕ
wish_letter Wish.Preferred = 112
wish_letter Wish.Required = 114

-- each `invoke.service.p` or `invoke.service.r` (preferred, required), `invoke.ok`, `invoke.user` or `invoke.network`
abbrev pub component_text : Component → List ℕ
component_text (Component.Invoke id s w) = decimal_of id ++ (46 ∷ (48 + service_octet s) ∷ 46 ∷ wish_letter w ∷ [])
component_text (Component.Accepted id) = decimal_of id ++ (46 ∷ 111 ∷ 107 ∷ [])
component_text (Component.Rejected id Refusal.ByUser) = decimal_of id ++ (46 ∷ 117 ∷ 115 ∷ 101 ∷ 114 ∷ [])
component_text (Component.Rejected id Refusal.ByNetwork) = decimal_of id ++ (46 ∷ 110 ∷ 101 ∷ 116 ∷ 119 ∷ 111 ∷ 114 ∷ 107 ∷ [])

-- Facility components joined by `,` or `-`
abbrev pub facility_column : Facilities → List ℕ
facility_column Facilities.Zero = dash
facility_column (Facilities.One a) = component_text a
facility_column (Facilities.Two a b) = component_text a ++ (44 ∷ component_text b)
facility_column (Facilities.Three a b c) = component_text a ++ (44 ∷ (component_text b ++ (44 ∷ component_text c)))
