-- The Facility element that is written.
use Rattle.std.specs.Prelude.{ℕ, List, [], ◌∷◌, length}
use Rattle.facility.specs.declared.Wish.{Wish}
use Rattle.facility.specs.declared.Refusal.{Refusal}
use Rattle.facility.specs.declared.Component.{Component}
use Rattle.facility.specs.Facility.{service_octet}
use Rattle.facility.specs.Forms.{Slot, is, blank, invoke_form, result_form, error_form}

-- a form with its blanks filled in, in order
unfoldable pub filled : List Slot → List ℕ → List ℕ
filled [] vs = []
filled (is x ∷ f) vs = x ∷ filled f vs
filled (blank ∷ f) [] = 0 ∷ filled f []
filled (blank ∷ f) (v ∷ vs) = v ∷ filled f vs

-- TRUE is written FF
abbrev pub wish_octet : Wish → ℕ
wish_octet Wish.Preferred = 0xFF
wish_octet Wish.Required = 0

abbrev pub refusal_octet : Refusal → ℕ
refusal_octet Refusal.ByNetwork = 1
refusal_octet Refusal.ByUser = 2

-- the body that is written for a component
abbrev pub body_of : Component → List ℕ
body_of (Component.Invoke id s w) = filled invoke_form (id ∷ service_octet s ∷ wish_octet w ∷ [])
body_of (Component.Accepted id) = filled result_form (id ∷ [])
body_of (Component.Rejected id e) = filled error_form (id ∷ refusal_octet e ∷ [])

-- the whole element
abbrev pub facility_octets : Component → List ℕ
facility_octets c = 0x1C ∷ length (body_of c) ∷ body_of c
