-- The body of a Facility element, as it is read: the octets of 7.1 and Annex B, and no others.
use Rattle.std.specs.Prelude.{Option, Some, None, ℕ, suc, List, [], ◌∷◌, Bool, true, false, cond, ◌&&◌, length, get_or, ltb, eqb}
use Rattle.rights.specs.declared.Service.{Service}
use Rattle.facility.specs.declared.Wish.{Wish}
use Rattle.facility.specs.declared.Refusal.{Refusal}
use Rattle.facility.specs.declared.Component.{Component}

-- an octet of a form: the one given, or one that is to be filled in
pub data Slot : Type 0 where
  is : ℕ → Slot
  blank : Slot

-- the bodies of the three components: profile 91; the component's tag and length; the invoke number; then for a request
-- operation value 1, the service and whether it is preferred, and for an error its value
abbrev pub invoke_form : List Slot
invoke_form =
    is 0x91 ∷ is 0xA1 ∷ is 14 ∷ is 2 ∷ is 1 ∷ blank ∷ is 2 ∷ is 1 ∷ is 1 ∷ is 0x30 ∷ is 6 ∷ is 0x81 ∷ is 1 ∷ blank ∷ is 0x82 ∷ is 1 ∷ blank ∷ []

abbrev pub result_form : List Slot
result_form = is 0x91 ∷ is 0xA2 ∷ is 3 ∷ is 2 ∷ is 1 ∷ blank ∷ []

abbrev pub error_form : List Slot
error_form = is 0x91 ∷ is 0xA3 ∷ is 6 ∷ is 2 ∷ is 1 ∷ blank ∷ is 2 ∷ is 1 ∷ blank ∷ []

-- how many octets a form has
unfoldable pub size : List Slot → ℕ
size [] = 0
size (s ∷ f) = suc (size f)

-- the given octets stand where they should, from place i on (t: so far they did)
unfoldable pub stand : Bool → ℕ → List Slot → List ℕ → Bool
stand t i [] b = t
stand t i (is x ∷ f) b = stand (t && eqb (get_or b i 0) x) (suc i) f b
stand t i (blank ∷ f) b = stand t (suc i) f b

-- a body of this form: "one that is not exactly one component counts as absent"
unfoldable pub spells : List Slot → List ℕ → Bool
spells f b = cond (eqb (length b) (size f)) (stand true 0 f b) false

-- services 1 to 3
unfoldable pub service_of : ℕ → Option Service
service_of x =
    cond (eqb x 1) (Some Service.One)
    (cond (eqb x 2) (Some Service.Two)
    (cond (eqb x 3) (Some Service.Three) None))

-- any octet but 00 reads as TRUE, which is preferred
unfoldable pub wish_of : ℕ → Wish
wish_of x = cond (eqb x 0) Wish.Required Wish.Preferred

-- error 1 is rejectedByNetwork, error 2 rejectedByUser
unfoldable pub refusal_of : ℕ → Option Refusal
refusal_of x =
    cond (eqb x 1) (Some Refusal.ByNetwork)
    (cond (eqb x 2) (Some Refusal.ByUser) None)

-- what the blanks of each form say
abbrev pub invoke_says : ℕ → Option Service → Wish → Option Component
invoke_says id None w = None
invoke_says id (Some s) w = Some (Component.Invoke id s w)

abbrev pub error_says : ℕ → Option Refusal → Option Component
error_says id None = None
error_says id (Some e) = Some (Component.Rejected id e)

-- a body of the form, with an invoke number 0 to 127 in its sixth octet, says this; another is absent
unfoldable pub read_as : List Slot → List ℕ → Option Component → Option Component
read_as f b says = cond (spells f b) (cond (ltb (get_or b 5 0) 128) says None) None

unfoldable pub invoke_of : List ℕ → Option Component
invoke_of b = read_as invoke_form b (invoke_says (get_or b 5 0) (service_of (get_or b 13 0)) (wish_of (get_or b 16 0)))

unfoldable pub result_of : List ℕ → Option Component
result_of b = read_as result_form b (Some (Component.Accepted (get_or b 5 0)))

unfoldable pub error_of : List ℕ → Option Component
error_of b = read_as error_form b (error_says (get_or b 5 0) (refusal_of (get_or b 8 0)))

abbrev pub or : Option Component → Option Component → Option Component
or None f = f
or (Some c) f = Some c

-- what a body says; "an unreadable Facility element, or a reject component counts as absent"
unfoldable pub facility_of : List ℕ → Option Component
facility_of b = or (invoke_of b) (or (result_of b) (error_of b))
