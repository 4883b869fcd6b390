-- The octets of a message that is written.
use Rattle.std.specs.Prelude.{Option, Some, None, ℕ, ◌+◌, ◌/◌, ◌%◌, List, [], ◌∷◌, ◌++◌, Bool, true, false}
use Rattle.cause.specs.Element.{cause_octets}
use Rattle.facility.specs.Filling.{facility_octets}
use Rattle.message_fields.specs.declared.Width.{Width}
use Rattle.message_fields.specs.declared.Single.{Single}
use Rattle.message_fields.specs.declared.Facilities.{Facilities}
use Rattle.message_fields.specs.declared.Header.{Header}
use Rattle.message_fields.specs.declared.Message.{Message}
use Rattle.message_types.specs.Kind.{kind_octet}

-- seven bits of the reference, with the flag as the top bit
abbrev pub top_of : Bool → ℕ → ℕ
top_of true r = r % 128 + 128
top_of false r = r % 128

-- the reference length and the reference
abbrev pub reference_octets : Width → Bool → ℕ → List ℕ
reference_octets Width.One flag r = 1 ∷ top_of flag r ∷ []
reference_octets Width.Two flag r = 2 ∷ top_of flag (r / 256) ∷ r % 256 ∷ []

-- "A message is 08, the reference length (1 or 2), the reference, the type, the elements."
abbrev pub header_octets : Header → List ℕ
header_octets h = 8 ∷ (reference_octets h.width h.flag h.reference ++ (kind_octet h.kind ∷ []))

abbrev pub single_octets : Single → List ℕ
single_octets Single.Absent = []
single_octets Single.MoreData = 0xA0 ∷ []
single_octets Single.Ready = 0xB0 ∷ []
single_octets Single.NotReady = 0xBF ∷ []

abbrev pub causes_octets : Option ℕ → List ℕ
causes_octets None = []
causes_octets (Some v) = cause_octets v

-- "at most three Facility elements, in the order given"
abbrev pub facilities_octets : Facilities → List ℕ
facilities_octets Facilities.Zero = []
facilities_octets (Facilities.One a) = facility_octets a
facilities_octets (Facilities.Two a b) = facility_octets a ++ facility_octets b
facilities_octets (Facilities.Three a b c) = facility_octets a ++ facility_octets b ++ facility_octets c

-- "The writer puts the single octet first, then Cause, Facility, User-user"
unfoldable pub front_octets : Message → List ℕ
front_octets w = header_octets w.header ++ single_octets w.single ++ causes_octets w.cause ++ facilities_octets w.facility

unfoldable pub message_octets : Message → List ℕ → List ℕ
message_octets w user = front_octets w ++ user
