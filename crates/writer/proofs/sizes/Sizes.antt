-- How many octets the parts of a message take.
use Rattle.std.specs.Prelude.{Option, Some, None}
use Prim.Native.Nat.{ℕ, ◌+◌, ◌≤◌}
use mathlib.Core.List.{List, [], ◌∷◌, ◌++◌}
use mathlib.Core.Bool.{Bool}
use mathlib.Core.Path.{◌≡◌, refl}
use native.Mathlib.Omega.{arith}
use lib.ListN.{length, length-append}
use Rattle.facility.specs.declared.Component.{Component}
use Rattle.facility.specs.Filling.{filled, facility_octets}
use Rattle.message_types.specs.declared.Kind.{Kind}
use Rattle.message_fields.specs.declared.Width.{Width}
use Rattle.message_fields.specs.declared.Single.{Single}
use Rattle.message_fields.specs.declared.Facilities.{Facilities}
use Rattle.message_fields.specs.declared.Message.{Message}
use Rattle.message_types.specs.Kind.{kind_octet}
use Rattle.writer.specs.Writing.{reference_octets, header_octets, single_octets, causes_octets, facilities_octets, front_octets, message_octets}
use Rattle.message_fields.specs.Width.{header_size}

pub header_size_lem : (w : Width) (flag : Bool) (r : ℕ) (k : Kind) → header_size w ≡ length (8 ∷ (reference_octets w flag r ++ (kind_octet k ∷ [])))
header_size_lem Width.One flag r k = refl
header_size_lem Width.Two flag r k = refl

header_small : (w : Width) (flag : Bool) (r : ℕ) (k : Kind) → length (8 ∷ (reference_octets w flag r ++ (kind_octet k ∷ []))) ≤ 5
header_small Width.One flag r k = omega arith
header_small Width.Two flag r k = omega arith

single_small : (s : Single) → length (single_octets s) ≤ 1
single_small Single.Absent = omega arith
single_small Single.MoreData = omega arith
single_small Single.Ready = omega arith
single_small Single.NotReady = omega arith

cause_small : (c : Option ℕ) → length (causes_octets c) ≤ 4
cause_small None = omega arith
cause_small (Some v) = omega arith

component_small : (c : Component) → length (facility_octets c) ≤ 19
unfolding filled
component_small (Component.Invoke id s w) = omega arith
component_small (Component.Accepted id) = omega arith
component_small (Component.Rejected id e) = omega arith

facilities_small : (f : Facilities) → length (facilities_octets f) ≤ 57
facilities_small Facilities.Zero = omega arith
facilities_small (Facilities.One a) = omega (arith, component_small a)
facilities_small (Facilities.Two a b) = omega (arith, component_small a, component_small b, length-append (facility_octets a) (facility_octets b))
facilities_small (Facilities.Three a b c) =
    let d = component_small a in
    let e = component_small b in
    let f = component_small c in
    simp length-append (omega arith)

four : (a b c d : List ℕ) → length (a ++ b ++ c ++ d) ≡ length a + length b + length c + length d
four a b c d = simp length-append

module _ (w : Message) where
  pub front_is : length (front_octets w) ≡ header_size w.header.width + length (single_octets w.single) + length (causes_octets w.cause) + length (facilities_octets w.facility)
  unfolding front_octets
  front_is =
      let h = header_size_lem w.header.width w.header.flag w.header.reference w.header.kind in
      let n = four (header_octets w.header) (single_octets w.single) (causes_octets w.cause) (facilities_octets w.facility) in
      omega arith

  pub record Small : Type 0 where
    pub header : header_size w.header.width ≤ 5
    pub single : length (single_octets w.single) ≤ 1
    pub cause : length (causes_octets w.cause) ≤ 4
    pub facility : length (facilities_octets w.facility) ≤ 57

  pub small : Small
  small = record {
    header =
        let h = header_size_lem w.header.width w.header.flag w.header.reference w.header.kind in
        let s = header_small w.header.width w.header.flag w.header.reference w.header.kind in
        omega arith;
    single = single_small w.single;
    cause = cause_small w.cause;
    facility = facilities_small w.facility;
  }

  pub message_is : (u : List ℕ) → length (message_octets w u) ≡ length (front_octets w) + length u
  unfolding message_octets
  message_is u = length-append (front_octets w) u

  pub size_is : (u : List ℕ) → length (message_octets w u) ≡ length (header_octets w.header) + length (single_octets w.single) + length (causes_octets w.cause) + length (facilities_octets w.facility) + length u
  unfolding message_octets front_octets
  size_is u = simp length-append (omega arith)
