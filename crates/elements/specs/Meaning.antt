-- What the elements of a message say that count.
use Rattle.std.specs.Prelude.{Option, Some, None, Result, Ok, Err, ℕ, ◌+◌, List, [], ◌∷◌, false, cond, length, eqb}
use Rattle.message_fields.specs.declared.Place.{Place}
use Rattle.facility.specs.declared.Component.{Component}
use Rattle.cause.specs.Element.{cause_of}
use Rattle.facility.specs.Forms.{facility_of}
use Rattle.message_types.specs.declared.Kind.{Kind}
use Rattle.message_fields.specs.declared.Single.{Single}
use Rattle.message_fields.specs.declared.Facilities.{Facilities}
use Rattle.message_fields.specs.declared.Header.{Header}
use Rattle.elements.specs.Single.{or_single, single_of}
use Rattle.message_fields.specs.declared.Reading.{Reading}
use Rattle.message_fields.specs.declared.Fault.{Fault}
use Rattle.elements.specs.Elements.{Element, Split, cut, whole, counted}

-- "The first Cause and level count."
unfoldable pub first_single : Kind → List Element → Single
first_single k [] = Single.Absent
first_single k (e ∷ es) = or_single (single_of k e.id) (first_single k es)

unfoldable pub first_cause : List Element → Option ℕ
first_cause [] = None
first_cause (e ∷ es) = cond (eqb e.id 0x08) (cause_of e.body) (first_cause es)

-- "The first User-user element counts": where it starts, and how many octets it has with its first two
unfoldable pub first_place : List Element → Option Place
first_place [] = None
first_place (e ∷ es) = cond (eqb e.id 0x7E) (Some (record { at = e.at; size = (length e.body + 2) })) (first_place es)

-- what the Facility elements say that can be read, in order
abbrev pub and_says : Option Component → List Component → List Component
and_says None cs = cs
and_says (Some c) cs = c ∷ cs

unfoldable pub components : List Element → List Component
components [] = []
components (e ∷ es) = cond (eqb e.id 0x1C) (and_says (facility_of e.body) (components es)) (components es)

-- "and the first three Facility elements in order"
abbrev pub first_three : List Component → Facilities
first_three [] = Facilities.Zero
first_three (a ∷ []) = Facilities.One a
first_three (a ∷ b ∷ []) = Facilities.Two a b
first_three (a ∷ b ∷ c ∷ cs) = Facilities.Three a b c

-- a header and the elements that count
unfoldable pub reading_of : Header → List Element → Reading
reading_of h es =
    record {
      message =
          record {
            header = h;
            single = first_single h.kind es;
            cause = first_cause es;
            facility = first_three (components es);
          };
      user = first_place es;
    }

unfoldable pub taken_from : Header → Split → Result Reading Fault
taken_from h cut = Err Fault.Short
taken_from h (whole es) = Ok (reading_of h (counted false es))
