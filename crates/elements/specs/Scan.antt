-- What the scan carries along. Nobody has to believe this: the reader's contract does not cite it.
use Rattle.std.specs.Prelude.{Option, Some, None, Result, Ok, Err, ℕ, List, [], ◌∷◌, ◌++◌, ◌≡◌, Bool, true, false, cond}
use Rattle.message_fields.specs.declared.Fault.{Fault}
use Rattle.message_fields.specs.declared.Place.{Place}
use Rattle.facility.specs.declared.Component.{Component}
use Rattle.message_fields.specs.declared.Facilities.{Facilities}
use Rattle.message_fields.specs.declared.Header.{Header}
use Rattle.message_fields.specs.declared.Reading.{Reading}
use Rattle.elements.specs.declared.so_far.Found.{Found}
use Rattle.elements.specs.declared.Way.{Way}
use Rattle.elements.specs.Elements.{Element, Split, cut, whole, is_whole, counted}
use Rattle.elements.specs.Single.{or_single}
use Rattle.elements.specs.SoFar.{cause_seen}
use Rattle.elements.specs.Meaning.{first_single, first_cause, first_place, components, first_three}

-- what was found before, and then the elements that are left
abbrev pub cause_then : Option (Option ℕ) → Option ℕ → Option ℕ
cause_then None c = c
cause_then (Some v) c = v

abbrev pub listed : Facilities → List Component
listed Facilities.Zero = []
listed (Facilities.One a) = a ∷ []
listed (Facilities.Two a b) = a ∷ b ∷ []
listed (Facilities.Three a b c) = a ∷ b ∷ c ∷ []

abbrev pub place_then : Option Place → Option Place → Option Place
place_then None q = q
place_then (Some p) q = Some p

unfoldable pub reading_from : Header → Found → List Element → Reading
reading_from h f es =
    record {
      message =
          record {
            header = h;
            single = or_single f.single (first_single h.kind es);
            cause = cause_then f.cause (first_cause es);
            facility = first_three (listed f.facility ++ components es);
          };
      user = place_then f.user (first_place es);
    }

-- r is f with what the element e says
pub record Adds (h : Header) (f : Found) (e : Element) (r : Found) : Type 0 where
  pub same : (es : List Element) → reading_from h r es ≡ reading_from h f (e ∷ es)

abbrev pub taken_with : Header → Found → Result Reading Fault
taken_with h f =
    Ok
    (record {
      message = record { header = h; single = f.single; cause = cause_seen f.cause; facility = f.facility };
      user = f.user;
    })

-- the answer where f was found, and these are left
unfoldable pub going_on : Header → Bool → Found → Split → Result Reading Fault
going_on h pass f cut = Err Fault.Short
going_on h pass f (whole es) = Ok (reading_from h f (counted pass es))

-- the answer where f was found, and of the rest only the lengths count
unfoldable pub locked : Header → Found → Split → Result Reading Fault
locked h f s = cond (is_whole s) (taken_with h f) (Err Fault.Short)

-- the answer by how the scan goes on
abbrev pub way_on : Header → Way → Found → Split → Result Reading Fault
way_on h Way.On f s = going_on h false f s
way_on h Way.Past f s = going_on h true f s
