-- What the elements of a message have said so far, and then one more.
use Rattle.std.specs.Prelude.{Option, Some, None, ℕ, List}
use Rattle.message_fields.specs.declared.Place.{Place}
use Rattle.facility.specs.declared.Component.{Component}
use Rattle.cause.specs.Element.{cause_of}
use Rattle.message_fields.specs.declared.Facilities.{Facilities}

-- "The first Cause and level count.": a later one does not step in
abbrev pub note_cause : Option (Option ℕ) → List ℕ → Option (Option ℕ)
note_cause None b = Some (cause_of b)
note_cause (Some c) b = Some c

abbrev pub one_more : Facilities → Component → Facilities
one_more Facilities.Zero n = Facilities.One n
one_more (Facilities.One a) n = Facilities.Two a n
one_more (Facilities.Two a b) n = Facilities.Three a b n
one_more (Facilities.Three a b c) n = Facilities.Three a b c

abbrev pub note_facility : Facilities → Option Component → Facilities
note_facility f None = f
note_facility f (Some n) = one_more f n

abbrev pub note_place : Option Place → ℕ → ℕ → Option Place
note_place None i n = Some (record { at = i; size = n })
note_place (Some p) i n = Some p

abbrev pub cause_seen : Option (Option ℕ) → Option ℕ
cause_seen None = None
cause_seen (Some c) = c
