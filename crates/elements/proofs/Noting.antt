-- What one element adds to what was found.
use Rattle.std.specs.Prelude.{Option, Some, None}
use Rattle.message_fields.specs.declared.Place.{Place}
use Prim.Native.Nat.{ℕ, ◌+◌}
use mathlib.Core.List.{List, ◌∷◌, ◌++◌}
use mathlib.Core.Path.{◌≡◌, refl}
use borrow.Author.Tests.{ne_eqb}
use lib.ListN.{length}
use Rattle.facility.specs.declared.Component.{Component}
use Rattle.cause.specs.Element.{cause_of}
use Rattle.facility.specs.Forms.{facility_of}
use Rattle.message_fields.specs.declared.Single.{Single}
use Rattle.message_fields.specs.declared.Facilities.{Facilities}
use Rattle.message_fields.specs.declared.Header.{Header}
use Rattle.elements.specs.declared.so_far.Found.{Found}
use Rattle.elements.specs.Elements.{Element}
use Rattle.elements.specs.Single.{single_of, or_single}
use Rattle.elements.specs.SoFar.{note_cause, one_more, note_facility, note_place}
use Rattle.elements.specs.Meaning.{first_single, first_cause, first_place, and_says, components, first_three}
use Rattle.elements.specs.Scan.{cause_then, listed, place_then, reading_from, Adds}

cause_law : (s : Option (Option ℕ)) (b : List ℕ) (c : Option ℕ) → cause_then (note_cause s b) c ≡ cause_then s (cause_of b)
cause_law None b c = refl
cause_law (Some v) b c = refl

more_law : (f : Facilities) (n : Component) (cs : List Component) → first_three (listed (one_more f n) ++ cs) ≡ first_three (listed f ++ (n ∷ cs))
more_law Facilities.Zero n cs = refl
more_law (Facilities.One a) n cs = refl
more_law (Facilities.Two a b) n cs = refl
more_law (Facilities.Three a b c) n cs = refl

facility_law : (f : Facilities) (new : Option Component) (cs : List Component) → first_three (listed (note_facility f new) ++ cs) ≡ first_three (listed f ++ and_says new cs)
facility_law f None cs = refl
facility_law f (Some n) cs = more_law f n cs

place_law : (p : Option Place) (i n : ℕ) (q : Option Place) → place_then (note_place p i n) q ≡ place_then p (Some (record { at = i; size = n }))
place_law None i n q = refl
place_law (Some s) i n q = refl

single_law : (s t u : Single) → or_single (or_single s t) u ≡ or_single s (or_single t u)
single_law Single.Absent t u = refl
single_law Single.MoreData t u = refl
single_law Single.Ready t u = refl
single_law Single.NotReady t u = refl

module _ (h : Header) (f : Found) (e : Element) where
  pub adds_cause : e.id ≡ 0x08 → Adds h f e (record { single = f.single; cause = note_cause f.cause e.body; facility = f.facility; user = f.user })
  unfolding reading_from first_single first_cause first_place components single_of
  adds_cause i = record { same = λ es. simp (i, cause_law f.cause e.body (first_cause es)) }

  pub adds_facility : e.id ≡ 0x1C → Adds h f e (record { single = f.single; cause = f.cause; facility = note_facility f.facility (facility_of e.body); user = f.user })
  unfolding reading_from first_single first_cause first_place components single_of
  adds_facility i = record { same = λ es. simp (i, facility_law f.facility (facility_of e.body) (components es)) }

  pub adds_place : e.id ≡ 0x7E → Adds h f e (record { single = f.single; cause = f.cause; facility = f.facility; user = note_place f.user e.at (length e.body + 2) })
  unfolding reading_from first_single first_cause first_place components single_of
  adds_place i = record { same = λ es. simp (i, place_law f.user e.at (length e.body + 2) (first_place es)) }

  pub adds_single : (e.id ≡ 0x08 → ⊥) → (e.id ≡ 0x1C → ⊥) → (e.id ≡ 0x7E → ⊥) → Adds h f e (record { single = or_single f.single (single_of h.kind e.id); cause = f.cause; facility = f.facility; user = f.user })
  unfolding reading_from first_single first_cause first_place components
  adds_single a b c = record { same = λ es. simp (ne_eqb _ _ a, ne_eqb _ _ b, ne_eqb _ _ c, single_law f.single (single_of h.kind e.id) (first_single h.kind es)) }
