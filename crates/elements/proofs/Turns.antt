-- One turn of the scan: what was found and what is left give what there was.
use Rattle.std.specs.Prelude.{Option, Some, None, Ok, Err}
use Rattle.message_fields.specs.declared.Place.{Place}
use Prim.Native.Nat.{ℕ, ◌<◌, ◌≤◌}
use mathlib.Core.List.{List, [], append-nil}
use mathlib.Core.Bool.{true, false}
use mathlib.Core.Logic.{◌⊎◌, inl, inr}
use mathlib.Core.Path.{◌≡◌, refl, sym}
use native.Mathlib.Omega.{arith}
use borrow.Author.Tests.{le-leb, lt-leb}
use lib.ListN.{length, drop}
use Rattle.message_fields.specs.declared.Single.{Single}
use Rattle.message_fields.specs.declared.Facilities.{Facilities}
use Rattle.message_fields.specs.declared.Header.{Header}
use Rattle.elements.specs.declared.Way.{Way}
use Rattle.elements.specs.declared.so_far.Found.{Found}
use Rattle.message_fields.specs.declared.Fault.{Fault}
use Rattle.elements.specs.Elements.{Element, Split, cut, whole, then, elements, is_whole, counted}
use Rattle.elements.specs.Single.{or_single}
use Rattle.elements.specs.SoFar.{cause_seen}
use Rattle.elements.specs.Meaning.{first_single, first_cause, first_place, components, first_three, reading_of, taken_from}
use Rattle.elements.specs.Scan.{cause_then, listed, place_then, reading_from, Adds, taken_with, going_on, locked, way_on}
use Rattle.elements.proofs.Splitting.{none_left}

-- whether every part is there, one element at a time
pub whole_then : (e : Element) (s : Split) → is_whole s ≡ is_whole (then e s)
unfolding then
whole_then e cut = refl
whole_then e (whole es) = refl

abbrev pub nothing : Found
nothing = record { single = Single.Absent; cause = None; facility = Facilities.Zero; user = None }

pub at_first : (h : Header) (s : Split) → going_on h false nothing s ≡ taken_from h s
unfolding going_on taken_from reading_from reading_of
at_first h cut = refl
at_first h (whole es) = refl

-- nothing is left
single_end : (s : Single) → or_single s Single.Absent ≡ s
single_end Single.Absent = refl
single_end Single.MoreData = refl
single_end Single.Ready = refl
single_end Single.NotReady = refl

cause_end : (s : Option (Option ℕ)) → cause_then s None ≡ cause_seen s
cause_end None = refl
cause_end (Some c) = refl

facility_end : (f : Facilities) → first_three (listed f) ≡ f
facility_end Facilities.Zero = refl
facility_end (Facilities.One a) = refl
facility_end (Facilities.Two a b) = refl
facility_end (Facilities.Three a b c) = refl

place_end : (p : Option Place) → place_then p None ≡ p
place_end None = refl
place_end (Some s) = refl

pub at_last : (h : Header) (f : Found) → Ok (reading_from h f []) ≡ taken_with h f
unfolding reading_from first_single first_cause first_place components
at_last h f = simp (single_end f.single, cause_end f.cause, append-nil (listed f.facility), facility_end f.facility, place_end f.user)

module _ (h : Header) where
  pub past : (f : Found) (e : Element) (s : Split) → going_on h false f s ≡ going_on h true f (then e s)
  unfolding going_on counted then
  past f e cut = refl
  past f e (whole es) = refl

  pub locks : (f : Found) (e : Element) (s : Split) → 144 ≤ e.id → e.id < 152 → locked h f s ≡ going_on h false f (then e s)
  unfolding going_on counted then locked
  locks f e cut a b = refl
  locks f e (whole es) a b = simp (le-leb 144 e.id a, le-leb e.id 151 (omega arith)) (sym (at_last h f))

  pub shifts : (f : Found) (e : Element) (s : Split) → 152 ≤ e.id → e.id < 160 → going_on h true f s ≡ going_on h false f (then e s)
  unfolding going_on counted then
  shifts f e cut a b = refl
  shifts f e (whole es) a b =
      simp (le-leb 144 e.id (omega arith), lt-leb e.id 151 (omega arith), le-leb 152 e.id a, le-leb e.id 159 (omega arith))

  pub notes : (f g : Found) (e : Element) (s : Split) → Adds h f e g → (e.id < 144) ⊎ (160 ≤ e.id) → going_on h false g s ≡ going_on h false f (then e s)
  unfolding going_on counted then
  notes f g e cut a b = refl
  notes f g e (whole es) a (inl b) = simp (lt-leb 144 e.id b, lt-leb 152 e.id (omega arith), a.same (counted false es))
  notes f g e (whole es) a (inr b) =
      simp (le-leb 144 e.id (omega arith), lt-leb e.id 151 (omega arith), le-leb 152 e.id (omega arith), lt-leb e.id 159 (omega arith), a.same (counted false es))

  -- the ways out
  module _ (m : List ℕ) (i : ℕ) (f : Found) where
    pub out_cut : (w : Way) → elements i 0 (drop i m) ≡ cut → Err Fault.Short ≡ way_on h w f (elements i 0 (drop i m))
    unfolding going_on locked
    out_cut Way.On c = rw c refl
    out_cut Way.Past c = rw c refl

    pub out_end : (w : Way) → length m ≤ i → taken_with h f ≡ way_on h w f (elements i 0 (drop i m))
    unfolding going_on locked counted
    out_end Way.On c = rw (none_left m i c) (sym (at_last h f))
    out_end Way.Past c = rw (none_left m i c) (sym (at_last h f))

  -- past a locking shift: every part of what is left is there, or not
  module _ (f : Found) (s : Split) where
    pub out_short : is_whole s ≡ false → Err Fault.Short ≡ locked h f s
    unfolding locked
    out_short c = rw c refl

    pub out_whole : is_whole s ≡ true → taken_with h f ≡ locked h f s
    unfolding locked
    out_whole c = rw c refl
