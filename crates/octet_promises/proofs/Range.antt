-- The writer's test and what the paper says is in range are one.
use Rattle.std.specs.Prelude.{Option, Some, None}
use Prim.Native.Nat.{ℕ, ◌≤◌}
use mathlib.Core.List.{List}
use mathlib.Core.Bool.{Bool, true, true≢false}
use mathlib.Core.Logic.{◌⊎◌, inl, inr}
use mathlib.Core.Path.{◌≡◌, refl, sym}
use native.Mathlib.Omega.{arith}
use borrow.Author.Tests.{lt-ltb, ltb-true}
use lib.Dec.{ltb}
use Rattle.facility.specs.Facility.{invoke_number}
use Rattle.message_types.specs.declared.Kind.{Kind}
use Rattle.message_fields.specs.declared.Width.{Width}
use Rattle.message_fields.specs.declared.Single.{Single}
use Rattle.message_fields.specs.declared.Facilities.{Facilities}
use Rattle.message_fields.specs.declared.Message.{Message}
use Rattle.writer.specs.Fitting.{reference_fits, plain_fits, more_fits, level_fits, single_fits, causes_fit, facilities_fit, message_fits}
use Rattle.octet_promises.specs.Promises.{highest, SingleIn, CauseIn, FacilitiesIn, InRange}
use Rattle.logic.proofs.Tests.{both}
use Rattle.user_element.proofs.writable.Whole.{element_in_lem, element_fits}
use Rattle.writer.proofs.fitting.Ranges.{fits}

-- at most 127 is below 128
low : (v : ℕ) → ltb v 128 ≡ true → v ≤ 127
low v h = omega (arith, ltb-true)

below : (v : ℕ) → v ≤ 127 → ltb v 128 ≡ true
below v h = lt-ltb v 128 (omega arith)

reference_in_lem : (w : Width) (r : ℕ) → reference_fits w r ≡ true → r ≤ highest w
reference_in_lem Width.One r h = low r h
reference_in_lem Width.Two r h = omega (arith, ltb-true)

reference_fits_lem : (w : Width) (r : ℕ) → r ≤ highest w → reference_fits w r ≡ true
reference_fits_lem Width.One r h = below r h
reference_fits_lem Width.Two r h = lt-ltb r 32768 (omega arith)

plain_in : (s : Single) → plain_fits s ≡ true → s ≡ Single.Absent
plain_in Single.Absent h = refl
plain_in Single.MoreData h = absurd (true≢false (sym h))
plain_in Single.Ready h = absurd (true≢false (sym h))
plain_in Single.NotReady h = absurd (true≢false (sym h))

more_in_lem : (s : Single) → more_fits s ≡ true → (s ≡ Single.Absent) ⊎ (s ≡ Single.MoreData)
more_in_lem Single.Absent h = inl refl
more_in_lem Single.MoreData h = inr refl
more_in_lem Single.Ready h = absurd (true≢false (sym h))
more_in_lem Single.NotReady h = absurd (true≢false (sym h))

level_in : (s : Single) → level_fits s ≡ true → (s ≡ Single.Ready) ⊎ (s ≡ Single.NotReady)
level_in Single.Absent h = absurd (true≢false (sym h))
level_in Single.MoreData h = absurd (true≢false (sym h))
level_in Single.Ready h = inl refl
level_in Single.NotReady h = inr refl

single_in : (k : Kind) (s : Single) → single_fits k s ≡ true → SingleIn k s
single_in Kind.Alerting s h = plain_in s h
single_in Kind.CallProceeding s h = plain_in s h
single_in Kind.Setup s h = plain_in s h
single_in Kind.Connect s h = plain_in s h
single_in Kind.UserInformation s h = more_in_lem s h
single_in Kind.Disconnect s h = plain_in s h
single_in Kind.ReleaseComplete s h = plain_in s h
single_in Kind.Facility s h = plain_in s h
single_in Kind.CongestionControl s h = level_in s h

either : (f : Single → Bool) (a b : Single) → f a ≡ true → f b ≡ true → (s : Single) → (s ≡ a) ⊎ (s ≡ b) → f s ≡ true
either f a b p q s (inl e) = rw e p
either f a b p q s (inr e) = rw e q

single_fits_lem : (k : Kind) (s : Single) → SingleIn k s → single_fits k s ≡ true
single_fits_lem Kind.Alerting s e = rw e refl
single_fits_lem Kind.CallProceeding s e = rw e refl
single_fits_lem Kind.Setup s e = rw e refl
single_fits_lem Kind.Connect s e = rw e refl
single_fits_lem Kind.UserInformation s e = either more_fits Single.Absent Single.MoreData refl refl s e
single_fits_lem Kind.Disconnect s e = rw e refl
single_fits_lem Kind.ReleaseComplete s e = rw e refl
single_fits_lem Kind.Facility s e = rw e refl
single_fits_lem Kind.CongestionControl s e = either level_fits Single.Ready Single.NotReady refl refl s e

cause_in_lem : (c : Option ℕ) → causes_fit c ≡ true → CauseIn c
cause_in_lem None h = tt
cause_in_lem (Some v) h = low v h

cause_fits_lem : (c : Option ℕ) → CauseIn c → causes_fit c ≡ true
cause_fits_lem None h = refl
cause_fits_lem (Some v) h = below v h

facility_in : (f : Facilities) → facilities_fit f ≡ true → FacilitiesIn f
facility_in Facilities.Zero h = tt
facility_in (Facilities.One a) h = low (invoke_number a) h
facility_in (Facilities.Two a b) h = let t = both _ _ h in (low (invoke_number a) t.0, low (invoke_number b) t.1)
facility_in (Facilities.Three a b c) h =
    let t = both _ _ h in
    let u = both _ _ t.0 in
    (low (invoke_number a) u.0, low (invoke_number b) u.1, low (invoke_number c) t.1)

facility_fits : (f : Facilities) → FacilitiesIn f → facilities_fit f ≡ true
facility_fits Facilities.Zero h = refl
facility_fits (Facilities.One a) h = below (invoke_number a) h
facility_fits (Facilities.Two a b) h = simp (below (invoke_number a) h.0, below (invoke_number b) h.1)
facility_fits (Facilities.Three a b c) h = simp (below (invoke_number a) h.0, below (invoke_number b) h.1, below (invoke_number c) h.2)

pub in_range_lem : (w : Message) (u : List ℕ) → message_fits w u ≡ true → InRange w u
in_range_lem w u h =
    let f = fits w u h in
    record {
      reference = reference_in_lem w.header.width w.header.reference f.reference;
      single = single_in w.header.kind w.single f.single;
      cause = cause_in_lem w.cause f.cause;
      facility = facility_in w.facility f.facility;
      user = element_in_lem u f.user;
    }

pub range_fits : (w : Message) (u : List ℕ) → InRange w u → message_fits w u ≡ true
unfolding message_fits
range_fits w u r =
    simp (
      reference_fits_lem w.header.width w.header.reference r.reference,
      single_fits_lem w.header.kind w.single r.single,
      cause_fits_lem w.cause r.cause,
      facility_fits w.facility r.facility,
      element_fits u r.user,
    )
