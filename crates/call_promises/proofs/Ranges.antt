-- The tests of a record decide the ranges of its fields, and 25.
use Rattle.std.proofs.Common.{ℕ, Bool, true, false, ◌≡◌, refl}
use Rattle.flow_meter.specs.declared.Meter.{Meter}
use Rattle.rights.specs.declared.Rights.{Rights}
use Rattle.call.specs.declared.Call.{Call}
use Rattle.flow_meter.specs.Meter.{meter_fits_of}
use Rattle.rights.specs.Rights.{within, rights_fit_of, reference_fits_of}
use Rattle.phases.specs.Phase.{live_of}
use Rattle.call.specs.Sound.{fields_fit_of, sound_of}
use Rattle.call_promises.specs.Ranges.{Live, Within, ReferenceInRange, RightsInRange, MeterInRange, InRangeCall, Unsound}
use Rattle.logic.proofs.Decide.{never, Decides, Denies, via, both, le}
use Rattle.call_promises.proofs.Phases.{live}

pub within_range : (least n greatest : ℕ) → Decides (within least n greatest) (Within least n greatest)
within_range least n greatest = both _ _ (le least n) (le n greatest)

pub reference_range : (n : ℕ) → Decides (reference_fits_of n) (ReferenceInRange n)
unfolding reference_fits_of
reference_range n = within_range 1 n 32767

pub rights_range : (r : Rights) → Decides (rights_fit_of r) (RightsInRange r)
unfolding rights_fit_of
rights_range r =
    via (λ t. record { services = t.0.0.0; limit = t.0.0.1; burst = t.0.1; refill = t.1 })
    (λ i. (((i.services, i.limit), i.burst), i.refill))
    (both _ _
    (both _ _ (both _ _ (le r.services 7) (within_range 3 r.limit 131)) (within_range 1 r.burst 255))
    (within_range 1 r.refill 255))

pub meter_range : (m : Meter) (burst : ℕ) → Decides (meter_fits_of m burst) (MeterInRange burst m)
unfolding meter_fits_of
meter_range m burst =
    via (λ t. record { credit = t.0; count = t.1 }) (λ i. (i.credit, i.count)) (both _ _ (le m.credit burst) (le m.count 2))

pub fields_range : (c : Call) → Decides (fields_fit_of c) (InRangeCall c)
unfolding fields_fit_of
fields_range c =
    via (λ t. record { reference = t.0.0.0; rights = t.0.0.1; calling = t.0.1; called = t.1 })
    (λ i. (((i.reference, i.rights), i.calling), i.called))
    (both _ _
    (both _ _ (both _ _ (reference_range c.reference) (rights_range c.rights)) (meter_range c.meters.calling c.rights.burst))
    (meter_range c.meters.called c.rights.burst))

-- 25
module _ (c : Call) where
  unsound_by : (v f : Bool) → live_of c.phase ≡ v → fields_fit_of c ≡ f → Denies (sound_of c) (Unsound c)
  unfolding sound_of
  unsound_by true true e h =
      rw (e, h) (record { so = λ n. never refl n; back = λ u. absurd (u.1 ((fields_range c).so h)) })
  unsound_by true false e h =
      rw (e, h) (record { so = λ n. ((live c.phase).so e, λ i. never ((fields_range c).back i) h); back = λ u. refl })
  unsound_by false f e h =
      rw e (record { so = λ n. never refl n; back = λ u. never ((live c.phase).back u.0) e })

pub unsound : (c : Call) → Denies (sound_of c) (Unsound c)
unsound c = unsound_by c _ _ refl refl

pub in_range_lem : (c : Call) → sound_of c ≡ true → Live c.phase → InRangeCall c
unfolding sound_of
in_range_lem c s v = (fields_range c).so (rw ((live c.phase).back v) at s)
