-- Phases by their names, and the ranges of a record's fields, without the functions that test them.
use Rattle.std.specs.Prelude.{ℕ, ◌≤◌, ◌⊎◌, ◌≡◌}
use Rattle.flow_meter.specs.declared.Meter.{Meter}
use Rattle.rights.specs.declared.Rights.{Rights}
use Rattle.phases.specs.declared.Phase.{Phase}
use Rattle.call.specs.declared.Call.{Call}

-- "Fresh, Requested, Alerting, Active, Clearing, Ended. "Up" means Requested, Alerting or Active." Live: all but Fresh
-- and Ended.
abbrev pub Up : Phase → Type 0
Up p = (p ≡ Phase.Requested) ⊎ ((p ≡ Phase.Alerting) ⊎ (p ≡ Phase.Active))

abbrev pub Live : Phase → Type 0
Live p = Up p ⊎ (p ≡ Phase.Clearing)

-- "limit on the element 3 to 131, burst X 1 to 255, refill Y 1 to 255. References 1 to 32767." Services are an octet of
-- three bits.
abbrev pub Within : ℕ → ℕ → ℕ → Type 0
Within least n greatest = (least ≤ n) × (n ≤ greatest)

pub record RightsInRange (r : Rights) : Type 0 where
  pub services : r.services ≤ 7
  pub limit : Within 3 r.limit 131
  pub burst : Within 1 r.burst 255
  pub refill : Within 1 r.refill 255

abbrev pub ReferenceInRange : ℕ → Type 0
ReferenceInRange n = Within 1 n 32767

pub record MeterInRange (burst : ℕ) (m : Meter) : Type 0 where
  pub credit : m.credit ≤ burst
  pub count : m.count ≤ 2

pub record InRangeCall (c : Call) : Type 0 where
  pub reference : ReferenceInRange c.reference
  pub rights : RightsInRange c.rights
  pub calling : MeterInRange c.rights.burst c.meters.calling
  pub called : MeterInRange c.rights.burst c.meters.called

-- 25, of one record: "a live record or meter with a field out of range, credit over X or count over 2"
abbrev pub Unsound : Call → Type 0
Unsound c = Live c.phase × (InRangeCall c → ⊥)
