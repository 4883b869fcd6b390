-- Each test of a service decides the paper's condition.
use Rattle.std.proofs.Common.{Bool, true, false, ◌&&◌, ◌⊎◌, inl, inr, ⊎_elim, ◌≡◌, refl, ℕ, ◌||◌, arith}
use Rattle.rights.specs.declared.Rights.{Rights}
use Rattle.rights.specs.declared.Service.{Service}
use Rattle.services.specs.declared.Standing.{Standing}
use Rattle.phases.specs.declared.Phase.{Phase}
use Rattle.sent.specs.declared.side.Side.{Side}
use Rattle.call.specs.declared.Call.{Call}
use Rattle.services.specs.declared.Given.{Given}
use Rattle.flow_meter.specs.CallMeters.{meter_of}
use Rattle.rights.specs.Rights.{has_of}
use Rattle.services.specs.Standing.{in_force_of}
use Rattle.information_rules.specs.Serving.{late_of, serves_two_of, serves_three_of}
use Rattle.call_promises.specs.Numbers.{InForce, Has, ServesTwo, ServesThree, meter_from}
use Rattle.logic.proofs.Decide.{never, Decides, both, as_is, eq}

-- services
in_force_so : (s : Standing) → in_force_of s ≡ true → InForce s
in_force_so Standing.Unasked h = never h refl
in_force_so Standing.Preferred h = never h refl
in_force_so Standing.Required h = never h refl
in_force_so Standing.InForce h = refl
in_force_so Standing.Closed h = never h refl

pub in_force : (s : Standing) → Decides (in_force_of s) (InForce s)
in_force s = record { so = in_force_so s; back = λ e. rw e refl }

pub has : (r : Rights) (k : Service) → Decides (has_of r k) (Has r k)
has r Service.One = eq _ 1
has r Service.Two = eq _ 1
has r Service.Three = eq _ 1

-- what serves a message
three_so : (p : Phase) (s : Standing) → serves_three_of p (in_force_of s) ≡ true → (p ≡ Phase.Active) × InForce s
three_so Phase.Fresh s h = never h refl
three_so Phase.Requested s h = never h refl
three_so Phase.Alerting s h = never h refl
three_so Phase.Active s h = (refl, in_force_so s h)
three_so Phase.Clearing s h = never h refl
three_so Phase.Ended s h = never h refl

pub serves_three : (c : Call) → Decides (serves_three_of c.phase (in_force_of c.standings.three)) (ServesThree c)
serves_three c = record { so = three_so c.phase c.standings.three; back = λ x. rw (x.0, x.1) refl }

module _ (s : Standing) (late : Bool) where
  late_so : (side : Side) → (in_force_of s && late_of side late) ≡ true → (side ≡ Side.Calling) × (late ≡ true) × InForce s
  late_so Side.Calling h = let t = (both _ _ (in_force s) (as_is late)).so h in (refl, t.1, t.0)
  late_so Side.Called h = never ((both _ _ (in_force s) (as_is false)).so h).1 refl

  two_so : (p : Phase) (side : Side) → serves_two_of p (in_force_of s) (late_of side late) ≡ true → ((p ≡ Phase.Alerting) × InForce s) ⊎ ((p ≡ Phase.Active) × (side ≡ Side.Calling) × (late ≡ true) × InForce s)
  two_so Phase.Fresh side h = never h refl
  two_so Phase.Requested side h = never h refl
  two_so Phase.Alerting side h = inl (refl, in_force_so s h)
  two_so Phase.Active side h = let t = late_so side h in inr (refl, t.0, t.1, t.2)
  two_so Phase.Clearing side h = never h refl
  two_so Phase.Ended side h = never h refl

pub serves_two : (c : Call) (side : Side) → Decides (serves_two_of c.phase (in_force_of c.standings.two) (late_of side c.rights.late)) (ServesTwo c side)
serves_two c side =
    record {
      so = two_so c.standings.two c.rights.late c.phase side;
      back = ⊎_elim (λ x. rw (x.0, x.1) refl) (λ x. rw (x.0, x.1, x.2, x.3) refl);
    }

-- steps that several proofs take
pub same_meter : (c : Call) (side : Side) → meter_of c.meters side ≡ meter_from c side
same_meter c Side.Calling = refl
same_meter c Side.Called = refl

pub or_false : (a b : Bool) → (a || b) ≡ false → (a ≡ false) × (b ≡ false)
or_false true b h = never refl h
or_false false b h = (refl, h)

pub silence_no : Given.Silent ≡ Given.Accepted → ⊥
silence_no e = let z : ◌≡◌ {A = ℕ} 0 1 = cc e in omega arith
