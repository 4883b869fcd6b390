-- The instances of demand 3 and the runs without a premise, computed.
use Rattle.std.proofs.Common.{ℕ, Bool, true, false, [], ◌≡◌, refl, arith}
use Rattle.rights.specs.declared.Rights.{Rights}
use Rattle.rights.specs.declared.Service.{Service}
use Rattle.rights.specs.Rights.{rights_fit_of}
use Rattle.call_promises.specs.Ranges.{RightsInRange}
use Rattle.call_promises.specs.Numbers.{Has}
use Rattle.call_promises.specs.MoreRights.{NoLess}
use Rattle.call_cases.specs.MoreInstances.{rights_of, MoreInstances, mended, Without, last_in, GoesWrong, NoneLeftOut, CreditShown}
use Rattle.call_promises.proofs.Ranges.{rights_range}
use Rattle.call_promises.proofs.Opened.{steps_compute}

-- rights that differ in no premise
itself : (r : Rights) → RightsInRange r → NoLess r r
itself r i =
    record {
      first = i;
      second = i;
      services = λ k h. h;
      late = λ h. h;
      burst = omega arith;
      refill = omega arith;
      limit = refl;
      leave = refl;
    }

ranged : (r : Rights) → rights_fit_of r ≡ true → RightsInRange r
ranged r h = (rights_range r).so h

wrong : (w : Without) → rights_fit_of w.first ≡ true → rights_fit_of w.second ≡ true → mended w.premise w.first w.second ≡ w.first → last_in w.first w.events ≡ w.lost → last_in w.second w.events ≡ [] → GoesWrong w
wrong w a b e f g =
    record { range = ranged w.second b; others = rw e (itself w.first (ranged w.first a)); first = f; second = g }

every : (late leave : Bool) (limit burst refill : ℕ) (k : Service) → Has (rights_of 7 late leave limit burst refill) k
every late leave limit burst refill Service.One = refl
every late leave limit burst refill Service.Two = refl
every late leave limit burst refill Service.Three = refl

-- all under one line that opens the definitions
computed : MoreInstances × NoneLeftOut × CreditShown
unfolding steps_compute
computed = (
  (
    record {
      premises =
          record {
            first = ranged _ refl;
            second = ranged _ refl;
            services = λ k _. every true false 20 2 1 k;
            late = λ h. h;
            burst = omega arith;
            refill = omega arith;
            limit = refl;
            leave = refl;
          };
      first = refl;
      second = refl;
    },
    record {
      premises =
          record {
            first = ranged _ refl;
            second = ranged _ refl;
            services = λ k _. every true false 20 3 1 k;
            late = λ _. refl;
            burst = omega arith;
            refill = omega arith;
            limit = refl;
            leave = refl;
          };
      first = refl;
      second = refl;
    },
  ),
  ((wrong _ refl refl refl refl refl, (wrong _ refl refl refl refl refl, (wrong _ refl refl refl refl refl, (wrong _ refl refl refl refl refl, (wrong _ refl refl refl refl refl, (wrong _ refl refl refl refl refl, (wrong _ refl refl refl refl refl, (wrong _ refl refl refl refl refl, (wrong _ refl refl refl refl refl, (wrong _ refl refl refl refl refl, tt)))))))))), (refl, refl)),
  (refl, refl),
)

pub more_instances_lem : MoreInstances
more_instances_lem = computed.0

pub none_left_out_lem : NoneLeftOut
none_left_out_lem = computed.1

pub credit_shown_lem : CreditShown
credit_shown_lem = computed.2
