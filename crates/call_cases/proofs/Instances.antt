-- The instances, computed.
use Rattle.std.proofs.Common.{inl, inr, refl}
use Rattle.call_cases.specs.Instances.{Instances, Reached, Broken, Example, Cleared, TwentyNineMet}
use Rattle.call_promises.proofs.Opened.{steps_compute}

-- all under one line that opens the definitions
computed : Instances × Reached × Broken × Example × Cleared × TwentyNineMet
unfolding steps_compute
computed = ((refl, (refl, (refl, (refl, (refl, (refl, (refl, (refl, (refl, (refl, (refl, (refl, (refl, (refl, tt)))))))))))))), inl (inr (inr refl)), refl, (refl, refl), (refl, (refl, (refl, (refl, (refl, (refl, (refl, (refl, (refl, (refl, (refl, (refl, tt)))))))))))), (refl, (refl, (refl, (refl, tt)))))

pub instances : Instances
instances = computed.0

pub reached : Reached
reached = computed.1

pub broken : Broken
broken = computed.2

pub example : Example
example = computed.3

pub cleared : Cleared
cleared = computed.4

pub twenty_nine_met_lem : TwentyNineMet
twenty_nine_met_lem = computed.5
