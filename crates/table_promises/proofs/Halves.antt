-- look, plan and commit are a step, and what a plan does to another table.
use Rattle.std.specs.Prelude.{Option, Some, None}
use Rattle.table.specs.declared.plan.Seat.{Seat}
use mathlib.Core.List.{List}
use mathlib.Core.Path.{refl}
use lib.ListN.{length-set}
use lib.Seq.{get_or-set_same, get_or-set_other}
use Rattle.call.specs.declared.Call.{Call}
use Rattle.call.specs.Sound.{fresh_call, fields_fit_of, sound_of}
use Rattle.flow_meter.specs.Meter.{empty_of, meter_fits_of}
use Rattle.flow_meter.specs.CallMeters.{empty_meters}
use Rattle.user_element.specs.Element.{well_formed_of, seen_of}
use Rattle.rights.specs.Rights.{rights_fit_of, reference_fits_of, no_rights}
use Rattle.services.specs.Standing.{remains_of, no_services}
use Rattle.setup_rules.specs.Requests.{first_standing_of, standings_of, lacks_of, setup_phase_of, setup_carries_of}
use Rattle.facility_rules.specs.Asking.{nobody_asks}
use Rattle.call.specs.Reply.{bar_of, refused_of, heard_of}
use Rattle.call.specs.Setup.{proceeds_of, setup_of}
use Rattle.table.specs.Table.{table_sound}
use Rattle.table.specs.Choice.{choose_of, chosen_of}
use Rattle.table.specs.Halves.{look_of, committed}
use Rattle.table.specs.Settle.{subject_of, record_kept_of, heard_outcome_of, table_refusal_of, settled_of}
use Rattle.table.specs.Step.{step_outcome, step_table}
use Rattle.table.proofs.step.Planned.{plan_told, plan_put}
use Rattle.table_promises.specs.Halves.{Halves, Puts, nowhere, somewhere, Stale, StaleMet}

pub halves : Halves
halves t n e element = record { outcome = plan_told t n e element; table = plan_put t n e element }

puts : (s : List Call) (p : Option Seat) → Puts s (committed s p) p
puts s (Some p) =
    somewhere {i = p.place} {c = p.call} (λ h. get_or-set_same s p.place p.call fresh_call h) (λ j n. get_or-set_other s p.place j p.call fresh_call n)
    (length-set s p.place p.call)
puts s None = nowhere refl

pub stale : Stale
stale t s n e element = puts s _

pub stale_met_lem : StaleMet
unfolding empty_of meter_fits_of well_formed_of seen_of rights_fit_of reference_fits_of remains_of first_standing_of standings_of lacks_of nobody_asks no_rights no_services empty_meters fresh_call fields_fit_of sound_of bar_of refused_of heard_of setup_phase_of setup_carries_of proceeds_of setup_of table_sound choose_of chosen_of look_of subject_of record_kept_of heard_outcome_of table_refusal_of settled_of step_outcome step_table
stale_met_lem = record { held = refl; lost = refl; step = refl }
