-- The instances, computed.
use Prim.Native.Nat.{ℕ, zero, suc, ◌<◌}
use native.Mathlib.Nat.{not-suc-le-zero, le_of_suc-le-suc}
use native.Mathlib.Omega.{arith}
use mathlib.Core.List.{List, [], ◌∷◌}
use mathlib.Core.Path.{◌≡◌, refl}
use lib.ListN.{length, get_or}
use Rattle.phases.specs.declared.Phase.{Phase}
use Rattle.call.specs.declared.Call.{Call}
use Rattle.flow_meter.specs.Meter.{empty_of, meter_fits_of}
use Rattle.flow_meter.specs.Passage.{passage_of}
use Rattle.user_element.specs.Element.{well_formed_of, seen_of, goes_out_of}
use Rattle.rights.specs.Rights.{rights_fit_of, reference_fits_of, no_rights}
use Rattle.services.specs.Standing.{remains_of, no_services}
use Rattle.setup_rules.specs.Requests.{first_standing_of, standings_of, lacks_of, setup_phase_of, setup_carries_of}
use Rattle.answering_rules.specs.Fates.{alerting_fates_of}
use Rattle.answering_rules.specs.Effects.{failed_of, settles_of}
use Rattle.facility_rules.specs.Asking.{nobody_asks}
use Rattle.flow_meter.specs.CallMeters.{empty_meters, refills_of}
use Rattle.call.specs.Sound.{fresh_call, fields_fit_of, sound_of, in_phase_of}
use Rattle.call.specs.Reply.{bar_of, refused_of, heard_of, reply_of}
use Rattle.call.specs.Setup.{proceeds_of, setup_of}
use Rattle.call.specs.Answering.{answered_call_of, goes_on_of, clears_of, answered_of, alerting_of}
use Rattle.call.specs.Information.{meters_of, information_passage_of, carried_of, with_element_of, information_of}
use Rattle.call.specs.Disconnect.{ends_of, release_complete_of}
use Rattle.call.specs.Tick.{runs_of, passes_tick_of, tick_of}
use Rattle.table.specs.Table.{table_sound}
use Rattle.table.specs.Choice.{choose_of, chosen_of}
use Rattle.table.specs.Settle.{subject_of, record_kept_of, heard_outcome_of, table_refusal_of, settled_of}
use Rattle.table.specs.Step.{step_outcome, step_table}
use Rattle.table_promises.specs.Alone.{AllFresh, AloneMet, Needed}

no_places : AllFresh []
no_places = record { most = omega arith; fresh = λ i h. absurd (not-suc-le-zero h) }

-- one fresh place more
fresh_more : (t : List Call) → ((i : ℕ) → i < length t → (get_or t i fresh_call).phase ≡ Phase.Fresh) → (i : ℕ) → i < length (fresh_call ∷ t) → (get_or (fresh_call ∷ t) i fresh_call).phase ≡ Phase.Fresh
unfolding fresh_call
fresh_more t h zero w = refl
fresh_more t h (suc i) w = h i (le_of_suc-le-suc w)

one_place : AllFresh (fresh_call ∷ [])
one_place = record { most = omega arith; fresh = fresh_more [] no_places.fresh }

two_places : AllFresh (fresh_call ∷ fresh_call ∷ [])
two_places = record { most = omega arith; fresh = fresh_more (fresh_call ∷ []) one_place.fresh }

pub met : AloneMet
unfolding empty_of meter_fits_of passage_of well_formed_of seen_of goes_out_of rights_fit_of reference_fits_of remains_of first_standing_of standings_of lacks_of failed_of settles_of nobody_asks no_rights no_services empty_meters fresh_call fields_fit_of sound_of in_phase_of bar_of refused_of heard_of reply_of setup_phase_of setup_carries_of proceeds_of setup_of answered_call_of goes_on_of clears_of alerting_fates_of answered_of alerting_of meters_of information_passage_of carried_of with_element_of information_of ends_of release_complete_of refills_of runs_of passes_tick_of tick_of table_sound choose_of chosen_of subject_of record_kept_of heard_outcome_of table_refusal_of settled_of step_outcome step_table
met = record { one = one_place; two = two_places; events = refl; full = refl; numbers = refl }

pub needed : Needed
unfolding rights_fit_of reference_fits_of fresh_call sound_of bar_of heard_of proceeds_of setup_of table_sound choose_of chosen_of subject_of record_kept_of heard_outcome_of table_refusal_of settled_of step_outcome step_table
needed = record { none = no_places; events = refl; nowhere = refl; somewhere = refl }
