-- The definitions that a step computes with, under one name: a proof that computes steps opens them by it.
use Rattle.flow_meter.specs.Meter.{empty_of, meter_fits_of, granted_of, refilled_of, ticked_of}
use Rattle.flow_meter.specs.Passage.{counted_of, paid_of, marked_of, under_three_of, passage_of}
use Rattle.user_element.specs.Element.{well_formed_of, seen_of, goes_out_of}
use Rattle.rights.specs.Rights.{rights_fit_of, reference_fits_of, no_rights}
use Rattle.services.specs.Standing.{remains_of, no_services}
use Rattle.setup_rules.specs.Requests.{first_standing_of, standings_of, lacks_of, passed_requests_of, network_refusals_of, setup_phase_of, to_caller_of, to_called_of, setup_carries_of}
use Rattle.answering_rules.specs.Fates.{alerting_fates_of, connect_fates_of}
use Rattle.answering_rules.specs.Effects.{failed_of, settles_of, tells_of, declines_of}
use Rattle.facility_rules.specs.Asking.{nobody_asks, to_request_of, to_answer_of}
use Rattle.facility_rules.specs.Messages.{about_three_of}
use Rattle.sent.specs.Message.{silence, saying_of, bare_of, congestion_of, informs_of, only_if_of}
use Rattle.flow_meter.specs.CallMeters.{empty_meters, grants_of, refills_of, ready_of, ticked_meters_of}
use Rattle.call.specs.Sound.{fresh_call, fields_fit_of, sound_of, in_phase_of}
use Rattle.call.specs.Reply.{bar_of, refused_of, heard_of, reply_of}
use Rattle.call.specs.Setup.{proceeds_of, setup_of}
use Rattle.call.specs.Answering.{answered_call_of, goes_on_of, clears_of, answered_of, alerting_of, connect_of}
use Rattle.call.specs.Information.{meters_of, information_passage_of, carried_of, with_element_of, information_of}
use Rattle.clearing_rules.specs.Closing.{silent_answers, closing_facilities_of}
use Rattle.call.specs.Disconnect.{closed_call_of, passed_on_of, disconnect_of}
use Rattle.call.specs.Facility.{facility_verdict_of, facility_call_of, passes_facility_of, facility_of}
use Rattle.call.specs.Tick.{runs_of, passes_tick_of, tick_of}
use Rattle.call.specs.Step.{not_an_event_of}

unfoldable pub steps_compute : Unit {0}
unfolding empty_of meter_fits_of granted_of counted_of paid_of marked_of under_three_of passage_of well_formed_of seen_of goes_out_of rights_fit_of reference_fits_of remains_of first_standing_of standings_of lacks_of passed_requests_of network_refusals_of failed_of settles_of tells_of declines_of silence nobody_asks saying_of bare_of congestion_of informs_of only_if_of no_rights no_services empty_meters fresh_call fields_fit_of sound_of in_phase_of bar_of refused_of heard_of reply_of setup_phase_of to_caller_of to_called_of setup_carries_of proceeds_of setup_of grants_of answered_call_of goes_on_of clears_of alerting_fates_of connect_fates_of answered_of alerting_of connect_of meters_of information_passage_of carried_of with_element_of information_of refilled_of ticked_of to_request_of to_answer_of silent_answers closing_facilities_of closed_call_of passed_on_of disconnect_of facility_verdict_of facility_call_of about_three_of passes_facility_of facility_of ticked_meters_of refills_of ready_of runs_of passes_tick_of tick_of not_an_event_of
steps_compute = tt
