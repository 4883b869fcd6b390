-- The runs, computed.
use Prim.Native.Nat.{ℕ, zero, suc}
use mathlib.Core.List.{List, [], ◌∷◌, ◌++◌}
use mathlib.Core.Bool.{Bool, true, false, ◌&&◌}
use mathlib.Core.Path.{◌≡◌, refl}
use native.Mathlib.Omega.{arith}
use borrow.Author.Tests.{ltb-true}
use lib.Dec.{ltb}
use Rattle.flow_meter.specs.Meter.{empty_of, meter_fits_of}
use Rattle.user_element.specs.Element.{well_formed_of, seen_of, goes_out_of}
use Rattle.rights.specs.Rights.{rights_fit_of, reference_fits_of, no_rights}
use Rattle.services.specs.Standing.{remains_of, no_services}
use Rattle.setup_rules.specs.Requests.{first_standing_of, standings_of, lacks_of, passed_requests_of, network_refusals_of, setup_phase_of, to_caller_of, to_called_of, setup_carries_of}
use Rattle.facility_rules.specs.Asking.{nobody_asks}
use Rattle.sent.specs.Message.{saying_of, only_if_of}
use Rattle.flow_meter.specs.CallMeters.{empty_meters, refills_of, ready_of}
use Rattle.call.specs.declared.Call.{Call}
use Rattle.call.specs.Sound.{fresh_call, fields_fit_of, sound_of}
use Rattle.call.specs.Reply.{bar_of, refused_of, heard_of}
use Rattle.call.specs.Setup.{proceeds_of, setup_of}
use Rattle.call.specs.Information.{meters_of}
use Rattle.call.specs.Tick.{runs_of, passes_tick_of, tick_of}
use Rattle.table.specs.Table.{table_sound}
use Rattle.table.specs.Choice.{choose_of, chosen_of}
use Rattle.table.specs.Settle.{subject_of, record_kept_of, heard_outcome_of, table_refusal_of, settled_of}
use Rattle.table.specs.Step.{step_outcome, step_table}
use Rattle.trace.specs.Kind.{record_kind_of}
use Rattle.trace.specs.ElementField.{blank_of, form_fits_of, zeros_fit_of}
use Rattle.trace.specs.Ranges.{up_to_of, three_of, element_out_of, first_out_of}
use Rattle.trace.specs.Values.{flag_of, side_of, request_of}
use Rattle.trace.specs.Reading.{record_reference_of, rights_of, requests_of, entry_of, record_of, element_of}
use Rattle.logic.proofs.Tests.{both}
use Rattle.text.specs.Decimal.{digits_of, decimal_of}
use Rattle.text.specs.Hex.{digit_of}
use Rattle.trace_lines.specs.Items.{items_of, commas, joined}
use Rattle.trace_lines.specs.Line.{number_columns, type_columns, line_of}
use Rattle.trace_run.specs.Front.{front_of}
use Rattle.trace_run.specs.Entry.{columns_of}
use Rattle.trace.specs.declared.Fault.{Fault}
use Rattle.trace.specs.declared.Field.{Field}
use Rattle.trace_run.specs.Course.{turned_at, answered_at, course_in, course_of, Output, lines}
use Rattle.trace_run.specs.Run.{line_at, run_in, trace_run_of}
use Rattle.trace_promises.specs.WholeRun.{printed_of, Octets, Fits, Idle, Run}
use Rattle.trace_promises.specs.Heeded.{said_of}
use Rattle.trace_lines.specs.Words.{place_words, words_of}
use Rattle.trace_promises.specs.Instances.{one_part, other_part, end_line, three_lines, strange_line, first_octets, noted_setup, noted_line, wrong_side, error_line, side_words, RunOf, TraceMet}

below : List ℕ → Bool
below [] = true
below (x ∷ t) = ltb x 256 && below t

all_octets : (t : List ℕ) → below t ≡ true → Octets t
unfolding below
all_octets [] h i = omega arith
all_octets (x ∷ t) h zero = ltb-true x 256 (both (ltb x 256) (below t) h).0
all_octets (x ∷ t) h (suc i) = all_octets t (both (ltb x 256) (below t) h).1 i

-- the first part is read, and its line is printed where it fits exactly; the tick waits for the second; what is left of
-- that is the last
ran : (explained : Bool) → RunOf explained (one_part ++ other_part ++ []) (three_lines explained)
unfolding empty_of meter_fits_of well_formed_of seen_of goes_out_of rights_fit_of reference_fits_of remains_of first_standing_of standings_of lacks_of passed_requests_of network_refusals_of nobody_asks saying_of only_if_of no_rights no_services empty_meters fresh_call fields_fit_of sound_of bar_of refused_of heard_of setup_phase_of to_caller_of to_called_of setup_carries_of proceeds_of setup_of meters_of refills_of ready_of runs_of passes_tick_of tick_of table_sound choose_of chosen_of subject_of record_kept_of heard_outcome_of table_refusal_of settled_of step_outcome step_table record_kind_of flag_of request_of blank_of form_fits_of zeros_fit_of up_to_of three_of element_out_of first_out_of record_reference_of rights_of requests_of entry_of record_of element_of digits_of decimal_of digit_of items_of commas joined number_columns type_columns line_of front_of turned_at answered_at columns_of line_at run_in trace_run_of
ran false =
    record {
      made = _;
      run =
          Run.reads [] one_part (other_part ++ [])
          (Run.prints false 14 one_part (other_part ++ []) refl
          (Run.reads (8 ∷ []) other_part []
          (Run.prints false 100 (8 ∷ other_part) [] refl
          (Run.nothing (7 ∷ []) (Run.faults true 9 (7 ∷ []) [] Fault.Short refl)))));
    }
ran true =
    record {
      made = _;
      run =
          Run.reads [] one_part (other_part ++ [])
          (Run.prints false 23 one_part (other_part ++ []) refl
          (Run.reads (8 ∷ []) other_part []
          (Run.prints false 100 (8 ∷ other_part) [] refl
          (Run.nothing (7 ∷ []) (Run.faults true 9 (7 ∷ []) [] Fault.Short refl)))));
    }

-- no octets need no room
nothing_there : (explained : Bool) (calls : List Call) → Fits (lines explained) 0 calls []
unfolding record_of
nothing_there explained calls = record { line = λ e h. let z : ◌≡◌ {A = ℕ} 0 1 = cc in absurd (omega arith); fault = λ f h. let z : ◌≡◌ {A = ℕ} 0 1 = cc in absurd (omega arith) }

idle : (p : Output) (calls : List Call) → Idle (trace_run_of p true 0 calls [])
unfolding run_in trace_run_of
idle p calls = record { none = refl; end = refl }

strange_ran : RunOf false (8 ∷ 0 ∷ 5 ∷ []) (strange_line ++ end_line)
unfolding fresh_call sound_of table_sound choose_of chosen_of table_refusal_of step_outcome step_table record_kind_of form_fits_of zeros_fit_of up_to_of three_of element_out_of first_out_of record_reference_of entry_of record_of element_of digits_of decimal_of number_columns type_columns line_of front_of turned_at answered_at columns_of line_at run_in trace_run_of
strange_ran =
    record {
      made = _;
      run =
          Run.reads [] (8 ∷ []) (0 ∷ 5 ∷ [])
          (Run.reads (8 ∷ []) (0 ∷ 5 ∷ []) []
          (Run.prints false 13 (8 ∷ 0 ∷ 5 ∷ []) [] refl (Run.nothing [] (Run.ended 0 [] (nothing_there false _) (idle (lines false) _)))));
    }

-- a SETUP with a note, and nothing after it
noted_ran : RunOf false noted_setup noted_line
unfolding empty_of meter_fits_of well_formed_of seen_of goes_out_of rights_fit_of reference_fits_of remains_of first_standing_of standings_of lacks_of passed_requests_of network_refusals_of nobody_asks saying_of only_if_of no_rights no_services empty_meters fresh_call fields_fit_of sound_of bar_of refused_of heard_of setup_phase_of to_caller_of to_called_of setup_carries_of proceeds_of setup_of meters_of refills_of ready_of runs_of passes_tick_of tick_of table_sound choose_of chosen_of subject_of record_kept_of heard_outcome_of table_refusal_of settled_of step_outcome step_table record_kind_of flag_of request_of blank_of form_fits_of zeros_fit_of up_to_of three_of element_out_of first_out_of record_reference_of rights_of requests_of entry_of record_of element_of digits_of decimal_of digit_of items_of commas joined number_columns type_columns line_of front_of turned_at answered_at columns_of line_at run_in trace_run_of
noted_ran =
    record {
      made = _;
      run = Run.reads [] noted_setup [] (Run.prints false 14 noted_setup [] refl (Run.nothing [] (Run.ended 0 [] (nothing_there false _) (idle (lines false) _))));
    }

unknown_ran : RunOf false (9 ∷ []) (error_line 49)
unfolding fresh_call sound_of table_sound choose_of chosen_of table_refusal_of step_outcome step_table record_kind_of form_fits_of zeros_fit_of up_to_of three_of element_out_of first_out_of record_reference_of entry_of record_of element_of digits_of decimal_of number_columns type_columns line_of front_of turned_at answered_at columns_of line_at run_in trace_run_of
unknown_ran = record { made = _; run = Run.reads [] (9 ∷ []) [] (Run.faults false 9 (9 ∷ []) [] Fault.Kind refl) }

ranged_ran : RunOf false wrong_side (error_line 51)
unfolding fresh_call sound_of table_sound choose_of chosen_of table_refusal_of step_outcome step_table record_kind_of form_fits_of zeros_fit_of up_to_of three_of element_out_of first_out_of record_reference_of entry_of record_of element_of digits_of decimal_of number_columns type_columns line_of front_of turned_at answered_at columns_of line_at run_in trace_run_of side_of
ranged_ran = record { made = _; run = Run.reads [] wrong_side [] (Run.faults false 9 wrong_side [] (Fault.Range Field.Side) refl) }

first_octets_lem : printed_of false [] ≡ first_octets
unfolding printed_of course_of course_in
first_octets_lem = refl

side_words_lem : said_of (8 ∷ 0 ∷ 5 ∷ wrong_side) ≡ side_words
unfolding fresh_call sound_of table_sound choose_of chosen_of table_refusal_of step_outcome step_table record_kind_of form_fits_of zeros_fit_of up_to_of three_of element_out_of first_out_of record_reference_of entry_of record_of element_of digits_of decimal_of number_columns type_columns line_of front_of turned_at answered_at columns_of line_at run_in trace_run_of said_of course_of course_in words_of place_words
side_words_lem = refl

empty_ran : RunOf false [] []
unfolding run_in trace_run_of
empty_ran = record { made = _; run = Run.nothing [] (Run.ended 0 [] (nothing_there false _) (idle (lines false) _)) }

pub met : TraceMet
unfolding below
met =
    record {
      octets = all_octets (one_part ++ other_part ++ []) refl;
      replays = ran false;
      explains = ran true;
      strange = strange_ran;
      empty = empty_ran;
      first = first_octets_lem;
      noted = noted_ran;
      unknown = unknown_ran;
      ranged = ranged_ran;
      said = side_words_lem;
    }
