-- Numbers 21 to 25: "25 comes first of 11 to 25; then the table gives 24, 22, 21 for SETUP and 23 for other events;
-- then the call".
use Rattle.std.specs.Prelude.{Option, Some, None, Result, Ok, Err, ℕ, Bool, true, false, cond, ◌&&◌, List}
use Rattle.rights.specs.Rights.{rights_fit_of, reference_fits_of}
use Rattle.answer.specs.declared.Answer.{Answer}
use Rattle.event.specs.declared.Event.{Event}
use Rattle.table.specs.declared.verdict.Verdict.{Verdict}
use Rattle.table.specs.declared.choice.Opening.{Opening}
use Rattle.call.specs.declared.Call.{Call}
use Rattle.table.specs.Table.{table_sound, find_from, place_from}

-- what an event wants of the table: SETUP a place under its own reference, with "reference or rights out of range" or
-- not; others that of a live call. Whoever asks whether an event is a SETUP asks this: the one list of the nine others.
abbrev pub wanted_of : Event → Option Opening
wanted_of (Event.Setup reference rights requests) =
    Some (record { reference = reference; ranged = reference_fits_of reference && rights_fit_of rights })
wanted_of (Event.Alerting answers) = None
wanted_of (Event.Connect answers) = None
wanted_of (Event.Information side more) = None
wanted_of (Event.Facility side what) = None
wanted_of (Event.Disconnect side cause answers) = None
wanted_of (Event.ReleaseComplete side) = None
wanted_of Event.Tick = None
wanted_of Event.CallProceeding = None
wanted_of Event.CongestionControl = None

-- the reference that an event is about, beside which n stands: SETUP has its own
abbrev pub own_or : ℕ → Option Opening → ℕ
own_or n (Some o) = o.reference
own_or n None = n

abbrev pub meant_reference_of : ℕ → Event → ℕ
meant_reference_of n e = own_or n (wanted_of e)

abbrev pub is_new : Option Opening → Bool
is_new (Some o) = true
is_new None = false

abbrev pub opens_of : Event → Bool
opens_of e = is_new (wanted_of e)

abbrev pub in_range : Option Opening → Bool
in_range (Some o) = o.ranged
in_range None = true

abbrev pub setup_ranged_of : Event → Bool
setup_ranged_of e = in_range (wanted_of e)

-- "SETUP, reference held by a live call", then "SETUP, no free place"
abbrev pub new_place_of : Option ℕ → Option ℕ → Result ℕ Verdict
new_place_of (Some i) free = Err Verdict.Held
new_place_of None (Some j) = Ok j
new_place_of None None = Err Verdict.NoPlace

-- "other event, no live call of that reference"
abbrev pub old_place_of : Option ℕ → Result ℕ Verdict
old_place_of (Some i) = Ok i
old_place_of None = Err Verdict.NoCall

unfoldable pub choose_of : Bool → Option Opening → Option ℕ → Option ℕ → Result ℕ Verdict
choose_of whole w held free =
    cond whole
    (cond (is_new w) (cond (in_range w) (new_place_of held free) (Err (Verdict.Heard Answer.OutOfRange))) (old_place_of held))
    (Err (Verdict.Heard Answer.Unsound))

unfoldable pub chosen_of : List Call → ℕ → Event → Result ℕ Verdict
chosen_of t n e = choose_of (table_sound t) (wanted_of e) (find_from t 0 (meant_reference_of n e)) (place_from t 0)
