-- Any event.
use Rattle.std.specs.Prelude.{ℕ, List, cond}
use Rattle.user_element.specs.declared.Note.{Note}
use Rattle.answer.specs.declared.Answer.{Answer}
use Rattle.call.specs.declared.Call.{Call}
use Rattle.event.specs.declared.Event.{Event}
use Rattle.call.specs.declared.reply.Reply.{Reply}
use Rattle.call.specs.Disconnect.{disconnect_of, release_complete_of}
use Rattle.call.specs.Information.{information_of}
use Rattle.call.specs.Setup.{setup_of}
use Rattle.call.specs.Sound.{sound_of}
use Rattle.call.specs.Tick.{tick_of}
use Rattle.call.specs.Facility.{facility_of}
use Rattle.call.specs.Answering.{alerting_of, connect_of}
use Rattle.call.specs.Reply.{refused_of}

-- "12 CALL PROCEEDING or CONGESTION CONTROL offered as an event", after 25
unfoldable pub not_an_event_of : Call → Reply
not_an_event_of c = refused_of c (cond (sound_of c) Answer.NotAnEvent Answer.Unsound) Note.Clear

-- FACILITY, RELEASE COMPLETE and the tick have no element.
abbrev pub step_of : Call → Event → List ℕ → Reply
step_of c (Event.Setup reference rights requests) e = setup_of c reference rights requests e
step_of c (Event.Alerting answers) e = alerting_of c answers e
step_of c (Event.Connect answers) e = connect_of c answers e
step_of c (Event.Information side more) e = information_of c side more e
step_of c (Event.Facility side what) e = facility_of c side what
step_of c (Event.Disconnect side cause answers) e = disconnect_of c side cause answers e
step_of c (Event.ReleaseComplete side) e = release_complete_of c side
step_of c Event.Tick e = tick_of c
step_of c Event.CallProceeding e = not_an_event_of c
step_of c Event.CongestionControl e = not_an_event_of c
