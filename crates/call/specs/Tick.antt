-- The tick.
use Rattle.std.specs.Prelude.{None, Bool, true}
use Rattle.user_element.specs.declared.Note.{Note}
use Rattle.answer.specs.declared.Answer.{Answer}
use Rattle.call.specs.declared.Call.{Call}
use Rattle.call.specs.declared.reply.Reply.{Reply}
use Rattle.services.specs.Standing.{in_force_of}
use Rattle.phases.specs.Phase.{live_of}
use Rattle.sent.specs.Dispatch.{to_users_of}
use Rattle.information_rules.specs.Serving.{serves_three_of}
use Rattle.call.specs.Information.{meters_of}
use Rattle.call.specs.Reply.{bar_of, heard_of}
use Rattle.flow_meter.specs.CallMeters.{refills_of, ready_of}

-- service 3 in force in Active
unfoldable pub runs_of : Call → Bool
runs_of c = serves_three_of c.phase (in_force_of c.standings.three)

unfoldable pub passes_tick_of : Call → Reply
passes_tick_of c =
    record {
      call = meters_of c (refills_of c.meters c.rights (runs_of c));
      answer = Answer.Taken;
      note = Note.Clear;
      dispatch = to_users_of (ready_of c.meters.calling (runs_of c)) (ready_of c.meters.called (runs_of c)) None;
    }

-- "A tick in any live phase is taken"
unfoldable pub tick_of : Call → Reply
tick_of c = heard_of c (bar_of c (live_of c.phase) true) (passes_tick_of c)
