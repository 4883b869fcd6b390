-- FACILITY: service 3 while connected.
use Rattle.std.specs.Prelude.{None, true, cond}
use Rattle.user_element.specs.declared.Note.{Note}
use Rattle.answer.specs.declared.Answer.{Answer}
use Rattle.facility_rules.specs.declared.What.{What}
use Rattle.sent.specs.declared.side.Side.{Side}
use Rattle.call.specs.declared.Call.{Call}
use Rattle.call.specs.declared.reply.Reply.{Reply}
use Rattle.services.specs.Standing.{in_force_of}
use Rattle.facility_rules.specs.Asking.{verdict_of, facility_asking_of, facility_three_of, facility_meters_of}
use Rattle.facility_rules.specs.Messages.{to_asker_of, to_other_of}
use Rattle.answer.specs.Answer.{taken_of}
use Rattle.phases.specs.Phase.{active_of}
use Rattle.call.specs.Records.{renewed_of}
use Rattle.call.specs.Reply.{bar_of, heard_of, reply_of}

unfoldable pub facility_verdict_of : Call → Side → What → Answer
facility_verdict_of c side what = verdict_of c.rights c.asking (in_force_of c.standings.three) side what

-- the record once the message is taken
unfoldable pub facility_call_of : Call → Side → What → Call
facility_call_of c side what =
    renewed_of c c.phase
    (record { one = c.standings.one; two = c.standings.two; three = facility_three_of c.standings.three what })
    (facility_asking_of c.asking side what)
    (facility_meters_of c.meters c.rights.burst what)

-- a refusal leaves the record as it was
unfoldable pub passes_facility_of : Call → Side → What → Answer → Reply
passes_facility_of c side what verdict =
    reply_of side (cond (taken_of verdict) (facility_call_of c side what) c) verdict Note.Clear (to_asker_of verdict) (to_other_of verdict what)
    None

-- "FACILITY (Active)."
unfoldable pub facility_of : Call → Side → What → Reply
facility_of c side what =
    heard_of c (bar_of c (active_of c.phase) true) (passes_facility_of c side what (facility_verdict_of c side what))
