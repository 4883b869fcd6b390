-- USER INFORMATION.
use Rattle.sent.specs.declared.side.BySide.{BySide}
use Rattle.flow_meter.specs.declared.Meter.{Meter}
use Rattle.std.specs.Prelude.{ℕ, List, Bool, true, cond}
use Rattle.flow_meter.specs.declared.passage.Passage.{Passage}
use Rattle.user_element.specs.declared.Note.{Note}
use Rattle.user_element.specs.declared.Seen.{Seen}
use Rattle.answer.specs.declared.Answer.{Answer}
use Rattle.sent.specs.declared.side.Side.{Side}
use Rattle.call.specs.declared.Call.{Call}
use Rattle.call.specs.declared.reply.Reply.{Reply}
use Rattle.services.specs.Standing.{in_force_of}
use Rattle.user_element.specs.Element.{seen_of, whole_of, noted_of}
use Rattle.phases.specs.Phase.{talking_of}
use Rattle.information_rules.specs.Serving.{served_of}
use Rattle.information_rules.specs.Messages.{passage_answer_of, carrier_of, to_sender_of, to_receiver_of}
use Rattle.call.specs.Records.{renewed_of}
use Rattle.call.specs.Reply.{bar_of, refused_of, heard_of, reply_of}
use Rattle.flow_meter.specs.CallMeters.{meter_of, spent_of}

-- the record with other meters
unfoldable pub meters_of : Call → BySide Meter → Call
meters_of c m = renewed_of c c.phase c.standings c.asking m

-- what a side's message meets in its meter
unfoldable pub information_passage_of : Call → Side → Passage
information_passage_of c side =
    served_of (meter_of c.meters side) c.phase side c.rights.late
    (in_force_of c.standings.two)
    (in_force_of c.standings.three)

-- what the passage makes of the call, and the messages
unfoldable pub carried_of : Call → Side → Bool → Passage → Reply
carried_of c side more p =
    reply_of side (meters_of c (spent_of c.meters side p)) (passage_answer_of p) Note.Clear (to_sender_of p) (to_receiver_of p more) (carrier_of p)

-- "17 USER INFORMATION, element absent, under 3 octets or over the limit", "which note 1 also brings". It has the
-- element's note.
unfoldable pub with_element_of : Call → Seen → Reply → Reply
with_element_of c seen r = cond (whole_of seen) r (refused_of c Answer.BadElement (noted_of seen true))

-- 25, 11, then "for USER INFORMATION 17, 13, 14"
unfoldable pub information_of : Call → Side → Bool → List ℕ → Reply
information_of c side more e =
    heard_of c (bar_of c (talking_of c.phase) true)
    (with_element_of c (seen_of e c.rights.limit) (carried_of c side more (information_passage_of c side)))
