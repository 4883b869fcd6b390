-- DISCONNECT and RELEASE COMPLETE.
use Rattle.std.specs.Prelude.{Some, None, ℕ, List, true, leb}
use Rattle.services.specs.declared.ByService.{ByService}
use Rattle.services.specs.declared.Given.{Given}
use Rattle.user_element.specs.declared.Note.{Note}
use Rattle.user_element.specs.declared.Seen.{Seen}
use Rattle.services.specs.declared.Standing.{Standing}
use Rattle.answer.specs.declared.Answer.{Answer}
use Rattle.message_types.specs.declared.Kind.{Kind}
use Rattle.phases.specs.declared.Phase.{Phase}
use Rattle.sent.specs.declared.side.Side.{Side}
use Rattle.call.specs.declared.Call.{Call}
use Rattle.call.specs.declared.reply.Reply.{Reply}
use Rattle.services.specs.Standing.{in_force_of}
use Rattle.clearing_rules.specs.Closing.{closing_standing_of, heard_answers_of, closing_facilities_of}
use Rattle.cause.specs.Cause.{greatest_cause}
use Rattle.user_element.specs.Element.{seen_of, noted_of, goes_out_of}
use Rattle.sent.specs.Message.{saying_of, bare_of}
use Rattle.sent.specs.Dispatch.{by_one_of}
use Rattle.phases.specs.Phase.{up_of, live_of}
use Rattle.call.specs.Records.{renewed_of}
use Rattle.call.specs.Sound.{in_phase_of}
use Rattle.call.specs.Reply.{bar_of, heard_of, reply_of}

-- the record in Clearing, with service 1 as the last answer left it
unfoldable pub closed_call_of : Call → Standing → Call
closed_call_of c one =
    renewed_of c Phase.Clearing (record { one = one; two = c.standings.two; three = c.standings.three }) c.asking c.meters

-- service 1 after the answers that count: "an acceptance of open service 1 counts first"
abbrev pub one_after_of : Call → ByService Given → Standing
one_after_of c a = closing_standing_of c.standings.one a.one

-- "Passed on with cause and, if service 1 is in force, the element; Clearing."
unfoldable pub passed_on_of : Call → Side → ℕ → ByService Given → Seen → Reply
passed_on_of c side cause a seen =
    reply_of side (closed_call_of c (one_after_of c a)) Answer.Taken (noted_of seen (in_force_of (one_after_of c a))) None
    (saying_of Kind.Disconnect (Some cause) (closing_facilities_of c.standings c.asking.calling a)
    (goes_out_of seen (in_force_of (one_after_of c a))))
    (by_one_of (goes_out_of seen (in_force_of (one_after_of c a))))

-- "DISCONNECT (up)." Number 24: "DISCONNECT, cause over 127".
unfoldable pub disconnect_of : Call → Side → ℕ → ByService Given → List ℕ → Reply
disconnect_of c side cause a e =
    heard_of c (bar_of c (up_of c.phase) (leb cause greatest_cause))
    (passed_on_of c side cause (heard_answers_of side a) (seen_of e c.rights.limit))

-- "Passed on bare; Ended."
unfoldable pub ends_of : Call → Side → Reply
ends_of c side =
    reply_of side (in_phase_of c Phase.Ended) Answer.Taken Note.Clear None (bare_of Kind.ReleaseComplete None) None

-- "RELEASE COMPLETE (up, Clearing)."
unfoldable pub release_complete_of : Call → Side → Reply
release_complete_of c side = heard_of c (bar_of c (live_of c.phase) true) (ends_of c side)
