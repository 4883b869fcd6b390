-- ALERTING and CONNECT.
use Rattle.std.specs.Prelude.{Some, None, ℕ, List, Bool, true, false, not}
use Rattle.services.specs.declared.ByService.{ByService}
use Rattle.services.specs.declared.Given.{Given}
use Rattle.answering_rules.specs.declared.Fate.{Fate}
use Rattle.user_element.specs.declared.Seen.{Seen}
use Rattle.answer.specs.declared.Answer.{Answer}
use Rattle.message_types.specs.declared.Kind.{Kind}
use Rattle.phases.specs.declared.Phase.{Phase}
use Rattle.call.specs.declared.Call.{Call}
use Rattle.call.specs.declared.reply.Reply.{Reply}
use Rattle.services.specs.Standing.{in_force_of}
use Rattle.answering_rules.specs.Fates.{alerting_fates_of, connect_fates_of}
use Rattle.answering_rules.specs.Effects.{failed_of, settles_of, tells_of, declines_of, in_force_after_of}
use Rattle.cause.specs.Cause.{not_accepted, cleared}
use Rattle.user_element.specs.Element.{seen_of, noted_of, goes_out_of}
use Rattle.sent.specs.Message.{saying_of, bare_of}
use Rattle.sent.specs.Dispatch.{by_one_of, to_users_of}
use Rattle.phases.specs.Phase.{requested_of, connectable_of}
use Rattle.call.specs.Records.{renewed_of}
use Rattle.call.specs.Sound.{in_phase_of}
use Rattle.call.specs.Reply.{bar_of, heard_of}

-- the record in its next phase, with what the answers made of the services
unfoldable pub answered_call_of : Call → Phase → ByService Fate → Call
answered_call_of c next f =
    renewed_of c next (settles_of c.standings f) c.asking (in_force_after_of c.meters c.rights.burst f.three)

-- "Otherwise the message goes on with these answers, and its element if service 1 is in force."
unfoldable pub goes_on_of : Call → Kind → Phase → ByService Fate → Seen → Reply
goes_on_of c kind next f seen =
    record {
      call = answered_call_of c next f;
      answer = Answer.Taken;
      note = noted_of seen (in_force_of (answered_call_of c next f).standings.one);
      dispatch =
          to_users_of (saying_of kind None (tells_of f) (goes_out_of seen (in_force_of (answered_call_of c next f).standings.one))) None
          (by_one_of (goes_out_of seen (in_force_of (answered_call_of c next f).standings.one)));
    }

-- "Required and not accepted: DISCONNECT to the caller with rejectedByUser for each due service not accepted, and to
-- the called user with cause 31; Clearing." The caller hears 69, as EN 300 286-1 has it of each service, of a rejection
-- and of no answer (9.1.1.2.2, 9.2.1.2, 9.3.1.1.2). The message is not carried on, and so its element is not.
unfoldable pub clears_of : Call → ByService Fate → Seen → Reply
clears_of c f seen =
    record {
      call = in_phase_of c Phase.Clearing;
      answer = Answer.Taken;
      note = noted_of seen false;
      dispatch =
          to_users_of (saying_of Kind.Disconnect (Some not_accepted) (declines_of f) false) (bare_of Kind.Disconnect (Some cleared)) None;
    }

-- a required service failed, or none did
abbrev pub answering_of : Call → Kind → Phase → ByService Fate → Seen → Bool → Reply
answering_of c kind next f seen true = clears_of c f seen
answering_of c kind next f seen false = goes_on_of c kind next f seen

-- one message with answers
unfoldable pub answered_of : Call → Kind → Phase → ByService Fate → List ℕ → Reply
answered_of c kind next f e = answering_of c kind next f (seen_of e c.rights.limit) (failed_of f)

-- "ALERTING (Requested)."
unfoldable pub alerting_of : Call → ByService Given → List ℕ → Reply
alerting_of c a e =
    heard_of c (bar_of c (requested_of c.phase) true)
    (answered_of c Kind.Alerting Phase.Alerting (alerting_fates_of c.standings a) e)

-- "CONNECT (Requested, Alerting)." ALERTING came exactly if the call is no longer Requested.
unfoldable pub connect_of : Call → ByService Given → List ℕ → Reply
connect_of c a e =
    heard_of c (bar_of c (connectable_of c.phase) true)
    (answered_of c Kind.Connect Phase.Active (connect_fates_of (not (requested_of c.phase)) c.standings a) e)
