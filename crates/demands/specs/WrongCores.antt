-- Cores that are no core of ours, each with the demand that it does not meet: those that the paper names, "always
-- refuses, has one fixed reply, sends nothing, or handles only SETUP and nods later"; and ours with its replies
-- changed, so that the rule named is broken (by some of them another besides: what is changed is the reply, whatever
-- the event was).
use Rattle.std.specs.Prelude.{Option, Some, None, ℕ, ◌+◌, List, Bool, true, false, cond, ◌&&◌, ◌||◌, eqb, ltb}
use Rattle.services.specs.declared.ByService.{ByService}
use Rattle.sent.specs.declared.side.BySide.{BySide}
use Rattle.rights.specs.declared.Service.{Service}
use Rattle.services.specs.declared.Said.{Said}
use Rattle.services.specs.declared.Standing.{Standing}
use Rattle.user_element.specs.declared.Note.{Note}
use Rattle.answer.specs.declared.Answer.{Answer}
use Rattle.flow_meter.specs.declared.Meter.{Meter}
use Rattle.sent.specs.declared.Message.{Message}
use Rattle.sent.specs.declared.dispatch.Dispatch.{Dispatch}
use Rattle.message_types.specs.Kind.{kind_octet}
use Rattle.call.specs.declared.Call.{Call}
use Rattle.call.specs.declared.reply.Reply.{Reply}
use Rattle.event.specs.declared.Event.{Event}
use Rattle.call.specs.Step.{step_of}
use Rattle.table.specs.Choice.{opens_of}
use Rattle.call_promises.specs.Numbers.{Core, AnswersExactly}
use Rattle.call_promises.specs.Refusals.{altered}
use Rattle.call_promises.specs.Sends.{SendsExactly}
use Rattle.call_promises.specs.Causes.{Causes, TwentyNine}
use Rattle.call_promises.specs.Carriers.{CarriersExactly}
use Rattle.call_promises.specs.Becomes.{BecomesExactly}

-- leaves the record and sends nothing
abbrev pub idle : Call → Answer → Reply
idle c a =
    record {
      call = c;
      answer = a;
      note = Note.Clear;
      dispatch = record { calling = None; called = None; carrier = None };
    }

-- is idle at every event, with any answers
abbrev pub refuses : (Call → Event → List ℕ → Answer) → Core
refuses a c e l = idle c (a c e l)

abbrev pub fixed : Reply → Core
fixed r c e l = r

abbrev pub sending : Reply → Dispatch → Reply
sending r dispatch = record { call = r.call; answer = r.answer; note = r.note; dispatch = dispatch }

abbrev pub with_sent : Reply → Option Message → Option Message → Reply
with_sent r calling called =
    sending r (record { calling = calling; called = called; carrier = r.dispatch.carrier })

-- does what a core does, but for its messages
abbrev pub mute : Core → Core
mute f c e l = with_sent (f c e l) None None

-- does what a core does at SETUP, and later answers 0 and does nothing
abbrev pub nods : Core → Core
nods f c e l = cond (opens_of e) (f c e l) (idle c Answer.Taken)

-- our core, with its reply changed afterwards
abbrev pub but : (Call → Reply → Reply) → Core
but g c e l = g c (step_of c e l)

-- the reply with other services, requests and meters in its record
abbrev pub holding : Reply → ByService Standing → BySide Bool → BySide Meter → Reply
holding r standings asking meters =
    record {
      call = altered r.call r.call.phase standings asking meters;
      answer = r.answer;
      note = r.note;
      dispatch = r.dispatch;
    }

abbrev pub asking_but : Reply → BySide Bool → Reply
asking_but r asking = holding r r.call.standings asking r.call.meters

abbrev pub meters_but : Reply → Meter → Meter → Reply
meters_but r calling called =
    holding r r.call.standings r.call.asking (record { calling = calling; called = called })

abbrev pub with_credit : Meter → ℕ → Meter
with_credit m n = record { credit = n; mark = m.mark; count = m.count }

-- a request of the calling side opens both, so that it can accept its own
abbrev pub opens_both : Call → Reply → Reply
opens_both c r =
    asking_but r
    (record { calling = r.call.asking.calling; called = r.call.asking.calling || r.call.asking.called })

-- a request that is answered stays open
abbrev pub leaves_asking : Call → Reply → Reply
leaves_asking c r =
    asking_but r
    (record {
      calling = c.asking.calling || r.call.asking.calling;
      called = c.asking.called || r.call.asking.called;
    })

-- a mark that is set stays, so that every tick sends ready
abbrev pub keeps_mark : Meter → Meter → Meter
keeps_mark m n = record { credit = n.credit; mark = m.mark || n.mark; count = n.count }

abbrev pub keeps_marks : Call → Reply → Reply
keeps_marks c r =
    meters_but r (keeps_mark c.meters.calling r.call.meters.calling) (keeps_mark c.meters.called r.call.meters.called)

-- service 1, preferred and not accepted, stays open, and a later DISCONNECT revives it
abbrev pub stays : Standing → Standing → Standing
stays Standing.Unasked t = t
stays Standing.Preferred Standing.Unasked = Standing.Unasked
stays Standing.Preferred Standing.Preferred = Standing.Preferred
stays Standing.Preferred Standing.Required = Standing.Required
stays Standing.Preferred Standing.InForce = Standing.InForce
stays Standing.Preferred Standing.Closed = Standing.Preferred
stays Standing.Required t = t
stays Standing.InForce t = t
stays Standing.Closed t = t

abbrev pub keeps_open : Call → Reply → Reply
keeps_open c r =
    holding r
    (record {
      one = stays c.standings.one r.call.standings.one;
      two = r.call.standings.two;
      three = r.call.standings.three;
    })
    r.call.asking r.call.meters

-- credit is given to the calling direction alone
abbrev pub smaller : ℕ → ℕ → ℕ
smaller m n = cond (ltb m n) m n

abbrev pub credits_one : Call → Reply → Reply
credits_one c r =
    meters_but r r.call.meters.calling
    (with_credit r.call.meters.called (smaller c.meters.called.credit r.call.meters.called.credit))

-- every event gives the calling direction a credit
abbrev pub invents : Call → Reply → Reply
invents c r =
    meters_but r (with_credit r.call.meters.calling (r.call.meters.calling.credit + 1)) r.call.meters.called

-- messages with something changed in each
abbrev pub in_each : (Message → Message) → Option Message → Option Message
in_each g None = None
in_each g (Some m) = Some (g m)

abbrev pub with_cause : Message → Option ℕ → Message
with_cause m cause =
    record { kind = m.kind; cause = cause; level = m.level; said = m.said; more = m.more; element = m.element }

-- the cause new wherever it was old
abbrev pub renamed : ℕ → ℕ → Option ℕ → Option ℕ
renamed old new None = None
renamed old new (Some n) = Some (cond (eqb n old) new n)

-- the caller hears 29 where a required service fails
abbrev pub says29 : Call → Reply → Reply
says29 c r = with_sent r (in_each (λ m. with_cause m (renamed 69 29 m.cause)) r.dispatch.calling) r.dispatch.called

-- the caller never hears 29: the called user's own goes on as 69
abbrev pub never29 : Call → Reply → Reply
never29 c r = with_sent r (in_each (λ m. with_cause m (renamed 29 69 m.cause)) r.dispatch.calling) r.dispatch.called

-- the called user never hears 31: where a required service fails it hears 69
abbrev pub never31 : Call → Reply → Reply
never31 c r = with_sent r r.dispatch.calling (in_each (λ m. with_cause m (renamed 31 69 m.cause)) r.dispatch.called)

-- congestion is told with cause 29
abbrev pub congests29 : Call → Reply → Reply
congests29 c r =
    with_sent r (in_each (λ m. with_cause m (renamed 43 29 m.cause)) r.dispatch.calling)
    (in_each (λ m. with_cause m (renamed 43 29 m.cause)) r.dispatch.called)

-- congestion is told without its cause
abbrev pub causeless : Message → Message
causeless m = cond (eqb (kind_octet m.kind) 0x79) (with_cause m None) m

abbrev pub mumbles : Call → Reply → Reply
mumbles c r = with_sent r (in_each causeless r.dispatch.calling) (in_each causeless r.dispatch.called)

-- RELEASE COMPLETE goes back to its sender, and is not passed on
abbrev pub cause_absent : Option ℕ → Bool
cause_absent None = true
cause_absent (Some n) = false

abbrev pub bare_release : Option Message → Bool
bare_release None = false
bare_release (Some m) = eqb (kind_octet m.kind) 0x5A && cause_absent m.cause

abbrev pub returns : Call → Reply → Reply
returns c r =
    cond (bare_release r.dispatch.calling || bare_release r.dispatch.called) (with_sent r r.dispatch.called r.dispatch.calling) r

-- no message says anything of service 3
abbrev pub without_three : Message → Message
without_three m =
    record {
      kind = m.kind;
      cause = m.cause;
      level = m.level;
      said = record { one = m.said.one; two = m.said.two; three = Said.Nothing };
      more = m.more;
      element = m.element;
    }

abbrev pub forgets_three : Call → Reply → Reply
forgets_three c r = with_sent r (in_each without_three r.dispatch.calling) (in_each without_three r.dispatch.called)

-- the element of an event that is passed on stays behind
abbrev pub without_element : Message → Message
without_element m =
    record { kind = m.kind; cause = m.cause; level = m.level; said = m.said; more = m.more; element = false }

abbrev pub leaves_element : Call → Reply → Reply
leaves_element c r = with_sent r (in_each without_element r.dispatch.calling) (in_each without_element r.dispatch.called)

-- service 3 is said to carry what service 2's count paid for
abbrev pub three_for_two : Option Service → Option Service
three_for_two None = None
three_for_two (Some Service.One) = Some Service.One
three_for_two (Some Service.Two) = Some Service.Three
three_for_two (Some Service.Three) = Some Service.Three

abbrev pub charges_three : Call → Reply → Reply
charges_three c r =
    sending r
    (record {
      calling = r.dispatch.calling;
      called = r.dispatch.called;
      carrier = three_for_two r.dispatch.carrier;
    })

-- SHUT OUT. None of these meets the demand that stands beside it.
pub record WrongCores : Type 0 where
  pub refusing : (a : Call → Event → List ℕ → Answer) → BecomesExactly (refuses a) → ⊥
  pub fixing : (r : Reply) → AnswersExactly (fixed r) → ⊥
  pub muting : (f : Core) → SendsExactly (mute f) → ⊥
  pub nodding : (f : Core) → BecomesExactly (nods f) → ⊥
  pub opening_both : BecomesExactly (but opens_both) → ⊥
  pub leaving_open : BecomesExactly (but leaves_asking) → ⊥
  pub keeping_marks : BecomesExactly (but keeps_marks) → ⊥
  pub keeping_open : BecomesExactly (but keeps_open) → ⊥
  pub crediting_one : BecomesExactly (but credits_one) → ⊥
  pub inventing : BecomesExactly (but invents) → ⊥
  pub saying_twenty_nine : SendsExactly (but says29) → ⊥
  pub correcting : SendsExactly (but never29) → ⊥
  pub blaming : SendsExactly (but never31) → ⊥
  pub mumbling : SendsExactly (but mumbles) → ⊥
  pub returning : SendsExactly (but returns) → ⊥
  pub forgetting : SendsExactly (but forgets_three) → ⊥
  pub leaving : SendsExactly (but leaves_element) → ⊥
  pub charging : CarriersExactly (but charges_three) → ⊥
  -- and of the causes alone
  pub misnaming : Causes (but says29) → ⊥
  pub misquoting : Causes (but never29) → ⊥
  pub failing_by_twenty_nine : TwentyNine (but says29) → ⊥
  pub congested_by_twenty_nine : TwentyNine (but congests29) → ⊥
