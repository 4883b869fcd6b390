-- Each wrong core differs from ours at some event, in what the demand beside it fixes.
use Rattle.std.specs.Prelude.{Option, Some, None}
use Rattle.services.specs.declared.ByService.{ByService}
use Prim.Native.Nat.{ℕ, ◌<◌}
use mathlib.Core.List.{List, [], ◌∷◌}
use mathlib.Core.Bool.{Bool, true, false}
use mathlib.Core.Path.{◌≡◌, refl, sym, ◌∙◌, ap}
use native.Mathlib.Omega.{arith}
use Rattle.rights.specs.declared.Rights.{Rights}
use Rattle.rights.specs.declared.Service.{Service}
use Rattle.services.specs.declared.Given.{Given}
use Rattle.services.specs.declared.Request.{Request}
use Rattle.services.specs.declared.Said.{Said}
use Rattle.services.specs.declared.Standing.{Standing}
use Rattle.facility_rules.specs.declared.What.{What}
use Rattle.flow_meter.specs.declared.Meter.{Meter}
use Rattle.phases.specs.declared.Phase.{Phase}
use Rattle.answer.specs.Answer.{number_of}
use Rattle.message_types.specs.declared.Kind.{Kind}
use Rattle.sent.specs.declared.Message.{Message}
use Rattle.sent.specs.declared.side.Side.{Side}
use Rattle.call.specs.declared.Call.{Call}
use Rattle.call.specs.declared.reply.Reply.{Reply}
use Rattle.event.specs.declared.Event.{Event}
use Rattle.call.specs.Step.{step_of}
use Rattle.call.specs.Sound.{fresh_call}
use Rattle.call.specs.Disconnect.{ends_of, release_complete_of}
use Rattle.call_promises.specs.Numbers.{Core}
use Rattle.call_promises.specs.Refusals.{sent_to, altered}
use Rattle.call_promises.specs.Causes.{CauseTold, own, fails, fails_too, OwnWord, TwentyNine}
use Rattle.call_promises.proofs.Opened.{steps_compute}
use Rattle.call_promises.proofs.Causes.{twenty_nine_lem}
use Rattle.call_promises.specs.Sends.{SendsExactly}
use Rattle.call_promises.specs.Carriers.{CarriersExactly}
use Rattle.call_promises.specs.Becomes.{BecomesExactly}
use Rattle.demands.specs.WrongCores.{refuses, fixed, mute, nods, but, opens_both, keeps_marks, keeps_open, credits_one, says29, never29, congests29, never31, leaves_asking, invents, mumbles, returns, forgets_three, leaves_element, charges_three, WrongCores}
use Rattle.demands.proofs.Decided.{same_record, same_numbers, same_messages, same_carrier}

-- a call with every right, in some phase, with services and marks as they may be
abbrev every : Rights
every = record { services = 7; late = true; leave = true; limit = 131; burst = 2; refill = 1 }

abbrev meter : Bool → Meter
meter mark = record { credit = 0; mark = mark; count = 0 }

abbrev call_in : Phase → Standing → Standing → Bool → Call
call_in phase one three mark =
    record {
      reference = 5;
      rights = every;
      phase = phase;
      standings = record { one = one; two = Standing.Unasked; three = three };
      asking = record { calling = false; called = false };
      meters = record { calling = meter mark; called = meter mark };
    }

abbrev saying : Given → Given → ByService Given
saying one three = record { one = one; two = Given.Silent; three = three }

-- an element of three octets
abbrev cue : List ℕ
cue = 126 ∷ 1 ∷ 0 ∷ []

-- what can be looked at in a reply
abbrev bit : Bool → ℕ
bit false = 0
bit true = 1

abbrev from : Option ℕ → ℕ
from None = 128
from (Some n) = n

abbrev cause_in : Option Message → ℕ
cause_in None = 200
cause_in (Some m) = from m.cause

abbrev asks_three : Said → ℕ
asks_three Said.Nothing = 0
asks_three Said.Preferred = 1
asks_three Said.Required = 0
asks_three Said.Accepted = 0
asks_three Said.ByUser = 0
asks_three Said.ByNetwork = 0

abbrev three_in : Option Message → ℕ
three_in None = 0
three_in (Some m) = asks_three m.said.three

abbrev element_in : Option Message → ℕ
element_in None = 0
element_in (Some m) = bit m.element

abbrev is_sent : Option Message → ℕ
is_sent None = 0
is_sent (Some m) = 1

abbrev bearer : Option Service → ℕ
bearer None = 0
bearer (Some Service.One) = 1
bearer (Some Service.Two) = 2
bearer (Some Service.Three) = 3

abbrev is_closed : Standing → ℕ
is_closed Standing.Unasked = 0
is_closed Standing.Preferred = 0
is_closed Standing.Required = 0
is_closed Standing.InForce = 0
is_closed Standing.Closed = 1

abbrev is_up : Phase → ℕ
is_up Phase.Fresh = 0
is_up Phase.Requested = 1
is_up Phase.Alerting = 1
is_up Phase.Active = 1
is_up Phase.Clearing = 0
is_up Phase.Ended = 0

-- an event with its element, at a call
record Trial : Type 0 where
  call : Call
  event : Event
  element : List ℕ

abbrev at : Phase → Standing → Standing → Bool → Event → List ℕ → Trial
at phase one three mark event element = record { call = call_in phase one three mark; event = event; element = element }

abbrev ours : Trial → Reply
ours t = step_of t.call t.event t.element

abbrev theirs : (Call → Reply → Reply) → Trial → Reply
theirs g t = but g t.call t.event t.element

-- a SETUP that asks for nothing, and a tick, at a fresh record
abbrev opened : Trial
opened =
    record {
      call = fresh_call;
      event = Event.Setup 5 every (record { one = Request.Unasked; two = Request.Unasked; three = Request.Unasked });
      element = [];
    }

abbrev early : Trial
early = record { call = fresh_call; event = Event.Tick; element = [] }

abbrev asked : Trial
asked = at Phase.Active Standing.Unasked Standing.Unasked false (Event.Facility Side.Calling What.Preferred) []

-- the called side accepts what the calling side asks for
abbrev agreed : Trial
agreed =
    record {
      call =
          altered (call_in Phase.Active Standing.Unasked Standing.Unasked false) Phase.Active
          (record { one = Standing.Unasked; two = Standing.Unasked; three = Standing.Unasked })
          (record { calling = true; called = false })
          (record { calling = meter false; called = meter false });
      event = Event.Facility Side.Called What.Accept;
      element = [];
    }

abbrev ticked : Trial
ticked = at Phase.Active Standing.Unasked Standing.InForce true Event.Tick []

abbrev unanswered : Trial
unanswered = at Phase.Requested Standing.Preferred Standing.Unasked false (Event.Alerting (saying Given.Silent Given.Silent)) []

abbrev accepted : Trial
accepted = at Phase.Alerting Standing.Unasked Standing.Preferred false (Event.Connect (saying Given.Silent Given.Accepted)) []

abbrev rejected : Trial
rejected = at Phase.Requested Standing.Required Standing.Unasked false (Event.Alerting (saying Given.Rejected Given.Silent)) []

-- the called user rejects it in a DISCONNECT of its own
abbrev declined : Trial
declined = at Phase.Requested Standing.Required Standing.Unasked false (Event.Disconnect Side.Called 29 (saying Given.Rejected Given.Silent)) []

abbrev unpaid : Trial
unpaid = at Phase.Active Standing.Unasked Standing.InForce false (Event.Information Side.Calling false) cue

abbrev released : Trial
released = at Phase.Active Standing.Unasked Standing.Unasked false (Event.ReleaseComplete Side.Calling) []

abbrev cleared : Trial
cleared = at Phase.Active Standing.InForce Standing.Unasked false (Event.Disconnect Side.Calling 16 (saying Given.Silent Given.Silent)) cue

-- service 2 in force while it rings, and none of its messages sent
abbrev counted : Trial
counted =
    record {
      call =
          altered (call_in Phase.Alerting Standing.Unasked Standing.Unasked false) Phase.Alerting
          (record { one = Standing.Unasked; two = Standing.InForce; three = Standing.Unasked })
          (record { calling = false; called = false })
          (record { calling = meter false; called = meter false });
      event = Event.Information Side.Calling false;
      element = cue;
    }

-- what the replies of our core and of a wrong one show there
record Facts : Type 0 where
  before : is_up fresh_call.phase ≡ 0
  opens : is_up (ours opened).call.phase ≡ 1
  proceeds : is_sent (ours opened).dispatch.calling ≡ 1
  taken : number_of (ours opened).answer ≡ 0
  barred : number_of (ours early).answer ≡ 11
  ends : is_up (ours released).call.phase ≡ 0
  asks : (bit (ours asked).call.asking.called ≡ 0) × (bit (theirs opens_both asked).call.asking.called ≡ 1)
  agrees : (bit (ours agreed).call.asking.calling ≡ 0) × (bit (theirs leaves_asking agreed).call.asking.calling ≡ 1)
  ticks : (bit (ours ticked).call.meters.calling.mark ≡ 0) × (bit (theirs keeps_marks ticked).call.meters.calling.mark ≡ 1)
  closes : (is_closed (ours unanswered).call.standings.one ≡ 1) × (is_closed (theirs keeps_open unanswered).call.standings.one ≡ 0)
  credits : ((ours accepted).call.meters.called.credit ≡ 2) × ((theirs credits_one accepted).call.meters.called.credit ≡ 0)
  fills : ((ours ticked).call.meters.calling.credit ≡ 1) × ((theirs invents ticked).call.meters.calling.credit ≡ 2)
  fails : (cause_in (ours rejected).dispatch.calling ≡ 69) × (cause_in (theirs says29 rejected).dispatch.calling ≡ 29)
  declines : (cause_in (ours declined).dispatch.calling ≡ 29) × (cause_in (theirs never29 declined).dispatch.calling ≡ 69)
  clears : (cause_in (ours rejected).dispatch.called ≡ 31) × (cause_in (theirs never31 rejected).dispatch.called ≡ 69)
  congests : cause_in (theirs congests29 unpaid).dispatch.calling ≡ 29
  warns : (cause_in (ours unpaid).dispatch.calling ≡ 43) × (cause_in (theirs mumbles unpaid).dispatch.calling ≡ 128)
  releases : (is_sent (ours released).dispatch.called ≡ 1) × (is_sent (theirs returns released).dispatch.called ≡ 0)
  passes : (three_in (ours asked).dispatch.called ≡ 1) × (three_in (theirs forgets_three asked).dispatch.called ≡ 0)
  rides : (element_in (ours cleared).dispatch.called ≡ 1) × (element_in (theirs leaves_element cleared).dispatch.called ≡ 0)
  counts : (bearer (ours counted).dispatch.carrier ≡ 2) × (bearer (theirs charges_three counted).dispatch.carrier ≡ 3)

facts : Facts
unfolding steps_compute release_complete_of ends_of
facts =
    record {
      before = refl;
      opens = refl;
      proceeds = refl;
      taken = refl;
      barred = refl;
      ends = refl;
      asks = (refl, refl);
      agrees = (refl, refl);
      ticks = (refl, refl);
      closes = (refl, refl);
      credits = (refl, refl);
      fills = (refl, refl);
      fails = (refl, refl);
      declines = (refl, refl);
      clears = (refl, refl);
      congests = refl;
      warns = (refl, refl);
      releases = (refl, refl);
      passes = (refl, refl);
      rides = (refl, refl);
      counts = (refl, refl);
    }

-- a core whose record, message or carrier shows something else at one event
by_record : (f : Core) (t : Trial) (look : Call → ℕ) (m n : ℕ) → look (ours t).call ≡ m → look (f t.call t.event t.element).call ≡ n → (m ≡ n → ⊥) → BecomesExactly f → ⊥
by_record f t look m n p q x d = x (sym p ∙ sym (ap look (same_record f d t.call t.event t.element)) ∙ q)

by_message : (f : Core) (t : Trial) (side : Side) (look : Option Message → ℕ) (m n : ℕ) → look (sent_to (ours t) side) ≡ m → look (sent_to (f t.call t.event t.element) side) ≡ n → (m ≡ n → ⊥) → SendsExactly f → ⊥
by_message f t side look m n p q x d = x (sym p ∙ sym (ap look (same_messages f d t.call t.event t.element side)) ∙ q)

by_carrier : (f : Core) (t : Trial) (m n : ℕ) → bearer (ours t).dispatch.carrier ≡ m → bearer (f t.call t.event t.element).dispatch.carrier ≡ n → (m ≡ n → ⊥) → CarriersExactly f → ⊥
by_carrier f t m n p q x d = x (sym p ∙ sym (ap bearer (same_carrier f d t.call t.event t.element)) ∙ q)

-- a message that is sent with a cause
data Found (s : Option Message) (n : ℕ) : Type 0 where
  found : (m : Message) → s ≡ Some m → m.cause ≡ Some n → Found s n

told_in : (x : Option ℕ) (n : ℕ) → n < 128 → from x ≡ n → x ≡ Some n
told_in None n h e = absurd (omega arith)
told_in (Some k) n h e = ap Some e

found_in : (s : Option Message) (n : ℕ) → n < 128 → cause_in s ≡ n → Found s n
found_in None n h e = absurd (omega arith)
found_in (Some m) n h e = found m refl (told_in m.cause n h e)

-- whose word a cause is
own_cause : {c : Call} {side to : Side} {n : ℕ} {a : ByService Given} {kind : Kind} {x : Option ℕ} → CauseTold c (Event.Disconnect side n a) to kind x → x ≡ Some n
own_cause (own e) = refl
own_cause (fails x) = absurd (elim x [ ])
own_cause (fails_too x) = absurd (elim x [ ])

not_alerting : {n : ℕ} {a : ByService Given} {to : Side} → OwnWord n (Event.Alerting a) to → ⊥
not_alerting x = elim x [ ]

not_informing : {n : ℕ} {side to : Side} {more : Bool} → OwnWord n (Event.Information side more) to → ⊥
not_informing x = elim x [ ]

not_failing : TwentyNine (but says29) → ⊥
not_failing d =
    elim (found_in (theirs says29 rejected).dispatch.calling 29 (omega arith) facts.fails.1) [
      | found m p q ↦ not_alerting (d rejected.call rejected.event rejected.element Side.Calling m p q).1
    ]

pub wrong_cores_lem : WrongCores
wrong_cores_lem =
    record {
      refusing = λ a. by_record (refuses a) opened (λ c. is_up c.phase) 1 0 facts.opens facts.before (omega arith);
      fixing = λ r d.
          let p = same_numbers (fixed r) d opened.call opened.event opened.element ∙ facts.taken in
          let q = same_numbers (fixed r) d early.call early.event early.element ∙ facts.barred in omega arith;
      muting = λ f. by_message (mute f) opened Side.Calling is_sent 1 0 facts.proceeds refl (omega arith);
      nodding = λ f. by_record (nods f) released (λ c. is_up c.phase) 0 1 facts.ends refl (omega arith);
      opening_both = by_record (but opens_both) asked (λ c. bit c.asking.called) 0 1 facts.asks.0 facts.asks.1 (omega arith);
      leaving_open = by_record (but leaves_asking) agreed (λ c. bit c.asking.calling) 0 1 facts.agrees.0 facts.agrees.1 (omega arith);
      keeping_marks = by_record (but keeps_marks) ticked (λ c. bit c.meters.calling.mark) 0 1 facts.ticks.0 facts.ticks.1 (omega arith);
      keeping_open = by_record (but keeps_open) unanswered (λ c. is_closed c.standings.one) 1 0 facts.closes.0 facts.closes.1 (omega arith);
      crediting_one = by_record (but credits_one) accepted (λ c. c.meters.called.credit) 2 0 facts.credits.0 facts.credits.1 (omega arith);
      inventing = by_record (but invents) ticked (λ c. c.meters.calling.credit) 1 2 facts.fills.0 facts.fills.1 (omega arith);
      saying_twenty_nine = by_message (but says29) rejected Side.Calling cause_in 69 29 facts.fails.0 facts.fails.1 (omega arith);
      correcting = by_message (but never29) declined Side.Calling cause_in 29 69 facts.declines.0 facts.declines.1 (omega arith);
      blaming = by_message (but never31) rejected Side.Called cause_in 31 69 facts.clears.0 facts.clears.1 (omega arith);
      mumbling = by_message (but mumbles) unpaid Side.Calling cause_in 43 128 facts.warns.0 facts.warns.1 (omega arith);
      returning = by_message (but returns) released Side.Called is_sent 1 0 facts.releases.0 facts.releases.1 (omega arith);
      forgetting = by_message (but forgets_three) asked Side.Called three_in 1 0 facts.passes.0 facts.passes.1 (omega arith);
      leaving = by_message (but leaves_element) cleared Side.Called element_in 1 0 facts.rides.0 facts.rides.1 (omega arith);
      charging = by_carrier (but charges_three) counted 2 3 facts.counts.0 facts.counts.1 (omega arith);
      misnaming = λ k. not_failing (twenty_nine_lem (but says29) k);
      misquoting = λ k.
          elim (found_in (theirs never29 declined).dispatch.calling 69 (omega arith) facts.declines.1) [
            | found m p q ↦ let z : ◌≡◌ {A = ℕ} 69 29 = cc (own_cause (k.each declined.call declined.event declined.element Side.Calling m p).1, q) in omega arith
          ];
      failing_by_twenty_nine = not_failing;
      congested_by_twenty_nine = λ d.
          elim (found_in (theirs congests29 unpaid).dispatch.calling 29 (omega arith) facts.congests) [
            | found m p q ↦ not_informing (d unpaid.call unpaid.event unpaid.element Side.Calling m p q).1
          ];
    }
