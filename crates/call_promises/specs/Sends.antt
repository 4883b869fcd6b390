-- What each user is sent, exactly: whether a message, and then its kind, its cause, what it says of each service, its
-- level, More data, and whether the event's element goes in it. A constructor for each sentence of the paper; what no
-- sentence sends is not sent. Nothing here names a function by which the step makes a message.
use Rattle.std.specs.Prelude.{Option, Some, None, ℕ, ◌<◌, ◌≤◌, List, ◌⊎◌, Bool, true, false, ◌≡◌, length}
use Rattle.services.specs.declared.ByService.{ByService}
use Rattle.rights.specs.declared.Rights.{Rights}
use Rattle.rights.specs.declared.Service.{Service}
use Rattle.services.specs.declared.Given.{Given}
use Rattle.services.specs.declared.Request.{Request}
use Rattle.services.specs.declared.Said.{Said}
use Rattle.services.specs.declared.Standing.{Standing}
use Rattle.facility_rules.specs.declared.What.{What}
use Rattle.message_types.specs.declared.Kind.{Kind}
use Rattle.phases.specs.declared.Phase.{Phase}
use Rattle.sent.specs.declared.Level.{Level}
use Rattle.sent.specs.declared.Message.{Message}
use Rattle.sent.specs.declared.side.Side.{Side}
use Rattle.call.specs.declared.Call.{Call}
use Rattle.event.specs.declared.Event.{Event}
use Rattle.call_promises.specs.Ranges.{Unsound}
use Rattle.call_promises.specs.Numbers.{Core, Allowed, OutOfRange, WellFormed, Has, ServesTwo, ServesThree, AskedRequired, NotGranted, NotOpen, meter_from, other}
use Rattle.call_promises.specs.Notes.{LacksRequired, Open, NotCarried, limit_for}
use Rattle.call_promises.specs.Handling.{Explicit}
use Rattle.call_promises.specs.Services.{answer_for, standing_for}
use Rattle.call_promises.specs.Refusals.{sent_to}

-- an event that none of 25, 12, 11 and 24 keeps from being acted on
pub record Hears (c : Call) (e : Event) : Type 0 where
  pub sound : Unsound c → ⊥
  pub allowed : Allowed e c.phase
  pub ranged : OutOfRange e → ⊥

-- the flag b is set exactly if P holds
pub record Flags (b : Bool) (P : Type 0) : Type 0 where
  pub so : b ≡ true → P
  pub back : P → b ≡ true

-- the event's element goes out in the event's own message: it has none of the notes 1, 2 and 3
pub record Rides (c : Call) (e : Event) (l : List ℕ) : Type 0 where
  pub formed : WellFormed l
  pub limit : length l ≤ limit_for c e
  pub carried : NotCarried c e → ⊥

-- a message that says this of services 1, 2 and 3; one that says nothing; and CONGESTION CONTROL, "with cause 43"
abbrev pub telling : Kind → Option ℕ → Said → Said → Said → Bool → Message
telling kind cause one two three element =
    record {
      kind = kind;
      cause = cause;
      level = Level.Absent;
      said = record { one = one; two = two; three = three };
      more = false;
      element = element;
    }

abbrev pub curt : Kind → Option ℕ → Message
curt kind cause = telling kind cause Said.Nothing Said.Nothing Said.Nothing false

abbrev pub congested : Level → Message
congested level =
    record {
      kind = Kind.CongestionControl;
      cause = Some 43;
      level = level;
      said = record { one = Said.Nothing; two = Said.Nothing; three = Said.Nothing };
      more = false;
      element = false;
    }

abbrev pub informing : Bool → Message
informing more =
    record {
      kind = Kind.UserInformation;
      cause = None;
      level = Level.Absent;
      said = record { one = Said.Nothing; two = Said.Nothing; three = Said.Nothing };
      more = more;
      element = true;
    }

-- SETUP, to the caller: "rejectedByNetwork for every asked service the rights lack". "An implicit refusal is silent."
pub data Denied (r : Rights) (k : Service) (q : Request) : Said → Type 0 where
  denied : Explicit q → (Has r k → ⊥) → Denied r k q Said.ByNetwork
  undenied : (Explicit q → Has r k) → Denied r k q Said.Nothing

-- SETUP, to the called user: "SETUP goes on with the remaining requests"
pub data Remaining (r : Rights) (k : Service) (q : Request) : Said → Type 0 where
  preferred : q ≡ Request.Preferred → Has r k → Remaining r k q Said.Preferred
  required : q ≡ Request.Required → Has r k → Remaining r k q Said.Required
  gone : (Explicit q → Has r k → ⊥) → Remaining r k q Said.Nothing

-- "ALERTING. Answers to 1 and 2 are due. CONNECT. The answer to 3 is due, and to 1 if no ALERTING came; service 2
-- without ALERTING counts as unanswered." ALERTING came exactly if the phase is no longer Requested.
pub data Due (p : Phase) : Event → Service → Given → Type 0 where
  ringing : {a : ByService Given} {k : Service} {g : Given} → (k ≡ Service.Three → ⊥) → answer_for a k ≡ g → Due p (Event.Alerting a) k g
  third : {a : ByService Given} {g : Given} → a.three ≡ g → Due p (Event.Connect a) Service.Three g
  first : {a : ByService Given} {g : Given} → p ≡ Phase.Requested → a.one ≡ g → Due p (Event.Connect a) Service.One g
  second : {a : ByService Given} {g : Given} → p ≡ Phase.Requested → Given.Silent ≡ g → Due p (Event.Connect a) Service.Two g

-- "Answers not due or not asked are ignored": an answer that counts
pub record Counts (c : Call) (e : Event) (k : Service) (g : Given) : Type 0 where
  pub due : Due c.phase e k g
  pub asked : Open (standing_for c.standings k)

-- Where the message goes on: how a service stands after ALERTING or CONNECT, and what the caller is told of it.
-- "Accepted: in force. Preferred and not accepted: closed, rejectedByUser to the caller."
pub data Settles (c : Call) (e : Event) (k : Service) : Standing → Said → Type 0 where
  accepted : Counts c e k Given.Accepted → Settles c e k Standing.InForce Said.Accepted
  declined : {g : Given} → Counts c e k g → (g ≡ Given.Accepted → ⊥) → Settles c e k Standing.Closed Said.ByUser
  kept : ((g : Given) → Counts c e k g → ⊥) → Settles c e k (standing_for c.standings k) Said.Nothing

-- "Required and not accepted"
pub record FailsAt (c : Call) (e : Event) (k : Service) (g : Given) : Type 0 where
  pub due : Due c.phase e k g
  pub required : standing_for c.standings k ≡ Standing.Required
  pub refused : g ≡ Given.Accepted → ⊥

-- "DISCONNECT to the caller with rejectedByUser for each due service not accepted"
pub data TurnedDown (c : Call) (e : Event) (k : Service) : Said → Type 0 where
  turned : {g : Given} → Counts c e k g → (g ≡ Given.Accepted → ⊥) → TurnedDown c e k Said.ByUser
  unturned : ((g : Given) → Counts c e k g → g ≡ Given.Accepted) → TurnedDown c e k Said.Nothing

-- ALERTING and CONNECT. "Required and not accepted: DISCONNECT to the caller .., and to the called user with cause 31
-- .. Otherwise the message goes on with these answers, and its element if service 1 is in force." Of the caller's cause
-- EN 300 286-1 has for service 1 (9.1.1.2.2), service 2 (9.2.1.2) and service 3 (9.3.1.1.2), where it is rejected and
-- where it is not answered, and for service 2 where no ALERTING came: "shall clear the call towards the calling network
-- indicating cause #69"
pub data Answering (c : Call) (l : List ℕ) (e : Event) (kind : Kind) : Side → Message → Type 0 where
  on :
      {s t u : Standing} {one two three : Said} {b : Bool} → ((k : Service) (g : Given) → FailsAt c e k g → ⊥) →
      Settles c e Service.One s one → Settles c e Service.Two t two → Settles c e Service.Three u three → Flags b (Rides c e l) →
      Answering c l e kind Side.Calling (telling kind None one two three b)
  clears :
      {k : Service} {g : Given} {one two three : Said} → FailsAt c e k g → TurnedDown c e Service.One one → TurnedDown c e Service.Two two → TurnedDown c e Service.Three three →
      Answering c l e kind Side.Calling (telling Kind.Disconnect (Some 69) one two three false)
  clears_too : {k : Service} {g : Given} → FailsAt c e k g → Answering c l e kind Side.Called (curt Kind.Disconnect (Some 31))

-- USER INFORMATION whose element is neither absent, malformed nor over the limit (17)
pub record Intact (c : Call) (l : List ℕ) : Type 0 where
  pub formed : WellFormed l
  pub limit : length l ≤ c.rights.limit

-- "from the calling side, with late delivery and service 2 in force, its remaining count first; then service 3"
pub record CountPays (c : Call) (l : List ℕ) (side : Side) : Type 0 where
  pub intact : Intact c l
  pub serves : ServesTwo c side
  pub left : (meter_from c side).count < 2

pub record CreditServes (c : Call) (l : List ℕ) (side : Side) : Type 0 where
  pub intact : Intact c l
  pub spent : ServesTwo c side → 2 ≤ (meter_from c side).count
  pub serves : ServesThree c

pub record CreditPays (c : Call) (l : List ℕ) (side : Side) : Type 0 where
  pub credit : CreditServes c l side
  pub left : 0 < (meter_from c side).credit

-- "The first message dropped for credit under service 3"
pub record FirstDropped (c : Call) (l : List ℕ) (side : Side) : Type 0 where
  pub credit : CreditServes c l side
  pub gone : (meter_from c side).credit ≡ 0
  pub unmarked : (meter_from c side).mark ≡ false

-- FACILITY that none of 18, 16 and 15 refuses, and what it says of service 3
pub record Agreed (c : Call) (e : Event) : Type 0 where
  pub preferred : AskedRequired e → ⊥
  pub granted : NotGranted c e → ⊥
  pub opened : NotOpen c e → ⊥

pub data Worded : What → Said → Type 0 where
  request : Worded What.Preferred Said.Preferred
  accept : Worded What.Accept Said.Accepted
  reject : Worded What.Reject Said.ByUser

-- DISCONNECT. "From the called side, rejections of the caller's open requests go on too, and an acceptance of open
-- service 1 counts first and goes on." The caller's own FACILITY request for service 3 is one of its open requests.
abbrev pub Pending : Call → Service → Type 0
Pending c k = Open (standing_for c.standings k) ⊎ ((k ≡ Service.Three) × (c.asking.calling ≡ true))

pub record Rejecting (c : Call) (side : Side) (k : Service) (g : Given) : Type 0 where
  pub called : side ≡ Side.Called
  pub pending : Pending c k
  pub given : g ≡ Given.Rejected

pub record Accepting (c : Call) (side : Side) (k : Service) (g : Given) : Type 0 where
  pub called : side ≡ Side.Called
  pub first : k ≡ Service.One
  pub asked : Open c.standings.one
  pub given : g ≡ Given.Accepted

pub data LastWord (c : Call) (side : Side) (k : Service) (g : Given) : Said → Type 0 where
  rejects : Rejecting c side k g → LastWord c side k g Said.ByUser
  accepts : Accepting c side k g → LastWord c side k g Said.Accepted
  mute : (Rejecting c side k g → ⊥) → (Accepting c side k g → ⊥) → LastWord c side k g Said.Nothing

-- What a user is sent at an event that 25, 12, 11 and 24 do not keep from being looked at.
pub data Sends (c : Call) (l : List ℕ) : Event → Side → Message → Type 0 where
  -- "If a required service is not in the rights: RELEASE COMPLETE to the caller, cause 50"
  released :
      {n : ℕ} {r : Rights} {q : ByService Request} {one two three : Said} → LacksRequired r q →
      Denied r Service.One q.one one → Denied r Service.Two q.two two → Denied r Service.Three q.three three →
      Sends c l (Event.Setup n r q) Side.Calling (telling Kind.ReleaseComplete (Some 50) one two three false)
  -- "Otherwise .. CALL PROCEEDING to the caller"
  proceeding :
      {n : ℕ} {r : Rights} {q : ByService Request} {one two three : Said} → (LacksRequired r q → ⊥) →
      Denied r Service.One q.one one → Denied r Service.Two q.two two → Denied r Service.Three q.three three →
      Sends c l (Event.Setup n r q) Side.Calling (telling Kind.CallProceeding None one two three false)
  -- "Otherwise SETUP goes on with the remaining requests and the element"
  setup :
      {n : ℕ} {r : Rights} {q : ByService Request} {one two three : Said} {b : Bool} → (LacksRequired r q → ⊥) →
      Remaining r Service.One q.one one → Remaining r Service.Two q.two two → Remaining r Service.Three q.three three →
      Flags b (Rides c (Event.Setup n r q) l) →
      Sends c l (Event.Setup n r q) Side.Called (telling Kind.Setup None one two three b)
  alerting :
      {a : ByService Given} {side : Side} {m : Message} → Answering c l (Event.Alerting a) Kind.Alerting side m → Sends c l (Event.Alerting a) side m
  connect :
      {a : ByService Given} {side : Side} {m : Message} → Answering c l (Event.Connect a) Kind.Connect side m → Sends c l (Event.Connect a) side m
  -- a message that is paid for goes on; "More data goes on unchanged"
  passes :
      {side to : Side} {more : Bool} → to ≡ other side → CountPays c l side ⊎ CreditPays c l side →
      Sends c l (Event.Information side more) to (informing more)
  -- "sends not ready, cause 43, to its sender"
  warns :
      {side to : Side} {more : Bool} → to ≡ side → FirstDropped c l side →
      Sends c l (Event.Information side more) to (congested Level.NotReady)
  -- "Request, accept or reject for service 3, passed to the other user when taken"
  facility :
      {side to : Side} {what : What} {s : Said} → to ≡ other side → Agreed c (Event.Facility side what) → Worded what s →
      Sends c l (Event.Facility side what) to (telling Kind.Facility None Said.Nothing Said.Nothing s false)
  -- "16 sends the asker FACILITY with rejectedByNetwork"
  refuses :
      {side to : Side} {what : What} → to ≡ side → (AskedRequired (Event.Facility side what) → ⊥) → NotGranted c (Event.Facility side what) →
      Sends c l (Event.Facility side what) to (telling Kind.Facility None Said.Nothing Said.Nothing Said.ByNetwork false)
  -- "Passed on with cause and, if service 1 is in force, the element"
  disconnect :
      {side to : Side} {cause : ℕ} {a : ByService Given} {one two three : Said} {b : Bool} → to ≡ other side →
      LastWord c side Service.One a.one one → LastWord c side Service.Two a.two two → LastWord c side Service.Three a.three three →
      Flags b (Rides c (Event.Disconnect side cause a) l) →
      Sends c l (Event.Disconnect side cause a) to (telling Kind.Disconnect (Some cause) one two three b)
  -- "Passed on bare"
  release : {side to : Side} → to ≡ other side → Sends c l (Event.ReleaseComplete side) to (curt Kind.ReleaseComplete None)
  -- "A tick with the mark set clears it and sends ready, with cause 43 too"; "without service 3 in Active it does
  -- nothing"
  ready : {side : Side} → ServesThree c → (meter_from c side).mark ≡ true → Sends c l Event.Tick side (congested Level.Ready)

-- P holds of a message exactly if it is what is sent: of none where nothing is
abbrev pub IsWhatIsSent : (Message → Type 0) → Option Message → Type 0
IsWhatIsSent P s = (m : Message) → (s ≡ Some m → P m) × (P m → s ≡ Some m)

-- SENDS. For every record, event, element and side: what that side is sent, and whether it is sent anything.
abbrev pub SendsExactly : Core → Type 0
SendsExactly f =
    (c : Call) (e : Event) (l : List ℕ) (side : Side) → IsWhatIsSent (λ m. Hears c e × Sends c l e side m) (sent_to (f c e l) side)
