-- What becomes of the record, exactly: every field of the next record after a single event, from any record. A
-- constructor for each sentence of the paper. Nothing here names a function by which the step makes a record.
use Rattle.services.specs.declared.ByService.{ByService}
use Rattle.sent.specs.declared.side.BySide.{BySide}
use Rattle.std.specs.Prelude.{ℕ, ◌+◌, ◌-◌, ◌<◌, ◌≤◌, List, [], ◌∷◌, ◌⊎◌, Bool, true, false, ◌≡◌}
use Rattle.rights.specs.declared.Rights.{Rights}
use Rattle.rights.specs.declared.Service.{Service}
use Rattle.services.specs.declared.Given.{Given}
use Rattle.services.specs.declared.Request.{Request}
use Rattle.services.specs.declared.Said.{Said}
use Rattle.services.specs.declared.Standing.{Standing}
use Rattle.facility_rules.specs.declared.What.{What}
use Rattle.flow_meter.specs.declared.Meter.{Meter}
use Rattle.phases.specs.declared.Phase.{Phase}
use Rattle.sent.specs.declared.side.Side.{Side}
use Rattle.call.specs.declared.Call.{Call}
use Rattle.event.specs.declared.Event.{Event}
use Rattle.call_promises.specs.Numbers.{Core, Has, ServesThree, meter_from, other}
use Rattle.call_promises.specs.Notes.{LacksRequired}
use Rattle.call_promises.specs.Refusals.{altered}
use Rattle.call_promises.specs.Handling.{Explicit, Implied}
use Rattle.call_promises.specs.Sends.{Hears, Counts, Settles, FailsAt, CountPays, CreditPays, FirstDropped, Agreed, Accepting}
use Rattle.call_promises.specs.Sound.{Offered, run_of}
use Rattle.call.specs.Sound.{fresh_call}

-- the record in another phase; with the meter of what a side sends; with a side's own request
abbrev pub turned_to : Call → Phase → Call
turned_to c phase = altered c phase c.standings c.asking c.meters

abbrev pub with_meter : Call → Side → Meter → Call
with_meter c Side.Calling m =
    altered c c.phase c.standings c.asking (record { calling = m; called = c.meters.called })
with_meter c Side.Called m =
    altered c c.phase c.standings c.asking (record { calling = c.meters.calling; called = m })

abbrev pub asking_from : Call → Side → Bool → Call
asking_from c Side.Calling b =
    altered c c.phase c.standings (record { calling = b; called = c.asking.called }) c.meters
asking_from c Side.Called b =
    altered c c.phase c.standings (record { calling = c.asking.calling; called = b }) c.meters

-- "Coming into force, service 3 gives each direction X credits"
abbrev pub topped : Meter → ℕ → Meter
topped m n = record { credit = n; mark = m.mark; count = m.count }

abbrev pub topped_both : Call → BySide Meter
topped_both c =
    record { calling = topped c.meters.calling c.rights.burst; called = topped c.meters.called c.rights.burst }

-- SETUP. How a service stands, whether the call goes on or ends: "Each service is not asked, preferred or required";
-- one that is asked for and lacking in the rights is closed; "Implicit service 1 is then in force."
pub data Stands (r : Rights) (k : Service) (q : Request) (Implicit : Type 0) : Standing → Type 0 where
  unasked : q ≡ Request.Unasked → (Implicit → ⊥) → Stands r k q Implicit Standing.Unasked
  preferred : q ≡ Request.Preferred → Has r k → Stands r k q Implicit Standing.Preferred
  required : q ≡ Request.Required → Has r k → Stands r k q Implicit Standing.Required
  implicit : Implicit → Has r k → Stands r k q Implicit Standing.InForce
  lacking : Explicit q ⊎ Implicit → (Has r k → ⊥) → Stands r k q Implicit Standing.Closed

-- "If a required service is not in the rights: .. Ended. Otherwise .. Requested"
pub data Opens (r : Rights) (q : ByService Request) : Phase → Type 0 where
  ended : LacksRequired r q → Opens r q Phase.Ended
  requested : (LacksRequired r q → ⊥) → Opens r q Phase.Requested

-- "SETUP fills the whole record, used for one call"
abbrev pub new_record : ℕ → Rights → Phase → Standing → Standing → Standing → Call
new_record n r p one two three =
    record {
      reference = n;
      rights = r;
      phase = p;
      standings = record { one = one; two = two; three = three };
      asking = record { calling = false; called = false };
      meters =
          record {
            calling = record { credit = 0; mark = false; count = 0 };
            called = record { credit = 0; mark = false; count = 0 };
          };
    }

-- ALERTING and CONNECT. "Required and not accepted: .. Clearing." Otherwise the next phase, each service as it settles,
-- and credit where service 3 is accepted.
pub data Earns (c : Call) (e : Event) : BySide Meter → Type 0 where
  earns : Counts c e Service.Three Given.Accepted → Earns c e (topped_both c)
  earns_not : (Counts c e Service.Three Given.Accepted → ⊥) → Earns c e c.meters

pub data Answered (c : Call) (e : Event) (next : Phase) : Call → Type 0 where
  on :
      {s t u : Standing} {one two three : Said} {m : BySide Meter} → ((k : Service) (g : Given) → FailsAt c e k g → ⊥) →
      Settles c e Service.One s one → Settles c e Service.Two t two → Settles c e Service.Three u three → Earns c e m →
      Answered c e next (altered c next (record { one = s; two = t; three = u }) c.asking m)
  -- an acceptance beside the failure leaves no trace: docs/DECISIONS.md, One call 16
  clears : {k : Service} {g : Given} → FailsAt c e k g → Answered c e next (turned_to c Phase.Clearing)

-- DISCONNECT. "an acceptance of open service 1 counts first"
pub data Last (c : Call) (side : Side) (g : Given) : Standing → Type 0 where
  accepted : Accepting c side Service.One g → Last c side g Standing.InForce
  as_before : (Accepting c side Service.One g → ⊥) → Last c side g c.standings.one

-- "A tick adds Y, to at most X."
pub data TickAdds (r : Rights) (n : ℕ) : ℕ → Type 0 where
  adds : n + r.refill ≤ r.burst → TickAdds r n (n + r.refill)
  tops : r.burst < n + r.refill → TickAdds r n r.burst

-- What the record is after an event that is acted on.
pub data Becomes (c : Call) (l : List ℕ) : Event → Call → Type 0 where
  setup :
      {n : ℕ} {r : Rights} {q : ByService Request} {p : Phase} {one two three : Standing} → Opens r q p →
      Stands r Service.One q.one (Implied r q l) one → Stands r Service.Two q.two ⊥ two → Stands r Service.Three q.three ⊥ three →
      Becomes c l (Event.Setup n r q) (new_record n r p one two three)
  alerting : {a : ByService Given} {d : Call} → Answered c (Event.Alerting a) Phase.Alerting d → Becomes c l (Event.Alerting a) d
  connect : {a : ByService Given} {d : Call} → Answered c (Event.Connect a) Phase.Active d → Becomes c l (Event.Connect a) d
  -- "service 2, two messages each way"
  counts :
      {side : Side} {more : Bool} → CountPays c l side →
      Becomes c l (Event.Information side more)
      (with_meter c side (record { credit = (meter_from c side).credit; mark = (meter_from c side).mark; count = (meter_from c side).count + 1 }))
  -- "a message spends one"
  pays :
      {side : Side} {more : Bool} → CreditPays c l side →
      Becomes c l (Event.Information side more)
      (with_meter c side (record { credit = (meter_from c side).credit - 1; mark = (meter_from c side).mark; count = (meter_from c side).count }))
  -- "The first message dropped for credit under service 3 sets that direction's mark"
  marks :
      {side : Side} {more : Bool} → FirstDropped c l side →
      Becomes c l (Event.Information side more)
      (with_meter c side (record { credit = (meter_from c side).credit; mark = true; count = (meter_from c side).count }))
  -- 17, 13, 14 without service 3, and every later 14 for want of credit
  drops :
      {side : Side} {more : Bool} → (CountPays c l side → ⊥) → (CreditPays c l side → ⊥) → (FirstDropped c l side → ⊥) →
      Becomes c l (Event.Information side more) c
  -- "Each side has its own open request. Accept puts the service in force and closes both; reject closes the one."
  asks : {side : Side} → Agreed c (Event.Facility side What.Preferred) → Becomes c l (Event.Facility side What.Preferred) (asking_from c side true)
  accepts :
      {side : Side} → Agreed c (Event.Facility side What.Accept) →
      Becomes c l (Event.Facility side What.Accept)
      (altered c c.phase (record { one = c.standings.one; two = c.standings.two; three = Standing.InForce })
      (record { calling = false; called = false }) (topped_both c))
  rejects :
      {side : Side} → Agreed c (Event.Facility side What.Reject) → Becomes c l (Event.Facility side What.Reject) (asking_from c (other side) false)
  -- 18, 16 and 15
  refuses : {side : Side} {what : What} → (Agreed c (Event.Facility side what) → ⊥) → Becomes c l (Event.Facility side what) c
  -- "Passed on ..; Clearing."
  disconnect :
      {side : Side} {cause : ℕ} {a : ByService Given} {one : Standing} → Last c side a.one one →
      Becomes c l (Event.Disconnect side cause a)
      (altered c Phase.Clearing (record { one = one; two = c.standings.two; three = c.standings.three }) c.asking c.meters)
  -- "Passed on bare; Ended."
  release : {side : Side} → Becomes c l (Event.ReleaseComplete side) (turned_to c Phase.Ended)
  -- "A tick adds Y, to at most X. .. A tick with the mark set clears it"
  ticks :
      {m n : ℕ} → ServesThree c → TickAdds c.rights c.meters.calling.credit m → TickAdds c.rights c.meters.called.credit n →
      Becomes c l Event.Tick
      (altered c c.phase c.standings c.asking
      (record {
        calling = record { credit = m; mark = false; count = c.meters.calling.count };
        called = record { credit = n; mark = false; count = c.meters.called.count };
      }))
  -- "without service 3 in Active it does nothing"
  rests : (ServesThree c → ⊥) → Becomes c l Event.Tick c

-- The next record: what the event makes of this one, and this one where 25, 12, 11 or 24 keeps it from being acted on.
pub data NextRecord (c : Call) (l : List ℕ) (e : Event) : Call → Type 0 where
  acts : {d : Call} → Hears c e → Becomes c l e d → NextRecord c l e d
  bars : (Hears c e → ⊥) → NextRecord c l e c

-- P holds of a record exactly if it is this one
abbrev pub IsTheRecord : (Call → Type 0) → Call → Type 0
IsTheRecord P c = (d : Call) → (c ≡ d → P d) × (P d → c ≡ d)

-- BECOMES. For every record, sound or not, every event and every element: the next record.
abbrev pub BecomesExactly : Core → Type 0
BecomesExactly f = (c : Call) (e : Event) (l : List ℕ) → IsTheRecord (NextRecord c l e) (f c e l).call

-- HISTORY. After every list of events from `fresh_call` the record is the one that the events and their elements
-- alone make: phase, reference, rights, the standing of each service, whose request is open, credit, mark and count.
pub data Leads : Call → List Offered → Call → Type 0 where
  stays : {c : Call} → Leads c [] c
  goes : {o : Offered} {os : List Offered} {c d r : Call} → NextRecord c o.element o.event d → Leads d os r → Leads c (o ∷ os) r

abbrev pub History : Core → Type 0
History f = (os : List Offered) → IsTheRecord (Leads fresh_call os) (run_of f fresh_call os)
