-- DEMAND 3. More rights never hand over less.
use Rattle.std.specs.Prelude.{ℕ, ◌≤◌, List, [], ◌∷◌, true, ◌≡◌}
use Rattle.rights.specs.declared.Rights.{Rights}
use Rattle.rights.specs.declared.Service.{Service}
use Rattle.sent.specs.declared.side.Side.{Side}
use Rattle.call.specs.declared.Call.{Call}
use Rattle.event.specs.declared.Event.{Event}
use Rattle.call.specs.Sound.{fresh_call}
use Rattle.call_promises.specs.Ranges.{Up, RightsInRange}
use Rattle.call_promises.specs.Numbers.{Has, Core}
use Rattle.call_promises.specs.Sound.{Offered, run_of}
use Rattle.call_promises.specs.Handling.{handed_to}

-- "Run the same events of one call, rights apart, twice": the rights stand in SETUP alone
abbrev pub event_with : Rights → Event → Event
event_with r (Event.Setup reference rights requests) = Event.Setup reference r requests
event_with r (Event.Alerting answers) = Event.Alerting answers
event_with r (Event.Connect answers) = Event.Connect answers
event_with r (Event.Information side more) = Event.Information side more
event_with r (Event.Facility side what) = Event.Facility side what
event_with r (Event.Disconnect side cause answers) = Event.Disconnect side cause answers
event_with r (Event.ReleaseComplete side) = Event.ReleaseComplete side
event_with r Event.Tick = Event.Tick
event_with r Event.CallProceeding = Event.CallProceeding
event_with r Event.CongestionControl = Event.CongestionControl

abbrev pub with_rights : Rights → List Offered → List Offered
with_rights r [] = []
with_rights r (o ∷ os) = record { event = event_with r o.event; element = o.element } ∷ with_rights r os

-- "both lines' rights in range, the second's with every service of the first, late delivery if the first had it, burst
-- and refill no smaller, length limit and the called side's leave the same"
pub record NoLess (r r' : Rights) : Type 0 where
  pub first : RightsInRange r
  pub second : RightsInRange r'
  pub services : (k : Service) → Has r k → Has r' k
  pub late : r.late ≡ true → r'.late ≡ true
  pub burst : r.burst ≤ r'.burst
  pub refill : r.refill ≤ r'.refill
  pub limit : r'.limit ≡ r.limit
  pub leave : r'.leave ≡ r.leave

-- the octets that each user is handed
pub record Handed : Type 0 where
  pub calling : List ℕ
  pub called : List ℕ

-- what is handed over at each event of a run
abbrev pub handed_of : Core → Call → List Offered → List Handed
handed_of f c [] = []
handed_of f c (o ∷ os) =
    record {
      calling = handed_to f c o.event o.element Side.Calling;
      called = handed_to f c o.event o.element Side.Called;
    }
    ∷ handed_of f (f c o.event o.element).call os

-- "each element handed over in the first run is handed over, octet for octet, at the same event in the second"
abbrev pub HandedToo : List ℕ → List ℕ → Type 0
HandedToo g h = (g ≡ [] → ⊥) → h ≡ g

pub data NoFewer : List Handed → List Handed → Type 0 where
  end : NoFewer [] []
  also : {g h : Handed} {gs hs : List Handed} → HandedToo g.calling h.calling → HandedToo g.called h.called → NoFewer gs hs → NoFewer (g ∷ gs) (h ∷ hs)

-- "and while the first call is up the second is in the same phase": said of every run, it is said of each part of a run
-- from its start
abbrev pub InStep : Call → Call → Type 0
InStep c d = Up c.phase → d.phase ≡ c.phase

-- MORE RIGHTS.
abbrev pub MoreRights : Core → Type 0
MoreRights f =
    (r r' : Rights) → NoLess r r' → (os : List Offered) →
    NoFewer (handed_of f fresh_call (with_rights r os)) (handed_of f fresh_call (with_rights r' os))
    × InStep (run_of f fresh_call (with_rights r os)) (run_of f fresh_call (with_rights r' os))
