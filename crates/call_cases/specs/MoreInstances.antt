-- Demand 3 at work: runs that meet every premise, and for each premise that is needed a run that goes wrong without it.
use Rattle.std.specs.Prelude.{ℕ, List, [], ◌∷◌, ◌++◌, Bool, true, false, ◌≡◌}
use Rattle.rights.specs.declared.Rights.{Rights}
use Rattle.services.specs.declared.Given.{Given}
use Rattle.services.specs.declared.Request.{Request}
use Rattle.facility_rules.specs.declared.What.{What}
use Rattle.sent.specs.declared.side.Side.{Side}
use Rattle.event.specs.declared.Event.{Event}
use Rattle.call.specs.Sound.{fresh_call}
use Rattle.call_promises.specs.Ranges.{RightsInRange}
use Rattle.call_promises.specs.Sound.{Offered}
use Rattle.call_cases.specs.Cases.{element_of, setup, silent}
use Rattle.call_cases.specs.Instances.{bare}
use Rattle.call_promises.specs.Credit.{Purse, account_of, unopened}
use Rattle.call_promises.specs.MoreRights.{with_rights, NoLess, Handed, handed_of}
use Rattle.call.specs.Step.{step_of}

abbrev pub rights_of : ℕ → Bool → Bool → ℕ → ℕ → ℕ → Rights
rights_of services late leave limit burst refill =
    record { services = services; late = late; leave = leave; limit = limit; burst = burst; refill = refill }

-- events, each element of its own length; the rights in SETUP give way to those of each line
abbrev pub starts : Request → Request → List ℕ → Offered
starts two three l = setup 7 Request.Unasked two three 131 l

abbrev pub rings : Given → List ℕ → Offered
rings two l =
    record { event = Event.Alerting (record { one = Given.Silent; two = two; three = Given.Silent }); element = l }

abbrev pub connects : Given → List ℕ → Offered
connects three l =
    record { event = Event.Connect (record { one = Given.Silent; two = Given.Silent; three = three }); element = l }

abbrev pub informs : Side → ℕ → Offered
informs side n = record { event = Event.Information side false; element = element_of n }

abbrev pub neither : Handed
neither = record { calling = []; called = [] }

abbrev pub to_calling : ℕ → Handed
to_calling n = record { calling = element_of n; called = [] }

abbrev pub to_called : ℕ → Handed
to_called n = record { calling = []; called = element_of n }

-- two lines, the events of a call, and what is handed over at each of them in the two runs
pub record Pair : Type 0 where
  pub first : Rights
  pub second : Rights
  pub events : List Offered
  pub in_first : List Handed
  pub in_second : List Handed

pub record Meets (p : Pair) : Type 0 where
  pub premises : NoLess p.first p.second
  pub first : handed_of step_of fresh_call (with_rights p.first p.events) ≡ p.in_first
  pub second : handed_of step_of fresh_call (with_rights p.second p.events) ≡ p.in_second

-- the calling side sends while it rings and four times while connected
abbrev pub talk : List Offered
talk =
    starts Request.Preferred Request.Preferred (element_of 3)
    ∷ rings Given.Accepted (element_of 4)
    ∷ informs Side.Calling 5
    ∷ connects Given.Accepted (element_of 6)
    ∷ informs Side.Calling 7
    ∷ informs Side.Calling 8
    ∷ informs Side.Calling 9
    ∷ informs Side.Calling 10
    ∷ record { event = Event.Disconnect Side.Called 16 silent; element = element_of 11 }
    ∷ []

-- Service 2 added, with late delivery on both lines. In the second run the count of service 2 pays for the message sent
-- while it rings and for the first one after CONNECT, and credit for the two after that; in the first run credit pays
-- for the first two after CONNECT.
abbrev pub two_added : Pair
two_added =
    record {
      first = rights_of 5 true false 20 2 1;
      second = rights_of 7 true false 20 2 1;
      events = talk;
      in_first = to_called 3 ∷ to_calling 4 ∷ neither ∷ to_calling 6 ∷ to_called 7 ∷ to_called 8 ∷ neither ∷ neither ∷ to_calling 11 ∷ [];
      in_second = to_called 3 ∷ to_calling 4 ∷ to_called 5 ∷ to_calling 6 ∷ to_called 7 ∷ to_called 8 ∷ to_called 9 ∷ neither ∷ to_calling 11 ∷ [];
    }

-- Late delivery added, and one credit: the first run hands over under services 1, 2 and 3.
abbrev pub late_added : Pair
late_added =
    record {
      first = rights_of 7 false false 20 2 1;
      second = rights_of 7 true false 20 3 1;
      events = talk;
      in_first = to_called 3 ∷ to_calling 4 ∷ to_called 5 ∷ to_calling 6 ∷ to_called 7 ∷ to_called 8 ∷ neither ∷ neither ∷ to_calling 11 ∷ [];
      in_second = to_called 3 ∷ to_calling 4 ∷ to_called 5 ∷ to_calling 6 ∷ to_called 7 ∷ to_called 8 ∷ to_called 9 ∷ to_called 10 ∷ to_calling 11 ∷ [];
    }

-- MORE INSTANCES.
abbrev pub MoreInstances : Type 0
MoreInstances = Meets two_added × Meets late_added

-- the premises
pub data Premise : Type 0 where
  services : Premise
  late : Premise
  burst : Premise
  refill : Premise
  limit : Premise
  leave : Premise

-- the second rights, with the first's where one premise looks
abbrev pub mended : Premise → Rights → Rights → Rights
mended services r s = rights_of r.services s.late s.leave s.limit s.burst s.refill
mended late r s = rights_of s.services r.late s.leave s.limit s.burst s.refill
mended burst r s = rights_of s.services s.late s.leave s.limit r.burst s.refill
mended refill r s = rights_of s.services s.late s.leave s.limit s.burst r.refill
mended limit r s = rights_of s.services s.late s.leave r.limit s.burst s.refill
mended leave r s = rights_of s.services s.late r.leave s.limit s.burst s.refill

-- two lines and the events of a call, at the last of which the called user is handed an element in the first run
pub record Without : Type 0 where
  pub premise : Premise
  pub first : Rights
  pub second : Rights
  pub events : List Offered
  pub lost : List ℕ

abbrev pub last_to : Handed → List Handed → List ℕ
last_to h [] = h.called
last_to h (g ∷ gs) = last_to g gs

abbrev pub last_in : Rights → List Offered → List ℕ
last_in r os = last_to neither (handed_of step_of fresh_call (with_rights r os))

-- every premise but the one is met, and the element is not handed over in the second run
pub record GoesWrong (w : Without) : Type 0 where
  pub range : RightsInRange w.second
  pub others : NoLess w.first (mended w.premise w.first w.second)
  pub first : last_in w.first w.events ≡ w.lost
  pub second : last_in w.second w.events ≡ []

abbrev pub EachWrong : List Without → Type 0
EachWrong [] = Unit {0}
EachWrong (w ∷ ws) = GoesWrong w × EachWrong ws

-- connected, with service 3 in force, and with no service
abbrev pub served : List Offered
served = starts Request.Unasked Request.Preferred [] ∷ connects Given.Accepted [] ∷ []

abbrev pub unserved : List Offered
unserved = starts Request.Unasked Request.Unasked [] ∷ connects Given.Silent [] ∷ []

-- service 3 asked for by a side while connected, and accepted
abbrev pub agrees : Side → Side → List Offered
agrees asker other = bare (Event.Facility asker What.Preferred) ∷ bare (Event.Facility other What.Accept) ∷ []

abbrev pub full : Rights
full = rights_of 7 true true 10 2 2

abbrev pub withouts : List Without
withouts =
    -- a service lost: 1, 2 and 3
    record {
      premise = services;
      first = full;
      second = rights_of 6 true true 10 2 2;
      events = starts Request.Unasked Request.Unasked (element_of 4) ∷ [];
      lost = element_of 4;
    }
    ∷ record {
      premise = services;
      first = full;
      second = rights_of 5 true true 10 2 2;
      events = starts Request.Preferred Request.Unasked [] ∷ rings Given.Accepted [] ∷ informs Side.Calling 4 ∷ [];
      lost = element_of 4;
    }
    ∷ record {
      premise = services;
      first = full;
      second = rights_of 3 true true 10 2 2;
      events = served ++ (informs Side.Calling 4 ∷ []);
      lost = element_of 4;
    }
    -- late delivery lost
    ∷ record {
      premise = late;
      first = full;
      second = rights_of 7 false true 10 2 2;
      events = starts Request.Preferred Request.Unasked [] ∷ rings Given.Accepted [] ∷ connects Given.Silent [] ∷ informs Side.Calling 4 ∷ [];
      lost = element_of 4;
    }
    -- a smaller burst, a smaller refill
    ∷ record {
      premise = burst;
      first = full;
      second = rights_of 7 true true 10 1 2;
      events = served ++ (informs Side.Calling 4 ∷ informs Side.Calling 4 ∷ []);
      lost = element_of 4;
    }
    ∷ record {
      premise = refill;
      first = full;
      second = rights_of 7 true true 10 2 1;
      events = served ++ (informs Side.Calling 4 ∷ informs Side.Calling 4 ∷ bare Event.Tick ∷ informs Side.Calling 4 ∷ informs Side.Calling 4 ∷ []);
      lost = element_of 4;
    }
    -- a smaller limit drops the element; under a larger one longer elements spend the credit that the first line still
    -- has
    ∷ record {
      premise = limit;
      first = full;
      second = rights_of 7 true true 9 2 2;
      events = starts Request.Unasked Request.Unasked (element_of 10) ∷ [];
      lost = element_of 10;
    }
    ∷ record {
      premise = limit;
      first = full;
      second = rights_of 7 true true 11 2 2;
      events = served ++ (informs Side.Calling 11 ∷ informs Side.Calling 11 ∷ informs Side.Calling 4 ∷ []);
      lost = element_of 4;
    }
    -- leave taken away: the called side's request is refused; leave added: it brings service 3 into force early, and
    -- its credit is spent early
    ∷ record {
      premise = leave;
      first = full;
      second = rights_of 7 true false 10 2 2;
      events = unserved ++ (agrees Side.Called Side.Calling ++ (informs Side.Calling 4 ∷ []));
      lost = element_of 4;
    }
    ∷ record {
      premise = leave;
      first = rights_of 7 true false 10 2 2;
      second = full;
      events = unserved ++ (agrees Side.Called Side.Calling ++ (informs Side.Calling 4 ∷ informs Side.Calling 4 ∷ (agrees Side.Calling Side.Called ++ (informs Side.Calling 4 ∷ []))));
      lost = element_of 4;
    }
    ∷ []

-- the second rights out of range, and every other premise met: its SETUP is refused
abbrev pub out_of_range : Rights
out_of_range = rights_of 7 true true 10 256 2

abbrev pub OutOfRangeWrong : Type 0
OutOfRangeWrong =
    (last_in full (starts Request.Unasked Request.Unasked (element_of 4) ∷ []) ≡ element_of 4)
    × (last_in out_of_range (starts Request.Unasked Request.Unasked (element_of 4) ∷ []) ≡ [])

-- NONE LEFT OUT. No premise can be left out but the range of the first's rights: out of range, the first SETUP is
-- refused and nothing is handed over.
abbrev pub NoneLeftOut : Type 0
NoneLeftOut = EachWrong withouts × OutOfRangeWrong

-- the account of the calling side's messages: two under the count and two under credit; and two under credit, then a
-- tick
abbrev pub purse_after : Rights → List Offered → Purse
purse_after r os = (account_of unopened (with_rights r os)).calling

abbrev pub CreditShown : Type 0
CreditShown =
    (purse_after two_added.second talk ≡ record { credit = 0; count = 2 })
    × (purse_after two_added.second (served ++ (informs Side.Calling 4 ∷ informs Side.Calling 4 ∷ bare Event.Tick ∷ []))
    ≡ record { credit = 1; count = 0 })
