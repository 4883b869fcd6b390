-- CREDIT. No credit is invented or lost: each credit and each service 2 count is a function of the events alone, with
-- their elements: the account, which says by itself which events count and what each does. No call record, no answer
-- and no message stands in it.
use Rattle.services.specs.declared.ByService.{ByService}
use Rattle.sent.specs.declared.side.BySide.{BySide}
use Rattle.std.specs.Prelude.{ℕ, ◌+◌, ◌-◌, List, [], ◌∷◌, Bool, true, false, cond, ◌&&◌, ◌||◌, not, ◌⊎◌, ◌≡◌, length, ltb, leb}
use Rattle.rights.specs.declared.Rights.{Rights}
use Rattle.rights.specs.declared.Service.{Service}
use Rattle.services.specs.declared.Given.{Given}
use Rattle.services.specs.declared.Request.{Request}
use Rattle.user_element.specs.Element.{well_formed_of}
use Rattle.rights.specs.Rights.{has_of, rights_fit_of, reference_fits_of}
use Rattle.facility_rules.specs.declared.What.{What}
use Rattle.phases.specs.declared.Phase.{Phase}
use Rattle.sent.specs.declared.side.Side.{Side}
use Rattle.answer.specs.Answer.{number_of}
use Rattle.phases.specs.Phase.{fresh_of, requested_of, connectable_of, talking_of, active_of, up_of, live_of}
use Rattle.call.specs.declared.Call.{Call}
use Rattle.event.specs.declared.Event.{Event}
use Rattle.call.specs.Sound.{fresh_call}
use Rattle.call_promises.specs.Numbers.{meter_from, other, Core}
use Rattle.call_promises.specs.Sound.{Offered, run_of}

-- no request is open
abbrev pub none_asks : BySide Bool
none_asks = record { calling = false; called = false }

-- what one direction has
pub record Purse : Type 0 where
  pub credit : ℕ
  pub count : ℕ

-- what the events so far say: rights, the requests of SETUP that remain, phase, services 2 and 3 in force, whose own
-- FACILITY request is open
pub record Account : Type 0 where
  pub rights : Rights
  pub asked : ByService Request
  pub phase : Phase
  pub two : Bool
  pub three : Bool
  pub asks : BySide Bool
  pub calling : Purse
  pub called : Purse

abbrev pub purse_of : Account → Side → Purse
purse_of a Side.Calling = a.calling
purse_of a Side.Called = a.called

-- the same account in another phase and with other services in force; with other requests open; with other purses
abbrev pub moves : Account → Phase → Bool → Bool → Account
moves a phase two three =
    record { rights = a.rights; asked = a.asked; phase = phase; two = two; three = three; asks = a.asks; calling = a.calling; called = a.called }

abbrev pub opens : Account → BySide Bool → Account
opens a asks =
    record { rights = a.rights; asked = a.asked; phase = a.phase; two = a.two; three = a.three; asks = asks; calling = a.calling; called = a.called }

abbrev pub holds : Account → Purse → Purse → Account
holds a calling called =
    record { rights = a.rights; asked = a.asked; phase = a.phase; two = a.two; three = a.three; asks = a.asks; calling = calling; called = called }

-- a required service that the rights lack, or that is not accepted; and a service that was asked for and is accepted
abbrev pub fails : Request → Bool → Bool
fails Request.Unasked met = false
fails Request.Preferred met = false
fails Request.Required met = not met

abbrev pub comes : Request → Bool → Bool
comes Request.Unasked met = false
comes Request.Preferred met = met
comes Request.Required met = met

abbrev pub accepts : Given → Bool
accepts Given.Silent = false
accepts Given.Accepted = true
accepts Given.Rejected = false

-- SETUP. "If a required service is not in the rights: .. Ended. Otherwise SETUP goes on with the remaining requests ..
-- Requested." An implicit request for service 1 is preferred and due no answer: it counts as none here.
abbrev pub lacks : Rights → ByService Request → Bool
lacks r q = (fails q.one (has_of r Service.One) || fails q.two (has_of r Service.Two)) || fails q.three (has_of r Service.Three)

abbrev pub remaining : Rights → ByService Request → ByService Request
remaining r q =
    record {
      one = cond (has_of r Service.One) q.one Request.Unasked;
      two = cond (has_of r Service.Two) q.two Request.Unasked;
      three = cond (has_of r Service.Three) q.three Request.Unasked;
    }

abbrev pub empty : Purse
empty = record { credit = 0; count = 0 }

abbrev pub begins : Rights → ByService Request → Phase → Account
begins r q phase =
    record { rights = r; asked = q; phase = phase; two = false; three = false; asks = none_asks; calling = empty; called = empty }

-- "Coming into force, service 3 gives each direction X credits"
abbrev pub grants : Account → Account
grants a =
    holds (moves a a.phase a.two true) (record { credit = a.rights.burst; count = a.calling.count })
    (record { credit = a.rights.burst; count = a.called.count })

-- "Required and not accepted: .. Clearing."
abbrev pub clears : Account → Account
clears a = moves a Phase.Clearing a.two a.three

-- ALERTING. "Answers to 1 and 2 are due."
abbrev pub alerts : Account → ByService Given → Account
alerts a g =
    cond (fails a.asked.one (accepts g.one) || fails a.asked.two (accepts g.two)) (clears a)
    (moves a Phase.Alerting (comes a.asked.two (accepts g.two)) a.three)

-- CONNECT. "The answer to 3 is due, and to 1 if no ALERTING came; service 2 without ALERTING counts as unanswered."
abbrev pub connects : Account → ByService Given → Account
connects a g =
    cond
    ((requested_of a.phase && (fails a.asked.one (accepts g.one) || fails a.asked.two false))
    || fails a.asked.three (accepts g.three))
    (clears a)
    (cond (comes a.asked.three (accepts g.three)) (grants (moves a Phase.Active a.two a.three))
    (moves a Phase.Active a.two a.three))

-- USER INFORMATION. 17: "element absent, under 3 octets or over the limit", or not well formed. "Alerting: service 2,
-- two messages each way .. Active: from the calling side, with late delivery and service 2 in force, its remaining
-- count first; then service 3." "a message spends one"
abbrev pub late : Account → Side → Bool
late a Side.Calling = a.rights.late
late a Side.Called = false

abbrev pub by_count : Account → Side → Bool
by_count a side = (a.two && (not (active_of a.phase) || late a side)) && ltb (purse_of a side).count 2

abbrev pub by_credit : Account → Side → Bool
by_credit a side = (active_of a.phase && a.three) && ltb 0 (purse_of a side).credit

abbrev pub pays : Bool → Bool → Purse → Purse
pays count credit p =
    cond count (record { credit = p.credit; count = p.count + 1 })
    (cond credit (record { credit = p.credit - 1; count = p.count }) p)

abbrev pub informs : Account → Side → Account
informs a Side.Calling = holds a (pays (by_count a Side.Calling) (by_credit a Side.Calling) a.calling) a.called
informs a Side.Called = holds a a.calling (pays (by_count a Side.Called) (by_credit a Side.Called) a.called)

-- FACILITY. "Each side has its own open request. Accept puts the service in force and closes both; reject closes the
-- one." Not so where 18, 16 or 15 is due: "asked as required", "not in the rights, or by the called side without
-- leave", "service 3 in force, asker's own request open, or an answer with no open request of the other side".
abbrev pub may : Rights → Side → Bool
may r Side.Calling = has_of r Service.Three
may r Side.Called = has_of r Service.Three && r.leave

abbrev pub asks_at : BySide Bool → Side → Bool
asks_at a Side.Calling = a.calling
asks_at a Side.Called = a.called

abbrev pub ask_at : BySide Bool → Side → Bool → BySide Bool
ask_at a Side.Calling b = record { calling = b; called = a.called }
ask_at a Side.Called b = record { calling = a.calling; called = b }

abbrev pub agrees : Account → Side → What → Account
agrees a side What.Preferred =
    cond (may a.rights side && not (a.three || asks_at a.asks side)) (opens a (ask_at a.asks side true)) a
agrees a side What.Accept = cond (not a.three && asks_at a.asks (other side)) (grants (opens a none_asks)) a
agrees a side What.Reject =
    cond (not a.three && asks_at a.asks (other side)) (opens a (ask_at a.asks (other side) false)) a
agrees a side What.Required = a

-- "A tick adds Y, to at most X."
abbrev pub refills : Rights → Purse → Purse
refills r p =
    record { credit = cond (leb (p.credit + r.refill) r.burst) (p.credit + r.refill) r.burst; count = p.count }

-- One event, in the phases that stand in brackets behind its name. 24: "SETUP, reference or rights out of range;
-- DISCONNECT, cause over 127". "A tick .. without service 3 in Active it does nothing." What does not count leaves the
-- account as it was.
abbrev pub books : Account → Event → List ℕ → Account
books a (Event.Setup reference r q) l =
    cond (fresh_of a.phase && (reference_fits_of reference && rights_fit_of r))
    (begins r (remaining r q) (cond (lacks r q) Phase.Ended Phase.Requested)) a
books a (Event.Alerting g) l = cond (requested_of a.phase) (alerts a g) a
books a (Event.Connect g) l = cond (connectable_of a.phase) (connects a g) a
books a (Event.Information side more) l = cond (talking_of a.phase && (well_formed_of l && leb (length l) a.rights.limit)) (informs a side) a
books a (Event.Facility side what) l = cond (active_of a.phase) (agrees a side what) a
books a (Event.Disconnect side cause g) l = cond (up_of a.phase && leb cause 127) (clears a) a
books a (Event.ReleaseComplete side) l = cond (live_of a.phase) (moves a Phase.Ended a.two a.three) a
books a Event.Tick l = cond (active_of a.phase && a.three) (holds a (refills a.rights a.calling) (refills a.rights a.called)) a
books a Event.CallProceeding l = a
books a Event.CongestionControl l = a

abbrev pub account_of : Account → List Offered → Account
account_of a [] = a
account_of a (o ∷ os) = account_of (books a o.event o.element) os

-- before SETUP nothing is asked for, and whatever the rights, no credit is there
abbrev pub unopened : Account
unopened =
    begins (record { services = 0; late = false; leave = false; limit = 0; burst = 0; refill = 0 })
    (record { one = Request.Unasked; two = Request.Unasked; three = Request.Unasked }) Phase.Fresh

pub record Balanced (c : Call) (a : Account) (side : Side) : Type 0 where
  pub credit : (meter_from c side).credit ≡ (purse_of a side).credit
  pub count : (meter_from c side).count ≡ (purse_of a side).count

-- CREDIT. After every list of events from a fresh record each direction's credit and count are those of the account.
-- The events of a run up to any one of them are such a list: so this holds after every event of every run.
abbrev pub Credit : Core → Type 0
Credit f = (os : List Offered) (side : Side) → Balanced (run_of f fresh_call os) (account_of unopened os) side

-- COVERED. And nothing goes over unpaid: a message that is answered 0 is paid by the count, or by a credit that is
-- there.
abbrev pub Covered : Core → Type 0
Covered f =
    (os : List Offered) (side : Side) (more : Bool) (l : List ℕ) →
    number_of (f (run_of f fresh_call os) (Event.Information side more) l).answer ≡ 0 →
    (by_count (account_of unopened os) side ≡ true) ⊎ (by_credit (account_of unopened os) side ≡ true)
