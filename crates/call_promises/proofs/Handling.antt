-- What goes out is whole and under a service, and what has no note goes out.
use Rattle.std.proofs.Common.{Option, Some, None, ℕ, ◌<◌, ◌≤◌, List, [], Bool, true, false, cond, ◌&&◌, not, ◌⊎◌, inl, inr, ⊎_elim, ◌≡◌, refl, ap, arith, ltb-true, length, ltb}
use Rattle.services.specs.declared.ByService.{ByService}
use Rattle.services.specs.declared.Said.{Said}
use Rattle.answering_rules.specs.declared.Fate.{Fate}
use Rattle.flow_meter.specs.declared.passage.Passage.{Passage}
use Rattle.user_element.specs.declared.Note.{Note}
use Rattle.user_element.specs.declared.Seen.{Seen}
use Rattle.rights.specs.declared.Rights.{Rights}
use Rattle.rights.specs.declared.Service.{Service}
use Rattle.services.specs.declared.Request.{Request}
use Rattle.answer.specs.declared.Answer.{Answer}
use Rattle.message_types.specs.declared.Kind.{Kind}
use Rattle.sent.specs.declared.Message.{Message}
use Rattle.phases.specs.declared.Phase.{Phase}
use Rattle.sent.specs.declared.side.Side.{Side}
use Rattle.call.specs.declared.Call.{Call}
use Rattle.event.specs.declared.Event.{Event}
use Rattle.call.specs.declared.reply.Reply.{Reply}
use Rattle.flow_meter.specs.Passage.{under_three_of, passage_of}
use Rattle.user_element.specs.Element.{note_number_of, seen_of, noted_of, goes_out_of}
use Rattle.services.specs.Standing.{remains_of}
use Rattle.setup_rules.specs.Requests.{first_standing_of, standings_of, lacks_of, to_caller_of, to_called_of, setup_phase_of, setup_carries_of}
use Rattle.answering_rules.specs.Effects.{failed_of}
use Rattle.answer.specs.Answer.{number_of}
use Rattle.sent.specs.Message.{saying_of, bare_of, congestion_of, informs_of, only_if_of}
use Rattle.information_rules.specs.Messages.{passage_answer_of, passes_of, marks_of}
use Rattle.call.specs.Answering.{goes_on_of, clears_of, answered_call_of, answering_of, answered_of, alerting_of, connect_of}
use Rattle.call.specs.Disconnect.{closed_call_of, passed_on_of, disconnect_of, ends_of, release_complete_of}
use Rattle.facility_rules.specs.Messages.{about_three_of}
use Rattle.call.specs.Facility.{passes_facility_of, facility_of}
use Rattle.flow_meter.specs.CallMeters.{ready_of}
use Rattle.call.specs.Information.{information_passage_of, carried_of, with_element_of, information_of}
use Rattle.call.specs.Reply.{refused_of, reply_of}
use Rattle.call.specs.Setup.{proceeds_of, setup_of}
use Rattle.call.specs.Step.{not_an_event_of, step_of}
use Rattle.call.specs.Tick.{passes_tick_of, tick_of}
use Rattle.call_promises.specs.Numbers.{WellFormed, InForce, Has, ServesTwo, ServesThree, meter_from, other}
use Rattle.call_promises.specs.Notes.{Bare, limit_for}
use Rattle.call_promises.specs.Refusals.{sent_to}
use Rattle.call_promises.specs.Handling.{handed_in, Goes, setup, alerting, connect, information, disconnect, HandedWhole, Unaltered, Unnoted, Out, GoesOut, Explicit, Implied, Under, opening, alerted, connected, counted, credited, cleared, UnderAService}
use Rattle.logic.proofs.Decide.{never, by_cond, Decides, both, as_is, lt}
use Rattle.call_promises.proofs.Heard.{bar_not_taken, Heard, through, barred, heard}
use Rattle.call_promises.proofs.Conditions.{in_force, has, serves_two, serves_three, same_meter}
use Rattle.call_promises.proofs.Seen.{Sight, absent, malformed, too_long, whole, sight}

-- no element goes out in the message
abbrev Plain : Option Message → Type 0
Plain None = Unit {0}
Plain (Some m) = m.element ≡ false

plain_empty : (s : Option Message) (l : List ℕ) → Plain s → handed_in s l ≡ []
plain_empty None l p = refl
plain_empty (Some m) l p = ap (λ (b : Bool). cond b l []) p

only_plain : (b : Bool) (s : Option Message) → Plain s → Plain (only_if_of b s)
unfolding only_if_of
only_plain b s p = by_cond Plain b (λ _. p) (λ _. tt)

-- the event has an element
abbrev Offers : Event → List ℕ → Type 0
Offers e l = (Bare e → ⊥) × (length l ≡ 0 → ⊥)

-- A message to one side either has no element, or has one that may go out in it. N: the event is taken, and there is no
-- note on its element.
data Way (e : Event) (to : Side) (l : List ℕ) (limit : ℕ) (P N : Type 0) : Option Message → Type 0 where
  plain : {s : Option Message} → Plain s → (Offers e l → N → ⊥) → Way e to l limit P N s
  goes : {m : Message} → m.element ≡ true → Goes e to m.kind m.more → WellFormed l → length l ≤ limit → P → N → Way e to l limit P N (Some m)

record Passes (c : Call) (e : Event) (l : List ℕ) (r : Reply) : Type 0 where
  to : Side
  on : Way e to l (limit_for c e) (Under c l r.call e) (Unnoted r) (sent_to r to)
  back : Plain (sent_to r (other to))

refused_passes : (c : Call) (e : Event) (l : List ℕ) (x : Answer) (note : Note) → (Offers e l → number_of x ≡ 0 → ⊥) → Passes c e l (refused_of c x note)
unfolding refused_of
refused_passes c e l x note f = record { to = Side.Calling; on = plain tt (λ o n. f o n.0); back = tt }

heard_passes : (c : Call) (e : Event) (l : List ℕ) (a g : Bool) (r : Reply) {s : Reply} → Heard c a g r s → Passes c e l r → Passes c e l s
heard_passes c e l a g r (through _ _ _) p = p
heard_passes c e l a g r (barred _ x) p = refused_passes c e l _ _ (λ _. bar_not_taken x)

-- an element goes out only if it is whole
whole_so : (l : List ℕ) (limit : ℕ) {s : Seen} (carried : Bool) → Sight l limit s → goes_out_of s carried ≡ true → (s ≡ Seen.Whole) × WellFormed l × (length l ≤ limit) × (carried ≡ true)
unfolding goes_out_of
whole_so l limit carried (absent z) h = never h refl
whole_so l limit carried (malformed z w) h = never h refl
whole_so l limit carried (too_long z w k) h = never h refl
whole_so l limit carried (whole z w k) h = (refl, w, k, h)

-- and an element without a note does
unnoted_so : (l : List ℕ) (limit : ℕ) {s : Seen} (carried : Bool) → Sight l limit s → (length l ≡ 0 → ⊥) → note_number_of (noted_of s carried) ≡ 0 → (goes_out_of s carried ≡ true) × (carried ≡ true)
unfolding goes_out_of
unnoted_so l limit carried (absent z) n h = absurd (n z)
unnoted_so l limit carried (malformed z w) n h = absurd (omega arith)
unnoted_so l limit carried (too_long z w k) n h = absurd (omega arith)
unnoted_so l limit true (whole z w k) n h = (refl, refl)
unnoted_so l limit false (whole z w k) n h = absurd (omega arith)

-- a message of an event that is taken, with the note on the event's element
saying_way : (e : Event) (to : Side) (l : List ℕ) (limit : ℕ) {P : Type 0} (kind : Kind) (cause : Option ℕ) (said : ByService Said) (carried : Bool) → Goes e to kind false → (seen_of l limit ≡ Seen.Whole → WellFormed l → length l ≤ limit → carried ≡ true → P) → Way e to l limit P ((number_of Answer.Taken ≡ 0) × (note_number_of (noted_of (seen_of l limit) carried) ≡ 0)) (saying_of kind cause said (goes_out_of (seen_of l limit) carried))
unfolding saying_of
saying_way e to l limit {P} kind cause said carried g f = go _ refl
  where
    go : (b : Bool) → goes_out_of (seen_of l limit) carried ≡ b → Way e to l limit P ((number_of Answer.Taken ≡ 0) × (note_number_of (noted_of (seen_of l limit) carried) ≡ 0)) (saying_of kind cause said (goes_out_of (seen_of l limit) carried))
    go true h =
        let t = whole_so l limit carried (sight l limit) h in
        goes h g t.1 t.2 (f t.0 t.1 t.2 t.3) (refl, rw (t.0, t.3) refl)
    go false h = plain h (λ o n. never (unnoted_so l limit carried (sight l limit) o.1 n.1).0 h)

-- SETUP
remains_so : (q : Request) (had : Bool) → remains_of (first_standing_of q Seen.Whole had) ≡ true → had ≡ true
unfolding remains_of first_standing_of
remains_so Request.Unasked true h = refl
remains_so Request.Unasked false h = h
remains_so Request.Preferred true h = refl
remains_so Request.Preferred false h = h
remains_so Request.Required true h = refl
remains_so Request.Required false h = h

asked : (rights : Rights) (q : ByService Request) (l : List ℕ) (x : Request) → q.one ≡ x → WellFormed l → length l ≤ rights.limit → Explicit q.one ⊎ Implied rights q l
asked rights q l Request.Unasked e w k = inr (record { unasked = e; formed = w; limit = k })
asked rights q l Request.Preferred e w k = inl (inl e)
asked rights q l Request.Required e w k = inl (inr e)

setup_under : (rights : Rights) (q : ByService Request) (l : List ℕ) (s : Seen) → s ≡ Seen.Whole → WellFormed l → length l ≤ rights.limit → setup_carries_of rights q s ≡ true → Has rights Service.One × (Explicit q.one ⊎ Implied rights q l)
unfolding setup_carries_of standings_of
setup_under rights q l s e w k h =
    let t = (both _ _ (as_is (not (lacks_of rights q))) (as_is (remains_of (standings_of rights q Seen.Whole).one))).so (rw e at h) in
    ((has rights Service.One).so (remains_so q.one _ t.1), asked rights q l _ refl w k)

setup_goes : (rights : Rights) (q : ByService Request) (s : Seen) → setup_carries_of rights q s ≡ true → not (lacks_of rights q) ≡ true
unfolding setup_carries_of
setup_goes rights q s h = ((both _ _ (as_is (not (lacks_of rights q))) (as_is (remains_of (standings_of rights q s).one))).so h).0

setup_passes : (c : Call) (reference : ℕ) (rights : Rights) (q : ByService Request) (l : List ℕ) → Passes c (Event.Setup reference rights q) l (proceeds_of reference rights q (seen_of l rights.limit))
unfolding proceeds_of setup_phase_of to_caller_of to_called_of saying_of
setup_passes c reference rights q l =
    record {
      to = Side.Called;
      on =
          by_cond (Way (Event.Setup reference rights q) Side.Called l rights.limit _ _) (lacks_of rights q)
          (λ y. plain tt (λ o n. never (setup_goes rights q _ (unnoted_so l _ _ (sight l rights.limit) o.1 n.1).1) (rw y refl)))
          (λ n.
          saying_way _ _ l rights.limit _ _ _ _ setup
          (λ e w k h. let t = setup_under rights q l (seen_of l rights.limit) e w k h in opening (rw n refl) t.0 t.1));
      back = by_cond Plain (lacks_of rights q) (λ _. refl) (λ _. refl);
    }

-- ALERTING and CONNECT
module _ (c : Call) (e : Event) (l : List ℕ) (kind : Kind) (next : Phase) (f : ByService Fate) where
  outcome_passes : (x : Bool) → limit_for c e ≡ c.rights.limit → Goes e Side.Calling kind false → ((d : Call) → d.phase ≡ next → InForce d.standings.one → Under c l d e) → Passes c e l (answering_of c kind next f (seen_of l c.rights.limit) x)
  unfolding goes_on_of clears_of answered_call_of bare_of saying_of
  outcome_passes false k g u =
      record {
        to = Side.Calling;
        on = rw k (saying_way e _ l c.rights.limit kind _ _ _ g (λ _ _ _ h. u _ refl ((in_force _).so h)));
        back = tt;
      }
  outcome_passes true k g u =
      record {
        to = Side.Calling;
        on = plain refl (λ o n. never (unnoted_so l _ false (sight l c.rights.limit) o.1 n.1).1 refl);
        back = refl;
      }

  answered_passes : limit_for c e ≡ c.rights.limit → Goes e Side.Calling kind false → ((d : Call) → d.phase ≡ next → InForce d.standings.one → Under c l d e) → Passes c e l (answered_of c kind next f l)
  unfolding answered_of
  answered_passes = outcome_passes (failed_of f)

-- a reply to one side's event, whose message to that side has no element
side_passes : (c : Call) (e : Event) (l : List ℕ) (side : Side) (d : Call) (a : Answer) (note : Note) (back on : Option Message) (x : Option Service) → Plain back → Way e (other side) l (limit_for c e) (Under c l d e) ((number_of a ≡ 0) × (note_number_of note ≡ 0)) on → Passes c e l (reply_of side d a note back on x)
unfolding reply_of
side_passes c e l Side.Calling d a note back on x p w = record { to = Side.Called; on = w; back = p }
side_passes c e l Side.Called d a note back on x p w = record { to = Side.Calling; on = w; back = p }

-- USER INFORMATION
passage_taken : (p : Passage) → Decides (passes_of p) (number_of (passage_answer_of p) ≡ 0)
passage_taken (Passage.Two n) = record { so = λ _. refl; back = λ _. refl }
passage_taken (Passage.Three n) = record { so = λ _. refl; back = λ _. refl }
passage_taken (Passage.Marks n) = record { so = λ h. never h refl; back = λ h. absurd (omega arith) }
passage_taken Passage.Spent = record { so = λ h. never h refl; back = λ h. absurd (omega arith) }
passage_taken Passage.Unserved = record { so = λ h. never h refl; back = λ h. absurd (omega arith) }

module _ (c : Call) (side : Side) where
  abbrev Served : Type 0
  Served = (ServesTwo c side × ((meter_from c side).count < 2)) ⊎ (ServesThree c × (0 < (meter_from c side).credit))

  served_under : {l : List ℕ} {d : Call} {more : Bool} → Served → Under c l d (Event.Information side more)
  served_under = ⊎_elim (λ x. counted x.0 x.1) (λ x. credited x.0 x.1)

  passage_by : (two three : Bool) → Decides two (ServesTwo c side) → Decides three (ServesThree c) → passes_of (passage_of (meter_from c side) two three) ≡ true → Served
  unfolding passage_of under_three_of
  passage_by two three d g =
      by_cond (λ p. passes_of p ≡ true → Served) (two && ltb (meter_from c side).count 2)
      (λ t _. inl ((both _ _ d (lt _ 2)).so t))
      (λ _.
      by_cond (λ p. passes_of p ≡ true → Served) three
      (λ t.
      by_cond (λ p. passes_of p ≡ true → Served) (ltb 0 (meter_from c side).credit) (λ k _. inr (g.so t, ltb-true _ _ k))
      (λ _. by_cond (λ p. passes_of p ≡ true → Served) (meter_from c side).mark (λ _ h. never h refl) (λ _ h. never h refl)))
      (λ _. by_cond (λ p. passes_of p ≡ true → Served) two (λ _ h. never h refl) (λ _ h. never h refl)))

  passage_served : passes_of (information_passage_of c side) ≡ true → Served
  unfolding information_passage_of
  passage_served h = passage_by _ _ (serves_two c side) (serves_three c) (rw (same_meter c side) at h)

  module _ (more : Bool) (l : List ℕ) where
    carried_passes : Sight l c.rights.limit Seen.Whole → Passes c (Event.Information side more) l (carried_of c side more (information_passage_of c side))
    unfolding carried_of only_if_of informs_of congestion_of
    carried_passes (whole z w k) =
        side_passes c _ l side _ _ _ _ _ _ (by_cond Plain (marks_of (information_passage_of c side)) (λ _. refl) (λ _. tt))
        (by_cond (Way _ _ l _ _ _) (passes_of (information_passage_of c side))
        (λ h. goes refl information w k (served_under (passage_served h)) ((passage_taken (information_passage_of c side)).so h, refl))
        (λ h. plain tt (λ _ n. never ((passage_taken (information_passage_of c side)).back n.0) h)))

    information_passes : {s : Seen} → Sight l c.rights.limit s → Passes c (Event.Information side more) l (with_element_of c s (carried_of c side more (information_passage_of c side)))
    unfolding with_element_of
    information_passes (absent z) = refused_passes c _ l _ _ (λ _ h. omega arith)
    information_passes (malformed z w) = refused_passes c _ l _ _ (λ _ h. omega arith)
    information_passes (too_long z w k) = refused_passes c _ l _ _ (λ _ h. omega arith)
    information_passes (whole z w k) = carried_passes (whole z w k)

-- any event
passes : (c : Call) (e : Event) (l : List ℕ) → Passes c e l (step_of c e l)
unfolding setup_of alerting_of connect_of information_of facility_of passes_facility_of about_three_of disconnect_of passed_on_of closed_call_of release_complete_of ends_of bare_of tick_of passes_tick_of ready_of congestion_of not_an_event_of saying_of
passes c (Event.Setup reference rights q) l = heard_passes c _ l _ _ _ (heard c _ _ _) (setup_passes c reference rights q l)
passes c (Event.Alerting answers) l =
    heard_passes c _ l _ _ _ (heard c _ _ _) (answered_passes c _ l _ _ _ refl alerting (λ d p i. alerted p i))
passes c (Event.Connect answers) l =
    heard_passes c _ l _ _ _ (heard c _ _ _) (answered_passes c _ l _ _ _ refl connect (λ d p i. connected p i))
passes c (Event.Information side more) l =
    heard_passes c _ l _ _ _ (heard c _ _ _) (information_passes c side more l (sight l c.rights.limit))
passes c (Event.Facility side what) l =
    heard_passes c _ l _ _ _ (heard c _ _ _)
    (side_passes c _ l side _ _ _ _ _ _ (only_plain _ _ refl) (plain (only_plain _ _ refl) (λ o _. o.0 tt)))
passes c (Event.Disconnect side cause answers) l =
    heard_passes c _ l _ _ _ (heard c _ _ _)
    (side_passes c _ l side _ _ _ _ _ _ tt (saying_way _ _ l c.rights.limit _ _ _ _ disconnect (λ _ _ _ h. cleared refl ((in_force _).so h))))
passes c (Event.ReleaseComplete side) l =
    heard_passes c _ l _ _ _ (heard c _ _ _) (side_passes c _ l side _ _ _ _ _ _ tt (plain refl (λ o _. o.0 tt)))
passes c Event.Tick l =
    heard_passes c _ l _ _ _ (heard c _ _ _)
    (record { to = Side.Called; on = plain (only_plain _ _ refl) (λ o _. o.0 tt); back = only_plain _ _ refl })
passes c Event.CallProceeding l = refused_passes c _ l _ _ (λ o _. o.0 tt)
passes c Event.CongestionControl l = refused_passes c _ l _ _ (λ o _. o.0 tt)

-- what a user is handed is what goes out to that user
module _ (c : Call) (e : Event) (l : List ℕ) where
  abbrev OnTheWay : Side → Option Message → Type 0
  OnTheWay to s = Way e to l (limit_for c e) (Under c l (step_of c e l).call e) (Unnoted (step_of c e l)) s

  none : (side to : Side) → Plain (sent_to (step_of c e l) to) → Plain (sent_to (step_of c e l) (other to)) → handed_in (sent_to (step_of c e l) side) l ≡ []
  none Side.Calling Side.Calling p b = plain_empty (step_of c e l).dispatch.calling l p
  none Side.Called Side.Called p b = plain_empty (step_of c e l).dispatch.called l p
  none Side.Calling Side.Called p b = plain_empty (step_of c e l).dispatch.calling l b
  none Side.Called Side.Calling p b = plain_empty (step_of c e l).dispatch.called l b

  entire : (to : Side) (m : Message) → sent_to (step_of c e l) to ≡ Some m → m.element ≡ true → Goes e to m.kind m.more → WellFormed l → length l ≤ limit_for c e → Plain (sent_to (step_of c e l) (other to)) → HandedWhole step_of c e l to
  entire to m h t g w k b =
      record {
        own = rw (h, t) refl;
        formed = w;
        limit = k;
        message = m;
        sent = h;
        goes = g;
        alone = plain_empty (sent_to (step_of c e l) (other to)) l b;
      }

  way_out : (to : Side) {s : Option Message} → sent_to (step_of c e l) to ≡ s → OnTheWay to s → Plain (sent_to (step_of c e l) (other to)) → Out step_of c e l
  way_out to h (plain p f) b =
      record { unnoted = λ x z n. absurd (f (x, z) n); dropped = λ _ side. none side to (rw h p) b }
  way_out to h (goes {m} t g w k u n) b =
      record { unnoted = λ _ _ _. (to, entire to m h t g w k b); dropped = λ x. absurd (x n) }

  way_whole : (side : Side) {s : Option Message} → sent_to (step_of c e l) side ≡ s → OnTheWay side s → Plain (sent_to (step_of c e l) (other side)) → (handed_in s l ≡ [] → ⊥) → HandedWhole step_of c e l side × Under c l (step_of c e l).call e
  way_whole side {s} h (plain p f) b n = absurd (n (plain_empty s l p))
  way_whole side h (goes {m} t g w k u _) b n = (entire side m h t g w k b, u)

  reaches : (side to : Side) → OnTheWay to (sent_to (step_of c e l) to) → Plain (sent_to (step_of c e l) (other to)) → (handed_in (sent_to (step_of c e l) side) l ≡ [] → ⊥) → HandedWhole step_of c e l side × Under c l (step_of c e l).call e
  reaches Side.Calling Side.Calling w b n = way_whole Side.Calling refl w b n
  reaches Side.Called Side.Called w b n = way_whole Side.Called refl w b n
  reaches Side.Calling Side.Called w b n = absurd (n (plain_empty (step_of c e l).dispatch.calling l b))
  reaches Side.Called Side.Calling w b n = absurd (n (plain_empty (step_of c e l).dispatch.called l b))

handled : (c : Call) (e : Event) (l : List ℕ) (side : Side) → (handed_in (sent_to (step_of c e l) side) l ≡ [] → ⊥) → HandedWhole step_of c e l side × Under c l (step_of c e l).call e
handled c e l side = let p = passes c e l in reaches c e l side p.to p.on p.back

pub unaltered : Unaltered step_of
unaltered c e l side n = (handled c e l side n).0

pub goes_out_lem : GoesOut step_of
goes_out_lem c e l = let p = passes c e l in way_out c e l p.to refl p.on p.back

pub under_a_service_lem : UnderAService step_of
under_a_service_lem c e l side n = (handled c e l side n).1
