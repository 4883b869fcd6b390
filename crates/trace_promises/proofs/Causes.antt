-- No message of a reply has a cause over 127.
use Rattle.std.specs.Prelude.{Option, Some, None, Result, Ok, Err}
use Rattle.sent.specs.declared.Message.{Message}
use Rattle.rights.specs.declared.Service.{Service}
use Rattle.table.specs.declared.verdict.Verdict.{Verdict}
use Rattle.services.specs.declared.ByService.{ByService}
use Rattle.services.specs.declared.Request.{Request}
use Rattle.services.specs.declared.Said.{Said}
use Rattle.answering_rules.specs.declared.Fate.{Fate}
use Prim.Native.Nat.{ℕ, ◌≤◌}
use mathlib.Core.List.{List}
use mathlib.Core.Bool.{Bool, true, false, cond}
use mathlib.Core.Path.{◌≡◌}
use native.Mathlib.Omega.{arith}
use borrow.Author.Tests.{leb-true}
use lib.Dec.{leb}
use Rattle.flow_meter.specs.declared.passage.Passage.{Passage}
use Rattle.user_element.specs.declared.Note.{Note}
use Rattle.user_element.specs.declared.Seen.{Seen}
use Rattle.rights.specs.declared.Rights.{Rights}
use Rattle.user_element.specs.Element.{whole_of}
use Rattle.setup_rules.specs.Requests.{lacks_of, to_caller_of, to_called_of}
use Rattle.answering_rules.specs.Effects.{failed_of}
use Rattle.answer.specs.declared.Answer.{Answer}
use Rattle.message_types.specs.declared.Kind.{Kind}
use Rattle.sent.specs.declared.Level.{Level}
use Rattle.phases.specs.declared.Phase.{Phase}
use Rattle.sent.specs.declared.side.Side.{Side}
use Rattle.answer.specs.Answer.{taken_of}
use Rattle.sent.specs.Message.{saying_of, bare_of, congestion_of, informs_of, only_if_of}
use Rattle.call.specs.declared.Call.{Call}
use Rattle.event.specs.declared.Event.{Event}
use Rattle.call.specs.declared.reply.Reply.{Reply}
use Rattle.call.specs.Sound.{sound_of}
use Rattle.call.specs.Reply.{bar_of, refused_of, heard_of, reply_of}
use Rattle.call.specs.Setup.{proceeds_of, setup_of}
use Rattle.call.specs.Answering.{goes_on_of, clears_of, answering_of, answered_of, alerting_of, connect_of}
use Rattle.call.specs.Information.{carried_of, with_element_of, information_of}
use Rattle.facility_rules.specs.Messages.{about_three_of}
use Rattle.call.specs.Facility.{passes_facility_of, facility_of}
use Rattle.call.specs.Disconnect.{passed_on_of, disconnect_of, ends_of, release_complete_of}
use Rattle.call.specs.Tick.{passes_tick_of, tick_of}
use Rattle.call.specs.Step.{not_an_event_of, step_of}
use Rattle.table.specs.declared.settle.Outcome.{Outcome}
use Rattle.table.specs.Settle.{settled_of, table_refusal_of, heard_outcome_of}
use Rattle.table.specs.Step.{outcome_at, step_outcome}
use Rattle.logic.proofs.Decide.{by_cond}
use Rattle.flow_meter.specs.CallMeters.{ready_of}
use Rattle.table.specs.Choice.{chosen_of}

-- causes, messages and replies with causes up to 127
abbrev pub CauseIn : Option ℕ → Type 0
CauseIn None = Unit {0}
CauseIn (Some n) = n ≤ 127

abbrev pub SentIn : Option Message → Type 0
SentIn None = Unit {0}
SentIn (Some m) = CauseIn m.cause

record Says (r : Reply) : Type 0 where
  calling : SentIn r.dispatch.calling
  called : SentIn r.dispatch.called

refused_says : (c : Call) (a : Answer) (n : Note) → Says (refused_of c a n)
unfolding refused_of
refused_says c a n = record { calling = tt; called = tt }

heard_says : (c : Call) (bar : Answer) (r : Reply) → (taken_of bar ≡ true → Says r) → Says (heard_of c bar r)
unfolding heard_of
heard_says c bar r h = by_cond Says (taken_of bar) h (λ _. refused_says c bar Note.Clear)

saying_in : (kind : Kind) (cause : Option ℕ) (said : ByService Said) (element : Bool) → CauseIn cause → SentIn (saying_of kind cause said element)
unfolding saying_of
saying_in kind cause said element h = h

congestion_in : (level : Level) → SentIn (congestion_of level)
unfolding congestion_of
congestion_in level = omega arith

informs_in : (more : Bool) → SentIn (informs_of more)
unfolding informs_of
informs_in more = tt

only_in : (b : Bool) (s : Option Message) → SentIn s → SentIn (only_if_of b s)
unfolding only_if_of
only_in b s h = by_cond SentIn b (λ _. h) (λ _. tt)

side_says : (side : Side) (c : Call) (a : Answer) (n : Note) (back on : Option Message) (x : Option Service) → SentIn back → SentIn on → Says (reply_of side c a n back on x)
unfolding reply_of
side_says Side.Calling c a n back on x p q = record { calling = p; called = q }
side_says Side.Called c a n back on x p q = record { calling = q; called = p }

setup_says_lem : (reference : ℕ) (rights : Rights) (q : ByService Request) (seen : Seen) → Says (proceeds_of reference rights q seen)
unfolding proceeds_of to_caller_of to_called_of
setup_says_lem reference rights q seen =
    record {
      calling = by_cond SentIn (lacks_of rights q) (λ _. saying_in _ _ _ _ (omega arith)) (λ _. saying_in _ _ _ _ tt);
      called = by_cond SentIn (lacks_of rights q) (λ _. tt) (λ _. saying_in _ _ _ _ tt);
    }

outcome_says : (c : Call) (kind : Kind) (next : Phase) (f : ByService Fate) (seen : Seen) (x : Bool) → Says (answering_of c kind next f seen x)
unfolding goes_on_of clears_of bare_of
outcome_says c kind next f seen false = record { calling = saying_in _ _ _ _ tt; called = tt }
outcome_says c kind next f seen true = record { calling = saying_in _ _ _ _ (omega arith); called = saying_in _ _ _ _ (omega arith) }

answered_says : (c : Call) (kind : Kind) (next : Phase) (f : ByService Fate) (l : List ℕ) → Says (answered_of c kind next f l)
unfolding answered_of
answered_says c kind next f l = outcome_says c kind next f _ (failed_of f)

carried_says : (c : Call) (side : Side) (more : Bool) (p : Passage) → Says (carried_of c side more p)
unfolding carried_of
carried_says c side more p = side_says side _ _ _ _ _ _ (only_in _ _ (congestion_in Level.NotReady)) (only_in _ _ (informs_in more))

element_says : (c : Call) (seen : Seen) (r : Reply) → Says r → Says (with_element_of c seen r)
unfolding with_element_of
element_says c seen r h = by_cond Says (whole_of seen) (λ _. h) (λ _. refused_says c _ _)

tick_says_lem : (c : Call) → Says (passes_tick_of c)
unfolding passes_tick_of ready_of
tick_says_lem c = record { calling = only_in _ _ (congestion_in Level.Ready); called = only_in _ _ (congestion_in Level.Ready) }

-- "DISCONNECT, cause over 127" is barred
ranged_bar : (s a g : Bool) → taken_of (cond s (cond a (cond g Answer.Taken Answer.OutOfRange) Answer.OutOfPhase) Answer.Unsound) ≡ true → g ≡ true
ranged_bar true true g h = by_cond (λ x. taken_of x ≡ true → g ≡ true) g (λ e _. e) (λ _ z. absurd_of z) h
  where
    absurd_of : false ≡ true → g ≡ true
    absurd_of z = let y : ◌≡◌ {A = ℕ} 0 1 = cc in absurd (omega arith)
ranged_bar true false g h = let y : ◌≡◌ {A = ℕ} 0 1 = cc in absurd (omega arith)
ranged_bar false a g h = let y : ◌≡◌ {A = ℕ} 0 1 = cc in absurd (omega arith)

in_bar : (c : Call) (a : Bool) (cause : ℕ) → taken_of (bar_of c a (leb cause 127)) ≡ true → cause ≤ 127
unfolding bar_of
in_bar c a cause h = leb-true cause 127 (ranged_bar (sound_of c) a (leb cause 127) h)

-- any event
says : (c : Call) (e : Event) (l : List ℕ) → Says (step_of c e l)
unfolding setup_of alerting_of connect_of information_of facility_of passes_facility_of about_three_of disconnect_of passed_on_of release_complete_of ends_of bare_of tick_of not_an_event_of
says c (Event.Setup reference rights q) l = heard_says c _ _ (λ _. setup_says_lem reference rights q _)
says c (Event.Alerting answers) l = heard_says c _ _ (λ _. answered_says c _ _ _ l)
says c (Event.Connect answers) l = heard_says c _ _ (λ _. answered_says c _ _ _ l)
says c (Event.Information side more) l = heard_says c _ _ (λ _. element_says c _ _ (carried_says c side more _))
says c (Event.Facility side what) l = heard_says c _ _ (λ _. side_says side _ _ _ _ _ _ (only_in _ _ (saying_in _ _ _ _ tt)) (only_in _ _ (saying_in _ _ _ _ tt)))
says c (Event.Disconnect side cause answers) l = heard_says c _ _ (λ h. side_says side _ _ _ _ _ _ tt (saying_in _ _ _ _ (in_bar c _ cause h)))
says c (Event.ReleaseComplete side) l = heard_says c _ _ (λ _. side_says side _ _ _ _ _ _ tt (saying_in _ _ _ _ tt))
says c Event.Tick l = heard_says c _ _ (λ _. tick_says_lem c)
says c Event.CallProceeding l = refused_says c _ _
says c Event.CongestionControl l = refused_says c _ _

-- any event at any table
pub record Tells (o : Outcome) : Type 0 where
  pub calling : SentIn o.dispatch.calling
  pub called : SentIn o.dispatch.called

chosen_tells : (calls : List Call) (x : Result ℕ Verdict) (e : Event) (l : List ℕ) → Tells (outcome_at calls x e l)
unfolding settled_of heard_outcome_of table_refusal_of
chosen_tells calls (Ok i) e l = let s = says _ e l in record { calling = s.calling; called = s.called }
chosen_tells calls (Err v) e l = record { calling = tt; called = tt }

pub tells : (calls : List Call) (n : ℕ) (e : Event) (l : List ℕ) → Tells (step_outcome calls n e l)
unfolding step_outcome
tells calls n e l = chosen_tells calls (chosen_of calls n e) e l
