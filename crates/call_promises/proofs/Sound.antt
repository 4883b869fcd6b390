-- Every run from a fresh record stays in range.
use Rattle.std.proofs.Common.{ℕ, List, [], ◌∷◌, Bool, true, inl, inr, ⊎_elim, ◌≡◌, refl, arith}
use Rattle.logic.specs.First.{Rows, end, row, First}
use Rattle.phases.specs.declared.Phase.{Phase}
use Rattle.call.specs.declared.Call.{Call}
use Rattle.event.specs.declared.Event.{Event}
use Rattle.call.specs.declared.reply.Reply.{Reply}
use Rattle.call.specs.Answering.{alerting_of, connect_of}
use Rattle.call.specs.Disconnect.{closed_call_of, passed_on_of, disconnect_of, ends_of, release_complete_of}
use Rattle.call.specs.Facility.{facility_of}
use Rattle.call.specs.Information.{information_of}
use Rattle.call.specs.Reply.{bar_of, refused_of, heard_of, reply_of}
use Rattle.call.specs.Setup.{setup_of}
use Rattle.call.specs.Sound.{sound_of, fresh_call, in_phase_of}
use Rattle.call.specs.Step.{not_an_event_of, step_of}
use Rattle.call.specs.Tick.{tick_of}
use Rattle.call_promises.specs.Ranges.{Live, InRangeCall, Unsound}
use Rattle.call_promises.specs.Numbers.{answer_rows}
use Rattle.call_promises.proofs.Kept.{Follows, follows_in, answered_in, element_in_lem, facility_in, tick_in, setup_in}
use Rattle.call_promises.specs.Sound.{Offered, run_of, Sound, NeverUnsound}
use Rattle.logic.proofs.Decide.{never, both}
use Rattle.call_promises.proofs.Numbers.{after, answers}
use Rattle.call_promises.proofs.Heard.{Heard, through, barred, heard}
use Rattle.call_promises.proofs.Phases.{requested, connectable, talking, active, up, live}
use Rattle.call_promises.proofs.Ranges.{reference_range, rights_range, in_range_lem}

-- one event
abbrev Good : Call → Type 0
Good c = Live c.phase → InRangeCall c

module _ (c : Call) (a g : Bool) (r : Reply) where
  heard_in : {s : Reply} → Heard c a g r s → Good c → (sound_of c ≡ true → a ≡ true → g ≡ true → Good r.call) → Good s.call
  unfolding refused_of
  heard_in (through s h k) w f = f s h k
  heard_in (barred _ x) w f = w

  -- an event that only a live record takes
  live_in : Good c → (a ≡ true → Live c.phase) → Follows c r.call → Good (heard_of c (bar_of c a g) r).call
  live_in w v f = heard_in (heard c a g r) w (λ s h _ _. follows_in f (in_range_lem c s (v h)))

pub step_in : (c : Call) (e : Event) (l : List ℕ) → Good c → Good (step_of c e l).call
unfolding setup_of alerting_of connect_of information_of facility_of disconnect_of passed_on_of closed_call_of reply_of release_complete_of ends_of in_phase_of tick_of not_an_event_of refused_of
step_in c (Event.Setup reference rights q) l w =
    heard_in c _ _ _ (heard c _ _ _) w
    (λ _ _ g _. let t = (both _ _ (reference_range reference) (rights_range rights)).so g in setup_in reference rights q _ t.0 t.1)
step_in c (Event.Alerting g) l w =
    live_in c _ _ _ w (λ h. inl (inl ((requested c.phase).so h))) (answered_in c _ _ _ l)
step_in c (Event.Connect g) l w =
    live_in c _ _ _ w (λ h. inl (⊎_elim (λ e. inl e) (λ e. inr (inl e)) ((connectable c.phase).so h))) (answered_in c _ _ _ l)
step_in c (Event.Information side more) l w =
    live_in c _ _ _ w (λ h. inl (inr ((talking c.phase).so h))) (element_in_lem c side more _)
step_in c (Event.Facility side what) l w =
    live_in c _ _ _ w (λ h. inl (inr (inr ((active c.phase).so h)))) (facility_in c side what _)
step_in c (Event.Disconnect side cause g) l w =
    live_in c _ _ _ w (λ h. inl ((up c.phase).so h)) (record { reference = refl; rights = refl; meters = λ m. m })
step_in c (Event.ReleaseComplete side) l w =
    live_in c _ _ _ w (λ h. (live c.phase).so h) (record { reference = refl; rights = refl; meters = λ m. m })
step_in c Event.Tick l w = live_in c _ _ _ w (λ h. (live c.phase).so h) (tick_in c)
step_in c Event.CallProceeding l w = w
step_in c Event.CongestionControl l w = w

-- a run
pub run_in : (c : Call) (os : List Offered) → Good c → Good (run_of step_of c os)
run_in c [] w = w
run_in c (o ∷ os) w = run_in (step_of c o.event o.element).call os (step_in c o.event o.element w)

fresh_in : Good fresh_call
unfolding fresh_call
fresh_in v = never ((live Phase.Fresh).back v) refl

pub sound : Sound step_of
sound os = run_in fresh_call os fresh_in

-- a number that stands in no row is never given
abbrev Lacks : Rows → ℕ → Type 0
Lacks end n = n ≡ 0 → ⊥
Lacks (row P k rows) n = (n ≡ k → ⊥) × Lacks rows n

lacks : (rows : Rows) (n : ℕ) → Lacks rows n → First rows n → ⊥
lacks end n x f = x f
lacks (row P k rows) n x (inl f) = x.0 f.1
lacks (row P k rows) n x (inr f) = lacks rows n x.1 f.1

twenty_five : (c : Call) (e : Event) (l : List ℕ) → First (answer_rows c e l) 25 → Unsound c
twenty_five c e l (inl f) = f.0
twenty_five c e l (inr f) = absurd (lacks (after (answer_rows c e l)) 25 (omega arith) f.1)

pub never_unsound_lem : NeverUnsound step_of
never_unsound_lem os e l h =
    let c = run_of step_of fresh_call os in
    let u = twenty_five c e l ((answers c e l 25).0 h) in
    u.1 (sound os u.0)
