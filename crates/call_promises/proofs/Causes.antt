-- The causes follow from what is sent, and of 29 from the causes.
use Rattle.std.proofs.Common.{Option, Some, ℕ, List, inl, inr, ◌≡◌, refl, sym, ◌∙◌, subst, arith}
use Rattle.services.specs.declared.ByService.{ByService}
use Rattle.rights.specs.declared.Service.{Service}
use Rattle.services.specs.declared.Given.{Given}
use Rattle.services.specs.declared.Standing.{Standing}
use Rattle.message_types.specs.declared.Kind.{Kind}
use Rattle.sent.specs.declared.Message.{Message}
use Rattle.sent.specs.declared.side.Side.{Side}
use Rattle.call.specs.declared.Call.{Call}
use Rattle.event.specs.declared.Event.{Event}
use Rattle.call_promises.specs.Numbers.{Core, other}
use Rattle.call_promises.specs.Notes.{AlertingFails, ConnectFails}
use Rattle.call_promises.specs.Refusals.{sent_to}
use Rattle.call_promises.specs.Services.{standing_for, alerting as at-alerting, connect as at-connect}
use Rattle.call_promises.specs.Sends.{Hears, Due, ringing, third, first, second, FailsAt, on, clears, clears_too, Sends, released, proceeding, setup, alerting, connect, passes, warns, facility, refuses, disconnect, release, ready, SendsExactly}
use Rattle.call_promises.specs.Causes.{RequiredFails, CauseTold, refused, proceeds, goes_on, fails, fails_too, alerts, connects, informs, not_ready, about_three, own, bare, ready_again, Bears, bears, Causes, OneCause, OwnWord, says, TwentyNine}
use Rattle.call_promises.proofs.Conditions.{silence_no}
use Rattle.call_promises.proofs.Parts.{rides, not_three, nor_three, alerting_one, alerting_two, alerting_three, connect_one, connect_two, connect_three, turned_is}
use Rattle.call_promises.proofs.Notes.{disconnect_comes}
use Rattle.call_promises.proofs.Phases.{requested}
use Rattle.call_promises.proofs.Seen.{sight}
use Rattle.call_promises.proofs.Sends.{word_is}
use Rattle.logic.proofs.Decide.{denied as denies}

-- ---- a required service that fails, as `Sends` has it and as `Failed` has it

alerting_so : (c : Call) (a : ByService Given) (k : Service) (g : Given) → FailsAt c (Event.Alerting a) k g → AlertingFails c.standings a
alerting_so c a k g x = due k g x.due x.required x.refused
  where
    due : (k : Service) (g : Given) → Due c.phase (Event.Alerting a) k g → standing_for c.standings k ≡ Standing.Required → (g ≡ Given.Accepted → ⊥) → AlertingFails c.standings a
    due Service.One g (ringing n e) r m = inl (r, λ h. m (sym e ∙ h))
    due Service.Two g (ringing n e) r m = inr (r, λ h. m (sym e ∙ h))
    due Service.Three g (ringing n e) r m = absurd (n refl)

connect_so : (c : Call) (a : ByService Given) (k : Service) (g : Given) → FailsAt c (Event.Connect a) k g → ConnectFails c.phase c.standings a
connect_so c a k g x = due k g x.due x.required x.refused
  where
    due : (k : Service) (g : Given) → Due c.phase (Event.Connect a) k g → standing_for c.standings k ≡ Standing.Required → (g ≡ Given.Accepted → ⊥) → ConnectFails c.phase c.standings a
    due k g (third e) r m = inr (r, λ h. m (sym e ∙ h))
    due k g (first p e) r m = inl (p, inl (r, λ h. m (sym e ∙ h)))
    due k g (second p e) r m = inl (p, inr r)

-- some service fails
data SomeFails (c : Call) (e : Event) : Type 0 where
  some : {k : Service} {g : Given} → FailsAt c e k g → SomeFails c e

fails_back : (c : Call) (e : Event) → RequiredFails c e → SomeFails c e
fails_back c e (at-alerting (inl x)) = some {k = Service.One} (record { due = ringing not_three refl; required = x.0; refused = x.1 })
fails_back c e (at-alerting (inr x)) = some {k = Service.Two} (record { due = ringing nor_three refl; required = x.0; refused = x.1 })
fails_back c e (at-connect (inl (p, inl x))) = some {k = Service.One} (record { due = first p refl; required = x.0; refused = x.1 })
fails_back c e (at-connect (inl (p, inr x))) = some {k = Service.Two} (record { due = second p refl; required = x; refused = silence_no })
fails_back c e (at-connect (inr x)) = some {k = Service.Three} (record { due = third refl; required = x.0; refused = x.1 })

none_clears : (c : Call) (e : Event) → ((k : Service) (g : Given) → FailsAt c e k g → ⊥) → RequiredFails c e → ⊥
none_clears c e n x = elim (fails_back c e x) [ some y ↦ n _ _ y ]

-- ---- the cause of each message

module _ (c : Call) (l : List ℕ) where
  told : (e : Event) (side : Side) (m : Message) → Sends c l e side m → CauseTold c e side m.kind m.cause
  told e side m (released x y z w) = refused
  told e side m (proceeding x y z w) = proceeds
  told e side m (setup x y z w b) = goes_on
  told e side m (alerting (on n s t u b)) = alerts (none_clears c _ n)
  told e side m (alerting (clears x s t u)) = fails (at-alerting (alerting_so c _ _ _ x))
  told e side m (alerting (clears_too x)) = fails_too (at-alerting (alerting_so c _ _ _ x))
  told e side m (connect (on n s t u b)) = connects (none_clears c _ n)
  told e side m (connect (clears x s t u)) = fails (at-connect (connect_so c _ _ _ x))
  told e side m (connect (clears_too x)) = fails_too (at-connect (connect_so c _ _ _ x))
  told e side m (passes x y) = informs x
  told e side m (warns x y) = not_ready x
  told e side m (facility x y z) = about_three
  told e side m (refuses x y z) = about_three
  told e side m (disconnect x s t u b) = own x
  told e side m (release x) = bare x
  told e side m (ready x y) = ready_again

-- ---- both users are sent theirs

bears_sent : {s : Option Message} {m : Message} {kind : Kind} {cause : Option ℕ} → s ≡ Some m → m.kind ≡ kind → m.cause ≡ cause → Bears kind cause s
bears_sent {kind = kind} {cause = cause} e x y = subst (Bears kind cause) (sym e) (bears x y)

module _ (f : Core) (s : SendsExactly f) (c : Call) (l : List ℕ) where
  abbrev Cleared : Event → Type 0
  Cleared e =
      Bears Kind.Disconnect (Some 69) (sent_to (f c e l) Side.Calling)
      × Bears Kind.Disconnect (Some 31) (sent_to (f c e l) Side.Called)

  alerting_both : (a : ByService Given) → Hears c (Event.Alerting a) → SomeFails c (Event.Alerting a) → Cleared (Event.Alerting a)
  alerting_both a h (some x) =
      let e = Event.Alerting a in
      let p = c.phase in
      let q = c.standings in
      (bears_sent ((s c e l Side.Calling _).1 (h, alerting (clears x (turned_is c e Service.One (alerting_one p q a)) (turned_is c e Service.Two (alerting_two p q a)) (turned_is c e Service.Three (alerting_three p q a))))) refl refl, bears_sent ((s c e l Side.Called _).1 (h, alerting (clears_too x))) refl refl)

  connect_both : (a : ByService Given) → Hears c (Event.Connect a) → SomeFails c (Event.Connect a) → Cleared (Event.Connect a)
  connect_both a h (some x) =
      let e = Event.Connect a in
      let p = c.phase in
      let q = c.standings in
      let r = requested p in
      (bears_sent ((s c e l Side.Calling _).1 (h, connect (clears x (turned_is c e Service.One (connect_one p q a _ r)) (turned_is c e Service.Two (connect_two p q a _ r)) (turned_is c e Service.Three (connect_three p q a _ r))))) refl refl, bears_sent ((s c e l Side.Called _).1 (h, connect (clears_too x))) refl refl)

  both : (e : Event) → Hears c e → RequiredFails c e → Cleared e
  both e h (at-alerting x) = alerting_both _ h (fails_back c e (at-alerting x))
  both e h (at-connect x) = connect_both _ h (fails_back c e (at-connect x))

  passed_on : (from : Side) (n : ℕ) (a : ByService Given) → Hears c (Event.Disconnect from n a) → Bears Kind.Disconnect (Some n) (sent_to (f c (Event.Disconnect from n a) l) (other from))
  passed_on from n a h =
      let e = Event.Disconnect from n a in
      let b = rides c e l _ (sight l c.rights.limit) (λ _. denies _ (disconnect_comes from c.standings.one a)) in
      bears_sent ((s c e l (other from) _).1 (h, disconnect refl (word_is c from a Service.One) (word_is c from a Service.Two) (word_is c from a Service.Three) b)) refl refl

pub causes : (f : Core) → SendsExactly f → Causes f
causes f s =
    record {
      each = λ c e l side m h. let x = (s c e l side m).0 h in (x.0, told c l e side m x.1);
      both = λ c e l h x. both f s c l e h x;
      passed = λ c from n a l h. passed_on f s c l from n a h;
    }

-- ---- one cause

-- a user's own DISCONNECT answers nothing that is due
not_own : {c : Call} {from : Side} {n : ℕ} {a : ByService Given} → RequiredFails c (Event.Disconnect from n a) → ⊥
not_own x = elim x [ ]

pub one_cause_lem : OneCause
one_cause_lem c e side kind x y refused refused = refl
one_cause_lem c e side kind x y proceeds proceeds = refl
one_cause_lem c e side kind x y goes_on goes_on = refl
one_cause_lem c e side kind x y (fails p) (fails q) = refl
one_cause_lem c e side kind x y (fails p) (own q) = absurd (not_own p)
one_cause_lem c e side kind x y (fails_too p) (fails_too q) = refl
one_cause_lem c e side kind x y (fails_too p) (own q) = absurd (not_own p)
one_cause_lem c e side kind x y (alerts p) (alerts q) = refl
one_cause_lem c e side kind x y (connects p) (connects q) = refl
one_cause_lem c e side kind x y (informs p) (informs q) = refl
one_cause_lem c e side kind x y (not_ready p) (not_ready q) = refl
one_cause_lem c e side kind x y about_three about_three = refl
one_cause_lem c e side kind x y (own p) (fails q) = absurd (not_own q)
one_cause_lem c e side kind x y (own p) (fails_too q) = absurd (not_own q)
one_cause_lem c e side kind x y (own p) (own q) = refl
one_cause_lem c e side kind x y (bare p) (bare q) = refl
one_cause_lem c e side kind x y ready_again ready_again = refl

-- ---- 29

only_own : {c : Call} {e : Event} {side : Side} {kind : Kind} {cause : Option ℕ} → CauseTold c e side kind cause → cause ≡ Some 29 → (kind ≡ Kind.Disconnect) × OwnWord 29 e side
only_own refused h = absurd (let z : ◌≡◌ {A = ℕ} 50 29 = cc h in omega arith)
only_own proceeds h = absurd (let z : ◌≡◌ {A = ℕ} 0 1 = cc h in omega arith)
only_own goes_on h = absurd (let z : ◌≡◌ {A = ℕ} 0 1 = cc h in omega arith)
only_own (fails x) h = absurd (let z : ◌≡◌ {A = ℕ} 69 29 = cc h in omega arith)
only_own (fails_too x) h = absurd (let z : ◌≡◌ {A = ℕ} 31 29 = cc h in omega arith)
only_own (alerts x) h = absurd (let z : ◌≡◌ {A = ℕ} 0 1 = cc h in omega arith)
only_own (connects x) h = absurd (let z : ◌≡◌ {A = ℕ} 0 1 = cc h in omega arith)
only_own (informs x) h = absurd (let z : ◌≡◌ {A = ℕ} 0 1 = cc h in omega arith)
only_own (not_ready x) h = absurd (let z : ◌≡◌ {A = ℕ} 43 29 = cc h in omega arith)
only_own about_three h = absurd (let z : ◌≡◌ {A = ℕ} 0 1 = cc h in omega arith)
only_own (own {cause = n} e) h = (refl, let z : n ≡ 29 = cc h in rw z (says e))
only_own (bare x) h = absurd (let z : ◌≡◌ {A = ℕ} 0 1 = cc h in omega arith)
only_own ready_again h = absurd (let z : ◌≡◌ {A = ℕ} 43 29 = cc h in omega arith)

pub twenty_nine_lem : (f : Core) → Causes f → TwentyNine f
twenty_nine_lem f k c e l side m h z = only_own (k.each c e l side m h).1 z
