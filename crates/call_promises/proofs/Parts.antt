-- The parts of a step, each with the paper's condition for it: what lets an event through, what rides with a message,
-- what the answers make of a service, what a message meets in its meter, what FACILITY is answered.
use Rattle.services.specs.declared.ByService.{ByService}
use Rattle.std.proofs.Common.{ℕ, ◌≤◌, List, Bool, true, false, cond, ◌||◌, not, inl, inr, ⊎_elim, ◌≡◌, refl, sym, ◌∙◌, ap, arith, ltb-true, ltb-false, ltb, eqb}
use Rattle.rights.specs.declared.Service.{Service}
use Rattle.services.specs.declared.Given.{Given}
use Rattle.services.specs.declared.Said.{Said}
use Rattle.services.specs.declared.Standing.{Standing}
use Rattle.user_element.specs.declared.Seen.{Seen}
use Rattle.user_element.specs.Element.{goes_out_of}
use Rattle.answer.specs.declared.Answer.{Answer}
use Rattle.answer.specs.Answer.{number_of, taken_of}
use Rattle.phases.specs.declared.Phase.{Phase}
use Rattle.sent.specs.declared.side.Side.{Side}
use Rattle.event.specs.declared.Event.{Event}
use Rattle.facility_rules.specs.declared.What.{What}
use Rattle.facility_rules.specs.Messages.{not_granted_of}
use Rattle.answering_rules.specs.declared.Fate.{Fate}
use Rattle.answering_rules.specs.Fates.{decided_of, alerting_fates_of, connect_fates_of}
use Rattle.answering_rules.specs.Effects.{settled_of, told_of, declined_of, failure_of, in_force_after_of}
use Rattle.flow_meter.specs.declared.Meter.{Meter}
use Rattle.flow_meter.specs.declared.passage.Passage.{Passage}
use Rattle.flow_meter.specs.Passage.{counted_of, paid_of, marked_of, under_three_of, passage_of}
use Rattle.services.specs.Standing.{awaits_of}
use Rattle.call.specs.declared.Call.{Call}
use Rattle.call.specs.Facility.{facility_verdict_of}
use Rattle.call.specs.Information.{information_passage_of}
use Rattle.call.specs.Sound.{sound_of}
use Rattle.logic.specs.First.{end, row, First}
use Rattle.logic.proofs.Decide.{never, by_cond, Decides, Denies}
use Rattle.call_promises.specs.Ranges.{Unsound}
use Rattle.call_promises.specs.Numbers.{Allowed, OutOfRange, ServesTwo, ServesThree, AskedRequired, NotGranted, NotOpen, meter_from}
use Rattle.call_promises.specs.Notes.{Open, NotCarried, limit_for}
use Rattle.call_promises.specs.Services.{standing_for}
use Rattle.call_promises.specs.Sends.{Hears, Flags, Rides, Due, ringing, third, first, second, Counts, Settles, accepted, declined, kept, FailsAt, TurnedDown, turned, unturned, Intact, CountPays, CreditServes, CreditPays, FirstDropped, Agreed}
use Rattle.call_promises.proofs.Conditions.{serves_two, serves_three, same_meter, silence_no}
use Rattle.call_promises.proofs.Numbers.{say_rows}
use Rattle.call_promises.proofs.Seen.{Sight, absent, malformed, too_long, whole}

-- ---- an event heard, or not

-- the tests say that the event is heard
pub record Tests (c : Call) (e : Event) (a g : Bool) : Type 0 where
  pub so : sound_of c ≡ true → a ≡ true → g ≡ true → Hears c e
  pub back : Hears c e → (sound_of c ≡ true) × (a ≡ true) × (g ≡ true)

untrue : {b : Bool} {P : Type 0} → Denies b P → (P → ⊥) → b ≡ true
untrue {b = true} d n = refl
untrue {b = false} d n = absurd (n (d.so refl))

pub tests : (c : Call) (e : Event) (a g : Bool) → Denies (sound_of c) (Unsound c) → Decides a (Allowed e c.phase) → Denies g (OutOfRange e) → Tests c e a g
tests c e a g s d o =
    record {
      so = λ h i j. record { sound = λ u. never h (s.back u); allowed = d.so i; ranged = λ x. never j (o.back x) };
      back = λ h. (untrue s h.sound, d.back h.allowed, untrue o h.ranged);
    }

-- ---- the element of an event

pub rides : (c : Call) (e : Event) (l : List ℕ) {s : Seen} (carried : Bool) → Sight l (limit_for c e) s → (s ≡ Seen.Whole → Denies carried (NotCarried c e)) → Flags (goes_out_of s carried) (Rides c e l)
unfolding goes_out_of
rides c e l carried (absent z) d = record { so = λ h. never h refl; back = λ r. let k = r.formed.least in absurd (omega arith) }
rides c e l carried (malformed z w) d = record { so = λ h. never h refl; back = λ r. absurd (w r.formed) }
rides c e l carried (too_long z w h) d = record { so = λ h. never h refl; back = λ r. let k = r.limit in absurd (omega arith) }
rides c e l true (whole z w h) d = record { so = λ _. record { formed = w; limit = h; carried = λ x. never refl ((d refl).back x) }; back = λ _. refl }
rides c e l false (whole z w h) d = record { so = λ k. never k refl; back = λ r. absurd (r.carried ((d refl).so refl)) }

pub one_flag : {b d : Bool} {P : Type 0} → Flags b P → Flags d P → b ≡ d
one_flag {b = true} {d = true} f g = refl
one_flag {b = true} {d = false} f g = sym (g.back (f.so refl))
one_flag {b = false} {d = true} f g = f.back (g.so refl)
one_flag {b = false} {d = false} f g = refl

-- ---- what the answers make of a service

pub data View (p : Phase) (e : Event) (k : Service) (s : Standing) : Fate → Type 0 where
  idle : ((g : Given) → Due p e k g → ⊥) → View p e k s Fate.Kept
  asked : (g : Given) → Due p e k g → ((h : Given) → Due p e k h → g ≡ h) → View p e k s (decided_of s g)

pub not_three : Service.One ≡ Service.Three → ⊥
not_three e = let z : ◌≡◌ {A = ℕ} 0 1 = cc e in omega arith

pub nor_three : Service.Two ≡ Service.Three → ⊥
nor_three e = let z : ◌≡◌ {A = ℕ} 0 1 = cc e in omega arith

module _ (p : Phase) (s : ByService Standing) (a : ByService Given) where
  same : (k : Service) (g h : Given) → Due p (Event.Alerting a) k g → Due p (Event.Alerting a) k h → g ≡ h
  same k g h (ringing n e) (ringing n' e') = sym e ∙ e'

  pub alerting_one : View p (Event.Alerting a) Service.One s.one (alerting_fates_of s a).one
  unfolding alerting_fates_of
  alerting_one = asked a.one (ringing not_three refl) (λ h d. same Service.One _ h (ringing not_three refl) d)

  pub alerting_two : View p (Event.Alerting a) Service.Two s.two (alerting_fates_of s a).two
  unfolding alerting_fates_of
  alerting_two = asked a.two (ringing nor_three refl) (λ h d. same Service.Two _ h (ringing nor_three refl) d)

  no_third : (g : Given) → Due p (Event.Alerting a) Service.Three g → ⊥
  no_third g (ringing n e) = n refl

  pub alerting_three : View p (Event.Alerting a) Service.Three s.three (alerting_fates_of s a).three
  unfolding alerting_fates_of
  alerting_three = idle no_third

  one_due : (g : Given) → Due p (Event.Connect a) Service.One g → (p ≡ Phase.Requested) × (a.one ≡ g)
  one_due g (first r e) = (r, e)

  two_due : (g : Given) → Due p (Event.Connect a) Service.Two g → (p ≡ Phase.Requested) × (Given.Silent ≡ g)
  two_due g (second r e) = (r, e)

  three_due : (g : Given) → Due p (Event.Connect a) Service.Three g → a.three ≡ g
  three_due g (third e) = e

  module _ (b : Bool) (d : Decides b (p ≡ Phase.Requested)) where
    connect_by : (k : Service) (t : Standing) (g : Given) → (p ≡ Phase.Requested → Due p (Event.Connect a) k g) → ((h : Given) → Due p (Event.Connect a) k h → (p ≡ Phase.Requested) × (g ≡ h)) → (x : Bool) → b ≡ x → View p (Event.Connect a) k t (cond (not x) Fate.Kept (decided_of t g))
    connect_by k t g f u true e = asked g (f (d.so e)) (λ h x. (u h x).1)
    connect_by k t g f u false e = idle (λ h x. never (d.back (u h x).0) e)

    pub connect_one : View p (Event.Connect a) Service.One s.one (connect_fates_of (not b) s a).one
    unfolding connect_fates_of
    connect_one = connect_by Service.One s.one a.one (λ r. first r refl) one_due b refl

    pub connect_two : View p (Event.Connect a) Service.Two s.two (connect_fates_of (not b) s a).two
    unfolding connect_fates_of
    connect_two = connect_by Service.Two s.two Given.Silent (λ r. second r refl) two_due b refl

    pub connect_three : View p (Event.Connect a) Service.Three s.three (connect_fates_of (not b) s a).three
    unfolding connect_fates_of
    connect_three = asked a.three (third refl) three_due

-- ---- what is open, and what an answer makes of it

unopened : (s : Standing) (g : Given) → (Open s → ⊥) → decided_of s g ≡ Fate.Kept
unopened Standing.Unasked g n = refl
unopened Standing.Preferred g n = absurd (n (inl refl))
unopened Standing.Required g n = absurd (n (inr refl))
unopened Standing.InForce g n = refl
unopened Standing.Closed g n = refl

opened : (s : Standing) → Open s → decided_of s Given.Accepted ≡ Fate.Accepted
opened s (inl e) = rw e refl
opened s (inr e) = rw e refl

-- an open request that is not accepted
data Shut : Fate → Type 0 where
  closed : Shut Fate.Closed
  failed : Shut Fate.Failed

shut_by : (s : Standing) (g : Given) → Open s → (g ≡ Given.Accepted → ⊥) → Shut (decided_of s g)
shut_by s Given.Silent (inl e) n = rw e closed
shut_by s Given.Silent (inr e) n = rw e failed
shut_by s Given.Accepted o n = absurd (n refl)
shut_by s Given.Rejected (inl e) n = rw e closed
shut_by s Given.Rejected (inr e) n = rw e failed

shut_standing : (s : Standing) {f : Fate} → Shut f → Standing.Closed ≡ settled_of s f
shut_standing s closed = refl
shut_standing s failed = refl

shut_told : {f : Fate} → Shut f → Said.ByUser ≡ told_of f
shut_told closed = refl
shut_told failed = refl

shut_declined : {f : Fate} → Shut f → Said.ByUser ≡ declined_of f
shut_declined closed = refl
shut_declined failed = refl

-- what an answer can make of a standing
data Decision (s : Standing) (g : Given) : Fate → Type 0 where
  stays : (Open s → ⊥) → Decision s g Fate.Kept
  grants : Open s → g ≡ Given.Accepted → Decision s g Fate.Accepted
  closes : s ≡ Standing.Preferred → (g ≡ Given.Accepted → ⊥) → Decision s g Fate.Closed
  fails : s ≡ Standing.Required → (g ≡ Given.Accepted → ⊥) → Decision s g Fate.Failed

neither_open : (s : Standing) → (s ≡ Standing.Preferred → ⊥) → (s ≡ Standing.Required → ⊥) → Open s → ⊥
neither_open s a b = ⊎_elim a b

rejection_no : Given.Rejected ≡ Given.Accepted → ⊥
rejection_no e = let z : ◌≡◌ {A = ℕ} 0 1 = cc e in omega arith

decision : (s : Standing) (g : Given) → Decision s g (decided_of s g)
decision Standing.Unasked g =
    stays (neither_open _ (λ e. let z : ◌≡◌ {A = ℕ} 0 1 = cc e in omega arith) (λ e. let z : ◌≡◌ {A = ℕ} 0 1 = cc e in omega arith))
decision Standing.Preferred Given.Silent = closes refl silence_no
decision Standing.Preferred Given.Accepted = grants (inl refl) refl
decision Standing.Preferred Given.Rejected = closes refl rejection_no
decision Standing.Required Given.Silent = fails refl silence_no
decision Standing.Required Given.Accepted = grants (inr refl) refl
decision Standing.Required Given.Rejected = fails refl rejection_no
decision Standing.InForce g =
    stays (neither_open _ (λ e. let z : ◌≡◌ {A = ℕ} 0 1 = cc e in omega arith) (λ e. let z : ◌≡◌ {A = ℕ} 0 1 = cc e in omega arith))
decision Standing.Closed g =
    stays (neither_open _ (λ e. let z : ◌≡◌ {A = ℕ} 0 1 = cc e in omega arith) (λ e. let z : ◌≡◌ {A = ℕ} 0 1 = cc e in omega arith))

module _ (c : Call) (e : Event) (k : Service) where
  abbrev now : Standing
  now = standing_for c.standings k

  -- how it then stands, and what is said of it
  settles_due : (g : Given) → Due c.phase e k g → ((h : Given) → Due c.phase e k h → g ≡ h) → {f : Fate} → Decision now g f → Settles c e k (settled_of now f) (told_of f)
  settles_due g d u (stays n) = kept (λ h x. n x.asked)
  settles_due g d u (grants o t) = accepted (record { due = rw t at d; asked = o })
  settles_due g d u (closes s n) = declined (record { due = d; asked = inl s }) n
  settles_due g d u (fails s n) = declined (record { due = d; asked = inr s }) n

  pub settles_is : {f : Fate} → View c.phase e k now f → Settles c e k (settled_of now f) (told_of f)
  settles_is (idle n) = kept (λ g x. n g x.due)
  settles_is (asked g d u) = settles_due g d u (decision now g)

  pub settles_one : {f : Fate} {t : Standing} {x : Said} → View c.phase e k now f → Settles c e k t x → (settled_of now f ≡ t) × (told_of f ≡ x)
  settles_one (idle n) (accepted a) = absurd (n _ a.due)
  settles_one (idle n) (declined a m) = absurd (n _ a.due)
  settles_one (idle n) (kept m) = (refl, refl)
  settles_one (asked g d u) (accepted a) = rw (u _ a.due, opened now a.asked) (refl, refl)
  settles_one (asked g d u) (declined a m) =
      let z = shut_by now g a.asked (λ w. m (sym (u _ a.due) ∙ w)) in
      (sym (shut_standing now z), sym (shut_told z))
  settles_one (asked g d u) (kept m) =
      let z = unopened now g (λ o. m g (record { due = d; asked = o })) in
      (ap (settled_of now) z, ap told_of z)

  -- what is said of it where the call is cleared
  turned_due : (g : Given) → Due c.phase e k g → ((h : Given) → Due c.phase e k h → g ≡ h) → {f : Fate} → Decision now g f → TurnedDown c e k (declined_of f)
  turned_due g d u (stays n) = unturned (λ h x. absurd (n x.asked))
  turned_due g d u (grants o t) = unturned (λ h x. sym (u h x.due) ∙ t)
  turned_due g d u (closes s n) = turned (record { due = d; asked = inl s }) n
  turned_due g d u (fails s n) = turned (record { due = d; asked = inr s }) n

  pub turned_is : {f : Fate} → View c.phase e k now f → TurnedDown c e k (declined_of f)
  turned_is (idle n) = unturned (λ g x. absurd (n g x.due))
  turned_is (asked g d u) = turned_due g d u (decision now g)

  turned_nothing : (g : Given) → Due c.phase e k g → {f : Fate} → Decision now g f → ((h : Given) → Counts c e k h → h ≡ Given.Accepted) → declined_of f ≡ Said.Nothing
  turned_nothing g d (stays n) m = refl
  turned_nothing g d (grants o t) m = refl
  turned_nothing g d (closes s n) m = absurd (n (m g (record { due = d; asked = inl s })))
  turned_nothing g d (fails s n) m = absurd (n (m g (record { due = d; asked = inr s })))

  pub turned_one : {f : Fate} {x : Said} → View c.phase e k now f → TurnedDown c e k x → declined_of f ≡ x
  turned_one (idle n) (turned a m) = absurd (n _ a.due)
  turned_one (idle n) (unturned m) = refl
  turned_one (asked g d u) (turned a m) = sym (shut_declined (shut_by now g a.asked (λ w. m (sym (u _ a.due) ∙ w))))
  turned_one (asked g d u) (unturned m) = turned_nothing g d (decision now g) m

  -- whether it fails
  pub data Failure : Bool → Type 0 where
    none : ((g : Given) → FailsAt c e k g → ⊥) → Failure false
    one : (g : Given) → FailsAt c e k g → Failure true

  failure_due : (g : Given) → Due c.phase e k g → ((h : Given) → Due c.phase e k h → g ≡ h) → {f : Fate} → Decision now g f → Failure (failure_of f)
  failure_due g d u (stays n) = none (λ h x. n (inr x.required))
  failure_due g d u (grants o t) = none (λ h x. x.refused (sym (u h x.due) ∙ t))
  failure_due g d u (closes s n) = none (λ h x. let z : ◌≡◌ {A = ℕ} 0 1 = cc (s, x.required) in omega arith)
  failure_due g d u (fails s n) = one g (record { due = d; required = s; refused = n })

  pub failure : {f : Fate} → View c.phase e k now f → Failure (failure_of f)
  failure (idle n) = none (λ g x. n g x.due)
  failure (asked g d u) = failure_due g d u (decision now g)

-- what becomes of service 3: accepted, or not
pub data Third (c : Call) (e : Event) : Fate → Type 0 where
  three_accepted : Counts c e Service.Three Given.Accepted → Third c e Fate.Accepted
  three_kept : {f : Fate} → (Counts c e Service.Three Given.Accepted → ⊥) → in_force_after_of c.meters c.rights.burst f ≡ c.meters → Third c e f

module _ (c : Call) (e : Event) where
  third_due : (g : Given) → Due c.phase e Service.Three g → ((h : Given) → Due c.phase e Service.Three h → g ≡ h) → {f : Fate} → Decision c.standings.three g f → Third c e f
  third_due g d u (stays n) = three_kept (λ x. n x.asked) refl
  third_due g d u (grants o t) = three_accepted (record { due = rw t at d; asked = o })
  third_due g d u (closes s n) = three_kept (λ x. n (u _ x.due)) refl
  third_due g d u (fails s n) = three_kept (λ x. n (u _ x.due)) refl

  pub third_of : {f : Fate} → View c.phase e Service.Three c.standings.three f → Third c e f
  third_of (idle n) = three_kept (λ x. n _ x.due) refl
  third_of (asked g d u) = third_due g d u (decision c.standings.three g)

-- whether a required service fails
pub data Outcome (c : Call) (e : Event) : Bool → Type 0 where
  sound : ((k : Service) (g : Given) → FailsAt c e k g → ⊥) → Outcome c e false
  fails : (k : Service) (g : Given) → FailsAt c e k g → Outcome c e true

module _ (c : Call) (e : Event) where
  abbrev Spared : Service → Type 0
  Spared k = (g : Given) → FailsAt c e k g → ⊥

  all_spared : Spared Service.One → Spared Service.Two → Spared Service.Three → (k : Service) → Spared k
  all_spared n m o Service.One = n
  all_spared n m o Service.Two = m
  all_spared n m o Service.Three = o

  pub outcome : {x y z : Bool} → Failure c e Service.One x → Failure c e Service.Two y → Failure c e Service.Three z → Outcome c e ((x || y) || z)
  outcome (one g x) q r = fails Service.One g x
  outcome (none n) (one g x) r = fails Service.Two g x
  outcome (none n) (none m) (one g x) = fails Service.Three g x
  outcome (none n) (none m) (none o) = sound (all_spared n m o)

-- ---- what a message meets in its meter

pub data Met (c : Call) (l : List ℕ) (side : Side) (m : Meter) : Passage → Type 0 where
  counted : CountPays c l side → Met c l side m (Passage.Two (counted_of m))
  paid : CreditPays c l side → Met c l side m (Passage.Three (paid_of m))
  marked : FirstDropped c l side → Met c l side m (Passage.Marks (marked_of m))
  spent : (CountPays c l side → ⊥) → (CreditPays c l side → ⊥) → (FirstDropped c l side → ⊥) → Met c l side m Passage.Spent
  unserved : (CountPays c l side → ⊥) → (CreditPays c l side → ⊥) → (FirstDropped c l side → ⊥) → Met c l side m Passage.Unserved

module _ (c : Call) (l : List ℕ) (side : Side) (i : Intact c l) where
  abbrev own : Meter
  own = meter_from c side

  three_met : (ServesTwo c side → 2 ≤ own.count) → ServesThree c → Met c l side own (under_three_of own)
  unfolding under_three_of
  three_met f t =
      let s : CreditServes c l side = record { intact = i; spent = f; serves = t } in
      by_cond (Met c l side own) (ltb 0 own.credit) (λ k. paid (record { credit = s; left = ltb-true _ _ k }))
      (λ k.
      let z : own.credit ≡ 0 = (let y = ltb-false 0 own.credit k in omega arith) in
      by_cond (Met c l side own) own.mark
      (λ m.
      spent (λ x. let a = f x.serves in let b = x.left in absurd (omega arith)) (λ x. let b = x.left in absurd (omega arith)) (λ x. never m x.unmarked))
      (λ m. marked (record { credit = s; gone = z; unmarked = m })))

  met_by : (two three : Bool) → Decides two (ServesTwo c side) → Decides three (ServesThree c) → Met c l side own (passage_of own two three)
  unfolding passage_of
  met_by true three d g =
      by_cond (Met c l side own) (ltb own.count 2) (λ k. counted (record { intact = i; serves = d.so refl; left = ltb-true _ _ k }))
      (λ k.
      let f : ServesTwo c side → 2 ≤ own.count = (λ _. ltb-false _ _ k) in
      by_cond (Met c l side own) three (λ t. three_met f (g.so t))
      (λ t.
      spent (λ x. let a = f x.serves in let b = x.left in absurd (omega arith)) (λ x. never (g.back x.credit.serves) t) (λ x. never (g.back x.credit.serves) t)))
  met_by false three d g =
      by_cond (Met c l side own) three (λ t. three_met (λ s. never (d.back s) refl) (g.so t))
      (λ t.
      unserved (λ x. never (d.back x.serves) refl) (λ x. never (g.back x.credit.serves) t) (λ x. never (g.back x.credit.serves) t))

  pub met : Met c l side own (information_passage_of c side)
  unfolding information_passage_of
  met = rw (same_meter c side) (met_by _ _ (serves_two c side) (serves_three c))

-- a message is paid for in one way only
pub paid_once : {c : Call} {l : List ℕ} {side : Side} → CountPays c l side → CreditServes c l side → ⊥
paid_once x y = let a = y.spent x.serves in let b = x.left in omega arith

pub left_once : {c : Call} {l : List ℕ} {side : Side} → CreditPays c l side → FirstDropped c l side → ⊥
left_once x y = let a = x.left in let b = y.gone in omega arith

-- ---- what FACILITY is answered

taken_is : (v : Answer) → taken_of v ≡ eqb (number_of v) 0
taken_is Answer.Taken = refl
taken_is Answer.OutOfPhase = refl
taken_is Answer.NotAnEvent = refl
taken_is Answer.NoService = refl
taken_is Answer.Spent = refl
taken_is Answer.NotOpen = refl
taken_is Answer.NotGranted = refl
taken_is Answer.BadElement = refl
taken_is Answer.AskedRequired = refl
taken_is Answer.OutOfRange = refl
taken_is Answer.Unsound = refl

barred_is : (v : Answer) → not_granted_of v ≡ eqb (number_of v) 16
barred_is Answer.Taken = refl
barred_is Answer.OutOfPhase = refl
barred_is Answer.NotAnEvent = refl
barred_is Answer.NoService = refl
barred_is Answer.Spent = refl
barred_is Answer.NotOpen = refl
barred_is Answer.NotGranted = refl
barred_is Answer.BadElement = refl
barred_is Answer.AskedRequired = refl
barred_is Answer.OutOfRange = refl
barred_is Answer.Unsound = refl

pub data Verdict (c : Call) (e : Event) (taken barred : Bool) : Type 0 where
  agreed : Agreed c e → taken ≡ true → barred ≡ false → Verdict c e taken barred
  ungranted : (AskedRequired e → ⊥) → NotGranted c e → taken ≡ false → barred ≡ true → Verdict c e taken barred
  neither : (Agreed c e → ⊥) → ((AskedRequired e → ⊥) → NotGranted c e → ⊥) → taken ≡ false → barred ≡ false → Verdict c e taken barred

module _ (c : Call) (e : Event) (v : Answer) where
  numbered : (n : ℕ) → number_of v ≡ n → (taken_of v ≡ eqb n 0) × (not_granted_of v ≡ eqb n 16)
  numbered n h = (taken_is v ∙ ap (λ (m : ℕ). eqb m 0) h, barred_is v ∙ ap (λ (m : ℕ). eqb m 16) h)

  verdict_of_lem : First (row (AskedRequired e) 18 (row (NotGranted c e) 16 (row (NotOpen c e) 15 end))) (number_of v) → Verdict c e (taken_of v) (not_granted_of v)
  verdict_of_lem =
      ⊎_elim (λ x. let n = numbered 18 x.1 in neither (λ a. a.preferred x.0) (λ f _. f x.0) n.0 n.1)
      (λ x.
      ⊎_elim (λ y. let n = numbered 16 y.1 in ungranted x.0 y.0 n.0 n.1)
      (λ y.
      ⊎_elim (λ z. let n = numbered 15 z.1 in neither (λ a. a.opened z.0) (λ _ g. y.0 g) n.0 n.1)
      (λ z. let n = numbered 0 z.1 in agreed (record { preferred = x.0; granted = y.0; opened = z.0 }) n.0 n.1) y.1)
      x.1)

pub verdict : (c : Call) (l : List ℕ) (side : Side) (what : What) → Verdict c (Event.Facility side what) (taken_of (facility_verdict_of c side what)) (not_granted_of (facility_verdict_of c side what))
verdict c l side what = verdict_of_lem c (Event.Facility side what) (facility_verdict_of c side what) (say_rows c l side what)

-- ---- a request that is open

awaits_so : (s : Standing) → awaits_of s ≡ true → Open s
awaits_so Standing.Unasked h = never h refl
awaits_so Standing.Preferred h = inl refl
awaits_so Standing.Required h = inr refl
awaits_so Standing.InForce h = never h refl
awaits_so Standing.Closed h = never h refl

pub awaits : (s : Standing) → Decides (awaits_of s) (Open s)
awaits s = record { so = awaits_so s; back = ⊎_elim (λ e. rw e refl) (λ e. rw e refl) }
