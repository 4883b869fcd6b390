-- The number of an answer is that of the first row that applies.
use Rattle.std.proofs.Common.{ℕ, ◌≤◌, List, Bool, true, false, ◌&&◌, ◌||◌, not, true≢false, ◌⊎◌, inl, inr, ⊎_elim, ◌≡◌, refl, arith, ltb-true, ltb-false, length, ltb}
use Rattle.logic.specs.First.{Rows, end, row, First}
use Rattle.logic.proofs.Only.{exactly}
use Rattle.flow_meter.specs.declared.Meter.{Meter}
use Rattle.flow_meter.specs.declared.passage.Passage.{Passage}
use Rattle.rights.specs.declared.Rights.{Rights}
use Rattle.rights.specs.declared.Service.{Service}
use Rattle.user_element.specs.declared.Seen.{Seen}
use Rattle.facility_rules.specs.declared.What.{What}
use Rattle.sent.specs.declared.side.Side.{Side}
use Rattle.call.specs.declared.Call.{Call}
use Rattle.event.specs.declared.Event.{Event}
use Rattle.call.specs.declared.reply.Reply.{Reply}
use Rattle.flow_meter.specs.Passage.{under_three_of, passage_of}
use Rattle.services.specs.Standing.{in_force_of}
use Rattle.answer.specs.Answer.{number_of}
use Rattle.facility_rules.specs.Asking.{asks_of, may_ask_of, to_request_of, to_answer_of}
use Rattle.information_rules.specs.Messages.{passage_answer_of}
use Rattle.sent.specs.Side.{peer_of}
use Rattle.call.specs.Answering.{alerting_of, connect_of}
use Rattle.call.specs.Disconnect.{passed_on_of, disconnect_of, ends_of, release_complete_of}
use Rattle.call.specs.Facility.{facility_verdict_of, passes_facility_of, facility_of}
use Rattle.call.specs.Information.{information_passage_of, carried_of, with_element_of, information_of}
use Rattle.call.specs.Reply.{bar_of, refused_of, heard_of, reply_of}
use Rattle.call.specs.Setup.{proceeds_of, setup_of}
use Rattle.call.specs.Sound.{sound_of}
use Rattle.call.specs.Step.{not_an_event_of, step_of}
use Rattle.call.specs.Tick.{passes_tick_of, tick_of}
use Rattle.call_promises.specs.Ranges.{Unsound}
use Rattle.call_promises.specs.Numbers.{NotAnEvent, Allowed, OutOfRange, Informs, sends, Says, tells, InForce, WellFormed, Has, Asks, ServesTwo, ServesThree, IsRequest, IsAnswer, meter_from, other, answer_rows, AnswersExactly}
use Rattle.logic.proofs.Decide.{never, by_cond, Decides, Denies, denied, via, both, either, neither, as_is, always, over}
use Rattle.call_promises.proofs.Phases.{fresh, requested, connectable, talking, active, up, live}
use Rattle.call_promises.proofs.Ranges.{unsound, reference_range, rights_range}
use Rattle.call_promises.proofs.Conditions.{in_force, has, serves_two, serves_three, same_meter}
use Rattle.call_promises.proofs.Seen.{Sight, absent, malformed, too_long, whole, sight}
use Rattle.call_promises.proofs.Refusals.{answered_taken}

-- an event that may be offered
abbrev proper_of : Event → Bool
proper_of (Event.Setup reference rights requests) = true
proper_of (Event.Alerting answers) = true
proper_of (Event.Connect answers) = true
proper_of (Event.Information side more) = true
proper_of (Event.Facility side what) = true
proper_of (Event.Disconnect side cause answers) = true
proper_of (Event.ReleaseComplete side) = true
proper_of Event.Tick = true
proper_of Event.CallProceeding = false
proper_of Event.CongestionControl = false

proper : (e : Event) → proper_of e ≡ true → NotAnEvent e → ⊥
proper e h = ⊎_elim (λ x. never h (rw x refl)) (λ x. never h (rw x refl))

out : {P : Type 0} → Denies true P → P → ⊥
out d p = true≢false (d.back p)

-- the rows of the first tests
module _ (c : Call) (r : Reply) (U O A R : Type 0) (rest : Rows) where
  heard_rows : (s a g : Bool) → sound_of c ≡ s → Denies s U → (O → ⊥) → Denies a (A → ⊥) → Denies g R → First rest (number_of r.answer) → First (row U 25 (row O 12 (row (A → ⊥) 11 (row R 24 rest)))) (number_of (heard_of c (bar_of c a g) r).answer)
  unfolding heard_of bar_of refused_of
  heard_rows true true true e u o a g f = rw e (inr (out u, inr (o, inr (out a, inr (out g, f)))))
  heard_rows true true false e u o a g f = rw e (inr (out u, inr (o, inr (out a, inl (g.so refl, refl)))))
  heard_rows true false k e u o a g f = rw e (inr (out u, inr (o, inl (a.so refl, refl))))
  heard_rows false b k e u o a g f = rw e (inl (u.so refl, refl))

-- the rows that follow them, and those for FACILITY
abbrev pub after : Rows → Rows
after end = end
after (row P k rows) = rows

abbrev pub later_rows : Call → Event → List ℕ → Rows
later_rows c e l = after (after (after (after (answer_rows c e l))))

abbrev pub last_rows : Call → Event → List ℕ → Rows
last_rows c e l = after (after (after (later_rows c e l)))

first_rows : (c : Call) (e : Event) (l : List ℕ) (a g : Bool) (r : Reply) → proper_of e ≡ true → Denies a (Allowed e c.phase → ⊥) → Denies g (OutOfRange e) → First (later_rows c e l) (number_of r.answer) → First (answer_rows c e l) (number_of (heard_of c (bar_of c a g) r).answer)
first_rows c e l a g r o p q f =
    heard_rows c r (Unsound c) (NotAnEvent e) (Allowed e c.phase) (OutOfRange e) (later_rows c e l) _ a g refl (unsound c) (proper e o) p q f

-- a condition in other words, and the rows after it
swap : {P Q : Type 0} {k n : ℕ} (rows others : Rows) → (P → Q) → (Q → P) → (First rows n → First others n) → First (row P k rows) n → First (row Q k others) n
swap rows others f g h (inl x) = inl (f x.0, x.1)
swap rows others f g h (inr x) = inr ((λ q. x.0 (g q)), h x.1)

sent : {P : Side → Type 0} {side : Side} {more : Bool} → Informs P (Event.Information side more) → P side
sent (sends p) = p

told : {P : Side → What → Type 0} {side : Side} {what : What} → Says P (Event.Facility side what) → P side what
told (tells p) = p

-- rows that never apply
void : {e : Event} {A B C : Side → What → Type 0} {i j k n : ℕ} → ((P : Side → What → Type 0) → Says P e → ⊥) → n ≡ 0 → First (row (Says A e) i (row (Says B e) j (row (Says C e) k end))) n
void mute z = inr (mute _, inr (mute _, inr (mute _, z)))

-- an event that nothing further keeps from being taken
no_more : {e : Event} {A B C : Side → Type 0} {D E F : Side → What → Type 0} {f g h i j k n : ℕ} → ((P : Side → Type 0) → Informs P e → ⊥) → ((P : Side → What → Type 0) → Says P e → ⊥) → n ≡ 0
    → First (row (Informs A e) f (row (Informs B e) g (row (Informs C e) h (row (Says D e) i (row (Says E e) j (row (Says F e) k end)))))) n
no_more still mute z = inr (still _, inr (still _, inr (still _, void mute z)))

-- USER INFORMATION
abbrev passage_rows : Meter → Type 0 → Type 0 → Rows → Rows
passage_rows m Two Three rest =
    row ((Two → ⊥) × (Three → ⊥)) 13 (row ((Two → 2 ≤ m.count) × (Three → m.credit ≡ 0)) 14 rest)

module _ (m : Meter) (Two Three : Type 0) (rest : Rows) (none : First rest 0) where
  abbrev Told : Passage → Type 0
  Told p = First (passage_rows m Two Three rest) (number_of (passage_answer_of p))

  three_rows : (Two → 2 ≤ m.count) → Three → Told (under_three_of m)
  unfolding under_three_of
  three_rows h t =
      by_cond Told (ltb 0 m.credit)
      (λ z. inr ((λ x. x.1 t), inr ((λ x. let k = x.1 t in let y = ltb-true 0 m.credit z in absurd (omega arith)), none)))
      (λ z.
      let spent : First (passage_rows m Two Three rest) 14 = inr ((λ x. x.1 t), inl ((h, λ _. let y = ltb-false 0 m.credit z in omega arith), refl)) in
      by_cond Told m.mark (λ _. spent) (λ _. spent))

  passage_rows_lem : (two three : Bool) → Decides two Two → Decides three Three → Told (passage_of m two three)
  unfolding passage_of
  passage_rows_lem true three a b =
      by_cond Told (ltb m.count 2)
      (λ z. inr ((λ x. x.0 (a.so refl)), inr ((λ x. let k = x.0 (a.so refl) in let y = ltb-true m.count 2 z in absurd (omega arith)), none)))
      (λ z.
      let full : 2 ≤ m.count = ltb-false m.count 2 z in
      by_cond Told three (λ t. three_rows (λ _. full) (b.so t))
      (λ t. inr ((λ x. x.0 (a.so refl)), inl ((λ _. full, λ s. never (b.back s) t), refl))))
  passage_rows_lem false three a b =
      by_cond Told three (λ t. three_rows (λ s. never (a.back s) refl) (b.so t))
      (λ t. inl ((λ s. never (a.back s) refl, λ s. never (b.back s) t), refl))

element_rows : (c : Call) (l : List ℕ) (limit : ℕ) (r : Reply) (rest : Rows) {s : Seen} → Sight l limit s → First rest (number_of r.answer) → First (row (WellFormed l × (length l ≤ limit) → ⊥) 17 rest) (number_of (with_element_of c s r).answer)
unfolding with_element_of refused_of
element_rows c l limit r rest (absent z) f = inl ((λ x. let h = x.0.least in omega arith), refl)
element_rows c l limit r rest (malformed z w) f = inl ((λ x. w x.0), refl)
element_rows c l limit r rest (too_long z w h) f = inl ((λ x. let k = x.1 in omega arith), refl)
element_rows c l limit r rest (whole z w h) f = inr ((λ x. x (w, h)), f)

module _ (c : Call) (side : Side) (more : Bool) (l : List ℕ) where
  abbrev rest_rows : Rows
  rest_rows = last_rows c (Event.Information side more) l

  carried_rows : First (passage_rows (meter_from c side) (ServesTwo c side) (ServesThree c) rest_rows) (number_of (carried_of c side more (information_passage_of c side)).answer)
  unfolding carried_of reply_of information_passage_of
  carried_rows = rw same_meter (passage_rows_lem (meter_from c side) _ _ rest_rows (void (λ P x. elim x [ ]) refl) _ _ (serves_two c side) (serves_three c))

  later_information : {s : Seen} → Sight l c.rights.limit s → First (later_rows c (Event.Information side more) l) (number_of (with_element_of c s (carried_of c side more (information_passage_of c side))).answer)
  later_information v =
      swap (passage_rows (meter_from c side) (ServesTwo c side) (ServesThree c) rest_rows) (after (later_rows c (Event.Information side more) l)) sends sent
      (swap (row ((ServesTwo c side → 2 ≤ (meter_from c side).count) × (ServesThree c → (meter_from c side).credit ≡ 0)) 14 rest_rows) (after (after (later_rows c (Event.Information side more) l))) sends sent
      (swap rest_rows rest_rows sends sent (λ x. x)))
      (element_rows c l c.rights.limit (carried_of c side more (information_passage_of c side))
      (passage_rows (meter_from c side) (ServesTwo c side) (ServesThree c) rest_rows) v carried_rows)

-- FACILITY
nand : (a b : Bool) {P Q : Type 0} → Decides a P → Decides b Q → Denies (a && b) ((P → ⊥) ⊎ (Q → ⊥))
nand true b d e = record { so = λ h. inr (λ q. never (e.back q) h); back = ⊎_elim (λ n. absurd (n (d.so refl))) (denied b e).back }
nand false b d e = record { so = λ h. inl (λ p. never (d.back p) refl); back = λ _. refl }

may_ask : (r : Rights) (side : Side) → Denies (may_ask_of r side) ((Has r Service.Three → ⊥) ⊎ ((side ≡ Side.Called) × (r.leave ≡ true → ⊥)))
may_ask r Side.Calling =
    let d = denied _ (has r Service.Three) in
    record { so = λ h. inl (d.so h); back = ⊎_elim d.back (λ x. absurd (let z : ◌≡◌ {A = ℕ} 0 1 = cc x.0 in omega arith)) }
may_ask r Side.Called =
    let d = nand _ _ (has r Service.Three) (as_is r.leave) in
    record {
      so = λ h. ⊎_elim (λ n. inl n) (λ n. inr (refl, n)) (d.so h);
      back = λ x. d.back (⊎_elim (λ n. inl n) (λ y. inr y.1) x);
    }

asks : (c : Call) (side : Side) → Decides (asks_of c.asking side) (Asks c side)
asks c Side.Calling = as_is _
asks c Side.Called = as_is _

asks_other : (c : Call) (side : Side) → Decides (asks_of c.asking (peer_of side)) (Asks c (other side))
asks_other c Side.Calling = as_is _
asks_other c Side.Called = as_is _

-- 18, 16 and 15 where they turn on what was said
module _ (Required Barred Shut : Type 0) where
  request_rows : (may shut : Bool) → (Required → ⊥) → Denies may Barred → Decides shut Shut → First (row Required 18 (row Barred 16 (row Shut 15 end))) (number_of (to_request_of may shut))
  unfolding to_request_of
  request_rows true true n b s = inr (n, inr (out b, inl (s.so refl, refl)))
  request_rows true false n b s = inr (n, inr (out b, inr ((λ x. never (s.back x) refl), refl)))
  request_rows false shut n b s = inr (n, inl (b.so refl, refl))

  said_rows : (shut : Bool) → (Required → ⊥) → (Barred → ⊥) → Decides shut Shut → First (row Required 18 (row Barred 16 (row Shut 15 end))) (number_of (to_answer_of shut))
  unfolding to_answer_of
  said_rows true n b s = inr (n, inr (b, inl (s.so refl, refl)))
  said_rows false n b s = inr (n, inr (b, inr ((λ x. never (s.back x) refl), refl)))

not_required : What.Preferred ≡ What.Required → ⊥
not_required e = let z : ◌≡◌ {A = ℕ} 0 1 = cc in omega arith

not_said : IsAnswer What.Preferred → ⊥
not_said =
    ⊎_elim (λ e. absurd (let z : ◌≡◌ {A = ℕ} 0 1 = cc in omega arith)) (λ e. absurd (let z : ◌≡◌ {A = ℕ} 0 1 = cc in omega arith))

answer_no_request : (what : What) → IsAnswer what → IsRequest what → ⊥
answer_no_request what a r =
    ⊎_elim
    (λ e. ⊎_elim (λ f. let z : ◌≡◌ {A = ℕ} 0 1 = cc in omega arith) (λ f. let z : ◌≡◌ {A = ℕ} 0 1 = cc in omega arith) r)
    (λ e. ⊎_elim (λ f. let z : ◌≡◌ {A = ℕ} 0 1 = cc in omega arith) (λ f. let z : ◌≡◌ {A = ℕ} 0 1 = cc in omega arith) r) a

module _ (c : Call) (l : List ℕ) (side : Side) where
  -- the conditions of 18, 16 and 15 where FACILITY says this
  abbrev required : What → Type 0
  required what = what ≡ What.Required

  abbrev barred : What → Type 0
  barred what = IsRequest what × ((Has c.rights Service.Three → ⊥) ⊎ ((side ≡ Side.Called) × (c.rights.leave ≡ true → ⊥)))

  abbrev shut : What → Type 0
  shut what =
      InForce c.standings.three ⊎ ((IsRequest what × Asks c side) ⊎ (IsAnswer what × (Asks c (other side) → ⊥)))

  abbrev plain_rows : What → Rows
  plain_rows what = row (required what) 18 (row (barred what) 16 (row (shut what) 15 end))

  preferred_rows : First (plain_rows What.Preferred) (number_of (facility_verdict_of c side What.Preferred))
  unfolding facility_verdict_of
  preferred_rows =
      let m = may_ask c.rights side in
      let d = either _ _ (in_force c.standings.three) (asks c side) in
      request_rows _ _ _ _ _ not_required (record { so = λ h. (inl refl, m.so h); back = λ x. m.back x.1 })
      (via (⊎_elim (λ i. inl i) (λ a. inr (inl (inl refl, a))))
      (⊎_elim (λ i. inl i) (⊎_elim (λ x. inr x.1) (λ x. absurd (not_said x.0))))
      d)

  answer_rows_lem : (what : What) → IsAnswer what → First (plain_rows what) (number_of (to_answer_of (in_force_of c.standings.three || not (asks_of c.asking (peer_of side)))))
  answer_rows_lem what a =
      let d = either _ _ (in_force c.standings.three) (neither _ (asks_other c side)) in
      said_rows _ _ _ _ (λ e. answer_no_request what a (inr e)) (λ x. answer_no_request what a x.0)
      (via (⊎_elim (λ i. inl i) (λ o. inr (inr (a, o))))
      (⊎_elim (λ i. inl i) (⊎_elim (λ x. absurd (answer_no_request what a x.0)) (λ x. inr x.1)))
      d)

  plain_rows_lem : (what : What) → First (plain_rows what) (number_of (facility_verdict_of c side what))
  unfolding facility_verdict_of
  plain_rows_lem What.Preferred = preferred_rows
  plain_rows_lem What.Accept = answer_rows_lem What.Accept (inl refl)
  plain_rows_lem What.Reject = answer_rows_lem What.Reject (inr refl)
  plain_rows_lem What.Required = inl (refl, refl)

  pub say_rows : (what : What) → First (last_rows c (Event.Facility side what) l) (number_of (facility_verdict_of c side what))
  say_rows what =
      swap (row (barred what) 16 (row (shut what) 15 end)) (after (last_rows c (Event.Facility side what) l)) tells told
      (swap (row (shut what) 15 end) (after (after (last_rows c (Event.Facility side what) l))) tells told (swap end end tells told (λ x. x)))
      (plain_rows_lem what)

not_an_event_rows : (c : Call) (e : Event) (l : List ℕ) (s : Bool) → sound_of c ≡ s → Denies s (Unsound c) → NotAnEvent e → First (answer_rows c e l) (number_of (not_an_event_of c).answer)
unfolding not_an_event_of refused_of
not_an_event_rows c e l true h u o = rw h (inr (out u, inl (o, refl)))
not_an_event_rows c e l false h u o = rw h (inl (u.so refl, refl))

pub answer_first : (c : Call) (e : Event) (l : List ℕ) → First (answer_rows c e l) (number_of (step_of c e l).answer)
unfolding setup_of proceeds_of alerting_of connect_of information_of facility_of passes_facility_of disconnect_of passed_on_of reply_of release_complete_of ends_of tick_of passes_tick_of
answer_first c (Event.Setup reference rights q) l =
    first_rows c (Event.Setup reference rights q) l _ _ _ refl (denied _ (fresh c.phase))
    (denied _ (both _ _ (reference_range reference) (rights_range rights))) (no_more (λ P x. elim x [ ]) (λ P x. elim x [ ]) refl)
answer_first c (Event.Alerting answers) l =
    first_rows c (Event.Alerting answers) l _ _ _ refl (denied _ (requested c.phase)) always
    (no_more (λ P x. elim x [ ]) (λ P x. elim x [ ]) (rw (answered_taken c _ _ _ l) refl))
answer_first c (Event.Connect answers) l =
    first_rows c (Event.Connect answers) l _ _ _ refl (denied _ (connectable c.phase)) always
    (no_more (λ P x. elim x [ ]) (λ P x. elim x [ ]) (rw (answered_taken c _ _ _ l) refl))
answer_first c (Event.Information side more) l =
    first_rows c (Event.Information side more) l _ _ _ refl (denied _ (talking c.phase)) always
    (later_information c side more l (sight l c.rights.limit))
answer_first c (Event.Facility side what) l =
    first_rows c (Event.Facility side what) l _ _ _ refl (denied _ (active c.phase)) always
    (inr ((λ x. elim x [ ]), inr ((λ x. elim x [ ]), inr ((λ x. elim x [ ]), say_rows c l side what))))
answer_first c (Event.Disconnect side cause answers) l =
    first_rows c (Event.Disconnect side cause answers) l _ _ _ refl (denied _ (up c.phase)) (over cause 127) (no_more (λ P x. elim x [ ]) (λ P x. elim x [ ]) refl)
answer_first c (Event.ReleaseComplete side) l =
    first_rows c (Event.ReleaseComplete side) l _ _ _ refl (denied _ (live c.phase)) always (no_more (λ P x. elim x [ ]) (λ P x. elim x [ ]) refl)
answer_first c Event.Tick l =
    first_rows c Event.Tick l _ _ _ refl (denied _ (live c.phase)) always (no_more (λ P x. elim x [ ]) (λ P x. elim x [ ]) refl)
answer_first c Event.CallProceeding l = not_an_event_rows c _ l _ refl (unsound c) (inl refl)
answer_first c Event.CongestionControl l = not_an_event_rows c _ l _ refl (unsound c) (inr refl)

pub answers : AnswersExactly step_of
answers c e l = exactly (answer_rows c e l) _ (answer_first c e l)
