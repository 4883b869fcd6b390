-- Two records side by side, the second with rights no less: what holds of them while the first call is up.
use Rattle.sent.specs.declared.side.BySide.{BySide}
use Rattle.std.proofs.Common.{ℕ, ◌+◌, ◌≤◌, ◌<◌, Bool, true, false, cond, ◌&&◌, ◌≡◌, refl, sym, ◌∙◌, arith, ltb-true, ltb-false, leb-true, leb-false, ltb, leb}
use Rattle.flow_meter.specs.declared.Meter.{Meter}
use Rattle.flow_meter.specs.declared.passage.Passage.{Passage}
use Rattle.answering_rules.specs.declared.Fate.{Fate}
use Rattle.services.specs.declared.Given.{Given}
use Rattle.services.specs.declared.Standing.{Standing}
use Rattle.rights.specs.declared.Service.{Service}
use Rattle.phases.specs.declared.Phase.{Phase}
use Rattle.sent.specs.declared.side.Side.{Side}
use Rattle.call.specs.declared.Call.{Call}
use Rattle.flow_meter.specs.Meter.{granted_of, refilled_of, ticked_of}
use Rattle.flow_meter.specs.Passage.{counted_of, paid_of, marked_of, under_three_of, passage_of, after_of}
use Rattle.rights.specs.Rights.{has_of}
use Rattle.services.specs.Standing.{in_force_of, remains_of}
use Rattle.answering_rules.specs.Fates.{decided_of}
use Rattle.answering_rules.specs.Effects.{settled_of, failure_of, in_force_after_of}
use Rattle.clearing_rules.specs.Closing.{closing_standing_of}
use Rattle.facility_rules.specs.Asking.{nobody_asks}
use Rattle.information_rules.specs.Serving.{late_of}
use Rattle.information_rules.specs.Messages.{passes_of}
use Rattle.flow_meter.specs.CallMeters.{grants_of, meter_of}
use Rattle.call_promises.specs.MoreRights.{NoLess}
use Rattle.logic.proofs.Decide.{never, by_cond}

-- a test that is true where another is
pub and_right : (a b b' : Bool) → (b ≡ true → b' ≡ true) → (a && b) ≡ true → (a && b') ≡ true
and_right true b b' f h = f h
and_right false b b' f h = h

pub and_left : (a b : Bool) → (a && b) ≡ true → a ≡ true
and_left true b h = refl
and_left false b h = h

-- one service. Where the first line has it, it stands alike; where not, the first call never has it in force and the
-- second does not need it.
abbrev pub idle_of : Standing → Bool
idle_of Standing.Unasked = true
idle_of Standing.Preferred = false
idle_of Standing.Required = false
idle_of Standing.InForce = false
idle_of Standing.Closed = true

abbrev pub easy_of : Standing → Bool
easy_of Standing.Unasked = true
easy_of Standing.Preferred = true
easy_of Standing.Required = false
easy_of Standing.InForce = true
easy_of Standing.Closed = true

pub data Above (s t : Standing) : Type 0 where
  same : t ≡ s → Above s t
  less : idle_of s ≡ true → easy_of t ≡ true → Above s t

pub idle_force : (s : Standing) → idle_of s ≡ true → in_force_of s ≡ false
idle_force Standing.Unasked h = refl
idle_force Standing.Preferred h = refl
idle_force Standing.Required h = refl
idle_force Standing.InForce h = sym h
idle_force Standing.Closed h = refl

idle_closing : (s : Standing) (g : Given) → idle_of s ≡ true → in_force_of (closing_standing_of s g) ≡ false
idle_closing s Given.Silent h = idle_force s h
idle_closing s Given.Rejected h = idle_force s h
idle_closing Standing.Unasked Given.Accepted h = refl
idle_closing Standing.Preferred Given.Accepted h = never h refl
idle_closing Standing.Required Given.Accepted h = never h refl
idle_closing Standing.InForce Given.Accepted h = never h refl
idle_closing Standing.Closed Given.Accepted h = refl

idle_remains : (s : Standing) → idle_of s ≡ true → remains_of s ≡ false
unfolding remains_of
idle_remains Standing.Unasked h = refl
idle_remains Standing.Preferred h = sym h
idle_remains Standing.Required h = sym h
idle_remains Standing.InForce h = sym h
idle_remains Standing.Closed h = refl

pub idle_kept : (s : Standing) (g : Given) → idle_of s ≡ true → decided_of s g ≡ Fate.Kept
idle_kept Standing.Unasked g h = refl
idle_kept Standing.Preferred g h = never h refl
idle_kept Standing.Required g h = never h refl
idle_kept Standing.InForce g h = refl
idle_kept Standing.Closed g h = refl

easy_settled : (t : Standing) (g : Given) → easy_of t ≡ true → easy_of (settled_of t (decided_of t g)) ≡ true
easy_settled Standing.Unasked g h = refl
easy_settled Standing.Preferred Given.Accepted h = refl
easy_settled Standing.Preferred Given.Rejected h = refl
easy_settled Standing.Preferred Given.Silent h = refl
easy_settled Standing.Required Given.Accepted h = refl
easy_settled Standing.Required Given.Rejected h = refl
easy_settled Standing.Required Given.Silent h = refl
easy_settled Standing.InForce g h = refl
easy_settled Standing.Closed g h = refl

easy_failure : (t : Standing) (g : Given) → easy_of t ≡ true → failure_of (decided_of t g) ≡ failure_of Fate.Kept
easy_failure Standing.Unasked g h = refl
easy_failure Standing.Preferred Given.Accepted h = refl
easy_failure Standing.Preferred Given.Rejected h = refl
easy_failure Standing.Preferred Given.Silent h = refl
easy_failure Standing.Required g h = never h refl
easy_failure Standing.InForce g h = refl
easy_failure Standing.Closed g h = refl

module _ (s t : Standing) where
  pub force_up : Above s t → in_force_of s ≡ true → in_force_of t ≡ true
  force_up (same e) h = rw e h
  force_up (less i z) h = never h (idle_force s i)

  pub remains_up : Above s t → remains_of s ≡ true → remains_of t ≡ true
  remains_up (same e) h = rw e h
  remains_up (less i z) h = never h (idle_remains s i)

  pub closing_up : (g : Given) → Above s t → in_force_of (closing_standing_of s g) ≡ true → in_force_of (closing_standing_of t g) ≡ true
  closing_up g (same e) h = rw e h
  closing_up g (less i z) h = never h (idle_closing s g i)

-- what an answer makes of a service in the two calls
pub record Twin (s t : Standing) (f f' : Fate) : Type 0 where
  pub failure : failure_of f' ≡ failure_of f
  pub stands : Above (settled_of s f) (settled_of t f')

module _ (s t : Standing) where
  pub twin_kept : Above s t → Twin s t Fate.Kept Fate.Kept
  twin_kept a = record { failure = refl; stands = a }

  pub twin_decided : (g : Given) → Above s t → Twin s t (decided_of s g) (decided_of t g)
  twin_decided g (same e) = rw e (record { failure = refl; stands = same refl })
  twin_decided g (less i z) =
      rw (idle_kept s g i) (record { failure = easy_failure t g z; stands = less i (easy_settled t g z) })

  pub twin_due : (b : Bool) (g : Given) → Above s t → Twin s t (cond b Fate.Kept (decided_of s g)) (cond b Fate.Kept (decided_of t g))
  twin_due true g a = twin_kept a
  twin_due false g a = twin_decided g a

-- service 3, with the open requests of both sides. had: the first line has it.
pub data Third (had : Bool) (s t : Standing) (a b : BySide Bool) : Type 0 where
  shared : had ≡ true → t ≡ s → b ≡ a → Third had s t a b
  apart : had ≡ false → idle_of s ≡ true → easy_of t ≡ true → a ≡ nobody_asks → Third had s t a b

pub above_third : (had : Bool) (s t : Standing) (a b : BySide Bool) → Third had s t a b → Above s t
above_third had s t a b (shared h e f) = same e
above_third had s t a b (apart h i z f) = less i z

-- one meter. three: service 3 is in force in the first call. two: its count may still pay there.
pub record Poorer (two three : Bool) (m n : Meter) : Type 0 where
  pub credit : three ≡ true → m.credit ≤ n.credit
  pub count : two ≡ true → n.count ≤ m.count

abbrev pub counts_of : Phase → Bool → Bool → Bool
counts_of Phase.Fresh force late = false
counts_of Phase.Requested force late = true
counts_of Phase.Alerting force late = force
counts_of Phase.Active force late = force && late
counts_of Phase.Clearing force late = false
counts_of Phase.Ended force late = false

-- what a message does to a meter, in three cases
data View (two three : Bool) (m : Meter) : Bool → Meter → Type 0 where
  counts : {n : Meter} → two ≡ true → m.count < 2 → n.credit ≡ m.credit → n.count ≡ m.count + 1 → View two three m true n
  pays : {n : Meter} → (two ≡ true → 2 ≤ m.count) → three ≡ true → n.credit + 1 ≡ m.credit → n.count ≡ m.count → View two three m true n
  stops : {n : Meter} → (two ≡ true → 2 ≤ m.count) → (three ≡ true → m.credit ≤ 0) → n.credit ≡ m.credit → n.count ≡ m.count → View two three m false n

abbrev Viewed : (two three : Bool) → Meter → Passage → Type 0
Viewed two three m p = View two three m (passes_of p) (after_of m p)

under_view : (two three : Bool) (m : Meter) → (two ≡ true → 2 ≤ m.count) → three ≡ true → Viewed two three m (under_three_of m)
unfolding under_three_of paid_of marked_of
under_view two three m h p =
    by_cond (Viewed two three m) (ltb 0 m.credit) (λ q. pays h p (omega (arith, ltb-true)) refl)
    (λ q.
    by_cond (Viewed two three m) m.mark (λ _. stops h (λ _. ltb-false _ _ q) refl refl)
    (λ _. stops h (λ _. ltb-false _ _ q) refl refl))

spent_count : (two : Bool) (m : Meter) → (two && ltb m.count 2) ≡ false → two ≡ true → 2 ≤ m.count
spent_count true m h p = ltb-false _ _ h
spent_count false m h p = never p refl

open_count : (two b : Bool) → (two && b) ≡ true → b ≡ true
open_count true b h = h
open_count false b h = never h refl

passage_view : (two three : Bool) (m : Meter) → Viewed two three m (passage_of m two three)
unfolding passage_of counted_of
passage_view two three m =
    by_cond (Viewed two three m) (two && ltb m.count 2)
    (λ t. counts (and_left two _ t) (ltb-true _ _ (open_count two _ t)) refl refl)
    (λ t.
    by_cond (Viewed two three m) three (λ p. under_view two three m (spent_count two m t) p)
    (λ p.
    by_cond (Viewed two three m) two (λ _. stops (spent_count two m t) (λ q. never q p) refl refl)
    (λ _. stops (spent_count two m t) (λ q. never q p) refl refl)))

-- the same message in both meters: what passes in the first passes in the second, and the meters stay in order
module _ (t h t' h' force : Bool) (m m' : Meter) (two : t ≡ true → t' ≡ true) (on : h ≡ true → force ≡ true) (alike : force ≡ true → h' ≡ h) (r : Poorer t force m m') where
  views : (p p' : Bool) (n n' : Meter) → View t h m p n → View t' h' m' p' n' → (p ≡ true → p' ≡ true) × Poorer t force n n'
  views p p' n n' (counts a b x y) (counts a' b' x' y') =
      ((λ _. refl), record { credit = λ z. omega (arith, r.credit z); count = λ z. omega (arith, r.count z) })
  views p p' n n' (counts a b x y) (pays a' b' x' y') = absurd (omega (arith, a' (two a), r.count a))
  views p p' n n' (counts a b x y) (stops a' b' x' y') = absurd (omega (arith, a' (two a), r.count a))
  views p p' n n' (pays a b x y) (counts a' b' x' y') =
      ((λ _. refl), record { credit = λ z. omega (arith, r.credit z); count = λ z. omega (arith, a z) })
  views p p' n n' (pays a b x y) (pays a' b' x' y') =
      ((λ _. refl), record { credit = λ z. omega (arith, r.credit z); count = λ z. omega (arith, r.count z) })
  views p p' n n' (pays a b x y) (stops a' b' x' y') =
      absurd (omega (arith, b' (alike (on b) ∙ b), r.credit (on b)))
  views p p' n n' (stops a b x y) (counts a' b' x' y') =
      ((λ q. never q refl), record { credit = λ z. omega (arith, r.credit z); count = λ z. omega (arith, a z) })
  views p p' n n' (stops a b x y) (pays a' b' x' y') =
      ((λ q. never q refl), record { credit = λ z. omega (arith, b (sym (alike z) ∙ b')); count = λ z. omega (arith, r.count z) })
  views p p' n n' (stops a b x y) (stops a' b' x' y') =
      ((λ q. never q refl), record { credit = λ z. omega (arith, r.credit z); count = λ z. omega (arith, r.count z) })

  pub passages : (passes_of (passage_of m t h) ≡ true → passes_of (passage_of m' t' h') ≡ true) × Poorer t force (after_of m (passage_of m t h)) (after_of m' (passage_of m' t' h'))
  passages = views _ _ _ _ (passage_view t h m) (passage_view t' h' m')

-- a tick
refilled_grows : (x x' b b' r r' : ℕ) → x ≤ x' → b ≤ b' → r ≤ r' → refilled_of x b r ≤ refilled_of x' b' r'
unfolding refilled_of
refilled_grows x x' b b' r r' hx hb hr =
    by_cond (λ n. n ≤ refilled_of x' b' r') (leb (x + r) b)
    (λ t. by_cond (λ n. x + r ≤ n) (leb (x' + r') b') (λ u. omega arith) (λ u. omega (arith, leb-true)))
    (λ t. by_cond (λ n. b ≤ n) (leb (x' + r') b') (λ u. omega (arith, leb-true, leb-false)) (λ u. omega arith))

pub ticked_poorer : (two three : Bool) (m n : Meter) (b b' r r' : ℕ) → b ≤ b' → r ≤ r' → Poorer two three m n → Poorer two three (ticked_of m b r) (ticked_of n b' r')
unfolding ticked_of
ticked_poorer two three m n b b' r r' hb hr p =
    record { credit = λ h. refilled_grows _ _ _ _ _ _ (p.credit h) hb hr; count = p.count }

-- both meters of a call
abbrev pub Poor : (Side → Bool) → Bool → BySide Meter → BySide Meter → Type 0
Poor two three m n = (side : Side) → Poorer (two side) three (meter_of m side) (meter_of n side)

granted_credit : (m : BySide Meter) (b : ℕ) (side : Side) → (meter_of (grants_of m b) side).credit ≡ b
unfolding grants_of granted_of
granted_credit m b Side.Calling = refl
granted_credit m b Side.Called = refl

pub granted_count : (m : BySide Meter) (b : ℕ) (side : Side) → (meter_of (grants_of m b) side).count ≡ (meter_of m side).count
unfolding grants_of granted_of
granted_count m b Side.Calling = refl
granted_count m b Side.Called = refl

fate_count : (m : BySide Meter) (b : ℕ) (f : Fate) (side : Side) → (meter_of (in_force_after_of m b f) side).count ≡ (meter_of m side).count
fate_count m b Fate.Kept side = refl
fate_count m b Fate.Accepted side = granted_count m b side
fate_count m b Fate.Closed side = refl
fate_count m b Fate.Failed side = refl

module _ (two : Side → Bool) (m n : BySide Meter) (b b' : ℕ) (hb : b ≤ b') where
  pub grants_poor : {three : Bool} → Poor two three m n → (force : Bool) → Poor two force (grants_of m b) (grants_of n b')
  grants_poor p force side =
      record {
        credit = λ _. omega (arith, granted_credit m b side, granted_credit n b' side);
        count = λ h. omega (arith, granted_count m b side, granted_count n b' side, (p side).count h);
      }

  fate_poor : (s : Standing) (f : Fate) → Poor two (in_force_of s) m n → Poor two (in_force_of (settled_of s f)) (in_force_after_of m b f) (in_force_after_of n b' f)
  fate_poor s Fate.Kept p = p
  fate_poor s Fate.Accepted p = grants_poor p true
  fate_poor s Fate.Closed p = λ side. record { credit = λ h. never h refl; count = (p side).count }
  fate_poor s Fate.Failed p = λ side. record { credit = λ h. never h refl; count = (p side).count }

  -- what the answer to service 3 makes of the meters
  pub third_poor : (had : Bool) (s t : Standing) (a e : BySide Bool) (g : Given) → Third had s t a e → Poor two (in_force_of s) m n → Poor two (in_force_of (settled_of s (decided_of s g))) (in_force_after_of m b (decided_of s g)) (in_force_after_of n b' (decided_of t g))
  third_poor had s t a e g (shared h x y) p = rw x (fate_poor s (decided_of s g) p)
  third_poor had s t a e g (apart h i z y) p =
      rw (idle_kept s g i)
      (λ side.
      record {
        credit = λ h. never h (idle_force s i);
        count = λ h. omega (arith, fate_count n b' (decided_of t g) side, (p side).count h);
      })

pub third_settled : (had : Bool) (s t : Standing) (a e : BySide Bool) (g : Given) → Third had s t a e → Third had (settled_of s (decided_of s g)) (settled_of t (decided_of t g)) a e
third_settled had s t a e g (shared h x y) = shared h (rw x refl) y
third_settled had s t a e g (apart h i z y) = rw (idle_kept s g i) (apart h i (easy_settled t g z) y)

-- the two records, while the first call is up
pub record Below (c d : Call) : Type 0 where
  pub phase : d.phase ≡ c.phase
  pub rights : NoLess c.rights d.rights
  pub one : Above c.standings.one d.standings.one
  pub two : Above c.standings.two d.standings.two
  pub three : Third (has_of c.rights Service.Three) c.standings.three d.standings.three c.asking d.asking
  pub meters : Poor (λ side. counts_of c.phase (in_force_of c.standings.two) (late_of side c.rights.late)) (in_force_of c.standings.three) c.meters d.meters
