-- What the definition gives back of the elements that count is what they say by their places.
use Rattle.std.specs.Prelude.{Option, Some, None}
use Rattle.message_fields.specs.declared.Place.{Place}
use Prim.Native.Nat.{ℕ, suc, ◌<◌, ◌≤◌}
use mathlib.Core.List.{List, [], ◌∷◌}
use mathlib.Core.Bool.{Bool, true, false}
use mathlib.Core.Logic.{◌⊎◌, inl, inr}
use mathlib.Core.Path.{◌≡◌, refl, sym, ap, ◌∙◌}
use native.Mathlib.Omega.{arith}
use borrow.Author.Tests.{leb-true, leb-false, eqb-true, eqb-false}
use lib.ListN.{get_or}
use lib.Dec.{leb, eqb}
use Rattle.cause.specs.Element.{cause_of}
use Rattle.facility.specs.declared.Component.{Component}
use Rattle.facility.specs.Forms.{facility_of}
use Rattle.message_types.specs.declared.Kind.{Kind}
use Rattle.message_types.specs.Kind.{class_of}
use Rattle.message_fields.specs.declared.Single.{Single}
use Rattle.elements.specs.Elements.{Element}
use Rattle.elements.specs.Single.{more_in, level_in, single_of, or_single}
use Rattle.elements.specs.Meaning.{first_single, first_cause, first_place, and_says, components, first_three}
use Rattle.octet_promises.specs.Ours.{NoShift, Ours, start, body_at, SaysCause, SaysComponent, SaysPlace, IsSingle, more, ready, not_ready, SaysSingle, Next, Silent, First, first, none, Three, silent, one, two, three, GivesCause, GivesSingle, GivesFacilities, GivesPlace}
use Rattle.octet_promises.proofs.Walk.{Stands, Lists, Plain}
use Rattle.octet_promises.proofs.Walk as walk
use Rattle.logic.proofs.Decide.{by_cond}

-- the single octet that the definition finds is the one that belongs to the type
pub single_octet : {k : Kind} {x : ℕ} {s : Single} → IsSingle k x s → single_of k x ≡ s
unfolding single_of
single_octet more = refl
single_octet ready = refl
single_octet not_ready = refl

module _ (k : Kind) (x : ℕ) where
  abbrev Found : Single → Type 0
  Found Single.Absent = Unit {0}
  Found Single.MoreData = IsSingle k x Single.MoreData
  Found Single.Ready = IsSingle k x Single.Ready
  Found Single.NotReady = IsSingle k x Single.NotReady

more_found : (k : Kind) → Found k 0xA0 (more_in (class_of k))
more_found Kind.Alerting = tt
more_found Kind.CallProceeding = tt
more_found Kind.Setup = tt
more_found Kind.Connect = tt
more_found Kind.UserInformation = more
more_found Kind.Disconnect = tt
more_found Kind.ReleaseComplete = tt
more_found Kind.Facility = tt
more_found Kind.CongestionControl = tt

level_found : (k : Kind) (x : ℕ) (s : Single) → Found Kind.CongestionControl x s → Found k x (level_in (class_of k) s)
level_found Kind.Alerting x s i = tt
level_found Kind.CallProceeding x s i = tt
level_found Kind.Setup x s i = tt
level_found Kind.Connect x s i = tt
level_found Kind.UserInformation x s i = tt
level_found Kind.Disconnect x s i = tt
level_found Kind.ReleaseComplete x s i = tt
level_found Kind.Facility x s i = tt
level_found Kind.CongestionControl x s i = i

single_found : (k : Kind) (x : ℕ) → Found k x (single_of k x)
unfolding single_of
single_found k x =
    by_cond (Found k x) (eqb x 0xA0) (λ e. rw (eqb-true x 0xA0 e) (more_found k))
    (λ _.
    by_cond (Found k x) (eqb x 0xB0) (λ e. rw (eqb-true x 0xB0 e) (level_found k 0xB0 Single.Ready ready))
    (λ _.
    by_cond (Found k x) (eqb x 0xBF) (λ e. rw (eqb-true x 0xBF e) (level_found k 0xBF Single.NotReady not_ready)) (λ _. tt)))

single_shift : {k : Kind} {x : ℕ} {s : Single} → IsSingle k x s → NoShift x
single_shift more = inr (omega arith)
single_shift ready = inr (omega arith)
single_shift not_ready = inr (omega arith)

said : {k : Kind} {x : ℕ} {s : Single} → IsSingle k x s → s ≡ Single.Absent → ⊥
said more e = let z : ◌≡◌ {A = ℕ} 0 1 = cc in omega arith
said ready e = let z : ◌≡◌ {A = ℕ} 0 1 = cc in omega arith
said not_ready e = let z : ◌≡◌ {A = ℕ} 0 1 = cc in omega arith

module _ (m : List ℕ) where
  -- an element says the value of the list that it heads, or nothing, and the rest has it
  module _ {A : Type 0} (says : ℕ → A → Type 0) (P : ℕ → Type 0) (own : (r : ℕ) (a : A) → says r a → P r) where
    abbrev Turn : (List Element → A) → Element → List Element → Type 0
    Turn f e es = says e.at (f (e ∷ es)) ⊎ (((a : A) → says e.at a → ⊥) × (f (e ∷ es) ≡ f es))

    -- where the element at n says nothing, what is said from i on is said after it
    module _ (i n : ℕ) (h : i ≤ n) (b : (r : ℕ) → i ≤ r → r < n → P r → ⊥) (s : (a : A) → says n a → ⊥) where
      beyond : (q : ℕ) (c : A) (x y : Bool) → leb n q ≡ x → eqb q n ≡ y → i ≤ q → says q c → suc n ≤ q
      beyond q c false y e g k t = absurd (b q k (leb-false n q e) (own q c t))
      beyond q c true true e g k t = absurd (s c (rw (eqb-true q n g) at t))
      beyond q c true false e g k t = let u = leb-true n q e in let v = eqb-false q n g in omega arith

      later : {p : ℕ} {a : A} → Next says (suc n) p a → Next says i p a
      later x =
          record {
            since = let k = x.since in omega arith;
            said = x.said;
            before = λ q c k u t. x.before q c (beyond q c _ _ refl refl k t) u t;
          }

      still_silent : Silent says (suc n) → Silent says i
      still_silent x = λ q c k t. x q c (beyond q c _ _ refl refl k t) t

      later_first : {absent a : A} → First says absent (suc n) a → First says absent i a
      later_first (first x) = first (later x)
      later_first (none x) = none (still_silent x)

    -- the element at n is the first that says anything
    at_once : {i n : ℕ} {a : A} → i ≤ n → ((r : ℕ) → i ≤ r → r < n → P r → ⊥) → says n a → Next says i n a
    at_once h b s = record { since = h; said = s; before = λ q c k u t. b q k u (own q c t) }

    turned : (absent : A) (f : List Element → A) {i : ℕ} (e : Element) (es : List Element) → i ≤ e.at → ((r : ℕ) → i ≤ r → r < e.at → P r → ⊥) → Turn f e es → First says absent (suc e.at) (f es) → First says absent i (f (e ∷ es))
    turned absent f e es h b (inl u) r = first (at_once h b u)
    turned absent f {i} e es h b (inr u) r = rw u.1 (later_first i e.at h b u.0 r)

    first_of : (absent : A) (f : List Element → A) → f [] ≡ absent → ((e : Element) (es : List Element) → P e.at → Stands m e → Turn f e es) → {i : ℕ} {cs : List Element} → Lists m P i cs → First says absent i (f cs)
    first_of absent f z t (walk.none n) = rw z (none (λ q b h u. n q h (own q b u)))
    first_of absent f z t (walk.next {es = es} e h p b s l) = turned absent f e es h b (t e es p s) (first_of absent f z t l)

    -- all that is said, in order
    data All : ℕ → List A → Type 0 where
      end : {i : ℕ} → Silent says i → All i []
      then : {i p : ℕ} {a : A} {l : List A} → Next says i p a → All (suc p) l → All i (a ∷ l)

    later_all : (i n : ℕ) → i ≤ n → ((r : ℕ) → i ≤ r → r < n → P r → ⊥) → ((a : A) → says n a → ⊥) → {l : List A} → All (suc n) l → All i l
    later_all i n h b s (end x) = end (still_silent i n h b s x)
    later_all i n h b s (then x r) = then (later i n h b s x) r

  -- the four
  abbrev Counts : ℕ → Type 0
  Counts = Plain m (start m) false

  low : {r x : ℕ} → Ours m r → get_or m r 0 ≡ x → x < 0x80 → Counts r
  low o e h = record { looks = o; no_shift = inl (omega arith) }

  own_cause : (r : ℕ) (c : Option ℕ) → SaysCause m r c → Counts r
  own_cause r c s = low s.ours s.octet (omega arith)

  own_place : (r : ℕ) (u : Option Place) → SaysPlace m r u → Counts r
  own_place r u s = low s.ours s.octet (omega arith)

  own_component : (r : ℕ) (c : Component) → SaysComponent m r c → Counts r
  own_component r c s = low s.ours s.octet (omega arith)

  own_single : (k : Kind) (r : ℕ) (s : Single) → SaysSingle m k r s → Counts r
  own_single k r s x = record { looks = x.ours; no_shift = single_shift x.says }

  turn_cause : (e : Element) (es : List Element) → Counts e.at → Stands m e → Turn (SaysCause m) Counts own_cause first_cause e es
  unfolding first_cause
  turn_cause e es p s =
      by_cond (λ (v : Option ℕ). SaysCause m e.at v ⊎ (((c : Option ℕ) → SaysCause m e.at c → ⊥) × (v ≡ first_cause es))) (eqb e.id 0x08)
      (λ t.
      let x = eqb-true e.id 0x08 t in
      inl (record { ours = p.looks; octet = s.octet ∙ x; says = ap cause_of (sym (s.body (omega arith))) }))
      (λ t. inr ((λ c u. eqb-false e.id 0x08 t (sym s.octet ∙ u.octet)), refl))

  turn_place : (e : Element) (es : List Element) → Counts e.at → Stands m e → Turn (SaysPlace m) Counts own_place first_place e es
  unfolding first_place
  turn_place e es p s =
      by_cond (λ (v : Option Place). SaysPlace m e.at v ⊎ (((c : Option Place) → SaysPlace m e.at c → ⊥) × (v ≡ first_place es))) (eqb e.id 0x7E)
      (λ t.
      let x = eqb-true e.id 0x7E t in
      inl (record { ours = p.looks; octet = s.octet ∙ x; says = rw (s.size (omega arith)) refl }))
      (λ t. inr ((λ c u. eqb-false e.id 0x7E t (sym s.octet ∙ u.octet)), refl))

  turn_found : (k : Kind) (e : Element) (rest v : Single) → Counts e.at → get_or m e.at 0 ≡ e.id → single_of k e.id ≡ v → Found k e.id v → SaysSingle m k e.at (or_single v rest) ⊎ (((s : Single) → SaysSingle m k e.at s → ⊥) × (or_single v rest ≡ rest))
  turn_found k e rest Single.Absent p o z i = inr ((λ s x. said (rw o at x.says) (sym (single_octet (rw o at x.says)) ∙ z)), refl)
  turn_found k e rest Single.MoreData p o z i = inl (record { ours = p.looks; says = rw o i })
  turn_found k e rest Single.Ready p o z i = inl (record { ours = p.looks; says = rw o i })
  turn_found k e rest Single.NotReady p o z i = inl (record { ours = p.looks; says = rw o i })

  turn_single : (k : Kind) (e : Element) (es : List Element) → Counts e.at → Stands m e → Turn (SaysSingle m k) Counts (own_single k) (first_single k) e es
  unfolding first_single
  turn_single k e es p s = turn_found k e (first_single k es) _ p s.octet refl (single_found k e.id)

  abbrev AllSay : ℕ → List Component → Type 0
  AllSay = All (SaysComponent m) Counts own_component

  turn_component : {i : ℕ} (e : Element) (cs : List Component) (f : Option Component) → i ≤ e.at → ((r : ℕ) → i ≤ r → r < e.at → Counts r → ⊥) → Counts e.at → get_or m e.at 0 ≡ 0x1C → facility_of (body_at m e.at) ≡ f → AllSay (suc e.at) cs → AllSay i (and_says f cs)
  turn_component {i} e cs None h b p o z r =
      later_all (SaysComponent m) Counts own_component i e.at h b (λ c u. let y : ◌≡◌ {A = ℕ} 0 1 = cc (z, u.says) in omega arith) r
  turn_component e cs (Some c) h b p o z r =
      then (at_once (SaysComponent m) Counts own_component h b (record { ours = p.looks; octet = o; says = z })) r

  all_say : {i : ℕ} {es : List Element} → Lists m Counts i es → AllSay i (components es)
  unfolding components
  all_say (walk.none n) = end (λ q c h u. n q h (own_component q c u))
  all_say (walk.next {i} {es} e h p b s l) =
      by_cond (AllSay i) (eqb e.id 0x1C)
      (λ t.
      let x = eqb-true e.id 0x1C t in
      turn_component e _ _ h b p (s.octet ∙ x) (ap facility_of (sym (s.body (omega arith)))) (all_say l))
      (λ t. later_all (SaysComponent m) Counts own_component i e.at h b (λ c u. eqb-false e.id 0x1C t (sym s.octet ∙ u.octet)) (all_say l))

  three_of_lem : {i : ℕ} {cs : List Component} → AllSay i cs → Three (SaysComponent m) i (first_three cs)
  three_of_lem (end x) = silent x
  three_of_lem (then x (end y)) = one x y
  three_of_lem (then x (then y (end z))) = two x y z
  three_of_lem (then x (then y (then z r))) = three x y z

  module _ (es : List Element) (l : Lists m Counts (start m) es) where
    pub gives_cause : GivesCause m (first_cause es)
    unfolding first_cause
    gives_cause = first_of (SaysCause m) Counts own_cause None first_cause refl turn_cause l

    pub gives_single : (k : Kind) → GivesSingle m k (first_single k es)
    unfolding first_single
    gives_single k = first_of (SaysSingle m k) Counts (own_single k) Single.Absent (first_single k) refl (turn_single k) l

    pub gives_place : GivesPlace m (first_place es)
    unfolding first_place
    gives_place = first_of (SaysPlace m) Counts own_place None first_place refl turn_place l

    pub gives_facilities : GivesFacilities m (first_three (components es))
    gives_facilities = three_of_lem (all_say l)
