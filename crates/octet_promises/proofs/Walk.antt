-- The elements that the definition finds are those at which the scan looks, in order.
use Prim.Native.Nat.{ℕ, zero, suc, ◌+◌, ◌-◌, ◌<◌, ◌≤◌}
use mathlib.Core.List.{List, [], ◌∷◌}
use mathlib.Core.Bool.{Bool, true, false, ◌&&◌, true≢false}
use mathlib.Core.Logic.{inl, inr}
use mathlib.Core.Path.{◌≡◌, refl}
use native.Mathlib.Omega.{arith}
use borrow.Author.Tests.{leb-true, leb-false, le-leb}
use lib.ListN.{length, get_or, drop, length-drop}
use lib.Seq.{length-take-le}
use lib.Dec.{leb}
use Rattle.elements.specs.Elements.{Element, Split, cut, whole, then, elements, locking, shifting, counted, between}
use Rattle.octet_promises.specs.Ours.{Ends, alone, lengthy, Locking, NonLocking, NoShift, Looks, here, passed, shifted, onward, body_at}
use Rattle.elements.proofs.Splitting.{none_left, ends_alone, ends_lengthy, ends_cut}
use Rattle.logic.proofs.Decide.{by_cond}
use Rattle.logic.proofs.Tests.{both}

-- an element ends at one place, and after it starts
pub ends_one : {m : List ℕ} {p q r : ℕ} → Ends m p q → Ends m p r → q ≡ r
ends_one (alone a) (alone b) = refl
ends_one (alone a) (lengthy b) = absurd (omega arith)
ends_one (lengthy a) (alone b) = absurd (omega arith)
ends_one (lengthy a) (lengthy b) = refl

pub ends_after : {m : List ℕ} {p q : ℕ} → Ends m p q → p < q
ends_after (alone a) = omega arith
ends_after (lengthy a) = omega arith

-- where the scan looks lies in the message, and not before it came there
pub looks_in : {m : List ℕ} {p r : ℕ} {b : Bool} → Looks m p b r → (p ≤ r) × (r < length m)
looks_in (here l) = (omega arith, l)
looks_in (passed d s) = let t = looks_in s in let u = ends_after d in (omega arith, t.1)
looks_in (shifted n d s) = let t = looks_in s in let u = ends_after d in (omega arith, t.1)
looks_in (onward n d s) = let t = looks_in s in let u = ends_after d in (omega arith, t.1)

-- an octet is one of the three
pub not_locking : {x : ℕ} → NoShift x → Locking x → ⊥
not_locking (inl a) l = omega arith
not_locking (inr a) l = omega arith

pub not_shifting : {x : ℕ} → NoShift x → NonLocking x → ⊥
not_shifting (inl a) l = omega arith
not_shifting (inr a) l = omega arith

lock : (x : ℕ) → leb 0x90 x && leb x 0x97 ≡ true → Locking x
lock x h = let t = both _ _ h in (leb-true _ _ t.0, leb-true _ _ t.1)

shift : (x : ℕ) → leb 0x98 x && leb x 0x9F ≡ true → NonLocking x
shift x h = let t = both _ _ h in (leb-true _ _ t.0, leb-true _ _ t.1)

no_shift : (x : ℕ) (a b c : Bool) → leb 0x90 x ≡ a → leb x 0x97 ≡ b → leb x 0x9F ≡ c → leb 0x90 x && leb x 0x97 ≡ false → leb 0x98 x && leb x 0x9F ≡ false → NoShift x
no_shift x false b c e f g l s = inl (leb-false _ _ e)
no_shift x true true c e f g l s = absurd (true≢false (simp (e, f) at l))
no_shift x true false false e f g l s = inr (leb-false _ _ g)
no_shift x true false true e f g l s = absurd (true≢false (simp (le-leb 0x98 x (leb-false _ _ f), g) at s))

module _ (m : List ℕ) where
  -- the elements from p on, each with its end
  data Walk : ℕ → List Element → Type 0 where
    stop : {p : ℕ} → length m ≤ p → Walk p []
    step : {p q : ℕ} {es : List Element} → p < length m → Ends m p q → q ≤ length m → Walk q es → Walk p (between m p q ∷ es)

  abbrev WalkIn : ℕ → Split → Type 0
  WalkIn p cut = Unit {0}
  WalkIn p (whole es) = Walk p es

  then_walk : {p q : ℕ} (s : Split) → p < length m → Ends m p q → q ≤ length m → WalkIn q s → WalkIn p (then (between m p q) s)
  unfolding then
  then_walk cut l d k w = tt
  then_walk (whole es) l d k w = step l d k w

  abbrev From : ℕ → Type 0
  From p = WalkIn p (elements p 0 (drop p m))

  none_from : (p : ℕ) → length m ≤ p → From p
  none_from p h = rw (none_left m p h) (stop h)

  turn_from : (p : ℕ) → ((q : ℕ) → p < q → From q) → (a b c : Bool) → leb (length m) p ≡ a → leb 0x80 (get_or m p 0) ≡ b → leb (p + 2 + get_or m (p + 1) 0) (length m) ≡ c → From p
  turn_from p r true b c e f g = none_from p (leb-true _ _ e)
  turn_from p r false true c e f g =
      let l = leb-false (length m) p e in
      let h = leb-true 0x80 (get_or m p 0) f in
      rw (ends_alone m p l h).turn (then_walk _ l (alone h) (omega arith) (r (p + 1) (omega arith)))
  turn_from p r false false true e f g =
      let l = leb-false (length m) p e in
      let h = leb-false 0x80 (get_or m p 0) f in
      let k = leb-true (p + 2 + get_or m (p + 1) 0) (length m) g in
      rw (ends_lengthy m p l h k).turn (then_walk _ l (lengthy h) k (r (p + 2 + get_or m (p + 1) 0) (omega arith)))
  turn_from p r false false false e f g = rw (ends_cut m p (leb-false _ _ e) (leb-false _ _ f) (leb-false _ _ g)) tt

  -- by how many octets are left at most
  walk_by : (n p : ℕ) → length m ≤ p + n → From p
  walk_by zero p h = none_from p (omega arith)
  walk_by (suc n) p h = turn_from p (λ q k. walk_by n q (omega arith)) _ _ _ refl refl refl

  walk : (p : ℕ) → From p
  walk p = walk_by (length m) p (omega arith)

  -- what the definition holds of an element stands in the message
  pub record Stands (e : Element) : Type 0 where
    pub octet : get_or m e.at 0 ≡ e.id
    pub body : e.id < 0x80 → e.body ≡ body_at m e.at
    pub size : e.id < 0x80 → length e.body ≡ get_or m (e.at + 1) 0

  -- the places from i on that meet P are those of the elements, in order
  pub data Lists (P : ℕ → Type 0) : ℕ → List Element → Type 0 where
    none : {i : ℕ} → ((r : ℕ) → i ≤ r → P r → ⊥) → Lists P i []
    next : {i : ℕ} {es : List Element} (e : Element) → i ≤ e.at → P e.at → ((r : ℕ) → i ≤ r → r < e.at → P r → ⊥) → Stands e → Lists P (suc e.at) es → Lists P i (e ∷ es)

  -- the same places, from elsewhere on
  moved : {P Q : ℕ → Type 0} {i j : ℕ} {es : List Element} → i ≤ j → ((r : ℕ) → i ≤ r → Q r → (j ≤ r) × P r) → ((r : ℕ) → P r → Q r) → Lists P j es → Lists Q i es
  moved h f g (none n) = none (λ r k q. let t = f r k q in n r t.0 t.1)
  moved {i = i} {j} h f g (next e k p b s l) =
      next {i = i} e (omega arith) (g e.at p) (λ r k' u q. let t = f r k' q in b r t.0 u t.1) s (moved (omega arith) (λ r k' q. (k', (f r (omega arith) q).1)) g l)

  -- what the scan looks at that is no shift
  pub record Plain (p : ℕ) (b : Bool) (r : ℕ) : Type 0 where
    pub looks : Looks m p b r
    pub no_shift : NoShift (get_or m r 0)

  -- the scan's next step, back
  past : {p q r : ℕ} → Ends m p q → Looks m p true r → Looks m q false r
  past d (passed d' s) = rw (ends_one d d') s

  pub locked : {p r : ℕ} → Locking (get_or m p 0) → Looks m p false r → r ≡ p
  locked l (here h) = refl
  locked l (shifted n d s) = absurd (omega arith)
  locked l (onward n d s) = absurd (not_locking n l)

  past_shift : {p q r : ℕ} → NonLocking (get_or m p 0) → Ends m p q → Looks m p false r → NoShift (get_or m r 0) → Looks m q true r
  past_shift l d (here h) n = absurd (not_shifting n l)
  past_shift l d (shifted n' d' s) n = rw (ends_one d d') s
  past_shift l d (onward n' d' s) n = absurd (not_shifting n' l)

  past_plain : {p q r : ℕ} → NoShift (get_or m p 0) → Ends m p q → Looks m p false r → p < r → Looks m q false r
  past_plain l d (here h) k = absurd (omega arith)
  past_plain l d (shifted n' d' s) k = absurd (not_shifting l n')
  past_plain l d (onward n' d' s) k = rw (ends_one d d') s

  stands : {p q : ℕ} → Ends m p q → q ≤ length m → Stands (between m p q)
  stands (alone a) k = record { octet = refl; body = λ h. absurd (omega arith); size = λ h. absurd (omega arith) }
  stands {p} (lengthy a) k =
      let z : p + 2 + get_or m (p + 1) 0 - (p + 2) ≡ get_or m (p + 1) 0 = omega arith in
      record {
        octet = refl;
        body = λ h. rw z refl;
        size = λ h. rw z (length-take-le (get_or m (p + 1) 0) (drop (p + 2) m) (simp length-drop (omega arith)));
      }

  lists : (b : Bool) {p : ℕ} {es : List Element} → Walk p es → Lists (Plain p b) p (counted b es)
  unfolding counted
  lists true (stop {p} h) = none {i = p} (λ r k s. let t = looks_in s.looks in omega arith)
  lists false (stop {p} h) = none {i = p} (λ r k s. let t = looks_in s.looks in omega arith)
  lists true (step l d k w) =
      let u = ends_after d in
      moved (omega arith) (λ r i s. let t = past d s.looks in ((looks_in t).0, record { looks = t; no_shift = s.no_shift })) (λ r s. record { looks = passed d s.looks; no_shift = s.no_shift }) (lists false w)
  lists false (step {p} {q} {es} l d k w) =
      let u = ends_after d in
      by_cond (Lists (Plain p false) p) (locking (between m p q))
      (λ t. none (λ r i s. not_locking (rw (locked (lock _ t) s.looks) at s.no_shift) (lock _ t)))
      (λ t.
      by_cond (Lists (Plain p false) p) (shifting (between m p q))
      (λ v.
      moved (omega arith)
      (λ r i s. let x = past_shift (shift _ v) d s.looks s.no_shift in ((looks_in x).0, record { looks = x; no_shift = s.no_shift }))
      (λ r s. record { looks = shifted (shift _ v) d s.looks; no_shift = s.no_shift }) (lists true w))
      (λ v.
      let n = no_shift (get_or m p 0) _ _ _ refl refl refl t v in
      next (between m p q) (omega arith) (record { looks = here l; no_shift = n }) (λ r i j s. omega arith) (stands d k)
      (moved (omega arith)
      (λ r i s. let x = past_plain n d s.looks i in ((looks_in x).0, record { looks = x; no_shift = s.no_shift }))
      (λ r s. record { looks = onward n d s.looks; no_shift = s.no_shift }) (lists false w))))

  -- the elements that count, where all of them are whole
  abbrev pub ListsIn : ℕ → Split → Type 0
  ListsIn p cut = Unit {0}
  ListsIn p (whole es) = Lists (Plain p false) p (counted false es)

  all_in : (p : ℕ) (s : Split) → WalkIn p s → ListsIn p s
  all_in p cut w = tt
  all_in p (whole es) w = lists false w

  pub lists_in : (p : ℕ) → ListsIn p (elements p 0 (drop p m))
  lists_in p = all_in p (elements p 0 (drop p m)) (walk p)
