-- A test and the condition that it decides.
use Prim.Native.Nat.{ℕ, ◌<◌, ◌≤◌}
use mathlib.Core.Bool.{Bool, true, false, cond, ◌&&◌, ◌||◌, not, true≢false}
use mathlib.Core.Logic.{◌⊎◌, inl, inr}
use mathlib.Core.Path.{◌≡◌, refl, sym, ◌∙◌}
use borrow.Author.Tests.{ltb-true, lt-ltb, leb-true, leb-false, le-leb, lt-leb, eqb-true, eq-eqb}
use lib.Dec.{ltb, leb, eqb}

pub never : {A : Type 0} {b : Bool} → b ≡ true → b ≡ false → A
never p q = absurd (true≢false (sym p ∙ q))

-- what holds of both branches holds of the choice
pub by_cond : {A : Type 0} (P : A → Type 0) (b : Bool) {x y : A} → (b ≡ true → P x) → (b ≡ false → P y) → P (cond b x y)
by_cond P true f g = f refl
by_cond P false f g = g refl

-- the test comes out true exactly when the condition holds
pub record Decides (b : Bool) (P : Type 0) : Type 0 where
  pub so : b ≡ true → P
  pub back : P → b ≡ true

-- the test comes out false exactly when the condition holds
pub record Denies (b : Bool) (P : Type 0) : Type 0 where
  pub so : b ≡ false → P
  pub back : P → b ≡ false

pub denied : (b : Bool) {P : Type 0} → Decides b P → Denies b (P → ⊥)
denied true d = record { so = λ h. never refl h; back = λ n. absurd (n (d.so refl)) }
denied false d = record { so = λ h p. never (d.back p) refl; back = λ n. refl }

pub via : {b : Bool} {P Q : Type 0} → (P → Q) → (Q → P) → Decides b P → Decides b Q
via f g d = record { so = λ h. f (d.so h); back = λ q. d.back (g q) }

pub both : (a b : Bool) {P Q : Type 0} → Decides a P → Decides b Q → Decides (a && b) (P × Q)
both true b d e = record { so = λ h. (d.so refl, e.so h); back = λ x. e.back x.1 }
both false b d e = record { so = λ h. never h refl; back = λ x. d.back x.0 }

pub either : (a b : Bool) {P Q : Type 0} → Decides a P → Decides b Q → Decides (a || b) (P ⊎ Q)
either true b d e = record { so = λ h. inl (d.so refl); back = λ x. refl }
either false b {P} {Q} d e = record { so = λ h. inr (e.so h); back = from }
  where
    from : P ⊎ Q → b ≡ true
    from (inl p) = never (d.back p) refl
    from (inr q) = e.back q

pub neither : (b : Bool) {P : Type 0} → Decides b P → Decides (not b) (P → ⊥)
neither true d = record { so = λ h. never h refl; back = λ n. absurd (n (d.so refl)) }
neither false d = record { so = λ h p. never (d.back p) refl; back = λ n. refl }

pub as_is : (b : Bool) → Decides b (b ≡ true)
as_is b = record { so = λ h. h; back = λ h. h }

pub always : Denies true ⊥
always = record { so = λ h. true≢false h; back = λ x. absurd x }

pub le : (m n : ℕ) → Decides (leb m n) (m ≤ n)
le m n = record { so = leb-true m n; back = le-leb m n }

pub over : (m n : ℕ) → Denies (leb m n) (n < m)
over m n = record { so = leb-false m n; back = lt-leb m n }

pub lt : (m n : ℕ) → Decides (ltb m n) (m < n)
lt m n = record { so = ltb-true m n; back = lt-ltb m n }

pub eq : (m n : ℕ) → Decides (eqb m n) (m ≡ n)
eq m n = record { so = eqb-true m n; back = eq-eqb m n }
