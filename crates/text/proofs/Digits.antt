-- The digits of a number, one by one from the last.
use Prim.Native.Nat.{ℕ, zero, suc, ◌-◌, ◌/◌, ◌%◌, ◌^◌, ◌<◌, ◌≤◌}
use mathlib.Core.List.{List, ◌++◌}
use mathlib.Core.Bool.{false}
use mathlib.Core.Path.{◌≡◌, refl, sym, ap, ◌∙◌}
use native.Mathlib.Omega.{arith}
use native.Mathlib.Nat.{pow-suc, div-lt_iff_lt-mul}
use borrow.Author.Tests.{lt-ltb, le-ltb, ltb-false}
use lib.Dec.{ltb, lit<}
use lib.ListN.{length, length-append}
use Rattle.std.proofs.Common.{eq-zero-or-pos, inl, inr}
use Rattle.std.specs.Fmt.{decimal}
use Rattle.std.proofs.lemmas.Fmt.{decimal_digit, decimal_step}
use Rattle.logic.proofs.Decide.{by_cond}
use Rattle.text.specs.Decimal.{last_digit, digits_of, decimal_of}

tenth : (k n : ℕ) → n ≤ suc k → ltb n 10 ≡ false → n / 10 ≤ k
tenth k n p h = let q = ltb-false n 10 h in omega arith

-- more places than the number counts change nothing
enough : (f g n : ℕ) → n ≤ f → n ≤ g → digits_of f n ≡ digits_of g n
unfolding digits_of
enough zero zero n p q = refl
enough zero (suc g) n p q = simp (lt-ltb n 10 (omega arith))
enough (suc f) zero n p q = simp (lt-ltb n 10 (omega arith))
enough (suc f) (suc g) n p q =
    by_cond (λ (l : List ℕ). l ≡ digits_of (suc g) n) (ltb n 10) (λ h. simp h) (λ h. simp h (ap (λ (l : List ℕ). l ++ last_digit n) (enough f g (n / 10) (tenth f n p h) (tenth g n q h))))

-- a number below ten is one digit
pub one_digit : (n : ℕ) → n < 10 → decimal_of n ≡ last_digit n
unfolding decimal_of digits_of
one_digit zero h = refl
one_digit (suc k) h = simp (lt-ltb (suc k) 10 h)

-- another is the digits of its tenth, and its last
pub more_digits : (n : ℕ) → 10 ≤ n → decimal_of n ≡ decimal_of (n / 10) ++ last_digit n
unfolding decimal_of digits_of
more_digits zero h = absurd (omega arith)
more_digits (suc k) h =
    simp (le-ltb (suc k) 10 h) (ap (λ (l : List ℕ). l ++ last_digit (suc k)) (enough k (suc k / 10) (suc k / 10) (omega arith) (omega arith)))

-- a number below a power of ten has no more digits than that
few : (f k n : ℕ) → n < 10 ^ suc k → length (digits_of f n) ≤ suc k
unfolding digits_of
few zero k n h = omega arith
few (suc f) zero n h = rw (lt-ltb n 10 (omega arith)) (omega arith)
few (suc f) (suc k) n h =
    by_cond (λ (l : List ℕ). length l ≤ suc (suc k)) (ltb n 10) (λ t. omega arith)
    (λ t. simp length-append (let d = few f k (n / 10) ((div-lt_iff_lt-mul (lit< tt)).1 (rw pow-suc at h)) in omega arith))

pub at_most : (k n : ℕ) → n < 10 ^ suc k → length (decimal_of n) ≤ suc k
unfolding decimal_of
at_most k n h = few n k n h

-- a number of 64 bits has at most 20 digits
pub at_most_twenty : (n : ℕ) → n < 2 ^ 64 → length (decimal_of n) ≤ 20
at_most_twenty n h = at_most 19 n (omega arith)

-- these digits are what the library writes
printed_one : (n : ℕ) → n < 10 → decimal n ≡ decimal_of n
printed_one n h = let q : n % 10 ≡ n = omega arith in decimal_digit n h ∙ sym (rw q at (one_digit n h))

printed : (k n : ℕ) → n ≤ k → n < 2 ^ 64 → decimal n ≡ decimal_of n
printed zero n p h = printed_one n (omega arith)
printed (suc k) n p h =
    elim (eq-zero-or-pos (n - 9)) [
      | inl z ↦ printed_one n (omega arith)
      | inr g ↦
          decimal_step n (omega arith) h
          ∙ rw (printed k (n / 10) (omega arith) (omega arith)) (sym (more_digits n (omega arith)))
    ]

pub as_printed : (n : ℕ) → n < 2 ^ 64 → decimal n ≡ decimal_of n
as_printed n h = printed n n (omega arith) h
