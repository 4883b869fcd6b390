-- A table of conditions, each with its number, in the order in which they are asked.
use Rattle.std.specs.Prelude.{ℕ, ◌≡◌, ◌⊎◌}

pub data Rows : Type 1 where
  end : Rows
  row : Type 0 → ℕ → Rows → Rows

-- n is the number of the first row whose condition holds, and 0 where none does
abbrev pub First : Rows → ℕ → Type 0
First end n = n ≡ 0
First (row P k rows) n = (P × (n ≡ k)) ⊎ ((P → ⊥) × First rows n)

-- a function's number is n exactly when the table says n
abbrev pub Exactly : Rows → ℕ → Type 0
Exactly rows number = (n : ℕ) → (number ≡ n → First rows n) × (First rows n → number ≡ n)
