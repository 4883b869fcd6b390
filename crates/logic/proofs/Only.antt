-- A table names one number only, so it is enough to find it.
use Prim.Native.Nat.{ℕ}
use mathlib.Core.Path.{◌≡◌, sym, ◌∙◌}
use mathlib.Core.Logic.{inl, inr}
use Rattle.logic.specs.First.{Rows, end, row, First, Exactly}

pub only : (rows : Rows) (m n : ℕ) → First rows m → First rows n → m ≡ n
only end m n a b = a ∙ sym b
only (row P k rows) m n (inl a) (inl b) = a.1 ∙ sym b.1
only (row P k rows) m n (inl a) (inr b) = absurd (b.0 a.0)
only (row P k rows) m n (inr a) (inl b) = absurd (a.0 b.0)
only (row P k rows) m n (inr a) (inr b) = only rows m n a.1 b.1

pub exactly : (rows : Rows) (number : ℕ) → First rows number → Exactly rows number
exactly rows number f = λ n. ((λ e. rw e at f), (λ g. only rows number n f g))
