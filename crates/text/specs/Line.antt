-- A line that is laid out piece by piece.
use Rattle.std.specs.Prelude.{ℕ, ◌+◌, List, ◌++◌, ◌≡◌, ◌≤◌, cond, leb, length}

-- the text l became l' by a piece p after it, of at most so many octets
abbrev pub Gains : ℕ → List ℕ → List ℕ → List ℕ → Type 0
Gains most p l l' = (l' ≡ l ++ p) × (length p ≤ most)

-- a line of at most so many octets, with a piece after its text where that fits
unfoldable pub with_piece : ℕ → List ℕ → List ℕ → List ℕ
with_piece most p l = cond (leb (length l + length p) most) (l ++ p) l
