-- What the columns of a line share.
use Rattle.std.specs.Prelude.{ℕ, List, [], ◌∷◌}

-- what is absent: `-`
abbrev pub dash : List ℕ
dash = 45 ∷ []

-- a column, after the space that parts it from the one before
abbrev pub column : List ℕ → List ℕ
column c = 32 ∷ c
