-- Text that stands at the front of a buffer and has no zeros.
use Rattle.std.specs.Prelude.{ℕ, suc, List, [], ◌∷◌, cond, eqb}

-- where the first zero stands, or the buffer's end
unfoldable pub text_end : List ℕ → ℕ
text_end [] = 0
text_end (x ∷ l) = cond (eqb x 0) 0 (suc (text_end l))
