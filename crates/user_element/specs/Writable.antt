-- The user-user element as it can be written.
use Rattle.std.specs.Prelude.{ℕ, ◌-◌, ◌≤◌, List, Bool, true, false, cond, ◌≡◌, length, get_or, ltb, eqb}

-- "elements 2 to 131 octets beginning 7E and the length less 2"
pub record UserElement (u : List ℕ) : Type 0 where
  pub least : 2 ≤ length u
  pub most : length u ≤ 131
  pub first : get_or u 0 0 ≡ 0x7E
  pub second : get_or u 1 0 ≡ length u - 2

-- the same as a test, with "No octets at all is an absent element"
unfoldable pub element_fits_of : List ℕ → Bool
element_fits_of u =
    cond (eqb (length u) 0) true
    (cond (ltb (length u) 2) false
    (cond (ltb 131 (length u)) false
    (cond (eqb (get_or u 0 0) 0x7E) (eqb (get_or u 1 0) (length u - 2)) false)))
