-- The element field at a place of a body.
use Rattle.std.specs.Prelude.{ℕ, ◌+◌, ◌-◌, List, [], ◌∷◌, Bool, true, false, cond, ◌&&◌, get_or, drop, ltb, eqb}
use Rattle.memory.specs.Stretch.{stretch_of}

-- zeros only
unfoldable pub blank_of : List ℕ → Bool
blank_of [] = true
blank_of (x ∷ xs) = cond (eqb x 0) (blank_of xs) false

-- "An element field is n (0 for absent, or 2 to 131), the n octets beginning 126 and n − 2,"
unfoldable pub form_fits_of : ℕ → List ℕ → Bool
form_fits_of p t =
    cond (ltb (get_or t p 0) 2) (eqb (get_or t p 0) 0)
    (cond (ltb 131 (get_or t p 0)) false
    (eqb (get_or t (p + 1) 0) 126 && eqb (get_or t (p + 2) 0) (get_or t p 0 - 2)))

-- "then zeros to 132 in all."
unfoldable pub zeros_fit_of : ℕ → List ℕ → Bool
zeros_fit_of p t = blank_of (drop (get_or t p 0 + 1) (stretch_of p 132 t))
