-- "Elements: an octet of 80 or more stands alone; otherwise a length octet and that many octets follow."
use Rattle.std.specs.Prelude.{Option, Some, None, ℕ, zero, suc, ◌+◌, ◌-◌, ◌<◌, ◌≤◌, List, [], ◌∷◌, ◌≡◌, Bool, true, false, cond, ◌&&◌, length, get_or, take, drop, leb}

-- where an element starts, its first octet, and the octets after its length
pub record Element : Type 0 where
  pub at : ℕ
  pub id : ℕ
  pub body : List ℕ

abbrev pub element : ℕ → ℕ → List ℕ → Element
element p x b = record { at = p; id = x; body = b }

-- octets split into elements, unless they end before a part that they announce
pub data Split : Type 0 where
  cut : Split
  whole : List Element → Split

-- whether the octets have every part that they announce
abbrev pub is_whole : Split → Bool
is_whole cut = false
is_whole (whole es) = true

unfoldable pub then : Element → Split → Split
then e cut = cut
then e (whole es) = whole (e ∷ es)

-- the elements of octets that start at place p, past the first k of them, which belong to the element before
unfoldable pub elements : ℕ → ℕ → List ℕ → Split
elements p zero [] = whole []
elements p (suc k) [] = cut
elements p (suc k) (x ∷ xs) = elements (suc p) k xs
elements p zero (x ∷ xs) =
    cond (leb 0x80 x)
    (then (element p x []) (elements (suc p) zero xs))
    (then (element p x (take (get_or xs 0 0) (drop 1 xs))) (elements (suc p) (suc (get_or xs 0 0)) xs))

-- "After a locking shift (90 to 97) the scan for our elements stops"
abbrev pub locking : Element → Bool
locking e = leb 0x90 e.id && leb e.id 0x97

-- "A non-locking shift (98 to 9F) makes the next element, a shift too, passed over"
abbrev pub shifting : Element → Bool
shifting e = leb 0x98 e.id && leb e.id 0x9F

-- the elements that the scan looks at (pass: the first of them is passed over)
unfoldable pub counted : Bool → List Element → List Element
counted pass [] = []
counted true (e ∷ es) = counted false es
counted false (e ∷ es) = cond (locking e) [] (cond (shifting e) (counted true es) (e ∷ counted false es))

-- What the code says of one element: it starts at i and ends at e, and the others follow from there.
abbrev pub between : List ℕ → ℕ → ℕ → Element
between m i e = element i (get_or m i 0) (take (e - (i + 2)) (drop (i + 2) m))

pub record Ended (m : List ℕ) (i e : ℕ) : Type 0 where
  pub after : i < e
  pub within : e ≤ length m
  pub long : get_or m i 0 < 128 → i + 2 ≤ e
  pub turn : elements i 0 (drop i m) ≡ then (between m i e) (elements e 0 (drop e m))

abbrev pub Ends : List ℕ → ℕ → Option ℕ → Type 0
Ends m i (Some e) = Ended m i e
Ends m i None = elements i 0 (drop i m) ≡ cut
