-- What an element is seen to be.
use Rattle.std.proofs.Common.{ℕ, ◌<◌, ◌≤◌, List, ◌≡◌, leb-true, leb-false, eqb-true, length, get_or, leb, eqb}
use Rattle.std.proofs.lemmas.Bool.{eqb-false}
use Rattle.user_element.specs.declared.Seen.{Seen}
use Rattle.user_element.specs.Element.{well_formed_of, seen_of}
use Rattle.call_promises.specs.Numbers.{WellFormed}
use Rattle.logic.proofs.Decide.{never, by_cond, Decides, via, both, le, eq}

well_formed : (l : List ℕ) → Decides (well_formed_of l) (WellFormed l)
unfolding well_formed_of
well_formed l =
    via (λ t. record { least = t.0; first = t.1.0; second = t.1.1 }) (λ w. (w.least, (w.first, w.second)))
    (both _ _ (le 3 (length l)) (both _ _ (eq (get_or l 0 0) 126) (eq (get_or l 1 0) _)))

pub data Sight (l : List ℕ) (limit : ℕ) : Seen → Type 0 where
  absent : length l ≡ 0 → Sight l limit Seen.Absent
  malformed : (length l ≡ 0 → ⊥) → (WellFormed l → ⊥) → Sight l limit Seen.Malformed
  too_long : (length l ≡ 0 → ⊥) → WellFormed l → limit < length l → Sight l limit Seen.TooLong
  whole : (length l ≡ 0 → ⊥) → WellFormed l → length l ≤ limit → Sight l limit Seen.Whole

pub sight : (l : List ℕ) (limit : ℕ) → Sight l limit (seen_of l limit)
unfolding seen_of
sight l limit =
    by_cond (Sight l limit) (eqb (length l) 0) (λ t. absent (eqb-true _ _ t))
    (λ n.
    by_cond (Sight l limit) (well_formed_of l)
    (λ w.
    by_cond (Sight l limit) (leb (length l) limit) (λ t. whole (eqb-false _ _ n) ((well_formed l).so w) (leb-true _ _ t))
    (λ t. too_long (eqb-false _ _ n) ((well_formed l).so w) (leb-false _ _ t)))
    (λ w. malformed (eqb-false _ _ n) (λ x. never ((well_formed l).back x) w)))
