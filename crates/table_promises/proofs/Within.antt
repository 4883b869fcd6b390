-- The place that is chosen lies within the table.
use Rattle.std.specs.Prelude.{Option, Some, None, Result, Ok, Err}
use mathlib.Core.Path.{◌≡◌, ap, subst}
use Prim.Native.Nat.{ℕ, suc, ◌+◌, ◌<◌}
use native.Mathlib.Omega.{arith}
use mathlib.Core.Bool.{Bool, true, false, cond}
use mathlib.Core.List.{List, [], ◌∷◌}
use lib.Dec.{T as Holds}
use lib.ListN.{length}
use Rattle.answer.specs.declared.Answer.{Answer}
use Rattle.call.specs.declared.Call.{Call}
use Rattle.event.specs.declared.Event.{Event}
use Rattle.table.specs.Sought.{live_as, free_of}
use Rattle.table.specs.Table.{find_from, place_from, table_sound}
use Rattle.table.specs.Choice.{meant_reference_of, opens_of, setup_ranged_of, new_place_of, old_place_of, choose_of, chosen_of}
use Rattle.table.specs.declared.verdict.Verdict.{Verdict}

-- the number of a place
found_number : Option ℕ → ℕ
found_number (Some i) = i
found_number None = 0

found_at : Option ℕ → Bool
found_at (Some i) = true
found_at None = false

chosen_number : Result ℕ Verdict → ℕ
chosen_number (Ok i) = i
chosen_number (Err v) = 0

chosen_at : Result ℕ Verdict → Bool
chosen_at (Ok i) = true
chosen_at (Err v) = false

not_nothing : {X : Type 0} (i : ℕ) → Some i ≡ None → X
unfolding found_at
not_nothing i e = absurd (subst (λ (r : Option ℕ). Holds (found_at r)) e tt)

pub not_refused : {X : Type 0} (i : ℕ) (v : Verdict) → Ok i ≡ Err v → X
unfolding chosen_at
not_refused i v e = absurd (subst (λ (r : Result ℕ Verdict). Holds (chosen_at r)) e tt)

pub same_found : (i j : ℕ) → Some i ≡ Some j → i ≡ j
unfolding found_number
same_found i j e = ap found_number e

pub same_chosen : (i j : ℕ) → ◌≡◌ {A = Result ℕ Verdict} (Ok i) (Ok j) → i ≡ j
unfolding chosen_number
same_chosen i j e = ap chosen_number e

-- one element more
one_found : (t : Bool) (i j m : ℕ) (r : Option ℕ) → Some i ≡ cond t (Some j) r → (Some i ≡ r → i < j + 1 + m) → i < j + suc m
one_found true i j m r e rest = let same : i ≡ j = same_found i j e in omega (arith, same)
one_found false i j m r e rest = let less : i < j + 1 + m = rest e in omega (arith, less)

pub find_within : (l : List Call) (j k i : ℕ) → Some i ≡ find_from l j k → i < j + length l
find_within [] j k i e = not_nothing i e
find_within (c ∷ cs) j k i e = one_found (live_as c k) i j (length cs) (find_from cs (j + 1) k) e (λ e'. find_within cs (j + 1) k i e')

pub place_within : (l : List Call) (j i : ℕ) → Some i ≡ place_from l j → i < j + length l
place_within [] j i e = not_nothing i e
place_within (c ∷ cs) j i e = one_found (free_of c) i j (length cs) (place_from cs (j + 1)) e (λ e'. place_within cs (j + 1) i e')

new_within : (held free : Option ℕ) (i n : ℕ) → Ok i ≡ new_place_of held free → (Some i ≡ free → i < n) → i < n
new_within (Some j) free i n e h = not_refused i _ e
new_within None (Some j) i n e h = h (ap Some (same_chosen i j e))
new_within None None i n e h = not_refused i _ e

old_within : (held : Option ℕ) (i n : ℕ) → Ok i ≡ old_place_of held → (Some i ≡ held → i < n) → i < n
old_within (Some j) i n e h = h (ap Some (same_chosen i j e))
old_within None i n e h = not_refused i _ e

choose_within : (whole opening fits : Bool) (held free : Option ℕ) (i n : ℕ) →
    Ok i ≡ cond whole (cond opening (cond fits (new_place_of held free) (Err (Verdict.Heard Answer.OutOfRange))) (old_place_of held)) (Err (Verdict.Heard Answer.Unsound)) →
    (Some i ≡ held → i < n) → (Some i ≡ free → i < n) → i < n
choose_within true true true held free i n e h h' = new_within held free i n e h'
choose_within true true false held free i n e h h' = not_refused i _ e
choose_within true false fits held free i n e h h' = old_within held i n e h
choose_within false opening fits held free i n e h h' = not_refused i _ e

pub chosen_within : (l : List Call) (k : ℕ) (e : Event) (i : ℕ) → Ok i ≡ chosen_of l k e → i < length l
unfolding chosen_of choose_of
chosen_within l k e i c =
    choose_within (table_sound l) (opens_of e) (setup_ranged_of e) (find_from l 0 (meant_reference_of k e)) (place_from l 0) i (length l) c
    (λ d. let h : i < 0 + length l = find_within l 0 (meant_reference_of k e) i d in omega (arith, h))
    (λ d. let h : i < 0 + length l = place_within l 0 i d in omega (arith, h))
