-- The table's tests, and what the paper calls them: each says the other.
use Rattle.std.specs.Prelude.{Some, None}
use mathlib.Core.Path.{◌≡◌, refl, sym, ◌∙◌, ap, subst}
use Prim.Native.Nat.{ℕ, zero, suc, ◌+◌, ◌<◌, ◌≤◌}
use native.Mathlib.Nat.{not-suc-le-zero, le_of_suc-le-suc}
use native.Mathlib.Omega.{arith}
use mathlib.Core.Bool.{Bool, true, false, cond, not, ◌&&◌, ◌||◌, true≢false}
use mathlib.Core.List.{List, [], ◌∷◌}
use mathlib.Core.Logic.{inl, inr}
use lib.Dec.{leb, eqb}
use lib.ListN.{length, get_or}
use borrow.Author.Tests.{leb-true, leb-false, eqb-true, eq-eqb}
use Rattle.phases.specs.declared.Phase.{Phase}
use Rattle.phases.specs.Phase.{live_of}
use Rattle.call.specs.declared.Call.{Call}
use Rattle.call.specs.Sound.{fresh_call, sound_of, fields_fit_of}
use Rattle.table.specs.Sought.{live_as, is_at}
use Rattle.table.specs.Table.{find_from, place_from, held_in, calls_sound, table_sound}
use Rattle.table_promises.specs.Table.{Free, LiveAt, Held, Full, Faulty, over, twins, unsound, held_call, Lowest}
use Rattle.logic.proofs.Tests.{both, and_true}
use Rattle.call_promises.specs.Ranges.{InRangeCall}
use Rattle.call_promises.proofs.Ranges.{fields_range}
use Rattle.table.proofs.Searched.{at_held}
use Rattle.table_promises.proofs.Within.{same_found}

-- ---- phases
pub not_free : (p : Phase) → live_of p ≡ true → Free p → ⊥
not_free p e (inl f) = true≢false (sym e ∙ ap live_of f)
not_free p e (inr f) = true≢false (sym e ∙ ap live_of f)

pub is_free : (p : Phase) → live_of p ≡ false → Free p
is_free Phase.Fresh e = inl refl
is_free Phase.Requested e = absurd (true≢false e)
is_free Phase.Alerting e = absurd (true≢false e)
is_free Phase.Active e = absurd (true≢false e)
is_free Phase.Clearing e = absurd (true≢false e)
is_free Phase.Ended e = inr refl

live_cases : (p : Phase) (t : Bool) → live_of p ≡ t → (Free p → ⊥) → live_of p ≡ true
live_cases p true e h = e
live_cases p false e h = absurd (h (is_free p e))

pub is_live : (p : Phase) → (Free p → ⊥) → live_of p ≡ true
is_live p h = live_cases p (live_of p) refl h

-- ---- one record more in front
further : (c : Call) (l : List Call) (i n : ℕ) → LiveAt l i n → LiveAt (c ∷ l) (suc i) n
further c l i n h = record { within = let w : i < length l = h.within in omega (arith, w); live = h.live; reference = h.reference }

nearer : (c : Call) (l : List Call) (i n : ℕ) → LiveAt (c ∷ l) (suc i) n → LiveAt l i n
nearer c l i n h = record { within = le_of_suc-le-suc h.within; live = h.live; reference = h.reference }

-- ---- a live record of a reference
first_live : (c : Call) (l : List Call) (n : ℕ) → live_as c n ≡ true → LiveAt (c ∷ l) 0 n
first_live c l n e =
    let p : (live_of c.phase ≡ true) × (eqb c.reference n ≡ true) = both (live_of c.phase) (eqb c.reference n) e in
    record { within = omega arith; live = not_free c.phase p.0; reference = eqb-true c.reference n p.1 }

live_first : (c : Call) (l : List Call) (n : ℕ) → LiveAt (c ∷ l) 0 n → live_as c n ≡ true
live_first c l n h = and_true (live_of c.phase) (eqb c.reference n) (is_live c.phase h.live) (eq-eqb c.reference n h.reference)

held_more : (c : Call) (l : List Call) (n : ℕ) (t : Bool) → live_as c n ≡ t → t || held_in l n ≡ true → (held_in l n ≡ true → Held l n) → Held (c ∷ l) n
held_more c l n true e h k = (0, first_live c l n e)
held_more c l n false e h k = let r : Held l n = k h in (suc r.0, further c l r.0 n r.1)

pub is_held : (l : List Call) (n : ℕ) → held_in l n ≡ true → Held l n
is_held [] n e = absurd (true≢false (sym e))
is_held (c ∷ l) n e = held_more c l n (live_as c n) refl e (λ h. is_held l n h)

or_left : (a b : Bool) → a ≡ true → a || b ≡ true
or_left a b e = ap (λ (x : Bool). x || b) e

or_right : (a b : Bool) → b ≡ true → a || b ≡ true
or_right true b e = refl
or_right false b e = e

pub held_at : (l : List Call) (n i : ℕ) → LiveAt l i n → held_in l n ≡ true
held_at [] n i h = absurd (not-suc-le-zero h.within)
held_at (c ∷ l) n zero h = or_left (live_as c n) (held_in l n) (live_first c l n h)
held_at (c ∷ l) n (suc i) h = or_right (live_as c n) (held_in l n) (held_at l n i (nearer c l i n h))

pub found_held : (l : List Call) (n i : ℕ) → find_from l 0 n ≡ Some i → Held l n
found_held l n i e = is_held l n (sym (at_held l 0 n) ∙ ap is_at e)

pub not_found : (l : List Call) (n : ℕ) → find_from l 0 n ≡ None → Held l n → ⊥
not_found l n e h = true≢false (sym (held_at l n h.0 h.1) ∙ sym (at_held l 0 n) ∙ ap is_at e)

-- ---- places
one_full : (c : Call) (l : List Call) (i : ℕ) (t : Bool) → live_of c.phase ≡ t → cond (not t) (Some i) (place_from l (i + 1)) ≡ None → (place_from l (i + 1) ≡ None → Full l) → Full (c ∷ l)
one_full c l i true e f k zero h = not_free c.phase e
one_full c l i true e f k (suc j) h = k f j (le_of_suc-le-suc h)
one_full c l i false e f k j h = absurd (true≢false (ap is_at f))

pub no_place_lem : (l : List Call) (i : ℕ) → place_from l i ≡ None → Full l
no_place_lem [] i e j h = absurd (not-suc-le-zero h)
no_place_lem (c ∷ l) i e j h = one_full c l i (live_of c.phase) refl e (λ f. no_place_lem l (i + 1) f) j h

not_full_more : (c : Call) (l : List Call) (i j : ℕ) (t : Bool) → live_of c.phase ≡ t → cond (not t) (Some i) (place_from l (i + 1)) ≡ Some j → Full (c ∷ l) → (place_from l (i + 1) ≡ Some j → Full l → ⊥) → ⊥
not_full_more c l i j true e f h k = k f (λ m w. h (suc m) (omega (arith, w)))
not_full_more c l i j false e f h k = h 0 (omega arith) (is_free c.phase e)

pub not_full : (l : List Call) (i j : ℕ) → place_from l i ≡ Some j → Full l → ⊥
not_full [] i j e h = true≢false (sym (ap is_at e))
not_full (c ∷ l) i j e h = not_full_more c l i j (live_of c.phase) refl e h (λ f g. not_full l (i + 1) j f g)

-- ---- 25
sound_live : (c : Call) → sound_of c ≡ true → (Free c.phase → ⊥) → InRangeCall c
unfolding sound_of
sound_live c e h = (fields_range c).so (sym (ap (λ (t : Bool). cond t (fields_fit_of c) true) (is_live c.phase h)) ∙ e)

unsound_cases : (t u : Bool) → cond t u true ≡ false → (t ≡ true) × (u ≡ false)
unsound_cases true u e = (refl, e)
unsound_cases false u e = absurd (true≢false e)

unsound_live : (c : Call) → sound_of c ≡ false → (live_of c.phase ≡ true) × (InRangeCall c → ⊥)
unfolding sound_of
unsound_live c e =
    let p : (live_of c.phase ≡ true) × (fields_fit_of c ≡ false) = unsound_cases (live_of c.phase) (fields_fit_of c) e in
    (p.0, (λ h. true≢false (sym ((fields_range c).back h) ∙ p.1)))

abbrev alone : Call → List Call → Bool
alone c l = not (live_of c.phase && held_in l c.reference)

calls_parts : (c : Call) (l : List Call) → calls_sound (c ∷ l) ≡ true → (sound_of c ≡ true) × (alone c l ≡ true) × (calls_sound l ≡ true)
calls_parts c l e =
    let p : ((sound_of c && alone c l) ≡ true) × (calls_sound l ≡ true) = both (sound_of c && alone c l) (calls_sound l) e in
    let q : (sound_of c ≡ true) × (alone c l ≡ true) = both (sound_of c) (alone c l) p.0 in (q.0, q.1, p.1)

calls_fields : (l : List Call) (i n : ℕ) → calls_sound l ≡ true → LiveAt l i n → InRangeCall (get_or l i fresh_call)
calls_fields [] i n e h = absurd (not-suc-le-zero h.within)
calls_fields (c ∷ l) zero n e h = sound_live c (calls_parts c l e).0 h.live
calls_fields (c ∷ l) (suc i) n e h = calls_fields l i n (calls_parts c l e).2 (nearer c l i n h)

not_both : (a b : Bool) → not (a && b) ≡ true → a ≡ true → b ≡ true → ⊥
not_both a b e f g = true≢false (sym e ∙ ap not (and_true a b f g))

calls_twins : (l : List Call) (i j n : ℕ) → calls_sound l ≡ true → i < j → LiveAt l i n → LiveAt l j n → ⊥
calls_twins [] i j n e w h k = not-suc-le-zero h.within
calls_twins (c ∷ l) i zero n e w h k = not-suc-le-zero w
calls_twins (c ∷ l) zero (suc j) n e w h k =
    not_both (live_of c.phase) (held_in l c.reference) (calls_parts c l e).1 (is_live c.phase h.live)
    (ap (held_in l) h.reference ∙ held_at l n j (nearer c l j n k))
calls_twins (c ∷ l) (suc i) (suc j) n e w h k = calls_twins l i j n (calls_parts c l e).2 (le_of_suc-le-suc w) (nearer c l i n h) (nearer c l j n k)

pub not_faulty : (l : List Call) → table_sound l ≡ true → Faulty l → ⊥
unfolding table_sound
not_faulty l e (over h) = let w : length l ≤ 32 = leb-true (length l) 32 (both (leb (length l) 32) (calls_sound l) e).0 in omega (arith, w, h)
not_faulty l e (twins i j n w h k) = calls_twins l i j n (both (leb (length l) 32) (calls_sound l) e).1 w h k
not_faulty l e (unsound i n h k) = k (calls_fields l i n (both (leb (length l) 32) (calls_sound l) e).1 h)

further_faulty : (c : Call) (l : List Call) → Faulty l → Faulty (c ∷ l)
further_faulty c l (over h) = over (omega (arith, h))
further_faulty c l (twins i j n w h k) = twins (suc i) (suc j) n (omega (arith, w)) (further c l i n h) (further c l j n k)
further_faulty c l (unsound i n h k) = unsound (suc i) n (further c l i n h) k

faulty_more : (c : Call) (l : List Call) (t u v : Bool) → sound_of c ≡ t → (live_of c.phase && held_in l c.reference) ≡ u → calls_sound l ≡ v → (t && not u) && v ≡ false → (calls_sound l ≡ false → Faulty l) → Faulty (c ∷ l)
faulty_more c l false u v et eu ev e k =
    let p : (live_of c.phase ≡ true) × (InRangeCall c → ⊥) = unsound_live c et in
    unsound 0 c.reference (record { within = omega arith; live = not_free c.phase p.0; reference = refl }) p.1
faulty_more c l true true v et eu ev e k =
    let p : (live_of c.phase ≡ true) × (held_in l c.reference ≡ true) = both (live_of c.phase) (held_in l c.reference) eu in
    let r : Held l c.reference = is_held l c.reference p.1 in
    twins 0 (suc r.0) c.reference (omega arith) (record { within = omega arith; live = not_free c.phase p.0; reference = refl }) (further c l r.0 c.reference r.1)
faulty_more c l true false v et eu ev e k = further_faulty c l (k (ev ∙ e))

faulty_calls : (l : List Call) → calls_sound l ≡ false → Faulty l
faulty_calls [] e = absurd (true≢false e)
faulty_calls (c ∷ l) e = faulty_more c l (sound_of c) (live_of c.phase && held_in l c.reference) (calls_sound l) refl refl refl e (λ h. faulty_calls l h)

faulty_cases : (l : List Call) (t : Bool) → leb (length l) 32 ≡ t → t && calls_sound l ≡ false → Faulty l
faulty_cases l true et e = faulty_calls l e
faulty_cases l false et e = over (leb-false (length l) 32 et)

pub is_faulty : (l : List Call) → table_sound l ≡ false → Faulty l
unfolding table_sound
is_faulty l e = faulty_cases l (leb (length l) 32) refl e

-- ---- the record that is found
record_more : (c : Call) (l : List Call) (i j n : ℕ) (t : Bool) → live_as c n ≡ t → cond t (Some j) (find_from l (j + 1) n) ≡ Some i
    → (find_from l (j + 1) n ≡ Some i → (m : ℕ) × (i ≡ j + 1 + m) × (get_or l m fresh_call ≡ held_call l n)) → (m : ℕ) × (i ≡ j + m) × (get_or (c ∷ l) m fresh_call ≡ cond t c (held_call l n))
record_more c l i j n true et e k = (0, (let same : j ≡ i = same_found j i e in omega (arith, same)), refl)
record_more c l i j n false et e k = let r : (m : ℕ) × (i ≡ j + 1 + m) × (get_or l m fresh_call ≡ held_call l n) = k e in (suc r.0, (let w : i ≡ j + 1 + r.0 = r.1 in omega (arith, w)), r.2)

found_record : (l : List Call) (i j n : ℕ) → find_from l j n ≡ Some i → (m : ℕ) × (i ≡ j + m) × (get_or l m fresh_call ≡ held_call l n)
found_record [] i j n e = absurd (true≢false (sym (ap is_at e)))
found_record (c ∷ l) i j n e = record_more c l i j n (live_as c n) refl e (λ f. found_record l i (j + 1) n f)

pub found_call : (l : List Call) (i n : ℕ) → find_from l 0 n ≡ Some i → get_or l i fresh_call ≡ held_call l n
found_call l i n e =
    let r : (m : ℕ) × (i ≡ 0 + m) × (get_or l m fresh_call ≡ held_call l n) = found_record l i 0 n e in
    let same : i ≡ r.0 = (let w : i ≡ 0 + r.0 = r.1 in omega (arith, w)) in ap (λ (m : ℕ). get_or l m fresh_call) same ∙ r.2

-- ---- what stands at the place that is found, and at the lowest free one
live_more : (c : Call) (l : List Call) (i j n : ℕ) (t : Bool) → live_as c n ≡ t → cond t (Some j) (find_from l (j + 1) n) ≡ Some i
    → (find_from l (j + 1) n ≡ Some i → (m : ℕ) × (i ≡ j + 1 + m) × LiveAt l m n) → (m : ℕ) × (i ≡ j + m) × LiveAt (c ∷ l) m n
live_more c l i j n true et e k = (0, (let same : j ≡ i = same_found j i e in omega (arith, same)), first_live c l n et)
live_more c l i j n false et e k = let r : (m : ℕ) × (i ≡ j + 1 + m) × LiveAt l m n = k e in (suc r.0, (let w : i ≡ j + 1 + r.0 = r.1 in omega (arith, w)), further c l r.0 n r.2)

live_found : (l : List Call) (i j n : ℕ) → find_from l j n ≡ Some i → (m : ℕ) × (i ≡ j + m) × LiveAt l m n
live_found [] i j n e = absurd (true≢false (sym (ap is_at e)))
live_found (c ∷ l) i j n e = live_more c l i j n (live_as c n) refl e (λ f. live_found l i (j + 1) n f)

pub found_live : (l : List Call) (i n : ℕ) → find_from l 0 n ≡ Some i → LiveAt l i n
found_live l i n e =
    let r : (m : ℕ) × (i ≡ 0 + m) × LiveAt l m n = live_found l i 0 n e in
    let same : r.0 ≡ i = (let w : i ≡ 0 + r.0 = r.1 in omega (arith, w)) in subst (λ (m : ℕ). LiveAt l m n) same r.2

lower_more : (c : Call) (l : List Call) (m : ℕ) → (Free c.phase → ⊥) → Lowest l m → (j : ℕ) → j < suc m → Free (get_or (c ∷ l) j fresh_call).phase → ⊥
lower_more c l m h k zero w = h
lower_more c l m h k (suc j) w = k.lower j (le_of_suc-le-suc w)

free_more : (c : Call) (l : List Call) (i j : ℕ) (t : Bool) → live_of c.phase ≡ t → cond (not t) (Some j) (place_from l (j + 1)) ≡ Some i
    → (place_from l (j + 1) ≡ Some i → (m : ℕ) × (i ≡ j + 1 + m) × Lowest l m) → (m : ℕ) × (i ≡ j + m) × Lowest (c ∷ l) m
free_more c l i j true et e k =
    let r : (m : ℕ) × (i ≡ j + 1 + m) × Lowest l m = k e in (
      suc r.0,
      (let w : i ≡ j + 1 + r.0 = r.1 in omega (arith, w)),
      record { within = (let w : r.0 < length l = r.2.within in omega (arith, w)); free = r.2.free; lower = lower_more c l r.0 (not_free c.phase et) r.2 },
    )
free_more c l i j false et e k =
    (0, (let same : j ≡ i = same_found j i e in omega (arith, same)), record { within = omega arith; free = is_free c.phase et; lower = λ m w. absurd (not-suc-le-zero w) })

free_found : (l : List Call) (i j : ℕ) → place_from l j ≡ Some i → (m : ℕ) × (i ≡ j + m) × Lowest l m
free_found [] i j e = absurd (true≢false (sym (ap is_at e)))
free_found (c ∷ l) i j e = free_more c l i j (live_of c.phase) refl e (λ f. free_found l i (j + 1) f)

pub found_lowest : (l : List Call) (i : ℕ) → place_from l 0 ≡ Some i → Lowest l i
found_lowest l i e =
    let r : (m : ℕ) × (i ≡ 0 + m) × Lowest l m = free_found l i 0 e in
    let same : r.0 ≡ i = (let w : i ≡ 0 + r.0 = r.1 in omega (arith, w)) in subst (Lowest l) same r.2
