-- What a step makes of the table, seen from each reference.
use Rattle.std.specs.Prelude.{Option, Some, None, Result, Ok, Err}
use Prim.Native.Nat.{ℕ, zero, suc, ◌<◌}
use native.Mathlib.Nat.{not-suc-le-zero, le_of_suc-le-suc}
use native.Mathlib.Omega.{arith}
use mathlib.Core.Bool.{Bool, true, false, cond, ◌&&◌, ◌||◌}
use mathlib.Core.List.{List, [], ◌∷◌}
use mathlib.Core.Logic.{inl}
use mathlib.Core.Path.{◌≡◌, refl, sym, ◌∙◌, ap}
use borrow.Author.Tests.{ltb-true, ltb-false, eqb-true, eqb-false, eq-eqb}
use lib.Dec.{ltb, eqb}
use lib.ListN.{length, get_or, set, length-set}
use lib.Seq.{get_or-set_same, get_or-set_other}
use Rattle.answer.specs.declared.Answer.{Answer}
use Rattle.phases.specs.Phase.{live_of}
use Rattle.call.specs.declared.Call.{Call}
use Rattle.event.specs.declared.Event.{Event}
use Rattle.call.specs.Sound.{fresh_call}
use Rattle.table.specs.declared.verdict.Verdict.{Verdict}
use Rattle.table.specs.Sought.{live_as, is_at}
use Rattle.table.specs.Table.{find_from, place_from, held_in, table_sound}
use Rattle.table.specs.Choice.{meant_reference_of, opens_of, setup_ranged_of, new_place_of, old_place_of, choose_of, chosen_of}
use Rattle.table.specs.Settle.{settled_of}
use Rattle.table.specs.Step.{table_at, step_table}
use Rattle.call_promises.specs.Ranges.{InRangeCall}
use Rattle.table_promises.specs.Table.{LiveAt, Faulty, over, twins, unsound, held_call}
use Rattle.table_promises.specs.Alone.{AllFresh}
use Rattle.table.proofs.Searched.{at_held}
use Rattle.logic.proofs.Decide.{never}
use Rattle.logic.proofs.Tests.{both, and_true}
use Rattle.table_promises.proofs.Counted.{not_free, is_live, found_live, found_lowest, not_found, not_faulty, is_faulty}
use Rattle.call_promises.proofs.Kept.{follows_in}
use Rattle.table_promises.proofs.AloneKept.{settled_in, opens_in}

not_so : (b : Bool) → (b ≡ true → ⊥) → b ≡ false
not_so true h = absurd (h refl)
not_so false h = refl

-- ---- the record of a reference
fresh_not : (n : ℕ) → live_as fresh_call n ≡ false
unfolding fresh_call
fresh_not n = refl

live_cond : (n : ℕ) (t b : Bool) (c d : Call) → live_as c n ≡ t → live_as d n ≡ b → live_as (cond t c d) n ≡ t || b
live_cond n true b c d e f = e
live_cond n false b c d e f = f

held_live : (t : List Call) (n : ℕ) → live_as (held_call t n) n ≡ held_in t n
held_live [] n = fresh_not n
held_live (c ∷ t) n = live_cond n (live_as c n) (held_in t n) c (held_call t n) refl (held_live t n)

pub held_if_found : (t : List Call) (n : ℕ) (h : Option ℕ) → find_from t 0 n ≡ h → live_as (held_call t n) n ≡ is_at h
held_if_found t n h e = held_live t n ∙ sym (at_held t 0 n) ∙ ap is_at e

-- a live record stands within the table
live_within : (t : List Call) (i n : ℕ) → live_as (get_or t i fresh_call) n ≡ true → i < length t
live_within [] i n e = never e (fresh_not n)
live_within (c ∷ t) zero n e = omega arith
live_within (c ∷ t) (suc i) n e = let w = live_within t i n e in omega arith

module _ (t : List Call) (i n : ℕ) where
  is_at_lem : live_as (get_or t i fresh_call) n ≡ true → LiveAt t i n
  is_at_lem e =
      let p = both (live_of (get_or t i fresh_call).phase) (eqb (get_or t i fresh_call).reference n) e in
      record { within = live_within t i n e; live = not_free _ p.0; reference = eqb-true _ n p.1 }

  no_at : (LiveAt t i n → ⊥) → live_as (get_or t i fresh_call) n ≡ false
  no_at h = not_so _ (λ e. h (is_at_lem e))

-- no record but the one at i is live as n
abbrev Only : List Call → ℕ → ℕ → Type 0
Only t i n = (j : ℕ) → (j ≡ i → ⊥) → live_as (get_or t j fresh_call) n ≡ false

abbrev Nobody : List Call → ℕ → Type 0
Nobody t n = (j : ℕ) → live_as (get_or t j fresh_call) n ≡ false

apart : (t : List Call) (i j n : ℕ) (b : Bool) → ltb i j ≡ b → table_sound t ≡ true → (j ≡ i → ⊥) → LiveAt t i n → LiveAt t j n → ⊥
apart t i j n true e s d h k = not_faulty t s (twins i j n (ltb-true i j e) h k)
apart t i j n false e s d h k = let w = ltb-false i j e in not_faulty t s (twins j i n (let v : j < i = omega arith in v) k h)

nobody_found : (t : List Call) (n : ℕ) → find_from t 0 n ≡ None → Nobody t n
nobody_found t n e j = no_at t j n (λ h. not_found t n e (j, h))

module _ (t : List Call) (n i : ℕ) (s : table_sound t ≡ true) (e : find_from t 0 n ≡ Some i) where
  only_found : Only t i n
  only_found j d = no_at t j n (λ h. apart t i j n (ltb i j) refl s d (found_live t i n e) h)

-- the place that a SETUP takes is not live
free_at : (t : List Call) (i : ℕ) → place_from t 0 ≡ Some i → live_of (get_or t i fresh_call).phase ≡ false
free_at t i e = not_so _ (λ h. not_free _ h (found_lowest t i e).free)

-- ---- one record put into the table
nobody_held : (t : List Call) (n : ℕ) → Nobody t n → held_call t n ≡ fresh_call
nobody_held [] n h = refl
nobody_held (c ∷ t) n h = ap (λ (b : Bool). cond b c (held_call t n)) (h 0) ∙ nobody_held t n (λ j. h (suc j))

put_other : (t : List Call) (i n : ℕ) (d : Call) → live_as (get_or t i fresh_call) n ≡ false → live_as d n ≡ false → held_call (set t i d) n ≡ held_call t n
put_other [] i n d e f = refl
put_other (c ∷ t) zero n d e f = ap (λ (b : Bool). cond b d (held_call t n)) f ∙ sym (ap (λ (b : Bool). cond b c (held_call t n)) e)
put_other (c ∷ t) (suc i) n d e f = ap (cond (live_as c n) c) (put_other t i n d e f)

-- a record as the table holds it for n
abbrev pub keeps : ℕ → Call → Call
keeps n d = cond (live_as d n) d fresh_call

put_own : (t : List Call) (i n : ℕ) (d : Call) → Only t i n → i < length t → held_call (set t i d) n ≡ keeps n d
put_own [] i n d h w = absurd (not-suc-le-zero w)
put_own (c ∷ t) zero n d h w = ap (cond (live_as d n) d) (nobody_held t n (λ j. h (suc j) (λ e. let z : suc j ≡ 0 = e in omega arith)))
put_own (c ∷ t) (suc i) n d h w =
    ap (λ (b : Bool). cond b c (held_call (set t i d) n)) (h 0 (λ e. let z : 0 ≡ suc i = e in omega arith))
    ∙ put_own t i n d (λ j k. h (suc j) (λ e. k (let z : suc j ≡ suc i = e in omega arith))) (le_of_suc-le-suc w)

-- the record d goes to the place i, as that of the reference n
pub record Placed (t : List Call) (n i : ℕ) (d : Call) : Type 0 where
  pub within : i < length t
  pub before : (k : ℕ) → (n ≡ k → ⊥) → live_as (get_or t i fresh_call) k ≡ false
  pub reference : d.reference ≡ n
  pub fields : (InRangeCall d → ⊥) → ⊥
  pub only : Only t i n

other_not : (c : Call) (n k : ℕ) → c.reference ≡ n → (n ≡ k → ⊥) → live_as c k ≡ false
other_not c n k e h = not_so _ (λ f. h (sym e ∙ eqb-true _ k (both (live_of c.phase) (eqb c.reference k) f).1))

module _ (t : List Call) (n i : ℕ) (d : Call) (p : Placed t n i d) where
  placed_other : (k : ℕ) → (n ≡ k → ⊥) → held_call (set t i d) k ≡ held_call t k
  placed_other k h = put_other t i k d (p.before k h) (other_not d n k p.reference h)

  pub placed_own : held_call (set t i d) n ≡ keeps n d
  placed_own = put_own t i n d p.only p.within

  -- another place is as it was
  back : (j k : ℕ) → (j ≡ i → ⊥) → LiveAt (set t i d) j k → LiveAt t j k
  back j k h a =
      let g = get_or-set_other t i j d fresh_call h in
      record {
        within = let w = a.within in rw (length-set t i d) at w;
        live = rw g at a.live;
        reference = rw g at a.reference;
      }

  here : (j k : ℕ) → j ≡ i → LiveAt (set t i d) j k → k ≡ n
  here j k e a = sym a.reference ∙ ap (λ (m : ℕ). (get_or (set t i d) m fresh_call).reference) e ∙ ap (λ (c : Call). c.reference) (get_or-set_same t i d fresh_call p.within) ∙ p.reference

  there : (j k : ℕ) → (j ≡ i → ⊥) → k ≡ n → LiveAt (set t i d) j k → ⊥
  there j k h e a =
      let b = back j k h a in
      never (and_true (live_of (get_or t j fresh_call).phase) (eqb (get_or t j fresh_call).reference n) (is_live _ b.live) (eq-eqb _ n (b.reference ∙ e))) (p.only j h)

  no_twins : table_sound t ≡ true → (a b k : ℕ) (x y : Bool) → eqb a i ≡ x → eqb b i ≡ y → a < b → LiveAt (set t i d) a k → LiveAt (set t i d) b k → ⊥
  no_twins s a b k true y ea eb w h g = there b k (λ e. let z = eqb-true a i ea in omega arith) (here a k (eqb-true a i ea) h) g
  no_twins s a b k false true ea eb w h g = there a k (eqb-false a i ea) (here b k (eqb-true b i eb) g) h
  no_twins s a b k false false ea eb w h g = not_faulty t s (twins a b k w (back a k (eqb-false a i ea) h) (back b k (eqb-false b i eb) g))

  no_unsound : table_sound t ≡ true → (a k : ℕ) (x : Bool) → eqb a i ≡ x → LiveAt (set t i d) a k → (InRangeCall (get_or (set t i d) a fresh_call) → ⊥) → ⊥
  no_unsound s a k true ea h f = p.fields (rw (eqb-true a i ea, get_or-set_same t i d fresh_call p.within) at f)
  no_unsound s a k false ea h f = not_faulty t s (unsound a k (back a k (eqb-false a i ea) h) (rw (get_or-set_other t i a d fresh_call (eqb-false a i ea)) at f))

  no_fault : table_sound t ≡ true → Faulty (set t i d) → ⊥
  no_fault s (over h) = not_faulty t s (over (rw (length-set t i d) at h))
  no_fault s (twins a b k w h g) = no_twins s a b k (eqb a i) (eqb b i) refl refl w h g
  no_fault s (unsound a k h f) = no_unsound s a k (eqb a i) refl h f

sound_if : (t : List Call) (b : Bool) → table_sound t ≡ b → (Faulty t → ⊥) → table_sound t ≡ true
sound_if t true e h = e
sound_if t false e h = absurd (h (is_faulty t e))

-- ---- what is chosen
pub data Chosen (t : List Call) (n : ℕ) (e : Event) : Result ℕ Verdict → Type 0 where
  out : opens_of e ≡ true → setup_ranged_of e ≡ false → Chosen t n e (Err (Verdict.Heard Answer.OutOfRange))
  held : opens_of e ≡ true → setup_ranged_of e ≡ true → (i : ℕ) → find_from t 0 n ≡ Some i → Chosen t n e (Err Verdict.Held)
  full : opens_of e ≡ true → setup_ranged_of e ≡ true → find_from t 0 n ≡ None → place_from t 0 ≡ None → Chosen t n e (Err Verdict.NoPlace)
  new : opens_of e ≡ true → setup_ranged_of e ≡ true → find_from t 0 n ≡ None → (i : ℕ) → place_from t 0 ≡ Some i → Chosen t n e (Ok i)
  none : opens_of e ≡ false → find_from t 0 n ≡ None → Chosen t n e (Err Verdict.NoCall)
  old : opens_of e ≡ false → (i : ℕ) → find_from t 0 n ≡ Some i → Chosen t n e (Ok i)

choices : (t : List Call) (n : ℕ) (e : Event) (o f : Bool) (h p : Option ℕ) → opens_of e ≡ o → setup_ranged_of e ≡ f → find_from t 0 n ≡ h → place_from t 0 ≡ p
    → Chosen t n e (cond o (cond f (new_place_of h p) (Err (Verdict.Heard Answer.OutOfRange))) (old_place_of h))
choices t n e true false h p eo ef eh ep = out eo ef
choices t n e true true (Some i) p eo ef eh ep = held eo ef i eh
choices t n e true true None None eo ef eh ep = full eo ef eh ep
choices t n e true true None (Some i) eo ef eh ep = new eo ef eh i ep
choices t n e false f None p eo ef eh ep = none eo eh
choices t n e false f (Some i) p eo ef eh ep = old eo i eh

pub chosen : (t : List Call) (m : ℕ) (e : Event) → table_sound t ≡ true → Chosen t (meant_reference_of m e) e (chosen_of t m e)
unfolding chosen_of choose_of
chosen t m e s = rw s (choices t (meant_reference_of m e) e (opens_of e) (setup_ranged_of e) (find_from t 0 (meant_reference_of m e)) (place_from t 0) refl refl refl refl)

-- ---- one step
module _ (t : List Call) (m : ℕ) (e : Event) (l : List ℕ) (s : table_sound t ≡ true) where
  pub placed_new : (i : ℕ) → opens_of e ≡ true → setup_ranged_of e ≡ true → find_from t 0 (meant_reference_of m e) ≡ None → place_from t 0 ≡ Some i → Placed t (meant_reference_of m e) i (settled_of (get_or t i fresh_call) e l).call
  placed_new i eo ef eh ep =
      let r = opens_in (get_or t i fresh_call) m e l eo ef in
      record {
        within = (found_lowest t i ep).within;
        before = λ k _. ap (λ (b : Bool). b && eqb (get_or t i fresh_call).reference k) (free_at t i ep);
        reference = r.reference;
        fields = λ h. h r.fields;
        only = λ j _. nobody_found t (meant_reference_of m e) eh j;
      }

  pub placed_old : (i : ℕ) → opens_of e ≡ false → find_from t 0 (meant_reference_of m e) ≡ Some i → Placed t (meant_reference_of m e) i (settled_of (get_or t i fresh_call) e l).call
  placed_old i eo eh =
      let n = meant_reference_of m e in
      let a = found_live t i n eh in
      let r = settled_in (get_or t i fresh_call) e l eo in
      record {
        within = a.within;
        before = λ k h. other_not (get_or t i fresh_call) n k a.reference h;
        reference = r.reference ∙ a.reference;
        fields = λ h. not_faulty t s (unsound i n a (λ f. h (follows_in r f)));
        only = only_found t n i s eh;
      }

  sound_at : (k : Result ℕ Verdict) → Chosen t (meant_reference_of m e) e k → Faulty (table_at t k e l) → ⊥
  sound_at k (out eo ef) = not_faulty t s
  sound_at k (held eo ef i eh) = not_faulty t s
  sound_at k (full eo ef eh ep) = not_faulty t s
  sound_at k (new eo ef eh i ep) = no_fault t _ i _ (placed_new i eo ef eh ep) s
  sound_at k (none eo eh) = not_faulty t s
  sound_at k (old eo i eh) = no_fault t _ i _ (placed_old i eo eh) s

  pub step_sound : table_sound (step_table t m e l) ≡ true
  unfolding step_table
  step_sound = sound_if (step_table t m e l) _ refl (sound_at (chosen_of t m e) (chosen t m e s))

  other_at : (n : ℕ) → (meant_reference_of m e ≡ n → ⊥) → (k : Result ℕ Verdict) → Chosen t (meant_reference_of m e) e k → held_call (table_at t k e l) n ≡ held_call t n
  other_at n h k (out eo ef) = refl
  other_at n h k (held eo ef i eh) = refl
  other_at n h k (full eo ef eh ep) = refl
  other_at n h k (new eo ef eh i ep) = placed_other t _ i _ (placed_new i eo ef eh ep) n h
  other_at n h k (none eo eh) = refl
  other_at n h k (old eo i eh) = placed_other t _ i _ (placed_old i eo eh) n h

  -- another reference's event leaves the record of n as it was
  pub step_other : (n : ℕ) → (meant_reference_of m e ≡ n → ⊥) → held_call (step_table t m e l) n ≡ held_call t n
  unfolding step_table
  step_other n h = other_at n h (chosen_of t m e) (chosen t m e s)

-- ---- a table at the start
module _ (t : List Call) (a : AllFresh t) where
  nobody_lives : (i n : ℕ) → LiveAt t i n → ⊥
  nobody_lives i n h = h.live (inl (a.fresh i h.within))

  pub fresh_nobody : (n : ℕ) → held_call t n ≡ fresh_call
  fresh_nobody n = nobody_held t n (λ j. no_at t j n (nobody_lives j n))

  no_fault_fresh : Faulty t → ⊥
  no_fault_fresh (over h) = let w = a.most in omega arith
  no_fault_fresh (twins i j n w h k) = nobody_lives i n h
  no_fault_fresh (unsound i n h k) = nobody_lives i n h

  pub fresh_sound : table_sound t ≡ true
  fresh_sound = sound_if t _ refl no_fault_fresh
