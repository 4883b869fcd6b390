-- What the table refuses is silent; all else is the reply of the call at the place that is chosen.
use Rattle.std.specs.Prelude.{Option, Some, None, Result, Ok, Err}
use Prim.Native.Nat.{ℕ}
use mathlib.Core.Bool.{Bool, true, false, cond, ◌&&◌}
use mathlib.Core.List.{List}
use mathlib.Core.Logic.{◌⊎◌, inl, inr}
use mathlib.Core.Path.{◌≡◌, refl, sym, ◌∙◌, ap}
use lib.ListN.{get_or}
use lib.Seq.{get_or-set_same}
use Rattle.rights.specs.declared.Rights.{Rights}
use Rattle.rights.specs.Rights.{rights_fit_of, reference_fits_of}
use Rattle.answer.specs.Answer.{number_of}
use Rattle.call.specs.declared.Call.{Call}
use Rattle.event.specs.declared.Event.{Event}
use Rattle.call.specs.declared.reply.Reply.{Reply}
use Rattle.call.specs.Sound.{fresh_call}
use Rattle.call.specs.Step.{step_of}
use Rattle.table.specs.declared.verdict.Verdict.{Verdict}
use Rattle.table.specs.Choice.{wanted_of, meant_reference_of, opens_of, setup_ranged_of, choose_of, chosen_of}
use Rattle.table.specs.Settle.{subject_of, record_kept_of, heard_outcome_of, table_refusal_of, settled_of}
use Rattle.table.specs.Table.{table_sound, find_from, place_from}
use Rattle.table.specs.Step.{outcome_at, table_at, step_outcome, step_table}
use Rattle.table_promises.specs.Table.{Held}
use Rattle.logic.proofs.Decide.{never}
use Rattle.table_promises.proofs.Counted.{found_held, not_found, no_place_lem, not_full, not_faulty, is_faulty}
use Rattle.table_promises.proofs.Within.{chosen_within}
use Rattle.table_promises.proofs.Table.{not_ranged, is_ranged, changes_at, chosen_names}
use Rattle.table_promises.specs.Replies.{SetupBarred, out_of_range, already_held, no_place, TableRefuses, faulty, setup, other, Silent, Own, Replies}
use Rattle.table_promises.proofs.AloneKept.{of_setup, own_reference}
use Rattle.table_promises.proofs.AloneTable.{Chosen, out, held, full, new, none, old, chosen}

-- ---- what is chosen, and what the table refuses
-- the table refuses exactly where no place is chosen
data Decided (t : List Call) (n : ℕ) (e : Event) : Result ℕ Verdict → Type 0 where
  refuses : (v : Verdict) → TableRefuses t n e → Decided t n e (Err v)
  hears : (i : ℕ) → (TableRefuses t n e → ⊥) → Decided t n e (Ok i)

module _ (t : List Call) (n : ℕ) (s : table_sound t ≡ true) where
  enters : (i reference : ℕ) (rights : Rights) → (reference_fits_of reference && rights_fit_of rights) ≡ true → find_from t 0 reference ≡ None → place_from t 0 ≡ Some i → SetupBarred t reference rights → ⊥
  enters i reference rights ef eh ep (out_of_range h) = is_ranged reference rights ef h
  enters i reference rights ef eh ep (already_held h) = not_found t reference eh h
  enters i reference rights ef eh ep (no_place h) = not_full t 0 i ep h

  opens_here : (i : ℕ) (e : Event) → opens_of e ≡ true → setup_ranged_of e ≡ true → find_from t 0 (meant_reference_of n e) ≡ None → place_from t 0 ≡ Some i → TableRefuses t n e → ⊥
  opens_here i e eo ef eh ep (faulty _ h) = not_faulty t s h
  opens_here i e eo ef eh ep (setup reference rights q h) = enters i reference rights ef eh ep h
  opens_here i e eo ef eh ep (other _ o h) = never eo o

  goes_on : (e : Event) → opens_of e ≡ false → Held t n → TableRefuses t n e → ⊥
  goes_on e eo k (faulty _ h) = not_faulty t s h
  goes_on e eo k (setup reference rights q h) = never refl eo
  goes_on e eo k (other _ o h) = h k

module _ (t : List Call) (n : ℕ) (e : Event) where
  -- an event that is no SETUP is looked for under the reference beside it
  found_own : (h : Option ℕ) → opens_of e ≡ false → find_from t 0 (meant_reference_of n e) ≡ h → find_from t 0 n ≡ h
  found_own h eo eh = ap (find_from t 0) (sym (own_reference n (wanted_of e) eo)) ∙ eh

  decided_sound : table_sound t ≡ true → (k : Result ℕ Verdict) → Chosen t (meant_reference_of n e) e k → Decided t n e k
  decided_sound s k (out eo ef) =
      refuses _ (of_setup (λ e. setup_ranged_of e ≡ false → TableRefuses t n e) (λ reference rights q f. setup reference rights q (out_of_range (not_ranged reference rights f))) e eo ef)
  decided_sound s k (held eo ef i eh) =
      refuses _ (of_setup (λ e. Held t (meant_reference_of n e) → TableRefuses t n e) (λ reference rights q h. setup reference rights q (already_held h)) e eo (found_held t _ i eh))
  decided_sound s k (full eo ef eh ep) =
      refuses _ (of_setup (TableRefuses t n) (λ reference rights q. setup reference rights q (no_place (no_place_lem t 0 ep))) e eo)
  decided_sound s k (new eo ef eh i ep) = hears i (opens_here t n s i e eo ef eh ep)
  decided_sound s k (none eo eh) = refuses _ (other e eo (not_found t n (found_own _ eo eh)))
  decided_sound s k (old eo i eh) = hears i (goes_on t n s e eo (found_held t n i (found_own _ eo eh)))

  decided_if : (b : Bool) → table_sound t ≡ b → Decided t n e (chosen_of t n e)
  unfolding chosen_of choose_of
  decided_if true s = decided_sound s (chosen_of t n e) (chosen t n e s)
  decided_if false s = rw s (refuses _ (faulty e (is_faulty t s)))

-- ---- the call's own reply
kept_taken : (c : Call) (r : Reply) → number_of r.answer ≡ 0 → record_kept_of c r ≡ r.call
unfolding record_kept_of
kept_taken c r z = ap (λ (b : Bool). cond b r.call c) (changes_at r.answer 0 z)

module _ (t : List Call) (n : ℕ) (e : Event) (l : List ℕ) where
  own_at : (i : ℕ) → chosen_of t n e ≡ Ok i → Own t (table_at t (Ok i) e l) n e l (outcome_at t (Ok i) e l)
  unfolding settled_of subject_of heard_outcome_of
  own_at i k =
      record {
        place = i;
        named = chosen_names t n e i k;
        reply =
            record {
              number = refl;
              note = refl;
              dispatch = refl;
              holds = λ z. get_or-set_same t i _ fresh_call (chosen_within t n e i (sym k)) ∙ kept_taken (get_or t i fresh_call) (step_of (subject_of (get_or t i fresh_call) (wanted_of e)) e l) z;
            };
      }

  silent_at : (v : Verdict) → Silent (outcome_at t (Err v) e l)
  unfolding table_refusal_of
  silent_at v = record { note = refl; calling = refl; called = refl; carrier = refl }

  replies_at : (k : Result ℕ Verdict) → chosen_of t n e ≡ k → Decided t n e k →
      (TableRefuses t n e → Silent (outcome_at t k e l)) × ((TableRefuses t n e → ⊥) → Own t (table_at t k e l) n e l (outcome_at t k e l))
  replies_at k c (refuses v r) = ((λ _. silent_at v), (λ h. absurd (h r)))
  replies_at k c (hears i h) = ((λ r. absurd (h r)), (λ _. own_at i c))

-- what is answered at the table: nothing is said, or what the call itself replies
told_at : (t : List Call) (n : ℕ) (e : Event) (l : List ℕ) (k : Result ℕ Verdict) → chosen_of t n e ≡ k → Decided t n e k → Silent (outcome_at t k e l) ⊎ Own t (table_at t k e l) n e l (outcome_at t k e l)
told_at t n e l k c (refuses v r) = inl (silent_at t n e l v)
told_at t n e l k c (hears i h) = inr (own_at t n e l i c)

pub told : (t : List Call) (n : ℕ) (e : Event) (l : List ℕ) → Silent (step_outcome t n e l) ⊎ Own t (step_table t n e l) n e l (step_outcome t n e l)
unfolding step_outcome step_table
told t n e l = told_at t n e l (chosen_of t n e) refl (decided_if t n e (table_sound t) refl)

pub replies : Replies
unfolding step_outcome step_table
replies t n e l = replies_at t n e l (chosen_of t n e) refl (decided_if t n e (table_sound t) refl)
