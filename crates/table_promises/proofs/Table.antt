-- The promises of the table, proved.
use Rattle.std.specs.Prelude.{Option, Some, None, Result, Ok, Err}
use Rattle.services.specs.declared.ByService.{ByService}
use Rattle.services.specs.declared.Request.{Request}
use mathlib.Core.Path.{◌≡◌, refl, sym, ◌∙◌, ap, subst}
use Prim.Native.Nat.{ℕ, zero, suc}
use mathlib.Core.Bool.{Bool, true, false, cond, ◌&&◌, ◌||◌, true≢false}
use mathlib.Core.List.{List, [], ◌∷◌}
use mathlib.Core.Logic.{inl, inr}
use lib.Dec.{eqb}
use lib.ListN.{get_or, set, length-set}
use borrow.Author.Tests.{eqb-true, eqb-false, eq-eqb, ne_eqb}
use lib.Seq.{get_or-set_other}
use Rattle.logic.specs.First.{First}
use Rattle.logic.proofs.Only.{exactly}
use Rattle.rights.specs.declared.Rights.{Rights}
use Rattle.user_element.specs.Element.{seen_of}
use Rattle.rights.specs.Rights.{rights_fit_of, reference_fits_of}
use Rattle.answer.specs.declared.Answer.{Answer}
use Rattle.answer.specs.Answer.{number_of, taken_of}
use Rattle.user_element.specs.declared.Note.{Note}
use Rattle.call.specs.declared.Call.{Call}
use Rattle.event.specs.declared.Event.{Event}
use Rattle.call.specs.declared.reply.Reply.{Reply}
use Rattle.call.specs.Reply.{heard_of, bar_of, refused_of}
use Rattle.call.specs.Setup.{setup_of, proceeds_of}
use Rattle.call.specs.Sound.{fresh_call, sound_of}
use Rattle.call.specs.Step.{step_of}
use Rattle.table.specs.Table.{table_sound, find_from, place_from}
use Rattle.table.specs.Choice.{wanted_of, meant_reference_of, opens_of, setup_ranged_of, new_place_of, old_place_of, choose_of, chosen_of}
use Rattle.table.specs.Verdict.{verdict_number}
use Rattle.table.specs.Settle.{subject_of, changes_of, record_kept_of, heard_outcome_of, table_refusal_of, settled_of}
use Rattle.table.specs.Step.{outcome_at, table_at, step_outcome, step_table}
use Rattle.table_promises.specs.Table.{held_call, SetsUp, setup, Other, table_rows, number_at, Table, RefusalsKeep, OneChanged, OnePlace, LiveAt, Lowest, Names, lowest, holding, Named, OneSpent, Fourteen}
use Rattle.table.specs.declared.verdict.Verdict.{Verdict}
use Rattle.call_promises.specs.Ranges.{ReferenceInRange, RightsInRange}
use Rattle.call_promises.proofs.Ranges.{reference_range, rights_range}
use Rattle.logic.proofs.Decide.{never}
use Rattle.logic.proofs.Tests.{both, and_true}
use Rattle.table_promises.proofs.Counted.{found_held, not_found, no_place_lem, not_full, not_faulty, is_faulty, found_call, found_live, found_lowest}
use Rattle.table_promises.proofs.Within.{not_refused, same_chosen}
use Rattle.table_promises.proofs.AloneKept.{of_setup, own_reference}

-- ---- the choice, from what the table's tests say
abbrev choice_of : (whole opening fits : Bool) (held free : Option ℕ) → Result ℕ Verdict
choice_of whole opening fits held free =
    cond whole (cond opening (cond fits (new_place_of held free) (Err (Verdict.Heard Answer.OutOfRange))) (old_place_of held)) (Err (Verdict.Heard Answer.Unsound))

number_is : (t : List Call) (n : ℕ) (e : Event) (l : List ℕ) (w o f : Bool) (h p : Option ℕ) → table_sound t ≡ w → opens_of e ≡ o → setup_ranged_of e ≡ f → find_from t 0 (meant_reference_of n e) ≡ h → place_from t 0 ≡ p
    → number_at t n e l ≡ verdict_number (outcome_at t (choice_of w o f h p) e l).verdict
unfolding step_outcome chosen_of choose_of
number_is t n e l w o f h p ew eo ef eh ep = λ j. verdict_number (outcome_at t (choice_of (ew j) (eo j) (ef j) (eh j) (ep j)) e l).verdict

-- ---- SETUP
setup_taken : (f : Bool) (r s : Reply) → r.answer ≡ Answer.Taken → f ≡ true → number_of (cond (taken_of (cond f Answer.Taken Answer.OutOfRange)) r s).answer ≡ 0
setup_taken true r s e h = ap number_of e
setup_taken false r s e h = absurd (true≢false (sym h))

setup_zero : (t : List Call) (i reference : ℕ) (rights : Rights) (q : ByService Request) (l : List ℕ) → (reference_fits_of reference && rights_fit_of rights) ≡ true
    → verdict_number (outcome_at t (Ok i) (Event.Setup reference rights q) l).verdict ≡ 0
unfolding settled_of heard_outcome_of subject_of setup_of heard_of bar_of sound_of fresh_call proceeds_of
setup_zero t i reference rights q l e =
    setup_taken (reference_fits_of reference && rights_fit_of rights) (proceeds_of reference rights q (seen_of l rights.limit)) (refused_of fresh_call (cond (reference_fits_of reference && rights_fit_of rights) Answer.Taken Answer.OutOfRange) Note.Clear) refl e

pub not_ranged : (reference : ℕ) (rights : Rights) → (reference_fits_of reference && rights_fit_of rights) ≡ false → ReferenceInRange reference × RightsInRange rights → ⊥
not_ranged reference rights e p = never (and_true (reference_fits_of reference) (rights_fit_of rights) ((reference_range reference).back p.0) ((rights_range rights).back p.1)) e

pub is_ranged : (reference : ℕ) (rights : Rights) → (reference_fits_of reference && rights_fit_of rights) ≡ true → (ReferenceInRange reference × RightsInRange rights → ⊥) → ⊥
is_ranged reference rights e h =
    let p : (reference_fits_of reference ≡ true) × (rights_fit_of rights ≡ true) = both (reference_fits_of reference) (rights_fit_of rights) e in h ((reference_range reference).so p.0, (rights_range rights).so p.1)

un : {P : ℕ → Rights → Type 0} {reference : ℕ} {rights : Rights} {q : ByService Request} → (P reference rights → ⊥) → SetsUp P (Event.Setup reference rights q) → ⊥
un f (setup p) = f p

setup_first : (t : List Call) (n reference : ℕ) (rights : Rights) (q : ByService Request) (l : List ℕ) (w f : Bool) (h p : Option ℕ) → table_sound t ≡ w → (reference_fits_of reference && rights_fit_of rights) ≡ f → find_from t 0 reference ≡ h → place_from t 0 ≡ p
    → First (table_rows t n (Event.Setup reference rights q) l) (verdict_number (outcome_at t (choice_of w true f h p) (Event.Setup reference rights q) l).verdict)
unfolding table_refusal_of
setup_first t n reference rights q l false f h p ew ef eh ep = inl (is_faulty t ew, refl)
setup_first t n reference rights q l true false h p ew ef eh ep = inr (not_faulty t ew, inl (setup (not_ranged reference rights ef), refl))
setup_first t n reference rights q l true true (Some i) p ew ef eh ep =
    inr (not_faulty t ew, inr (un (is_ranged reference rights ef), inl (setup (found_held t reference i eh), refl)))
setup_first t n reference rights q l true true None None ew ef eh ep =
    inr (not_faulty t ew, inr (un (is_ranged reference rights ef), inr (un (not_found t reference eh), inl (setup (no_place_lem t 0 ep), refl))))
setup_first t n reference rights q l true true None (Some i) ew ef eh ep =
    inr (not_faulty t ew, inr (un (is_ranged reference rights ef), inr (un (not_found t reference eh), inr (un (not_full t 0 i ep), inr ((λ x. x.0 (setup tt)), inr ((λ x. x (setup tt)), setup_zero t i reference rights q l ef))))))

-- ---- other events
call_number : (t : List Call) (n i : ℕ) (e : Event) (l : List ℕ) → opens_of e ≡ false → get_or t i fresh_call ≡ held_call t n → verdict_number (outcome_at t (Ok i) e l).verdict ≡ number_of (step_of (held_call t n) e l).answer
unfolding settled_of heard_outcome_of subject_of
call_number t n i e l eo ec = λ j. number_of (step_of (cond (eo j) fresh_call (ec j)) e l).answer

pub no_setup : (e : Event) → opens_of e ≡ false → Other e
no_setup e eo (setup x) = never refl eo

other : {P : ℕ → Rights → Type 0} {e : Event} → Other e → SetsUp P e → ⊥
other o (setup p) = o (setup tt)

other_first : (t : List Call) (n : ℕ) (e : Event) (l : List ℕ) (w f : Bool) (h p : Option ℕ) → opens_of e ≡ false → table_sound t ≡ w → find_from t 0 n ≡ h → First (table_rows t n e l) (verdict_number (outcome_at t (choice_of w false f h p) e l).verdict)
unfolding table_refusal_of
other_first t n e l false f h p eo ew eh = inl (is_faulty t ew, refl)
other_first t n e l true f None p eo ew eh =
    let o = no_setup e eo in
    inr (not_faulty t ew, inr (other o, inr (other o, inr (other o, inl ((o, not_found t n eh), refl)))))
other_first t n e l true f (Some i) p eo ew eh =
    let o = no_setup e eo in
    inr (not_faulty t ew, inr (other o, inr (other o, inr (other o, inr ((λ x. x.1 (found_held t n i eh)), inl (o, call_number t n i e l eo (found_call t i n eh)))))))

-- an event opens a call or it does not
either_way : {P : Type 0} (b : Bool) → (b ≡ true → P) → (b ≡ false → P) → P
either_way true f g = f refl
either_way false f g = g refl

other_number : (t : List Call) (n : ℕ) (e : Event) (l : List ℕ) → opens_of e ≡ false → First (table_rows t n e l) (number_at t n e l)
other_number t n e l eo =
    subst (First (table_rows t n e l)) (sym (number_is t n e l (table_sound t) false (setup_ranged_of e) (find_from t 0 n) (place_from t 0) refl eo refl (ap (find_from t 0) (own_reference n (wanted_of e) eo)) refl))
    (other_first t n e l (table_sound t) (setup_ranged_of e) (find_from t 0 n) (place_from t 0) eo refl refl)

setup_number : (t : List Call) (n : ℕ) (l : List ℕ) (reference : ℕ) (rights : Rights) (q : ByService Request) → First (table_rows t n (Event.Setup reference rights q) l) (number_at t n (Event.Setup reference rights q) l)
setup_number t n l reference rights q =
    subst (First (table_rows t n (Event.Setup reference rights q) l)) (sym (number_is t n (Event.Setup reference rights q) l (table_sound t) true (reference_fits_of reference && rights_fit_of rights) (find_from t 0 reference) (place_from t 0) refl refl refl refl refl))
    (setup_first t n reference rights q l (table_sound t) (reference_fits_of reference && rights_fit_of rights) (find_from t 0 reference) (place_from t 0) refl refl refl refl)

table_first : (t : List Call) (n : ℕ) (e : Event) (l : List ℕ) → First (table_rows t n e l) (number_at t n e l)
table_first t n e l =
    either_way (opens_of e) (of_setup (λ e. First (table_rows t n e l) (number_at t n e l)) (setup_number t n l) e) (other_number t n e l)

pub table : Table
table t n e l = exactly (table_rows t n e l) (number_at t n e l) (table_first t n e l)

-- ---- a refusal
pub put_back : (l : List Call) (i : ℕ) → set l i (get_or l i fresh_call) ≡ l
put_back [] i = refl
put_back (c ∷ l) zero = refl
put_back (c ∷ l) (suc i) = ap (λ (m : List Call). c ∷ m) (put_back l i)

-- "11 to 25 change no call .., except: 14"
changes_when : (a : Answer) → changes_of a ≡ eqb (number_of a) 0 || eqb (number_of a) 14
changes_when Answer.Taken = refl
changes_when Answer.OutOfPhase = refl
changes_when Answer.NotAnEvent = refl
changes_when Answer.NoService = refl
changes_when Answer.Spent = refl
changes_when Answer.NotOpen = refl
changes_when Answer.NotGranted = refl
changes_when Answer.BadElement = refl
changes_when Answer.AskedRequired = refl
changes_when Answer.OutOfRange = refl
changes_when Answer.Unsound = refl

pub changes_at : (a : Answer) (n : ℕ) → number_of a ≡ n → changes_of a ≡ eqb n 0 || eqb n 14
changes_at a n h = changes_when a ∙ ap (λ (m : ℕ). eqb m 0 || eqb m 14) h

refusal_keeps : (a : Answer) → (number_of a ≡ 0 → ⊥) → (number_of a ≡ 14 → ⊥) → changes_of a ≡ false
refusal_keeps a h k = changes_when a ∙ (λ j. ne_eqb (number_of a) 0 h j || ne_eqb (number_of a) 14 k j)

settled_keeps : (c : Call) (e : Event) (l : List ℕ) → (verdict_number (settled_of c e l).outcome.verdict ≡ 0 → ⊥) → (verdict_number (settled_of c e l).outcome.verdict ≡ 14 → ⊥) → (settled_of c e l).call ≡ c
unfolding settled_of heard_outcome_of record_kept_of
settled_keeps c e l h k = ap (λ (t : Bool). cond t (step_of (subject_of c (wanted_of e)) e l).call c) (refusal_keeps (step_of (subject_of c (wanted_of e)) e l).answer h k)

refused_at : (t : List Call) (c : Result ℕ Verdict) (e : Event) (l : List ℕ) → (verdict_number (outcome_at t c e l).verdict ≡ 0 → ⊥) → (verdict_number (outcome_at t c e l).verdict ≡ 14 → ⊥) → table_at t c e l ≡ t
refused_at t (Ok i) e l h k = ap (set t i) (settled_keeps (get_or t i fresh_call) e l h k) ∙ put_back t i
refused_at t (Err v) e l h k = refl

pub refused : RefusalsKeep
unfolding step_outcome step_table
refused t n e l h k = refused_at t (chosen_of t n e) e l h k

-- ---- one place
one_at : (t : List Call) (c : Result ℕ Verdict) (e : Event) (l : List ℕ) → OneChanged t (table_at t c e l)
one_at t (Ok i) e l =
    record { place = i; others = λ j h. get_or-set_other t i j (settled_of (get_or t i fresh_call) e l).call fresh_call h; same = length-set t i (settled_of (get_or t i fresh_call) e l).call }
one_at t (Err v) e l = record { place = 0; others = λ j h. refl; same = refl }

pub one_place : OnePlace
unfolding step_table
one_place t n e l = one_at t (chosen_of t n e) e l

-- ---- the place that is named
new_lowest : (t : List Call) (h p : Option ℕ) (i : ℕ) → place_from t 0 ≡ p → new_place_of h p ≡ Ok i → Lowest t i
new_lowest t (Some m) p i ep e = not_refused i _ (sym e)
new_lowest t None (Some m) i ep e = found_lowest t i (ep ∙ ap Some (same_chosen m i e))
new_lowest t None None i ep e = not_refused i _ (sym e)

old_live : (t : List Call) (n : ℕ) (h : Option ℕ) (i : ℕ) → find_from t 0 n ≡ h → old_place_of h ≡ Ok i → LiveAt t i n
old_live t n (Some m) i eh e = found_live t i n (eh ∙ ap Some (same_chosen m i e))
old_live t n None i eh e = not_refused i _ (sym e)

new_names : (t : List Call) (w f : Bool) (h : Option ℕ) (i : ℕ) → choice_of w true f h (place_from t 0) ≡ Ok i → Lowest t i
new_names t false f h i e = not_refused i _ (sym e)
new_names t true false h i e = not_refused i _ (sym e)
new_names t true true h i e = new_lowest t h (place_from t 0) i refl e

old_names : (t : List Call) (n : ℕ) (w f : Bool) (p : Option ℕ) (i : ℕ) → choice_of w false f (find_from t 0 n) p ≡ Ok i → LiveAt t i n
old_names t n false f p i e = not_refused i _ (sym e)
old_names t n true f p i e = old_live t n (find_from t 0 n) i refl e

setup_names : (t : List Call) (n i reference : ℕ) (rights : Rights) (q : ByService Request) → chosen_of t n (Event.Setup reference rights q) ≡ Ok i → Names t n i (Event.Setup reference rights q)
unfolding chosen_of choose_of
setup_names t n i reference rights q c =
    lowest (new_names t (table_sound t) (reference_fits_of reference && rights_fit_of rights) (find_from t 0 reference) i c)

other_chosen : (t : List Call) (n : ℕ) (e : Event) → opens_of e ≡ false → chosen_of t n e ≡ choice_of (table_sound t) false (setup_ranged_of e) (find_from t 0 n) (place_from t 0)
unfolding chosen_of choose_of
other_chosen t n e eo = λ j. choice_of (table_sound t) (eo j) (setup_ranged_of e) (find_from t 0 (own_reference n (wanted_of e) eo j)) (place_from t 0)

pub chosen_names : (t : List Call) (n : ℕ) (e : Event) (i : ℕ) → chosen_of t n e ≡ Ok i → Names t n i e
chosen_names t n e i c =
    either_way (opens_of e) (λ eo. of_setup (λ e. chosen_of t n e ≡ Ok i → Names t n i e) (setup_names t n i) e eo c)
    (λ eo. holding (no_setup e eo) (old_names t n (table_sound t) (setup_ranged_of e) (place_from t 0) i (sym (other_chosen t n e eo) ∙ c)))

place_named : (t : List Call) (n : ℕ) (e : Event) (l : List ℕ) (i m : ℕ) (s : Bool) → eqb i m ≡ s → chosen_of t n e ≡ Ok m → (get_or (set t m (settled_of (get_or t m fresh_call) e l).call) i fresh_call ≡ get_or t i fresh_call → ⊥) → Names t n i e
place_named t n e l i m true es ec h = chosen_names t n e i (ec ∙ ap Ok (sym (eqb-true i m es)))
place_named t n e l i m false es ec h = absurd (h (get_or-set_other t m i (settled_of (get_or t m fresh_call) e l).call fresh_call (eqb-false i m es)))

named_at : (t : List Call) (n : ℕ) (e : Event) (l : List ℕ) (i : ℕ) (c : Result ℕ Verdict) → chosen_of t n e ≡ c → (get_or (table_at t c e l) i fresh_call ≡ get_or t i fresh_call → ⊥) → Names t n i e
named_at t n e l i (Ok m) ec h = place_named t n e l i m (eqb i m) refl ec h
named_at t n e l i (Err v) ec h = absurd (h refl)

pub named : Named
unfolding step_table
named t n e l i h = named_at t n e l i (chosen_of t n e) refl h

-- ---- 14
not_14 : {X : Type 0} (n : ℕ) → eqb n 14 ≡ false → n ≡ 14 → X
not_14 n e h = never (eq-eqb n 14 h) e

-- an event that is no SETUP goes to the record as it stands
own_number : (c : Call) (e : Event) (l : List ℕ) → opens_of e ≡ false → verdict_number (settled_of c e l).outcome.verdict ≡ number_of (step_of c e l).answer
unfolding settled_of heard_outcome_of subject_of
own_number c e l eo = λ j. number_of (step_of (cond (eo j) fresh_call c) e l).answer

own_kept : (c : Call) (e : Event) (l : List ℕ) → opens_of e ≡ false → number_of (step_of c e l).answer ≡ 14 → (settled_of c e l).call ≡ (step_of c e l).call
unfolding settled_of subject_of record_kept_of
own_kept c e l eo h =
    (λ j. cond (changes_of (step_of (cond (eo j) fresh_call c) e l).answer) (step_of (cond (eo j) fresh_call c) e l).call c)
    ∙ ap (λ (t : Bool). cond t (step_of c e l).call c) (changes_at (step_of c e l).answer 14 h)

table_is : (t : List Call) (n : ℕ) (e : Event) (l : List ℕ) (w o f : Bool) (h p : Option ℕ) → table_sound t ≡ w → opens_of e ≡ o → setup_ranged_of e ≡ f → find_from t 0 (meant_reference_of n e) ≡ h → place_from t 0 ≡ p → step_table t n e l ≡ table_at t (choice_of w o f h p) e l
unfolding step_table chosen_of choose_of
table_is t n e l w o f h p ew eo ef eh ep = λ j. table_at t (choice_of (ew j) (eo j) (ef j) (eh j) (ep j)) e l

setup_not_14 : {X : Type 0} (t : List Call) (reference : ℕ) (rights : Rights) (q : ByService Request) (l : List ℕ) (w f : Bool) (h p : Option ℕ) → (reference_fits_of reference && rights_fit_of rights) ≡ f
    → verdict_number (outcome_at t (choice_of w true f h p) (Event.Setup reference rights q) l).verdict ≡ 14 → X
unfolding table_refusal_of
setup_not_14 t reference rights q l false f h p ef e = not_14 25 refl e
setup_not_14 t reference rights q l true false h p ef e = not_14 24 refl e
setup_not_14 t reference rights q l true true (Some i) p ef e = not_14 22 refl e
setup_not_14 t reference rights q l true true None None ef e = not_14 21 refl e
setup_not_14 t reference rights q l true true None (Some i) ef e = not_14 0 refl (sym (setup_zero t i reference rights q l ef) ∙ e)

other_spent : (t : List Call) (n : ℕ) (e : Event) (l : List ℕ) (w f : Bool) (h p : Option ℕ) (s : List Call) → opens_of e ≡ false → find_from t 0 n ≡ h → verdict_number (outcome_at t (choice_of w false f h p) e l).verdict ≡ 14 → s ≡ table_at t (choice_of w false f h p) e l → OneSpent t s n e l
unfolding table_refusal_of
other_spent t n e l false f h p s eo eh k es = not_14 25 refl k
other_spent t n e l true f None p s eo eh k es = not_14 23 refl k
other_spent t n e l true f (Some i) p s eo eh k es =
    let spent : number_of (step_of (get_or t i fresh_call) e l).answer ≡ 14 = sym (own_number (get_or t i fresh_call) e l eo) ∙ k in
    record { place = i; live = found_live t i n eh; answer = spent; table = es ∙ ap (set t i) (own_kept (get_or t i fresh_call) e l eo spent) }

other_fourteen : (t : List Call) (n : ℕ) (e : Event) (l : List ℕ) → opens_of e ≡ false → number_at t n e l ≡ 14 → OneSpent t (step_table t n e l) n e l
other_fourteen t n e l eo k =
    let er = ap (find_from t 0) (own_reference n (wanted_of e) eo) in
    other_spent t n e l (table_sound t) (setup_ranged_of e) (find_from t 0 n) (place_from t 0) (step_table t n e l) eo refl
    (sym (number_is t n e l (table_sound t) false (setup_ranged_of e) (find_from t 0 n) (place_from t 0) refl eo refl er refl) ∙ k)
    (table_is t n e l (table_sound t) false (setup_ranged_of e) (find_from t 0 n) (place_from t 0) refl eo refl er refl)

setup_fourteen : (t : List Call) (n : ℕ) (l : List ℕ) (reference : ℕ) (rights : Rights) (q : ByService Request) → number_at t n (Event.Setup reference rights q) l ≡ 14 → OneSpent t (step_table t n (Event.Setup reference rights q) l) n (Event.Setup reference rights q) l
setup_fourteen t n l reference rights q k =
    setup_not_14 t reference rights q l (table_sound t) (reference_fits_of reference && rights_fit_of rights) (find_from t 0 reference) (place_from t 0) refl
    (sym (number_is t n (Event.Setup reference rights q) l (table_sound t) true (reference_fits_of reference && rights_fit_of rights) (find_from t 0 reference) (place_from t 0) refl refl refl refl refl) ∙ k)

pub fourteen : Fourteen
fourteen t n e l k =
    either_way (opens_of e)
    (λ eo. of_setup (λ e. number_at t n e l ≡ 14 → OneSpent t (step_table t n e l) n e l) (setup_fourteen t n l) e eo k)
    (λ eo. other_fourteen t n e l eo k)
