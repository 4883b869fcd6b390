-- A step keeps the reference of a call, and its fields in range.
use Rattle.services.specs.declared.ByService.{ByService}
use Rattle.services.specs.declared.Request.{Request}
use Rattle.std.specs.Prelude.{Option, Some, None}
use Prim.Native.Nat.{ℕ}
use mathlib.Core.List.{List}
use mathlib.Core.Bool.{true, false, ◌&&◌}
use mathlib.Core.Path.{◌≡◌, refl, ◌∙◌, ap}
use Rattle.rights.specs.declared.Rights.{Rights}
use Rattle.call.specs.declared.Call.{Call}
use Rattle.event.specs.declared.Event.{Event}
use Rattle.user_element.specs.Element.{seen_of}
use Rattle.rights.specs.Rights.{rights_fit_of, reference_fits_of}
use Rattle.call.specs.Reply.{bar_of, heard_of}
use Rattle.call.specs.Setup.{proceeds_of, setup_of}
use Rattle.call.specs.Sound.{sound_of, fresh_call}
use Rattle.call.specs.Step.{step_of}
use Rattle.table.specs.Choice.{own_or, is_new, meant_reference_of, opens_of, setup_ranged_of}
use Rattle.call_promises.specs.Ranges.{InRangeCall}
use Rattle.table.specs.Settle.{subject_of, changes_of, record_kept_of, settled_of}
use Rattle.logic.proofs.Decide.{never, by_cond, both}
use Rattle.call_promises.proofs.Kept.{NotSetup, Follows, same, step_in, setup_in}
use Rattle.call_promises.proofs.Ranges.{reference_range, rights_range}
use Rattle.table.specs.declared.choice.Opening.{Opening}

-- an event that does not open a call is no SETUP
not_setup : (e : Event) → opens_of e ≡ false → NotSetup e
not_setup e o reference rights q h = never (ap opens_of h) o

module _ (c : Call) where
  pub settled_in : (e : Event) (l : List ℕ) → opens_of e ≡ false → Follows c (settled_of c e l).call
  unfolding settled_of record_kept_of subject_of
  settled_in e l o =
      rw o (by_cond (Follows c) (changes_of (step_of c e l).answer) (λ _. step_in c e l (not_setup e o)) (λ _. same c))

-- a SETUP in range fills the whole record
pub record Opens (c : Call) (m : ℕ) (e : Event) (l : List ℕ) : Type 0 where
  pub reference : (settled_of c e l).call.reference ≡ meant_reference_of m e
  pub fields : InRangeCall (settled_of c e l).call
  pub whatever : (d : Call) → settled_of c e l ≡ settled_of d e l

module _ (c : Call) (m reference : ℕ) (rights : Rights) (q : ByService Request) (l : List ℕ) where
  filled_reference : (proceeds_of reference rights q (seen_of l rights.limit)).call.reference ≡ reference
  unfolding proceeds_of
  filled_reference = refl

  filled : (d : Call) → (reference_fits_of reference && rights_fit_of rights) ≡ true → (settled_of d (Event.Setup reference rights q) l).call ≡ (proceeds_of reference rights q (seen_of l rights.limit)).call
  unfolding settled_of record_kept_of subject_of setup_of heard_of bar_of sound_of fresh_call proceeds_of
  filled d f = rw f

  opened : (reference_fits_of reference && rights_fit_of rights) ≡ true → Opens c m (Event.Setup reference rights q) l
  unfolding settled_of subject_of
  opened f =
      let p = (both _ _ (reference_range reference) (rights_range rights)).so f in
      record {
        reference = ap (λ (d : Call). d.reference) (filled c f) ∙ filled_reference;
        fields = rw (filled c f) (setup_in reference rights q _ p.0 p.1);
        whatever = λ d. rw (filled c f, filled d f);
      }

-- an event that does not open a call is about the reference beside it
pub own_reference : (n : ℕ) (w : Option Opening) → is_new w ≡ false → own_or n w ≡ n
own_reference n (Some o) e = never refl e
own_reference n None e = refl

-- what holds of every SETUP holds of an event that opens a call
pub of_setup : (P : Event → Type 0) → ((reference : ℕ) (rights : Rights) (q : ByService Request) → P (Event.Setup reference rights q)) → (e : Event) → opens_of e ≡ true → P e
of_setup P h (Event.Setup reference rights q) o = h reference rights q
of_setup P h (Event.Alerting answers) o = never o refl
of_setup P h (Event.Connect answers) o = never o refl
of_setup P h (Event.Information side more) o = never o refl
of_setup P h (Event.Facility side what) o = never o refl
of_setup P h (Event.Disconnect side cause answers) o = never o refl
of_setup P h (Event.ReleaseComplete side) o = never o refl
of_setup P h Event.Tick o = never o refl
of_setup P h Event.CallProceeding o = never o refl
of_setup P h Event.CongestionControl o = never o refl

pub opens_in : (c : Call) (m : ℕ) (e : Event) (l : List ℕ) → opens_of e ≡ true → setup_ranged_of e ≡ true → Opens c m e l
opens_in c m e l = of_setup (λ e. setup_ranged_of e ≡ true → Opens c m e l) (λ reference rights q f. opened c m reference rights q l f) e
