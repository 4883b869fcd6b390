-- Each test of a phase decides which phases it is.
use Rattle.std.proofs.Common.{true, ◌⊎◌, inl, inr, ⊎_elim, ◌≡◌, refl}
use Rattle.phases.specs.declared.Phase.{Phase}
use Rattle.phases.specs.Phase.{fresh_of, requested_of, connectable_of, talking_of, active_of, up_of, live_of}
use Rattle.call_promises.specs.Ranges.{Up, Live}
use Rattle.logic.proofs.Decide.{never, Decides}

fresh_so : (p : Phase) → fresh_of p ≡ true → p ≡ Phase.Fresh
fresh_so Phase.Fresh h = refl
fresh_so Phase.Requested h = never h refl
fresh_so Phase.Alerting h = never h refl
fresh_so Phase.Active h = never h refl
fresh_so Phase.Clearing h = never h refl
fresh_so Phase.Ended h = never h refl

pub fresh : (p : Phase) → Decides (fresh_of p) (p ≡ Phase.Fresh)
fresh p = record { so = fresh_so p; back = λ e. rw e refl }

requested_so : (p : Phase) → requested_of p ≡ true → p ≡ Phase.Requested
requested_so Phase.Fresh h = never h refl
requested_so Phase.Requested h = refl
requested_so Phase.Alerting h = never h refl
requested_so Phase.Active h = never h refl
requested_so Phase.Clearing h = never h refl
requested_so Phase.Ended h = never h refl

pub requested : (p : Phase) → Decides (requested_of p) (p ≡ Phase.Requested)
requested p = record { so = requested_so p; back = λ e. rw e refl }

connectable_so : (p : Phase) → connectable_of p ≡ true → (p ≡ Phase.Requested) ⊎ (p ≡ Phase.Alerting)
connectable_so Phase.Fresh h = never h refl
connectable_so Phase.Requested h = inl refl
connectable_so Phase.Alerting h = inr refl
connectable_so Phase.Active h = never h refl
connectable_so Phase.Clearing h = never h refl
connectable_so Phase.Ended h = never h refl

pub connectable : (p : Phase) → Decides (connectable_of p) ((p ≡ Phase.Requested) ⊎ (p ≡ Phase.Alerting))
connectable p = record { so = connectable_so p; back = ⊎_elim (λ e. rw e refl) (λ e. rw e refl) }

talking_so : (p : Phase) → talking_of p ≡ true → (p ≡ Phase.Alerting) ⊎ (p ≡ Phase.Active)
talking_so Phase.Fresh h = never h refl
talking_so Phase.Requested h = never h refl
talking_so Phase.Alerting h = inl refl
talking_so Phase.Active h = inr refl
talking_so Phase.Clearing h = never h refl
talking_so Phase.Ended h = never h refl

pub talking : (p : Phase) → Decides (talking_of p) ((p ≡ Phase.Alerting) ⊎ (p ≡ Phase.Active))
talking p = record { so = talking_so p; back = ⊎_elim (λ e. rw e refl) (λ e. rw e refl) }

active_so : (p : Phase) → active_of p ≡ true → p ≡ Phase.Active
active_so Phase.Fresh h = never h refl
active_so Phase.Requested h = never h refl
active_so Phase.Alerting h = never h refl
active_so Phase.Active h = refl
active_so Phase.Clearing h = never h refl
active_so Phase.Ended h = never h refl

pub active : (p : Phase) → Decides (active_of p) (p ≡ Phase.Active)
active p = record { so = active_so p; back = λ e. rw e refl }

up_so : (p : Phase) → up_of p ≡ true → Up p
up_so Phase.Fresh h = never h refl
up_so Phase.Requested h = inl refl
up_so Phase.Alerting h = inr (inl refl)
up_so Phase.Active h = inr (inr refl)
up_so Phase.Clearing h = never h refl
up_so Phase.Ended h = never h refl

pub up : (p : Phase) → Decides (up_of p) (Up p)
up p = record { so = up_so p; back = ⊎_elim (λ e. rw e refl) (⊎_elim (λ e. rw e refl) (λ e. rw e refl)) }

live_so : (p : Phase) → live_of p ≡ true → Live p
live_so Phase.Fresh h = never h refl
live_so Phase.Requested h = inl (inl refl)
live_so Phase.Alerting h = inl (inr (inl refl))
live_so Phase.Active h = inl (inr (inr refl))
live_so Phase.Clearing h = inr refl
live_so Phase.Ended h = never h refl

pub live : (p : Phase) → Decides (live_of p) (Live p)
live p =
    record {
      so = live_so p;
      back = ⊎_elim (⊎_elim (λ e. rw e refl) (⊎_elim (λ e. rw e refl) (λ e. rw e refl))) (λ e. rw e refl);
    }
