-- What is in range.
use Prim.Native.Nat.{ℕ}
use mathlib.Core.List.{List}
use mathlib.Core.Bool.{true}
use mathlib.Core.Path.{◌≡◌}
use Rattle.logic.proofs.Tests.{both}
use Rattle.user_element.specs.Writable.{element_fits_of}
use Rattle.message_fields.specs.declared.Message.{Message}
use Rattle.writer.specs.Fitting.{reference_fits, single_fits, causes_fit, facilities_fit, message_fits}

-- the fields of a message that fits
pub record Fits (w : Message) (u : List ℕ) : Type 0 where
  pub reference : reference_fits w.header.width w.header.reference ≡ true
  pub single : single_fits w.header.kind w.single ≡ true
  pub cause : causes_fit w.cause ≡ true
  pub facility : facilities_fit w.facility ≡ true
  pub user : element_fits_of u ≡ true

pub fits : (w : Message) (u : List ℕ) → message_fits w u ≡ true → Fits w u
unfolding message_fits
fits w u h =
    let a = both _ _ h in
    let b = both _ _ a.0 in
    let d = both _ _ b.0 in
    let e = both _ _ d.0 in
    record { reference = e.0; single = e.1; cause = d.1; facility = b.1; user = a.1 }
