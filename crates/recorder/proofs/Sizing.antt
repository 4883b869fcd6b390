-- How many octets a written record has, and what fits.
use Prim.Native.Nat.{ℕ, ◌≤◌}
use mathlib.Core.List.{List}
use mathlib.Core.Bool.{Bool, true, false}
use mathlib.Core.Path.{◌≡◌}
use native.Mathlib.Omega.{arith}
use borrow.Author.Tests.{eqb-true}
use lib.ListN.{length, length-append, length-replicate}
use Rattle.event.specs.declared.Event.{Event}
use Rattle.trace.specs.declared.kind.RecordKind.{RecordKind}
use Rattle.trace.specs.Kind.{size_of}
use Rattle.logic.proofs.Tests.{both}
use Rattle.user_element.proofs.writable.Whole.{element_small}
use Rattle.recorder.specs.Writing.{field_octets, fielded_of, event_fits_of, tail_fits_of, record_fits_of}

pub field_is : (u : List ℕ) → length u ≤ 131 → length (field_octets u) ≡ 132
unfolding field_octets
field_is u h = simp (length-append, length-replicate) (omega arith)

pub longest : (k : RecordKind) → size_of k ≤ 144
longest RecordKind.Setup = omega arith
longest RecordKind.Alerting = omega arith
longest RecordKind.Connect = omega arith
longest RecordKind.Information = omega arith
longest RecordKind.Facility = omega arith
longest RecordKind.Disconnect = omega arith
longest RecordKind.ReleaseComplete = omega arith
longest RecordKind.Tick = omega arith

tail_small : (has : Bool) (u : List ℕ) → tail_fits_of has u ≡ true → length u ≤ 131
tail_small true u h = element_small u h
tail_small false u h = let z = eqb-true (length u) 0 h in omega arith

pub fits_small : (r : ℕ) (e : Event) (u : List ℕ) → record_fits_of r e u ≡ true → length u ≤ 131
unfolding record_fits_of
fits_small r e u h = tail_small (fielded_of e) u (both (event_fits_of r e) (tail_fits_of (fielded_of e) u) h).1
