-- The element field as it is written, and the record of an event by its kind.
use Rattle.std.specs.Prelude.{Some, None, Result}
use Prim.Native.Nat.{ℕ, zero, suc, ◌+◌, ◌-◌, ◌≤◌}
use mathlib.Core.List.{List, ◌∷◌, ◌++◌}
use mathlib.Core.Bool.{true, false}
use mathlib.Core.Path.{◌≡◌, refl, ◌∙◌}
use native.Mathlib.Nat.{sub-zero, zero-sub, suc-sub-suc}
use native.Mathlib.Numerals.{one-add}
use native.Mathlib.Omega.{arith}
use borrow.Author.Tests.{le-leb}
use lib.ListN.{length, drop, replicate, length-replicate}
use Rattle.event.specs.declared.Event.{Event}
use Rattle.trace.specs.declared.kind.RecordKind.{RecordKind}
use Rattle.memory.specs.declared.Bar.{Bar}
use Rattle.memory.specs.Room.{placed, left_of, Written}
use Rattle.recorder.specs.Writing.{field_octets, kind_for, has_element, tail_octets, head_as, record_octets, record_fits_of}

dropped : (k n : ℕ) → drop k (replicate {A = ℕ} n 0) ≡ replicate {A = ℕ} (n - k) 0
dropped zero n = rw (sub-zero n) refl
dropped (suc k) zero = rw (zero-sub (suc k)) refl
dropped (suc k) (suc n) = rw (suc-sub-suc n k) (dropped k n)

-- what a buffer holds after a piece for which it has room was written into it
put_there : {at : ℕ} {p l l' : List ℕ} {w : Result ℕ Bar} → at + length p ≤ length l → Written true at p l l' w → l' ≡ placed at p l
unfolding left_of
put_there {at} {p} {l} h w =
    let t = le-leb (at + length p) (length l) h in
    w.buffer ∙ simp t

-- the number of octets, the octets, and zeros
field_put : (u : List ℕ) → length u ≤ 131 → placed 1 u (length u ∷ replicate 131 0) ≡ field_octets u
unfolding placed field_octets
field_put u h = rw (one-add (length u), dropped (length u) 131) refl

pub field_written : (u : List ℕ) {l' : List ℕ} {w : Result ℕ Bar} → length u ≤ 131 → Written true 1 u (length u ∷ replicate 131 0) l' w → l' ≡ field_octets u
field_written u h w = put_there (omega (arith, h, length-replicate {A = ℕ} 131 0)) w ∙ field_put u h

pub of_kind : (r : ℕ) (e : Event) (u : List ℕ) (k : RecordKind) → kind_for e ≡ Some k → record_octets r e u ≡ head_as k r e ++ tail_octets (has_element (Some k)) u
unfolding record_octets
of_kind r e u k h = rw h

-- the two messages that are no events
pub no_kind : (r : ℕ) (e : Event) (u : List ℕ) → kind_for e ≡ None → record_fits_of r e u ≡ false
unfolding record_fits_of
no_kind r (Event.Setup n rights q) u h = cc
no_kind r (Event.Alerting a) u h = cc
no_kind r (Event.Connect a) u h = cc
no_kind r (Event.Information side more) u h = cc
no_kind r (Event.Facility side what) u h = cc
no_kind r (Event.Disconnect side cause a) u h = cc
no_kind r (Event.ReleaseComplete side) u h = cc
no_kind r Event.Tick u h = cc
no_kind r Event.CallProceeding u h = refl
no_kind r Event.CongestionControl u h = refl
