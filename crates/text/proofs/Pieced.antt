-- An octet that is put, and what the answer to a piece says of the room.
use Rattle.std.specs.Prelude.{Ok, Err}
use Prim.Native.Nat.{ℕ, ◌+◌, ◌<◌, ◌≤◌}
use mathlib.Core.List.{List, [], ◌∷◌, append_assoc}
use mathlib.Core.Bool.{Bool, true, false, cond}
use mathlib.Core.Path.{◌≡◌, refl}
use native.Mathlib.Numerals.{add-one}
use native.Mathlib.Omega.{arith}
use borrow.Author.Tests.{leb-true, leb-false}
use lib.Dec.{leb}
use lib.ListN.{length, set}
use lib.Seq.{set_split}
use Rattle.memory.specs.declared.Bar.{Bar}
use Rattle.memory.specs.Room.{placed, wrote_of, left_of, Written}
use Rattle.memory.specs.Putting.{Put}

-- an octet
pub octet : {at x : ℕ} {l : List ℕ} → at < length l → Put at (x ∷ []) l (set l at x) (at + 1)
unfolding placed
octet {at} {x} {l} h = record { end = refl; octets = rw (append_assoc, add-one) (set_split l at x h) }

-- what an answer says of the room
answered : (t : Bool) (at : ℕ) (p l : List ℕ) {e : ℕ} {l' : List ℕ} → leb (at + length p) (length l) ≡ t → Ok e ≡ cond t (Ok (at + length p)) (Err Bar.Room) → l' ≡ cond t (placed at p l) l → (at + length p ≤ length l) × (e ≡ at + length p) × (l' ≡ placed at p l)
answered true at p l h a b = (leb-true _ _ h, cc, b)
answered false at p l h a b = let z : ◌≡◌ {A = ℕ} 0 1 = cc in absurd (omega arith)

declined : (t : Bool) (at : ℕ) (p l : List ℕ) {b : Bar} {l' : List ℕ} → leb (at + length p) (length l) ≡ t → Err b ≡ cond t (Ok (at + length p)) (Err Bar.Room) → l' ≡ cond t (placed at p l) l → (length l < at + length p) × (l' ≡ l)
declined true at p l h a b = let z : ◌≡◌ {A = ℕ} 0 1 = cc in absurd (omega arith)
declined false at p l h a b = (leb-false _ _ h, b)

pub took : {at e : ℕ} {p l l' : List ℕ} → Written true at p l l' (Ok e) → (at + length p ≤ length l) × (e ≡ at + length p) × (l' ≡ placed at p l)
unfolding wrote_of left_of
took {at} {e} {p} {l} w = answered (leb (at + length p) (length l)) at p l refl w.answer w.buffer

pub refused : {at : ℕ} {b : Bar} {p l l' : List ℕ} → Written true at p l l' (Err b) → (length l < at + length p) × (l' ≡ l)
unfolding wrote_of left_of
refused {at} {b} {p} {l} w = declined (leb (at + length p) (length l)) at p l refl w.answer w.buffer
