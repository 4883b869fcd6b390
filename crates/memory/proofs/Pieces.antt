-- One piece after another.
use Rattle.std.specs.Prelude.{Result}
use Rattle.memory.specs.declared.Bar.{Bar}
use Prim.Native.Nat.{ℕ, ◌+◌, ◌≤◌}
use mathlib.Core.List.{List, [], ◌++◌, append_assoc}
use mathlib.Core.Bool.{Bool, true}
use mathlib.Core.Path.{◌≡◌, refl, ap, ◌∙◌}
use native.Mathlib.Omega.{arith}
use native.Mathlib.Nat.{add_assoc}
use borrow.Author.Tests.{le-leb}
use lib.ListN.{length, take, drop, length-append, length-drop}
use lib.Seq.{length-take-le, take_at, drop-append-add, drop-drop, paste-zero}
use Rattle.memory.specs.Room.{placed, wrote_of, left_of, Written}
use Rattle.memory.specs.Putting.{end_of, Put}

module _ (at : ℕ) (p l : List ℕ) (fits : at + length p ≤ length l) where
  front : length (take at l ++ p) ≡ at + length p
  front = simp (length-append, length-take-le at l (omega arith))

  pub length_placed : length (placed at p l) ≡ length l
  unfolding placed
  length_placed = simp (length-append, length-take-le at l (omega arith), length-drop) (omega arith)

  pub placed_then : (q : List ℕ) → placed (at + length p) q (placed at p l) ≡ placed at (p ++ q) l
  unfolding placed
  placed_then q =
      rw (
        take_at (take at l ++ p) (drop (at + length p) l) (at + length p) front,
        ← front,
        drop-append-add (take at l ++ p) (drop (length (take at l ++ p)) l) (length q),
        front,
        drop-drop,
        length-append p q,
        append_assoc (take at l) p q,
        add_assoc at (length p) (length q),
      ) refl

-- two pieces, one after the other
pub puts : {at r s : ℕ} {p q l l' l'' : List ℕ} → at + length p ≤ length l → Put at p l l' r → Put r q l' l'' s → Put at (p ++ q) l l'' s
puts {at} {r} {s} {p} {q} {l} {l'} {l''} h a b =
    record {
      end = b.end ∙ simp (a.end, length-append) (omega arith);
      octets = b.octets ∙ rw (a.octets, a.end) (placed_then at p l h q);
    }

-- no octets
pub no_put : {at : ℕ} {l : List ℕ} → Put at [] l l at
unfolding placed
no_put {at} {l} = record { end = omega arith; octets = paste-zero l at [] }

-- a buffer is as long as before
pub put_length : {at r : ℕ} {p l l' : List ℕ} → at + length p ≤ length l → Put at p l l' r → length l' ≡ length l
put_length {at} {r} {p} {l} h a = rw a.octets (length_placed at p l h)

-- a piece that is in range and fits is put
pub settles : {fits : Bool} {at r : ℕ} {p l l' : List ℕ} {w : Result ℕ Bar} → fits ≡ true → at + length p ≤ length l → Written fits at p l l' w → r ≡ end_of w → Put at p l l' r
unfolding wrote_of left_of
settles {at = at} {p = p} {l = l} h k a e =
    let t = le-leb (at + length p) (length l) k in
    record { end = e ∙ ap end_of a.answer ∙ simp (h, t); octets = a.buffer ∙ simp (h, t) }
