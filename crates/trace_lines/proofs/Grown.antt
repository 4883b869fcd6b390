-- Pieces that are put on a line one after another.
use Prim.Native.Nat.{ℕ, ◌+◌, ◌≤◌}
use mathlib.Core.List.{List, [], ◌++◌}
use mathlib.Core.Path.{◌≡◌, sym, ◌∙◌}
use native.Mathlib.Omega.{arith}
use lib.ListN.{length, take, drop, length-append}
use lib.Seq.{take_at}
use Rattle.memory.specs.Room.{placed}
use Rattle.memory.specs.Putting.{Put}
use Rattle.memory.proofs.Pieces.{length_placed, placed_then, no_put}
use Rattle.trace_lines.specs.declared.in_place.InPlace.{InPlace}
use Rattle.trace_lines.specs.InPlace.{Grows, Spare}

-- nothing is put
pub nothing : (at : ℕ) (l : List ℕ) → placed at [] l ≡ l
nothing at l = sym (no_put {at = at} {l = l}).octets

-- a piece is put, and one after it
pub as_long : (at : ℕ) (p l : List ℕ) → at + length p ≤ length l → length (placed at p l) ≡ length l
as_long at p l h = length_placed at p l h

pub next : (at : ℕ) (p l q : List ℕ) → at + length p ≤ length l → placed (at + length p) q (placed at p l) ≡ placed at (p ++ q) l
next at p l q h = placed_then at p l h q

pub both : (p q : List ℕ) → length (p ++ q) ≡ length p + length q
both p q = length-append p q

-- the same of two lines
pub two : {m n : ℕ} {p q : List ℕ} {s s' s'' : InPlace} → Spare (m + n) s → Grows m p s s' → Grows n q s' s'' → Grows (m + n) (p ++ q) s s''
two {p = p} {q = q} {s = s} h a b =
    record {
      same = b.same ∙ a.same;
      end = b.end ∙ simp (a.end, length-append) (omega arith);
      octets = b.octets ∙ rw (a.octets, a.end) (placed_then s.end p s.octets.now (omega (arith, h, a.small)) q);
      long = b.long ∙ a.long;
      small = simp length-append (omega (arith, a.small, b.small));
    }

-- the same piece in other words, where more may be put
pub spelled : {m n : ℕ} {p q : List ℕ} {s s' : InPlace} → p ≡ q → m ≤ n → Grows m p s s' → Grows n q s s'
spelled e h a = rw (← e) (record { same = a.same; end = a.end; octets = a.octets; long = a.long; small = omega (arith, h, a.small) })

-- a piece that was put at the front of a buffer stands there
pub at_front : {p l l' : List ℕ} {r : ℕ} → Put 0 p l l' r → take r l' ≡ p
unfolding placed
at_front {p} {l} {l'} {r} a = rw a.octets (take_at p (drop (0 + length p) l) r (omega (arith, a.end)))
