-- A buffer that more was read into, after what it holds.
use Prim.Native.Nat.{ℕ, zero, suc, ◌+◌, ◌-◌, ◌≤◌}
use mathlib.Core.Bool.{Bool}
use mathlib.Core.List.{List}
use mathlib.Core.Path.{◌≡◌, refl, sym, ◌∙◌}
use native.Mathlib.Omega.{arith}
use borrow.Author.Tests.{leb-true, le-ltb, lt-ltb}
use lib.Dec.{leb, ltb}
use lib.ListN.{length, drop, length-drop}
use lib.Seq.{take_at, length-take-le}
use Rattle.logic.proofs.Decide.{by_cond}
use Rattle.memory.specs.Room.{placed, kept_of, Kept}
use Rattle.memory.proofs.Pieces.{length_placed}
use Rattle.std.specs.Prelude.{Result}
use Rattle.streams.specs.declared.Failed.{Failed}
use Rattle.streams.specs.Outcome.{came_of}
use Rattle.streams.specs.Refill.{ReadAfter, Refilled}

kept_fits : (from to : ℕ) (l : List ℕ) → length (kept_of from to l) ≤ length l
unfolding kept_of
kept_fits from to l =
    by_cond (λ (x : List ℕ). length x ≤ length l) (leb from to)
    (λ a. by_cond (λ (x : List ℕ). length x ≤ length l) (leb to (length l))
    (λ b. rw (length-take-le (to - from) (drop from l) (rw length-drop (omega (arith, leb-true)))) (omega (arith, leb-true))) (λ b. omega arith))
    (λ a. omega arith)

-- something came exactly if what is held ends later than before
later : (n r : ℕ) → ltb 0 r ≡ ltb n (n + r)
later n zero = sym (le-ltb n (n + 0) (omega arith))
later n (suc r) = lt-ltb 0 (suc r) (omega arith) ∙ sym (lt-ltb n (n + suc r) (omega arith))

-- what is kept stands at the front, and so it does after the read
pub refills : {from to n r t : ℕ} {l k l' : List ℕ} {b : Result Bool Failed} → t ≡ n + r → came_of b ≡ ltb 0 r → Kept from to l k n → ReadAfter n k l' r → Refilled from to l l' (record { to = t; came = b })
unfolding placed
refills {from} {to} {n} {r} {t} {l} {k} {l'} e₀ told h a =
    let q = kept_of from to l in
    let f = kept_fits from to l in
    let e : length k ≡ length l = rw h.buffer (length_placed 0 q l (omega (arith, f))) in
    record {
      front = rw (← h.count, a.front, h.buffer, h.count) (take_at q (drop (0 + length q) l) (length q) refl);
      long = a.long ∙ e;
      least = omega (arith, h.count);
      most = omega (arith, f, e, h.count, a.long, a.room);
      told = rw (e₀, ← h.count) (told ∙ later n r);
    }
