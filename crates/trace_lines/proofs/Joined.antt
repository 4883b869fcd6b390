-- Items, each after a `,`, and the column of a message.
use mathlib.Core.List.{List, [], ◌∷◌, ◌++◌, append_assoc}
use mathlib.Core.Path.{◌≡◌, refl, sym, ap, ◌∙◌}
use Prim.Native.Nat.{ℕ, ◌+◌, ◌≤◌}
use native.Mathlib.Omega.{arith}
use lib.ListN.{length, take, drop}
use lib.Seq.{length-take-le, take_at, drop-append-add}
use Rattle.memory.specs.Room.{placed}
use Rattle.memory.specs.Putting.{Put}
use Rattle.memory.proofs.Pieces.{put_length}
use Rattle.text.specs.Columns.{column}
use Rattle.trace_lines.specs.declared.in_place.InPlace.{InPlace}
use Rattle.trace_lines.specs.InPlace.{Grows, Spare}
use Rattle.trace_lines.specs.Items.{commas, joined}
use Rattle.trace_lines.proofs.Grown.{two, spelled}

pub commas_append : (a b : List (List ℕ)) → commas (a ++ b) ≡ commas a ++ commas b
unfolding commas
commas_append [] b = refl
commas_append (i ∷ is) b =
    ap (λ (x : List ℕ). 44 ∷ x) (ap (λ (x : List ℕ). i ++ x) (commas_append is b) ∙ sym (append_assoc i (commas is) (commas b)))

-- a message that has no items
pub bare : {s s' s'' : InPlace} (is : List (List ℕ)) → Spare 79 s → Grows 79 (commas is) s s' → s'.end ≡ s.end → Grows 5 (32 ∷ 98 ∷ 97 ∷ 114 ∷ 101 ∷ []) s' s'' → Grows 79 (column (joined is)) s s''
unfolding commas joined
bare [] k a h b =
    let nothing : Grows 0 [] _ _ = record { same = a.same; end = a.end; octets = a.octets; long = a.long; small = omega arith } in
    spelled refl (omega arith) (two {m = 0} {n = 5} (omega (arith, k)) nothing b)
bare (i ∷ is) k a h b = absurd (omega (arith, a.end))

-- the first octet of a piece, put anew
anew_first : (at : ℕ) (w l : List ℕ) → at ≤ length l → take at (take at l ++ (44 ∷ w)) ++ (32 ∷ drop (at + 1) (take at l ++ (44 ∷ w))) ≡ take at l ++ (32 ∷ w)
anew_first at w l h =
    let f = length-take-le at l h in
    let after : drop (at + 1) (take at l ++ (44 ∷ w)) ≡ w = ap (λ (n : ℕ). drop (n + 1) (take at l ++ (44 ∷ w))) (sym f) ∙ drop-append-add (take at l) (44 ∷ w) 1 in
    rw (take_at (take at l) (44 ∷ w) at f, after)

anew : (at : ℕ) (q l : List ℕ) → at ≤ length l → placed at (32 ∷ []) (placed at (44 ∷ q) l) ≡ placed at (32 ∷ q) l
unfolding placed
anew at q l h = simp append_assoc (anew_first at (q ++ drop (at + length (44 ∷ q)) l) l h)

-- one that has some: the space takes the place of the first `,`
pub spaced : {s s' s'' : InPlace} {r : ℕ} (is : List (List ℕ)) → Spare 79 s → Grows 79 (commas is) s s' → (s'.end ≡ s.end → ⊥) → s''.octets.ghost_name ≡ s'.octets.ghost_name → s''.end ≡ s'.end → Put s.end (32 ∷ []) s'.octets.now s''.octets.now r → Grows 79 (column (joined is)) s s''
unfolding commas joined
spaced [] k a h n e q = absurd (h (omega (arith, a.end)))
spaced {s} (i ∷ is) k a h n e q =
    record {
      same = n ∙ a.same;
      end = e ∙ a.end;
      octets = q.octets ∙ rw a.octets (anew s.end (i ++ commas is) s.octets.now (omega (arith, k)));
      long = put_length (omega (arith, k, a.long)) q ∙ a.long;
      small = a.small;
    }
