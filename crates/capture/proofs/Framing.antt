-- The whole messages at the front of a piece, one by one.
use Prim.Native.Nat.{ℕ, zero, suc, ◌+◌, ◌<◌, ◌≤◌}
use mathlib.Core.List.{List, [], ◌∷◌}
use mathlib.Core.Path.{◌≡◌, refl, ap, ◌∙◌}
use native.Mathlib.Omega.{arith}
use borrow.Author.Tests.{le-leb, lt-leb}
use lib.Dec.{leb}
use lib.ListN.{length, take, drop, length-drop}
use Rattle.logic.proofs.Decide.{by_cond}
use Rattle.capture.specs.Frames.{Frame, frame_size_of, frames_in, frames_of}
use Rattle.capture.specs.Margins.{later_of}

-- the first message of a piece
abbrev pub first_of : ℕ → List ℕ → Frame
first_of offset c = record { at = later_of offset 2; octets = take (frame_size_of c) (drop 2 c) }

-- more places than octets change nothing
enough : (f g offset : ℕ) (c : List ℕ) → length c ≤ f → length c ≤ g → frames_in f offset c ≡ frames_in g offset c
unfolding frames_in
enough zero zero offset c p q = refl
enough zero (suc g) offset c p q = simp (lt-leb (2 + frame_size_of c) (length c) (omega arith))
enough (suc f) zero offset c p q = simp (lt-leb (2 + frame_size_of c) (length c) (omega arith))
enough (suc f) (suc g) offset c p q =
    by_cond (λ (l : List Frame). l ≡ frames_in (suc g) offset c) (leb (2 + frame_size_of c) (length c))
    (λ t. simp t (ap (λ (l : List Frame). first_of offset c ∷ l) (enough f g _ _ (shorter f c p) (shorter g c q))))
    (λ t. simp t)
  where
    shorter : (k : ℕ) (c : List ℕ) → length c ≤ suc k → length (drop (2 + frame_size_of c) c) ≤ k
    shorter k c h = rw length-drop (omega arith)

module _ (offset : ℕ) (c : List ℕ) where
  one_more : frames_of offset c ≡ frames_in (suc (length c)) offset c
  unfolding frames_of
  one_more = enough (length c) (suc (length c)) offset c (omega arith) (omega arith)

  -- a piece that begins with a whole message
  pub frames_turn : 2 + frame_size_of c ≤ length c → frames_of offset c ≡ first_of offset c ∷ frames_of (later_of offset (2 + frame_size_of c)) (drop (2 + frame_size_of c) c)
  unfolding frames_in frames_of
  frames_turn h =
      one_more ∙ simp (le-leb (2 + frame_size_of c) (length c) h)
      (ap (λ (l : List Frame). first_of offset c ∷ l) (enough (length c) (length (drop (2 + frame_size_of c) c)) (later_of offset (2 + frame_size_of c)) (drop (2 + frame_size_of c) c) (rw length-drop (omega arith)) (omega arith)))

  -- one that does not
  pub frames_end : length c < 2 + frame_size_of c → frames_of offset c ≡ []
  unfolding frames_in
  frames_end h = one_more ∙ simp (lt-leb (2 + frame_size_of c) (length c) h)

-- an offset after an offset
pub later_later : (offset m n : ℕ) → later_of (later_of offset m) n ≡ later_of offset (m + n)
unfolding later_of
later_later offset m n = omega arith

pub later_none : (offset : ℕ) → offset ≤ 18446744073709551615 → later_of offset 0 ≡ offset
unfolding later_of
later_none offset h = omega arith
