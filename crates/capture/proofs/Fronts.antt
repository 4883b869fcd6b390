-- What was worked off of a piece is the front of what the whole capture gives.
use Prim.Native.Nat.{ℕ, zero, suc, ◌+◌, ◌≤◌}
use mathlib.Core.List.{List, [], ◌∷◌, ◌++◌}
use mathlib.Core.Path.{◌≡◌, ap, ◌∙◌}
use native.Mathlib.Omega.{arith}
use borrow.Author.Tests.{leb-true}
use lib.Dec.{leb}
use lib.ListN.{length, drop, length-append, length-drop, get_or-append}
use lib.Seq.{length-take-le, drop-drop, take-append-le, drop-append-le}
use Rattle.capture.specs.Frames.{Frame, frame_size_of, frames_in, frames_of, line_at, fitting, span_of}
use Rattle.capture.specs.Margins.{later_of}
use Rattle.capture.specs.Promises.{Offset}
use Rattle.logic.proofs.Decide.{by_cond}
use Rattle.capture.proofs.Framing.{first_of, frames_turn, later_later, later_none}

pub record Front (c more : List ℕ) (offset : ℕ) (fs : List Frame) : Type 0 where
  pub within : span_of fs ≤ length c
  pub frames : frames_of offset (c ++ more) ≡ fs ++ frames_of (later_of offset (span_of fs)) (drop (span_of fs) c ++ more)

front_none : (c more : List ℕ) (offset : ℕ) → Offset offset → Front c more offset []
unfolding span_of
front_none c more offset h = record { within = omega arith; frames = rw (later_none offset h) }

later_small : (offset n : ℕ) → Offset (later_of offset n)
unfolding later_of
later_small offset n = omega arith

module _ (c more : List ℕ) (offset : ℕ) (h : 2 + frame_size_of c ≤ length c) where
  same_size : frame_size_of (c ++ more) ≡ frame_size_of c
  unfolding frame_size_of
  same_size = rw (get_or-append c more 0 0 (omega arith), get_or-append c more 0 1 (omega arith))

  same_first : first_of offset (c ++ more) ≡ first_of offset c
  same_first = rw (same_size, drop-append-le 2 c more (omega arith), take-append-le (frame_size_of c) (drop 2 c) more (rw length-drop (omega arith)))

  first_long : length (first_of offset c).octets ≡ frame_size_of c
  first_long = length-take-le (frame_size_of c) (drop 2 c) (rw length-drop (omega arith))

  front_cons : (fs : List Frame) → Front (drop (2 + frame_size_of c) c) more (later_of offset (2 + frame_size_of c)) fs → Front c more offset (first_of offset c ∷ fs)
  unfolding span_of
  front_cons fs f =
      let n : 2 + frame_size_of c + span_of fs ≡ 2 + length (first_of offset c).octets + span_of fs = rw first_long in
      record {
        within = omega (arith, first_long, rw length-drop at f.within);
        frames =
            frames_turn offset (c ++ more) (rw (same_size, length-append) (omega arith))
            ∙ ap (λ (g : Frame). g ∷ frames_of (later_of offset (2 + frame_size_of (c ++ more))) (drop (2 + frame_size_of (c ++ more)) (c ++ more))) same_first
            ∙ ap (λ (gs : List Frame). first_of offset c ∷ gs)
            (rw (same_size, drop-append-le (2 + frame_size_of c) c more h, f.frames, later_later offset (2 + frame_size_of c) (span_of fs), drop-drop (span_of fs) (2 + frame_size_of c) c, n));
      }

pub front_of : (k : ℕ) (c more : List ℕ) (offset room : ℕ) → Offset offset → Front c more offset (fitting (frames_in k offset c) room)
unfolding frames_in fitting
front_of zero c more offset room h = front_none c more offset h
front_of (suc k) c more offset room h =
    by_cond (λ (fs : List Frame). Front c more offset (fitting fs room)) (leb (2 + frame_size_of c) (length c))
    (λ t. by_cond (λ (fs : List Frame). Front c more offset fs) (leb (length (line_at (first_of offset c))) room)
    (λ u. front_cons c more offset (leb-true _ _ t) _ (front_of k _ more _ _ (later_small offset (2 + frame_size_of c))))
    (λ u. front_none c more offset h))
    (λ t. front_none c more offset h)
