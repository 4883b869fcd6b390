-- A piece that is being worked off: what is left of it makes up what the whole of it makes.
use Rattle.std.specs.Prelude.{Ok, Err}
use Prim.Native.Nat.{ℕ, ◌+◌, ◌-◌, ◌<◌, ◌≤◌}
use mathlib.Core.List.{List, [], ◌∷◌, ◌++◌}
use mathlib.Core.Bool.{true}
use mathlib.Core.Path.{◌≡◌, refl, sym, ap, ◌∙◌}
use native.Mathlib.Omega.{arith}
use borrow.Author.Tests.{le-leb, lt-leb}
use lib.ListN.{length, take, drop, length-append, length-drop}
use lib.Seq.{length-take-le, take_all, drop-drop}
use Rattle.memory.specs.declared.Bar.{Bar}
use Rattle.memory.specs.Room.{placed, Written}
use Rattle.memory.proofs.Pieces.{length_placed, placed_then, no_put}
use Rattle.text.proofs.Pieced.{took, refused}
use Rattle.message_line.specs.Line.{line_of}
use Rattle.capture.specs.Frames.{Frame, frame_size_of, frames_of, line_at, lines_of, fitting, span_of, worked_off, Digested}
use Rattle.capture.specs.Margins.{later_of}
use Rattle.capture.proofs.Framing.{first_of, frames_turn, frames_end, later_later, later_none}

-- what is still to come from place i of the piece on, with k octets of lines written
abbrev pub to_come : List ℕ → ℕ → List ℕ → ℕ → ℕ → List Frame
to_come c offset out i k = fitting (frames_of (later_of offset i) (drop i c)) (length out - k)

-- what is left of a piece from a place on
pub rest_is : (c : List ℕ) (i : ℕ) → take (length c - i) (drop i c) ≡ drop i c
rest_is c i = take_all (length c - i) (drop i c) (rw length-drop (omega arith))

pub record Going (c : List ℕ) (offset : ℕ) (l out : List ℕ) (i k : ℕ) : Type 0 where
  pub within : i ≤ length c
  pub room : k ≤ length out
  pub long : length out ≡ length l
  pub used : i + span_of (to_come c offset out i k) ≡ span_of (worked_off c offset l)
  pub wrote : k + length (lines_of (to_come c offset out i k)) ≡ length (lines_of (worked_off c offset l))
  pub buffer : placed k (lines_of (to_come c offset out i k)) out ≡ placed 0 (lines_of (worked_off c offset l)) l

pub start : (c : List ℕ) (offset : ℕ) (l : List ℕ) → offset ≤ 18446744073709551615 → Going c offset l l 0 0
unfolding worked_off
start c offset l h =
    let e = later_none offset h in
    let n : length l - 0 ≡ length l = omega arith in
    record {
      within = omega arith;
      room = omega arith;
      long = refl;
      used = rw (e, n) (omega arith);
      wrote = rw (e, n) (omega arith);
      buffer = rw (e, n);
    }

-- nothing is to come
pub stop : {c : List ℕ} {offset : ℕ} {l out : List ℕ} {i k : ℕ} → Going c offset l out i k → to_come c offset out i k ≡ [] → Digested c offset l out (record { used = i; wrote = k })
unfolding lines_of span_of
stop {c} {offset} {l} {out} {i} {k} g e =
    record {
      used = omega (arith, rw e at g.used);
      wrote = omega (arith, rw e at g.wrote);
      buffer = (no_put {at = k} {l = out}).octets ∙ (rw e at g.buffer);
    }

module _ {c : List ℕ} {offset : ℕ} {l out : List ℕ} {i k : ℕ} (g : Going c offset l out i k) where
  -- the rest of the piece is no whole message
  pub stop_short : length c - i < 2 + frame_size_of (drop i c) → Digested c offset l out (record { used = i; wrote = k })
  unfolding fitting
  stop_short h = stop g (rw (frames_end (later_of offset i) (drop i c) (rw length-drop h)))

  -- its first message, which stands after its length
  module _ {m : List ℕ} (whole : 2 + frame_size_of (drop i c) ≤ length (drop i c)) (is : m ≡ take (frame_size_of (drop i c)) (drop 2 (drop i c))) where
    abbrev frame : Frame
    frame = first_of (later_of offset i) (drop i c)

    abbrev pub line : List ℕ
    line = line_of (later_of offset (i + 2)) m

    line_is : line_at frame ≡ line
    line_is = rw (later_later offset i 2, is) refl

    size_is : frame_size_of (drop i c) ≡ length m
    size_is = rw is (sym (length-take-le (frame_size_of (drop i c)) (drop 2 (drop i c)) (rw length-drop (omega arith))))

    octets_are : length frame.octets ≡ length m
    octets_are = rw is

    all_there : i + 2 + length m ≤ length c
    all_there = let s = size_is in let d = rw length-drop at whole in omega arith

    turn : frames_of (later_of offset i) (drop i c) ≡ frame ∷ frames_of (later_of offset (i + 2 + length m)) (drop (i + 2 + length m) c)
    turn =
        let a : i + (2 + length m) ≡ i + 2 + length m = omega arith in
        frames_turn (later_of offset i) (drop i c) whole
        ∙ ap (λ (fs : List Frame). frame ∷ fs) (rw (size_is, later_later offset i (2 + length m), drop-drop (2 + length m) i c, a))

    pub stop_full : {b : Bar} {out' : List ℕ} → Written true k line out out' (Err b) → Digested c offset l out' (record { used = i; wrote = k })
    unfolding fitting
    stop_full w =
        let r = refused w in
        let n = ap length line_is in
        rw r.1 (stop g (rw turn (simp (lt-leb (length (line_at frame)) (length out - k) (omega (arith, g.room, r.0))))))

    module _ {e : ℕ} {out' : List ℕ} (w : Written true k line out out' (Ok e)) where
      as_long : length out' ≡ length out
      as_long = rw (took w).2 (length_placed k line out (took w).0)

      next : to_come c offset out i k ≡ frame ∷ to_come c offset out' (i + 2 + length m) e
      unfolding fitting
      next =
          let r = took w in
          let y = ap length line_is in
          let a = as_long in
          let left : length out - k - length (line_at frame) ≡ length out' - e = omega (arith, r.1) in
          rw turn (simp (le-leb (length (line_at frame)) (length out - k) (omega (arith, r.0)), left))

      then_placed : (q : List ℕ) → placed e q out' ≡ placed k (line_at frame ++ q) out
      then_placed q = let r = took w in rw (r.1, r.2, placed_then k line out r.0 q, line_is)

      pub go_on : Going c offset l out' (i + 2 + length m) e
      unfolding lines_of span_of
      go_on =
          let r = took w in
          let y = ap length line_is in
          let a = as_long in
          record {
            within = all_there;
            room = omega (arith, r.0, r.1);
            long = a ∙ g.long;
            used = omega (arith, octets_are, rw next at g.used);
            wrote = omega (arith, r.1, simp length-append at (rw next at g.wrote));
            buffer = then_placed (lines_of (to_come c offset out' (i + 2 + length m) e)) ∙ (rw next at g.buffer);
          }
