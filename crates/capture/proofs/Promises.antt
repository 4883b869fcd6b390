-- The promises, and what they rest on.
use Prim.Native.Nat.{ℕ, zero, suc, ◌+◌, ◌-◌, ◌/◌, ◌%◌, ◌≤◌}
use mathlib.Core.List.{List, [], ◌∷◌, ◌++◌, append_assoc, append-nil}
use mathlib.Core.Bool.{Bool, true, false}
use mathlib.Core.Path.{◌≡◌, refl, ap, ◌∙◌}
use native.Mathlib.Omega.{arith}
use native.Mathlib.Nat.{div-add-mod'}
use borrow.Author.Tests.{ltb-true, ltb-false, leb-true, leb-false, le-leb}
use lib.Dec.{ltb, leb}
use lib.ListN.{length, take, drop, replicate, length-append, length-take, length-drop, get_or-eq_default}
use lib.Seq.{take-append_seam, drop-append_seam, drop-append-le, get_or-take, get_or-drop}
use Rattle.capture.specs.Frames.{Frame, frame_size_of, frames_of, line_at, lines_of, fitting, span_of, worked_off, printed_of}
use Rattle.capture.specs.Margins.{later_of}
use Rattle.capture.specs.Promises.{Offset, GoesOn, end_to_end, octets_in, LineEach, Octets, Run, WholeRun, Runs, Always}
use Rattle.capture.proofs.Framing.{first_of, frames_turn, frames_end}
use Rattle.capture.proofs.Bounds.{bounded}
use Rattle.capture.proofs.Fronts.{Front, front_of}

front : (c more l : List ℕ) (offset : ℕ) → Offset offset → Front c more offset (worked_off c offset l)
unfolding worked_off frames_of
front c more l offset h = front_of (length c) c more offset (length l) h

pub goes_on : GoesOn
goes_on c more l offset h = (front c more l offset h).frames

-- messages end to end
module _ (m rest : List ℕ) where
  abbrev whole : List ℕ
  whole = ((length m / 256) ∷ (length m % 256) ∷ m) ++ rest

  size_is : frame_size_of whole ≡ length m
  unfolding frame_size_of
  size_is = div-add-mod' (length m) 256

  each_turn : (offset : ℕ) → frames_of offset whole ≡ record { at = later_of offset 2; octets = m } ∷ frames_of (later_of offset (2 + length m)) rest
  each_turn offset =
      let t : 2 + length m ≡ suc (suc (length m)) = omega arith in
      frames_turn offset whole (rw (size_is, length-append m rest) (omega arith)) ∙ rw (size_is, take-append_seam m rest, t, drop-append_seam m rest)

none_left : (offset : ℕ) → frames_of offset [] ≡ []
none_left offset = frames_end offset [] (omega arith)

pub line_each_lem : LineEach
unfolding end_to_end octets_in span_of
line_each_lem [] offset = record { messages = rw (none_left offset); all = rw (none_left offset) }
line_each_lem (m ∷ ms) offset =
    let t = each_turn m (end_to_end ms) offset in
    let r = line_each_lem ms (later_of offset (2 + length m)) in
    record {
      messages = rw t (ap (λ (l : List (List ℕ)). m ∷ l) r.messages);
      all = rw (t, length-append m (end_to_end ms)) (omega (arith, r.all));
    }

-- the lines, and the octets, of messages after messages
lines_then : (fs gs : List Frame) → lines_of (fs ++ gs) ≡ lines_of fs ++ lines_of gs
unfolding lines_of
lines_then [] gs = refl
lines_then (f ∷ fs) gs = rw (lines_then fs gs, append_assoc)

span_then : (fs gs : List Frame) → span_of (fs ++ gs) ≡ span_of fs + span_of gs
unfolding span_of
span_then [] gs = omega arith
span_then (f ∷ fs) gs = omega (arith, span_then fs gs)

later_small : (offset n : ℕ) → Offset (later_of offset n)
unfolding later_of
later_small offset n = omega arith

-- a run, from wherever it stands
pub record Printed (offset : ℕ) (capture text : List ℕ) (left : ℕ) : Type 0 where
  pub lines : text ≡ lines_of (frames_of offset capture)
  pub rest : left ≡ length capture - span_of (frames_of offset capture)

either_way : {P : Type 0} (t : Bool) → (t ≡ true → P) → (t ≡ false → P) → P
either_way true h k = h refl
either_way false h k = k refl

-- octets of octets
part_octets : (c : List ℕ) (n k : ℕ) → Octets c → Octets (take n (drop k c))
part_octets c n k h i =
    either_way (ltb i n) (λ t. rw (get_or-take n (drop k c) i 0 (ltb-true i n t), get_or-drop k c i 0) (h (k + i)))
    (λ t. rw (get_or-eq_default (take n (drop k c)) 0 {n = i} (rw length-take (omega (arith, ltb-false i n t)))) (omega arith))

rest_octets : (c more : List ℕ) (n : ℕ) → n ≤ length c → Octets (c ++ more) → Octets (drop n c ++ more)
rest_octets c more n h o i = rw (← (drop-append-le n c more h), get_or-drop n (c ++ more) i 0) (o (n + i))

-- where there is room for any line and nothing is printed, there is no whole message
none_of : (fs : List Frame) → span_of fs ≡ 0 → fs ≡ []
unfolding span_of
none_of [] e = refl
none_of (f ∷ fs) e = absurd (omega arith)

stuck : (c l : List ℕ) (offset : ℕ) → Octets c → Offset offset → 85 ≤ length l → span_of (worked_off c offset l) ≡ 0 → frames_of offset c ≡ []
unfolding worked_off fitting
stuck c l offset h k r e =
    either_way (leb (2 + frame_size_of c) (length c))
    (λ t.
    let n = rw (frames_turn offset c (leb-true _ _ t)) at (none_of (fitting (frames_of offset c) (length l)) e) in
    let b = bounded (first_of offset c).octets (later_of offset 2) (part_octets c (frame_size_of c) 2 h) (later_small offset 2) in
    let m = simp (le-leb (length (line_at (first_of offset c))) (length l) (omega arith)) at n in
    let z : ◌≡◌ {A = ℕ} 0 1 = cc in
    absurd (omega arith))
    (λ t. frames_end offset c (leb-false _ _ t))

run : {offset : ℕ} {held more text : List ℕ} {left : ℕ} → Octets (held ++ more) → Offset offset → Run offset held more text left → Printed offset (held ++ more) text left
unfolding lines_of span_of
run o h (Run.ended offset held buffer room none) =
    let e = stuck held buffer offset (rw append-nil at o) h room none in
    record { lines = rw (append-nil held, e); rest = rw (append-nil held, e) (omega arith) }
run o h (Run.reads held part more r) = rw append_assoc at (run (rw append_assoc o) h r)
run {offset} o h (Run.prints held more buffer r) =
    let f = front held more buffer offset h in
    let w = f.within in
    let p = run (rest_octets held more (span_of (worked_off held offset buffer)) w o) (later_small offset (span_of (worked_off held offset buffer))) r in
    let n = rw (length-append, length-drop) at p.rest in
    record {
      lines = rw (f.frames, lines_then) (ap (λ (l : List ℕ). lines_of (worked_off held offset buffer) ++ l) p.lines);
      rest = rw (f.frames, span_then, length-append) (omega arith);
    }

pub whole_run : WholeRun
unfolding printed_of
whole_run capture text left o r =
    let p = run o (omega arith) r in
    rw (p.lines, p.rest)

-- in a buffer with room for any line, what it holds is worked off in as many turns as it has octets
abbrev room : List ℕ
room = replicate 85 0

abbrev span : ℕ → List ℕ → ℕ
span offset held = span_of (worked_off held offset room)

turn : (offset : ℕ) (held : List ℕ) → (1 ≤ span offset held → Runs (later_of offset (span offset held)) (drop (span offset held) held) []) → Runs offset held []
turn offset held then =
    either_way (leb 1 (span offset held))
    (λ t. record { text = _; left = _; run = Run.prints held [] room (then (leb-true 1 _ t)).run })
    (λ t. record { text = _; left = _; run = Run.ended offset held room (omega arith) (omega (arith, leb-false 1 (span offset held) t)) })

turns : (n offset : ℕ) (held : List ℕ) → length held ≤ n → Offset offset → Runs offset held []
turns zero offset held h o = turn offset held (λ u. absurd (omega (arith, (front held [] room offset o).within)))
turns (suc n) offset held h o = turn offset held (λ u. turns n _ _ (rw length-drop (omega arith)) (later_small offset _))

pub always : Always
always offset held more o =
    let r = turns (length (held ++ more)) offset (held ++ more) (omega arith) o in
    let all : Runs offset held (more ++ []) = record { text = _; left = _; run = Run.reads held more [] r.run } in
    rw append-nil at all
