-- What is promised of the lines of a capture, over the definitions. Each statement is a type; `proofs/Promises.antt`
-- has its proof.
use Rattle.std.specs.Prelude.{ℕ, ◌/◌, ◌%◌, ◌<◌, ◌≤◌, List, [], ◌∷◌, ◌++◌, ◌≡◌, length, get_or, drop}
use Rattle.message_line.specs.Line.{line_of}
use Rattle.capture.specs.Frames.{Frame, frames_of, lines_of, span_of, worked_off, printed_of}
use Rattle.capture.specs.Margins.{later_of, first_line, last_line}

-- an offset of 64 bits
abbrev pub Offset : ℕ → Type 0
Offset offset = offset ≤ 18446744073709551615

-- GOES ON. A piece c of a capture was worked off into a buffer as far as it went, and what was not used of it is taken
-- up again with whatever comes after it: the messages, and their offsets, are those of the whole. So it does not matter
-- where the capture is cut into pieces, how long the pieces are, or how much room there is at a time.
abbrev pub GoesOn : Type 0
GoesOn =
    (c more l : List ℕ) (offset : ℕ) → Offset offset →
    frames_of offset (c ++ more) ≡ worked_off c offset l ++ frames_of (later_of offset (span_of (worked_off c offset l))) (drop (span_of (worked_off c offset l)) c ++ more)

-- A LINE EACH. Messages that are put end to end, each after its length in two octets, are found again, every one, in
-- order and octet for octet, and nothing is left over.
unfoldable pub end_to_end : List (List ℕ) → List ℕ
end_to_end [] = []
end_to_end (m ∷ ms) = ((length m / 256) ∷ (length m % 256) ∷ m) ++ end_to_end ms

unfoldable pub octets_in : List Frame → List (List ℕ)
octets_in [] = []
octets_in (f ∷ fs) = f.octets ∷ octets_in fs

pub record Each (ms : List (List ℕ)) (offset : ℕ) : Type 0 where
  pub messages : octets_in (frames_of offset (end_to_end ms)) ≡ ms
  pub all : span_of (frames_of offset (end_to_end ms)) ≡ length (end_to_end ms)

abbrev pub LineEach : Type 0
LineEach = (ms : List (List ℕ)) (offset : ℕ) → Each ms offset

-- BOUNDED. The line of a message of octets has at most 85 octets, the end of the line included: 20 for the offset, 64
-- for the columns after it. So a buffer of 85 octets takes at least one line, and a run in larger ones always goes on.
abbrev pub Octets : List ℕ → Type 0
Octets m = (i : ℕ) → get_or m i 0 < 256

abbrev pub Bounded : Type 0
Bounded = (m : List ℕ) (offset : ℕ) → Octets m → Offset offset → length (line_of offset m) ≤ 85

-- A RUN of the program: what it holds of a capture at an offset, what has yet to be read, what it prints from here on,
-- and how many octets are left at the end. It reads a part; or it prints what it can of what it holds into a buffer; or
-- the capture has ended and nothing could be printed of what it holds, though there was room for any line.
pub data Run : ℕ → List ℕ → List ℕ → List ℕ → ℕ → Type 0 where
  ended : (offset : ℕ) (held buffer : List ℕ) → 85 ≤ length buffer → span_of (worked_off held offset buffer) ≡ 0 → Run offset held [] [] (length held)
  reads : {offset : ℕ} (held part more : List ℕ) {text : List ℕ} {left : ℕ} → Run offset (held ++ part) more text left → Run offset held (part ++ more) text left
  prints :
      {offset : ℕ} (held more buffer : List ℕ) {text : List ℕ} {left : ℕ}
      → Run (later_of offset (span_of (worked_off held offset buffer))) (drop (span_of (worked_off held offset buffer)) held) more text left
      → Run offset held more (lines_of (worked_off held offset buffer) ++ text) left

-- WHOLE. However the reads fall, a run from nothing prints what is to be printed of the capture, and ends cut exactly
-- where the capture is.
abbrev pub WholeRun : Type 0
WholeRun = (capture text : List ℕ) (left : ℕ) → Octets capture → Run 0 [] capture text left → first_line ++ text ++ last_line left ≡ printed_of capture

-- ALWAYS. Whatever a run holds and whatever has yet to come, it can go on to an end: so every capture has a run.
pub record Runs (offset : ℕ) (held more : List ℕ) : Type 0 where
  pub text : List ℕ
  pub left : ℕ
  pub run : Run offset held more text left

abbrev pub Always : Type 0
Always = (offset : ℕ) (held more : List ℕ) → Offset offset → Runs offset held more
