-- A capture: messages end to end, each after its length in two octets, high octet first.
use Rattle.std.specs.Prelude.{ℕ, zero, suc, ◌+◌, ◌-◌, ◌*◌, List, [], ◌∷◌, ◌++◌, cond, ◌≡◌, length, get_or, take, drop, leb}
use Rattle.memory.specs.Room.{placed}
use Rattle.capture.specs.declared.frames.Done.{Done}
use Rattle.message_line.specs.Line.{line_of}
use Rattle.capture.specs.Margins.{later_of, first_line, last_line}

-- a message, and the offset of its first octet
pub record Frame : Type 0 where
  pub at : ℕ
  pub octets : List ℕ

-- the length that a capture begins with
unfoldable pub frame_size_of : List ℕ → ℕ
frame_size_of c = get_or c 0 0 * 256 + get_or c 1 0

-- the whole messages at the front of a piece of capture that starts at an offset: the first of them, and at most k - 1
-- more
unfoldable pub frames_in : ℕ → ℕ → List ℕ → List Frame
frames_in zero offset c = []
frames_in (suc k) offset c =
    cond (leb (2 + frame_size_of c) (length c))
    (record { at = later_of offset 2; octets = take (frame_size_of c) (drop 2 c) } ∷ frames_in k (later_of offset (2 + frame_size_of c)) (drop (2 + frame_size_of c) c))
    []

-- all of them: there are no more messages than octets
unfoldable pub frames_of : ℕ → List ℕ → List Frame
frames_of offset c = frames_in (length c) offset c

abbrev pub line_at : Frame → List ℕ
line_at f = line_of f.at f.octets

-- then a line a message
unfoldable pub lines_of : List Frame → List ℕ
lines_of [] = []
lines_of (f ∷ fs) = line_at f ++ lines_of fs

-- the first of them, as many as have lines that fit into so many octets
unfoldable pub fitting : List Frame → ℕ → List Frame
fitting [] room = []
fitting (f ∷ fs) room = cond (leb (length (line_at f)) room) (f ∷ fitting fs (room - length (line_at f))) []

-- how many octets of the capture they are, with their lengths
unfoldable pub span_of : List Frame → ℕ
span_of [] = 0
span_of (f ∷ fs) = 2 + length f.octets + span_of fs

-- what is worked off of a piece of capture that starts at an offset, into a buffer l
unfoldable pub worked_off : List ℕ → ℕ → List ℕ → List Frame
worked_off c offset l = fitting (frames_of offset c) (length l)

-- the answer r, and the buffer l' that is left: the lines, and after them the octets that stood there
pub record Digested (c : List ℕ) (offset : ℕ) (l l' : List ℕ) (r : Done) : Type 0 where
  pub used : r.used ≡ span_of (worked_off c offset l)
  pub wrote : r.wrote ≡ length (lines_of (worked_off c offset l))
  pub buffer : l' ≡ placed 0 (lines_of (worked_off c offset l)) l

-- what is printed of a whole capture; An empty capture prints the first line alone.
unfoldable pub printed_of : List ℕ → List ℕ
printed_of c = first_line ++ lines_of (frames_of 0 c) ++ last_line (length c - span_of (frames_of 0 c))
