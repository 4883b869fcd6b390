-- A text of hexadecimal digits, and the octets that it spells: two digits an octet, the high one first, with white
-- space and comments anywhere between them.
use Rattle.std.specs.Prelude.{Option, Some, None, ℕ, ◌+◌, ◌-◌, ◌*◌, ◌%◌, List, [], ◌∷◌, ◌++◌, Bool, true, false, cond, not, ◌&&◌, ◌||◌, ◌≡◌, length, leb, eqb}
use Rattle.memory.specs.Room.{placed}
use Rattle.text.specs.declared.octets.Sign.{Sign}
use Rattle.text.specs.declared.octets.Reading.{Reading}
use Rattle.text.specs.declared.octets.Step.{Step}
use Rattle.text.specs.declared.octets.Spelt.{Spelt}

-- 0 to 9, A to F, a to f; space, tab, carriage return and line feed; and # which begins a comment
unfoldable pub sign_of : ℕ → Sign
sign_of x =
    cond (leb 48 x && leb x 57) (Sign.Digit (x - 48))
    (cond (leb 65 x && leb x 70) (Sign.Digit (x - 55))
    (cond (leb 97 x && leb x 102) (Sign.Digit (x - 87))
    (cond (eqb x 32 || eqb x 9 || eqb x 13 || eqb x 10) Sign.Blank
    (cond (eqb x 35) Sign.Hash Sign.Other))))

-- a digit: the high one of an octet, or the low one, with which the octet is whole
abbrev pub joined : Option ℕ → ℕ → Step
joined None d = Step.On (record { pending = Some d; comment = false })
joined (Some h) d = Step.Whole (h % 16 * 16 + d % 16)

abbrev pub outside_comment : Option ℕ → Sign → Step
outside_comment p (Sign.Digit d) = joined p d
outside_comment p Sign.Blank = Step.On (record { pending = p; comment = false })
outside_comment p Sign.Hash = Step.On (record { pending = p; comment = true })
outside_comment p Sign.Other = Step.Fault

-- one octet of the text; a comment goes on to the line feed
unfoldable pub step_of : Reading → ℕ → Step
step_of s x =
    cond s.comment (Step.On (record { pending = s.pending; comment = not (eqb x 10) }))
    (outside_comment s.pending (sign_of x))

-- before any text
abbrev pub unread_of : Reading
unread_of = record { pending = None; comment = false }

-- what is read of a text: how much of it, the octets, where reading then stands, and whether there is a fault
pub record Spelling : Type 0 where
  pub used : ℕ
  pub octets : List ℕ
  pub reading : Reading
  pub fault : Bool

-- so much of the text and its octets, and then what is read of the rest
abbrev pub after : ℕ → List ℕ → Spelling → Spelling
after i w r = record { used = i + r.used; octets = w ++ r.octets; reading = r.reading; fault = r.fault }

abbrev pub stopped : Reading → Bool → Spelling
stopped s f = record { used = 0; octets = []; reading = s; fault = f }

abbrev pub by_step : Step → Spelling → (Reading → Spelling) → (ℕ → Spelling) → Spelling
by_step (Step.On s) f on whole = on s
by_step (Step.Whole x) f on whole = whole x
by_step Step.Fault f on whole = f

-- octet by octet, from where reading stands, with room for so many; it ends at a fault, and before an octet that has no
-- room
unfoldable pub read_of : List ℕ → ℕ → Reading → Spelling
read_of [] room s = stopped s false
read_of (x ∷ t) room s =
    by_step (step_of s x) (stopped s true) (λ (r : Reading). after 1 [] (read_of t room r))
    (λ (y : ℕ). cond (leb 1 room) (after 1 (y ∷ []) (read_of t (room - 1) unread_of)) (stopped s false))

-- a high digit whose low one never came
abbrev pub alone_of : Option ℕ → Bool
alone_of None = false
alone_of (Some h) = true

abbrev pub answer_of : Spelling → Spelt
answer_of w = record { used = w.used; wrote = length w.octets; reading = w.reading; fault = w.fault }

-- the answer r, and the buffer l' that is left, where a text was read into the buffer l
pub record Spells (text : List ℕ) (s : Reading) (l l' : List ℕ) (r : Spelt) : Type 0 where
  pub answer : r ≡ answer_of (read_of text (length l) s)
  pub buffer : l' ≡ placed 0 (read_of text (length l) s).octets l
