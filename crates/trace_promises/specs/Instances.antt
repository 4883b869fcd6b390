-- HasRun that there are: a trace that is cut in two inside a record, and ends inside another.
use Rattle.std.specs.Prelude.{ℕ, List, [], ◌∷◌, ◌++◌, Bool, true, false, ◌≡◌, replicate}
use Rattle.trace_run.specs.Course.{Course, lines}
use Rattle.trace_promises.specs.WholeRun.{places, printed_of, Octets, Run}
use Rattle.trace_promises.specs.Heeded.{said_of}

-- SETUP of reference 5, rights 7 0 0 131 2 1, service 3 preferred, without an element; and the first octet of a tick
abbrev pub one_part : List ℕ
one_part = (1 ∷ 0 ∷ 5 ∷ 7 ∷ 0 ∷ 0 ∷ 131 ∷ 2 ∷ 1 ∷ 0 ∷ 0 ∷ 1 ∷ replicate 132 0) ++ (8 ∷ [])

-- the tick's reference, and the first octet of a RELEASE COMPLETE
abbrev pub other_part : List ℕ
other_part = 0 ∷ 5 ∷ 7 ∷ []

-- `1 5 0 0 02 05`
abbrev pub setup_line : List ℕ
setup_line = 49 ∷ 32 ∷ 53 ∷ 32 ∷ 48 ∷ 32 ∷ 48 ∷ 32 ∷ 48 ∷ 50 ∷ 32 ∷ 48 ∷ 53 ∷ []

-- `8 5 0 0 - -`: taken, so the table is the one that SETUP left
abbrev pub tick_line : List ℕ
tick_line = 56 ∷ 32 ∷ 53 ∷ 32 ∷ 48 ∷ 32 ∷ 48 ∷ 32 ∷ 45 ∷ 32 ∷ 45 ∷ []

-- `8 5 23 0 - -`: no call has that reference
abbrev pub strange_line : List ℕ
strange_line = 56 ∷ 32 ∷ 53 ∷ 32 ∷ 50 ∷ 51 ∷ 32 ∷ 48 ∷ 32 ∷ 45 ∷ 32 ∷ 45 ∷ []

-- ` bare 3.p` and ` - -`, where messages are explained
abbrev pub setup_says : List ℕ
setup_says = 32 ∷ 98 ∷ 97 ∷ 114 ∷ 101 ∷ 32 ∷ 51 ∷ 46 ∷ 112 ∷ []

abbrev pub tick_says : List ℕ
tick_says = 32 ∷ 45 ∷ 32 ∷ 45 ∷ []

-- `error 32`
abbrev pub cut_line : List ℕ
cut_line = 101 ∷ 114 ∷ 114 ∷ 111 ∷ 114 ∷ 32 ∷ 51 ∷ 50 ∷ []

abbrev pub end_line : List ℕ
end_line = 10 ∷ []

abbrev pub three_lines : Bool → List ℕ
three_lines false = setup_line ++ end_line ++ tick_line ++ end_line ++ cut_line ++ end_line
three_lines true = setup_line ++ setup_says ++ end_line ++ tick_line ++ tick_says ++ end_line ++ cut_line ++ end_line

-- `kind ref answer note calling called`, ended
abbrev pub first_octets : List ℕ
first_octets =
    107 ∷ 105 ∷ 110 ∷ 100 ∷ 32 ∷ 114 ∷ 101 ∷ 102 ∷ 32 ∷ 97 ∷ 110 ∷ 115 ∷ 119 ∷ 101 ∷ 114 ∷ 32
    ∷ 110 ∷ 111 ∷ 116 ∷ 101 ∷ 32 ∷ 99 ∷ 97 ∷ 108 ∷ 108 ∷ 105 ∷ 110 ∷ 103 ∷ 32 ∷ 99 ∷ 97 ∷ 108 ∷ 108 ∷ 101 ∷ 100 ∷ 10 ∷ []

-- SETUP of reference 5 with the same rights, no request, and an element of two octets, which has note 1:
-- `1 5 0 1 02 05`
abbrev pub noted_setup : List ℕ
noted_setup = 1 ∷ 0 ∷ 5 ∷ 7 ∷ 0 ∷ 0 ∷ 131 ∷ 2 ∷ 1 ∷ 0 ∷ 0 ∷ 0 ∷ 2 ∷ 126 ∷ replicate 130 0

abbrev pub noted_line : List ℕ
noted_line = 49 ∷ 32 ∷ 53 ∷ 32 ∷ 48 ∷ 32 ∷ 49 ∷ 32 ∷ 48 ∷ 50 ∷ 32 ∷ 48 ∷ 53 ∷ 10 ∷ []

-- RELEASE COMPLETE of side 2
abbrev pub wrong_side : List ℕ
wrong_side = 7 ∷ 0 ∷ 5 ∷ 2 ∷ []

-- `error 31` and `error 33`
abbrev pub error_line : ℕ → List ℕ
error_line digit = 101 ∷ 114 ∷ 114 ∷ 111 ∷ 114 ∷ 32 ∷ 51 ∷ digit ∷ 10 ∷ []

-- behind a tick: `record 2 at octet 3: side is out of range`
abbrev pub side_words : List ℕ
side_words =
    114 ∷ 101 ∷ 99 ∷ 111 ∷ 114 ∷ 100 ∷ 32 ∷ 50 ∷ 32 ∷ 97 ∷ 116 ∷ 32 ∷ 111 ∷ 99 ∷ 116 ∷ 101 ∷ 116 ∷ 32 ∷ 51 ∷ 58 ∷ 32
    ∷ 115 ∷ 105 ∷ 100 ∷ 101 ∷ 32 ∷ 105 ∷ 115 ∷ 32 ∷ 111 ∷ 117 ∷ 116 ∷ 32 ∷ 111 ∷ 102 ∷ 32 ∷ 114 ∷ 97 ∷ 110 ∷ 103 ∷ 101 ∷ 10 ∷ []

-- a run of a trace, from nothing and 32 fresh places
pub record RunOf (explained : Bool) (trace text : List ℕ) : Type 0 where
  pub made : Course
  pub run : Run (lines explained) false places [] trace text made

-- MET. For both programs there is a run of that trace. So there is of a tick alone, of no octets at all, which prints
-- nothing but the first line, of a SETUP whose element has a note, and of an unknown kind and a field out of range, of
-- which standard error has the place.
pub record TraceMet : Type 0 where
  pub octets : Octets (one_part ++ other_part ++ [])
  pub replays : RunOf false (one_part ++ other_part ++ []) (three_lines false)
  pub explains : RunOf true (one_part ++ other_part ++ []) (three_lines true)
  pub strange : RunOf false (8 ∷ 0 ∷ 5 ∷ []) (strange_line ++ end_line)
  pub empty : RunOf false [] []
  pub first : printed_of false [] ≡ first_octets
  pub noted : RunOf false noted_setup noted_line
  pub unknown : RunOf false (9 ∷ []) (error_line 49)
  pub ranged : RunOf false wrong_side (error_line 51)
  pub said : said_of (8 ∷ 0 ∷ 5 ∷ wrong_side) ≡ side_words
