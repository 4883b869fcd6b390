-- The user-user element of an event and its note.
use Rattle.std.specs.Prelude.{ℕ, ◌-◌, List, Bool, true, false, cond, ◌&&◌, length, get_or, leb, eqb}
use Rattle.user_element.specs.declared.Note.{Note}
use Rattle.user_element.specs.declared.Seen.{Seen}

abbrev pub least_element : ℕ
least_element = 3

abbrev pub user_user : ℕ
user_user = 126

-- the paper's number of each note
abbrev pub note_number_of : Note → ℕ
note_number_of Note.Clear = 0
note_number_of Note.Malformed = 1
note_number_of Note.TooLong = 2
note_number_of Note.NotCarried = 3

-- Note 1: "under 3 octets or not beginning 126 and its length less 2".
unfoldable pub well_formed_of : List ℕ → Bool
well_formed_of e =
    leb least_element (length e) && (eqb (get_or e 0 0) user_user && eqb (get_or e 1 0) (length e - 2))

-- "No octets at all is an absent element." Then note 1, then note 2: "over the limit".
unfoldable pub seen_of : List ℕ → ℕ → Seen
seen_of e limit =
    cond (eqb (length e) 0) Seen.Absent
    (cond (well_formed_of e) (cond (leb (length e) limit) Seen.Whole Seen.TooLong) Seen.Malformed)

abbrev pub whole_of : Seen → Bool
whole_of Seen.Absent = false
whole_of Seen.Malformed = false
whole_of Seen.TooLong = false
whole_of Seen.Whole = true

-- "0 none, 1 .., 2 .., 3 .. service 1 not in force, in SETUP not remaining, or the message not carried on; the first
-- that applies." carried says that the message goes on and that service 1 is in force, or remains.
abbrev pub noted_of : Seen → Bool → Note
noted_of Seen.Absent carried = Note.Clear
noted_of Seen.Malformed carried = Note.Malformed
noted_of Seen.TooLong carried = Note.TooLong
noted_of Seen.Whole carried = cond carried Note.Clear Note.NotCarried

-- "A noted element is dropped and the rest acted on"
unfoldable pub goes_out_of : Seen → Bool → Bool
goes_out_of s carried = whole_of s && carried
