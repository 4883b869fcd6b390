-- What is promised of reading and writing, over the definitions. Each statement is a type; `proofs/Promises.antt` has
-- its proof.
use Rattle.std.specs.Prelude.{Option, Some, None, Result, Ok, ℕ, ◌+◌, ◌<◌, ◌≤◌, List, [], ◌∷◌, ◌++◌, ◌⊎◌, true, ◌≡◌, length, get_or, take, drop}
use Rattle.memory.specs.declared.Bar.{Bar}
use Rattle.message_fields.specs.declared.Reading.{Reading}
use Rattle.message_fields.specs.declared.Fault.{Fault}
use Rattle.message_fields.specs.declared.Place.{Place}
use Rattle.logic.specs.First.{Rows, end, row, Exactly}
use Rattle.memory.specs.Room.{wrote_of, left_of}
use Rattle.facility.specs.Facility.{invoke_number}
use Rattle.memory.specs.Numbers.{wrote_number}
use Rattle.message_types.specs.declared.Kind.{Kind}
use Rattle.message_fields.specs.declared.Width.{Width}
use Rattle.message_fields.specs.declared.Single.{Single}
use Rattle.message_fields.specs.declared.Facilities.{Facilities}
use Rattle.message_fields.specs.declared.Message.{Message}
use Rattle.message.specs.Reading.{read_of}
use Rattle.message.specs.Parts.{place_in, user_user_of}
use Rattle.writer.specs.Fitting.{message_fits}
use Rattle.writer.specs.Writing.{front_octets, message_octets}
use Rattle.message_fields.specs.Numbers.{read_number}
use Rattle.user_element.specs.Writable.{UserElement}

-- READS. Octets that are whole elements, one after another.
pub data Whole : List ℕ → Type 0 where
  none : Whole []
  alone : {x : ℕ} {l : List ℕ} → 0x80 ≤ x → Whole l → Whole (x ∷ l)
  announced : {x : ℕ} (b l : List ℕ) → x < 0x80 → Whole l → Whole (x ∷ length b ∷ (b ++ l))

-- "Nine types, hexadecimal: ALERTING 01, CALL PROCEEDING 02, SETUP 05, CONNECT 07, USER INFORMATION 20, DISCONNECT 45,
-- RELEASE COMPLETE 5A, FACILITY 62, CONGESTION CONTROL 79."
pub data IsKind : ℕ → Kind → Type 0 where
  alerting : IsKind 0x01 Kind.Alerting
  proceeding : IsKind 0x02 Kind.CallProceeding
  setup : IsKind 0x05 Kind.Setup
  connect : IsKind 0x07 Kind.Connect
  information : IsKind 0x20 Kind.UserInformation
  disconnect : IsKind 0x45 Kind.Disconnect
  complete : IsKind 0x5A Kind.ReleaseComplete
  facility : IsKind 0x62 Kind.Facility
  congestion : IsKind 0x79 Kind.CongestionControl

-- The table's numbers 1 to 5: "Reading gives 2 first, then the first fault from left to right." A message announces its
-- protocol octet, its reference length, then its reference and type, and in each element its length and that many
-- octets.
abbrev pub read_rows : List ℕ → Rows
read_rows m =
    row (260 < length m) 2
    (row (length m < 1) 1
    (row (get_or m 0 0 ≡ 8 → ⊥) 3
    (row (length m < 2) 1
    (row ((get_or m 1 0 ≡ 1 → ⊥) × (get_or m 1 0 ≡ 2 → ⊥)) 4
    (row (length m < get_or m 1 0 + 3) 1
    (row ((k : Kind) → IsKind (get_or m (get_or m 1 0 + 2) 0) k → ⊥) 5
    (row (Whole (drop (get_or m 1 0 + 3) m) → ⊥) 1 end)))))))

-- for every octet string exactly one of 0 to 5, and each exactly when the table says: of any reader, and of ours
abbrev pub Numbers : (List ℕ → Result Reading Fault) → Type 0
Numbers g = (m : List ℕ) → Exactly (read_rows m) (read_number (g m))

abbrev pub Reads : Type 0
Reads = Numbers read_of

-- THE ELEMENT. Where a user-user element is given back, it lies in the message, begins 7E, and its length octet counts
-- the octets after the first two: it is whole, and no octet of it is lost.
pub record Element (m : List ℕ) (p n : ℕ) : Type 0 where
  pub within : p + n ≤ length m
  pub first : get_or m p 0 ≡ 0x7E
  pub second : get_or m (p + 1) 0 + 2 ≡ n
  pub octets : user_user_of m ≡ take n (drop p m)

abbrev pub WholeElement : Type 0
WholeElement = (m : List ℕ) (p n : ℕ) → place_in (read_of m) ≡ Some (record { at = p; size = n }) → Element m p n

-- WRITES. What is in range, in the paper's words.
abbrev pub highest : Width → ℕ
highest Width.One = 127
highest Width.Two = 32767

abbrev pub SingleIn : Kind → Single → Type 0
SingleIn Kind.Alerting s = s ≡ Single.Absent
SingleIn Kind.CallProceeding s = s ≡ Single.Absent
SingleIn Kind.Setup s = s ≡ Single.Absent
SingleIn Kind.Connect s = s ≡ Single.Absent
SingleIn Kind.UserInformation s = (s ≡ Single.Absent) ⊎ (s ≡ Single.MoreData)
SingleIn Kind.Disconnect s = s ≡ Single.Absent
SingleIn Kind.ReleaseComplete s = s ≡ Single.Absent
SingleIn Kind.Facility s = s ≡ Single.Absent
SingleIn Kind.CongestionControl s = (s ≡ Single.Ready) ⊎ (s ≡ Single.NotReady)

abbrev pub CauseIn : Option ℕ → Type 0
CauseIn None = Unit {0}
CauseIn (Some v) = v ≤ 127

abbrev pub FacilitiesIn : Facilities → Type 0
FacilitiesIn Facilities.Zero = Unit {0}
FacilitiesIn (Facilities.One a) = invoke_number a ≤ 127
FacilitiesIn (Facilities.Two a b) = (invoke_number a ≤ 127) × (invoke_number b ≤ 127)
FacilitiesIn (Facilities.Three a b c) = (invoke_number a ≤ 127) × (invoke_number b ≤ 127) × (invoke_number c ≤ 127)

pub record InRange (w : Message) (u : List ℕ) : Type 0 where
  pub reference : w.header.reference ≤ highest w.header.width
  pub single : SingleIn w.header.kind w.single
  pub cause : CauseIn w.cause
  pub facility : FacilitiesIn w.facility
  pub user : (length u ≡ 0) ⊎ UserElement u

-- what the writer answers, and what it leaves of a buffer
abbrev pub answer_of : Message → List ℕ → List ℕ → Result ℕ Bar
answer_of w u l = wrote_of (message_fits w u) 0 (message_octets w u) l

abbrev pub buffer_of : Message → List ℕ → List ℕ → List ℕ
buffer_of w u l = left_of (message_fits w u) 0 (message_octets w u) l

-- the table's numbers 6 and 7: "Writing gives 7 before 6."
abbrev pub write_rows : Message → List ℕ → List ℕ → Rows
write_rows w u l = row (InRange w u → ⊥) 7 (row (length l < length (message_octets w u)) 6 end)

-- "Numbers 1 to 7 write nothing in any lent buffer; a written message leaves the octets after it unchanged."
pub record Write (w : Message) (u l : List ℕ) : Type 0 where
  pub number : Exactly (write_rows w u l) (wrote_number (answer_of w u l))
  pub refused : (wrote_number (answer_of w u l) ≡ 0 → ⊥) → buffer_of w u l ≡ l
  pub taken : wrote_number (answer_of w u l) ≡ 0 → buffer_of w u l ≡ message_octets w u ++ drop (length (message_octets w u)) l

abbrev pub Writes : Type 0
Writes = (w : Message) (u l : List ℕ) → Write w u l

-- ROUND TRIP. For every message that the writer accepts and every buffer, whatever octets it held: reading the octets
-- that were written gives the same message, with the place of its element, and the same element octet for octet.
abbrev pub place_for : Message → List ℕ → Option Place
place_for w [] = None
place_for w (x ∷ xs) = Some (record { at = (length (front_octets w)); size = (length (x ∷ xs)) })

pub record Back (w : Message) (u m : List ℕ) : Type 0 where
  pub message : read_of m ≡ Ok (record { message = w; user = place_for w u })
  pub element : user_user_of m ≡ u

abbrev pub RoundTrip : Type 0
RoundTrip = (w : Message) (u l : List ℕ) (n : ℕ) → answer_of w u l ≡ Ok n → Back w u (take n (buffer_of w u l))

-- ALIKE. Of two messages that are written the same, the messages are the same, and so are their elements.
abbrev pub Alike : Type 0
Alike =
    (w w' : Message) (u u' : List ℕ) →
    message_fits w u ≡ true → message_fits w' u' ≡ true → message_octets w u ≡ message_octets w' u' → (w ≡ w') × (u ≡ u')
