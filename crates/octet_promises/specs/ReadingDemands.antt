-- What is demanded of any reader, whatever it is made of. `our-reading` in `proofs/Behind.antt` proves what is said of
-- ours.
use Rattle.std.specs.Prelude.{Some, None, Result, Ok, ℕ, ◌+◌, ◌*◌, ◌%◌, ◌<◌, ◌≤◌, List, [], ◌∷◌, Bool, true, false, ◌≡◌, get_or, take, drop}
use Rattle.message_fields.specs.declared.Fault.{Fault}
use Rattle.message_types.specs.declared.Kind.{Kind}
use Rattle.message_fields.specs.declared.Width.{Width}
use Rattle.message_fields.specs.declared.Header.{Header}
use Rattle.message_fields.specs.declared.Reading.{Reading}
use Rattle.message_fields.specs.Numbers.{read_number}
use Rattle.message.specs.Reading.{read_of}
use Rattle.message.specs.Parts.{place_in}
use Rattle.octet_promises.specs.Promises.{IsKind, Numbers}
use Rattle.octet_promises.specs.Ours.{Ends, Locking, NonLocking, Ours, GivesCause, GivesSingle, GivesFacilities, GivesPlace}

-- "A message is 08, the reference length (1 or 2), the reference (its top bit is the flag, given back apart), the type,
-- the elements.": of the reference's octets the first stands at place 2, and of two the second at place 3
pub data HasReference (m : List ℕ) : Width → ℕ → Type 0 where
  one : get_or m 1 0 ≡ 1 → HasReference m Width.One (get_or m 2 0 % 128)
  two : get_or m 1 0 ≡ 2 → HasReference m Width.Two (get_or m 2 0 % 128 * 256 + get_or m 3 0)

pub data HasFlag (m : List ℕ) : Bool → Type 0 where
  set : 0x80 ≤ get_or m 2 0 → HasFlag m true
  clear : get_or m 2 0 < 0x80 → HasFlag m false

pub record HasHeader (m : List ℕ) (h : Header) : Type 0 where
  pub reference : HasReference m h.width h.reference
  pub flag : HasFlag m h.flag
  pub kind : IsKind (get_or m (get_or m 1 0 + 2) 0) h.kind

-- what is given back of a message that is taken
pub record Gives (m : List ℕ) (r : Reading) : Type 0 where
  pub header : HasHeader m r.message.header
  pub single : GivesSingle m r.message.header.kind r.message.single
  pub cause : GivesCause m r.message.cause
  pub facility : GivesFacilities m r.message.facility
  pub user : GivesPlace m r.user

pub record DemandsOfReading (g : List ℕ → Result Reading Fault) : Type 0 where
  pub numbers : Numbers g
  pub gives : (m : List ℕ) (r : Reading) → g m ≡ Ok r → Gives m r

-- what each of these says of a message is one thing at most
abbrev pub AtMostOne : {A : Type 0} → (A → Type 0) → Type 0
AtMostOne {A} P = (a b : A) → P a → P b → a ≡ b

pub record EachOne (m : List ℕ) : Type 0 where
  pub header : AtMostOne (HasHeader m)
  pub single : (k : Kind) → AtMostOne (GivesSingle m k)
  pub cause : AtMostOne (GivesCause m)
  pub facility : AtMostOne (GivesFacilities m)
  pub user : AtMostOne (GivesPlace m)
  pub all : AtMostOne (Gives m)

-- BEHIND A LOCK. What stands behind a locking shift that counts changes nothing but whether the lengths are right: two
-- messages that are the same up to it, and are both taken, give the same.
abbrev pub BehindLock : (List ℕ → Result Reading Fault) → Type 0
BehindLock g =
    (m n : List ℕ) (p : ℕ) (r s : Reading) →
    Ours m p → Locking (get_or m p 0) → take (p + 1) m ≡ take (p + 1) n → g m ≡ Ok r → g n ≡ Ok s → r ≡ s

-- BEHIND A SHIFT. The element after a non-locking shift that counts changes nothing: two messages that are the same up
-- to the shift and from that element's end on, and are both taken, give the same.
abbrev pub BehindShift : (List ℕ → Result Reading Fault) → Type 0
BehindShift g =
    (m n : List ℕ) (p q : ℕ) (r s : Reading) →
    Ours m p → NonLocking (get_or m p 0) → take (p + 1) m ≡ take (p + 1) n →
    Ends m (p + 1) q → Ends n (p + 1) q → drop q m ≡ drop q n →
    g m ≡ Ok r → g n ≡ Ok s → r ≡ s

-- MET. Messages that these two speak of: a DISCONNECT with a shift, then an element x, then a User-user element.
abbrev pub behind_of : ℕ → ℕ → List ℕ
behind_of shift x = 8 ∷ 1 ∷ 5 ∷ 0x45 ∷ shift ∷ x ∷ 1 ∷ 0x84 ∷ 0x7E ∷ 1 ∷ 4 ∷ []

pub record ReadingMet : Type 0 where
  pub counts : (shift x : ℕ) → Ours (behind_of shift x) 4
  pub ends : (shift x : ℕ) → x < 0x80 → Ends (behind_of shift x) 5 8
  pub lock : (place_in (read_of (behind_of 0x90 0x08)) ≡ None) × (read_number (read_of (behind_of 0x90 0x08)) ≡ 0)
  pub other_lock : (place_in (read_of (behind_of 0x97 0x7E)) ≡ None) × (read_number (read_of (behind_of 0x97 0x7E)) ≡ 0)
  pub shift : place_in (read_of (behind_of 0x98 0x08)) ≡ Some (record { at = 8; size = 3 })
  pub other_shift : place_in (read_of (behind_of 0x9F 0x7E)) ≡ Some (record { at = 8; size = 3 })

-- OUR READER meets what is demanded of reading, and it is the only one.
pub record OurReading : Type 0 where
  pub meets : DemandsOfReading read_of
  pub decided : (g : List ℕ → Result Reading Fault) → DemandsOfReading g → (m : List ℕ) → g m ≡ read_of m
  pub one : (m : List ℕ) → EachOne m
  pub lock : (g : List ℕ → Result Reading Fault) → DemandsOfReading g → BehindLock g
  pub shift : (g : List ℕ → Result Reading Fault) → DemandsOfReading g → BehindShift g
  pub met : ReadingMet
