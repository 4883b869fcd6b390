-- Readers that differ from ours in the shifts alone, and that what is demanded of reading shuts out;
-- `proofs/Others.antt` has a message for each.
use Rattle.std.specs.Prelude.{Result, Ok, Err, ℕ, List, [], ◌∷◌, Bool, true, false, cond, ◌&&◌, ◌≡◌, drop, leb}
use Rattle.message_fields.specs.declared.Reading.{Reading}
use Rattle.message_fields.specs.declared.Fault.{Fault}
use Rattle.elements.specs.Elements.{Element, Split, cut, whole, elements}
use Rattle.elements.specs.Meaning.{reading_of}
use Rattle.message.specs.Reading.{read_of}
use Rattle.octet_promises.specs.Ours.{start}
use Rattle.octet_promises.specs.ReadingDemands.{DemandsOfReading}

-- which octets are locking shifts, and which are non-locking ones
pub record Shifts : Type 0 where
  pub locks : ℕ → Bool
  pub shifts : ℕ → Bool

abbrev pub between : ℕ → ℕ → ℕ → Bool
between a b x = leb a x && leb x b

abbrev pub nowhere : ℕ → Bool
nowhere x = false

-- the elements that a scan looks at which goes by these
unfoldable pub counted_by : Shifts → Bool → List Element → List Element
counted_by t pass [] = []
counted_by t true (e ∷ es) = counted_by t false es
counted_by t false (e ∷ es) = cond (t.locks e.id) [] (cond (t.shifts e.id) (counted_by t true es) (e ∷ counted_by t false es))

-- what our reader takes, read again by these
abbrev pub again : Shifts → Result Reading Fault → Split → Result Reading Fault
again t (Err f) s = Err f
again t (Ok r) cut = Ok r
again t (Ok r) (whole es) = Ok (reading_of r.message.header (counted_by t false es))

unfoldable pub read_by : Shifts → List ℕ → Result Reading Fault
read_by t m = again t (read_of m) (elements (start m) 0 (drop (start m) m))

abbrev pub our_shifts : Shifts
our_shifts = record { locks = between 0x90 0x97; shifts = between 0x98 0x9F }

-- SHUT OUT. With the paper's octets it is our reader; with others it does not meet what is demanded.
pub record ShiftsBind : Type 0 where
  pub ours : (m : List ℕ) → read_by our_shifts m ≡ read_of m
  -- 92 to 97 are locking shifts
  pub fewer_lock : DemandsOfReading (read_by (record { locks = between 0x90 0x91; shifts = between 0x92 0x9F })) → ⊥
  -- "Reading 7E after a locking shift as ours"
  pub none_locks : DemandsOfReading (read_by (record { locks = nowhere; shifts = between 0x98 0x9F })) → ⊥
  -- 98 to 9F are non-locking shifts
  pub more_lock : DemandsOfReading (read_by (record { locks = between 0x90 0x98; shifts = between 0x99 0x9F })) → ⊥
  -- the element after a non-locking shift is passed over
  pub none_shifts : DemandsOfReading (read_by (record { locks = between 0x90 0x97; shifts = nowhere })) → ⊥
