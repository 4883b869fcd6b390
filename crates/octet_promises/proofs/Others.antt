-- Readers that go by other shifts are shut out, each by one message.
use Rattle.std.specs.Prelude.{Option, Some, None, Result, Ok, Err}
use Rattle.message_fields.specs.declared.Reading.{Reading}
use Rattle.message_fields.specs.declared.Fault.{Fault}
use Prim.Native.Nat.{ℕ}
use mathlib.Core.List.{List, [], ◌∷◌, ◌++◌}
use mathlib.Core.Bool.{Bool, true, false}
use mathlib.Core.Path.{◌≡◌, refl, ap}
use native.Mathlib.Omega.{arith}
use lib.ListN.{drop}
use Rattle.cause.specs.Element.{cause_of}
use Rattle.message_types.specs.Kind.{kind_of}
use Rattle.message_fields.specs.declared.Header.{Header}
use Rattle.elements.specs.Elements.{Element, Split, cut, whole, then, elements, counted}
use Rattle.elements.specs.Meaning.{first_cause, reading_of, taken_from}
use Rattle.message.specs.Reading.{header_of, headed_of, read_of}
use Rattle.octet_promises.specs.Ours.{start}
use Rattle.octet_promises.specs.ReadingDemands.{DemandsOfReading}
use Rattle.octet_promises.specs.OtherReaders.{counted_by, again, read_by, our_shifts, ShiftsBind}
use Rattle.octet_promises.proofs.Ways.{read_by_lem}
use Rattle.octet_promises.proofs.Decided.{decided}

-- with the paper's octets it is our reader
same_counted : (es : List Element) (b : Bool) → counted_by our_shifts b es ≡ counted b es
unfolding counted_by counted
same_counted [] true = refl
same_counted [] false = refl
same_counted (e ∷ es) true = same_counted es false
same_counted (e ∷ es) false = rw (same_counted es true, same_counted es false) refl

module _ (m : List ℕ) where
  -- what is taken is taken again
  abbrev Again : Result Reading Fault → Type 0
  Again r = again our_shifts r (elements (start m) 0 (drop (start m) m)) ≡ r

  again_split : (h : Header) (s : Split) → again our_shifts (taken_from h s) s ≡ taken_from h s
  unfolding taken_from reading_of
  again_split h cut = refl
  again_split h (whole es) = rw (same_counted es false) refl

  same_reader : read_by our_shifts m ≡ read_of m
  unfolding read_by
  same_reader = read_by_lem m Again (λ f. refl) (λ w k e i. again_split (header_of w m k) _)

-- a DISCONNECT with these octets before its Cause
abbrev cause_in : Result Reading Fault → Option ℕ
cause_in (Ok r) = r.message.cause
cause_in (Err f) = None

abbrev message : List ℕ → List ℕ
message before = 8 ∷ 1 ∷ 5 ∷ 0x45 ∷ (before ++ (0x08 ∷ 0x02 ∷ 0x82 ∷ 0x90 ∷ []))

-- two that differ on it
apart : (g : List ℕ → Result Reading Fault) (m : List ℕ) (v : ℕ) → cause_in (g m) ≡ Some v → cause_in (read_of m) ≡ None → DemandsOfReading g → ⊥
apart g m v a b p = let t = ap cause_in (decided g p m) in let z : ◌≡◌ {A = ℕ} 0 1 = cc in omega arith

apart_back : (g : List ℕ → Result Reading Fault) (m : List ℕ) (v : ℕ) → cause_in (g m) ≡ None → cause_in (read_of m) ≡ Some v → DemandsOfReading g → ⊥
apart_back g m v a b p = let t = ap cause_in (decided g p m) in let z : ◌≡◌ {A = ℕ} 0 1 = cc in omega arith

pub shifts_bind : ShiftsBind
unfolding read_by counted_by read_of headed_of kind_of elements then taken_from reading_of counted first_cause cause_of
shifts_bind =
    record {
      ours = same_reader;
      fewer_lock = apart _ (message (0x92 ∷ 0x80 ∷ [])) 16 refl refl;
      none_locks = apart _ (message (0x90 ∷ [])) 16 refl refl;
      more_lock = apart_back _ (message (0x98 ∷ 0x80 ∷ [])) 16 refl refl;
      none_shifts = apart _ (message (0x98 ∷ [])) 16 refl refl;
    }
