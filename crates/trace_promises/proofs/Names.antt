-- The promise on the field that a faulty record names, kept.
use Rattle.std.specs.Prelude.{Option, Some, None, Result, Ok, Err}
use Rattle.trace.specs.declared.Entry.{Entry}
use Prim.Native.Nat.{ℕ}
use mathlib.Core.List.{List}
use mathlib.Core.Bool.{Bool, true, false, cond}
use mathlib.Core.Path.{◌≡◌, refl, ap}
use native.Mathlib.Omega.{arith}
use borrow.Author.Tests.{ltb-false}
use lib.ListN.{length, get_or}
use lib.Dec.{ltb, eqb}
use Rattle.trace.specs.declared.kind.RecordKind.{RecordKind}
use Rattle.trace.specs.declared.Fault.{Fault}
use Rattle.trace.specs.declared.Field.{Field}
use Rattle.trace.specs.Kind.{record_kind_of, layout_of, size_of}
use Rattle.trace.specs.Ranges.{first_out_of}
use Rattle.trace.specs.Reading.{entry_of, whole_of, named_of, record_of}
use Rattle.trace_promises.specs.Records.{record_number}
use Rattle.trace_promises.specs.Names.{FirstOut, fields_of, Names}
use Rattle.trace_promises.proofs.Ranged.{first_out}

-- the field that is named
abbrev field_in : Option (Result Entry Fault) → Field
field_in None = Field.Late
field_in (Some (Ok e)) = Field.Late
field_in (Some (Err Fault.Kind)) = Field.Late
field_in (Some (Err Fault.Short)) = Field.Late
field_in (Some (Err (Fault.Range f))) = f

module _ (t : List ℕ) (f : Field) where
  of_kind : (k : RecordKind) (a : Bool) (x : Option Field) → ltb (length t) (size_of k) ≡ a → first_out_of (layout_of k) t ≡ x → cond a (Some (Err Fault.Short)) (whole_of x (entry_of k t)) ≡ Some (Err (Fault.Range f)) → FirstOut (fields_of k t) f
  of_kind k true x s r h = absurd (let z : ◌≡◌ {A = ℕ} 32 33 = ap record_number h in omega arith)
  of_kind k false None s r h = absurd (let z : ◌≡◌ {A = ℕ} 0 33 = ap record_number h in omega arith)
  of_kind k false (Some g) s r h =
      let e : g ≡ f = ap field_in h in
      rw e at (first_out t k (ltb-false (length t) (size_of k) s) g r)

  at_front : (k : RecordKind) (b : Bool) → record_kind_of (get_or t 0 0) ≡ Some k → cond b None (named_of (record_kind_of (get_or t 0 0)) t) ≡ Some (Err (Fault.Range f)) → FirstOut (fields_of k t) f
  at_front k true e h = absurd (let z : ◌≡◌ {A = ℕ} 0 33 = ap record_number h in omega arith)
  at_front k false e h = of_kind k (ltb (length t) (size_of k)) (first_out_of (layout_of k) t) refl refl (rw e at h)

pub names : Names
unfolding record_of
names t k f e h = at_front t f k (eqb (length t) 0) e h
