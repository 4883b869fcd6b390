-- The promises on records, kept.
use Rattle.std.specs.Prelude.{Option, Some, None, Err}
use Rattle.trace.specs.declared.Field.{Field}
use Prim.Native.Nat.{ℕ, ◌+◌, ◌≤◌}
use mathlib.Core.List.{List}
use mathlib.Core.Bool.{Bool, true, false, cond}
use mathlib.Core.Logic.{inl, inr}
use mathlib.Core.Path.{◌≡◌, refl, ◌∙◌}
use native.Mathlib.Omega.{arith}
use borrow.Author.Tests.{ltb-true, ltb-false, eqb-true, eqb-false}
use lib.ListN.{length, get_or}
use lib.Dec.{ltb, eqb}
use Rattle.logic.specs.First.{First}
use Rattle.logic.proofs.Only.{exactly}
use Rattle.trace.specs.declared.kind.RecordKind.{RecordKind}
use Rattle.trace.specs.declared.Fault.{Fault}
use Rattle.trace.specs.Kind.{record_kind_of, layout_of, size_of}
use Rattle.trace.specs.Ranges.{first_out_of}
use Rattle.trace.specs.Reading.{entry_of, whole_of, named_of, record_of}
use Rattle.trace_promises.specs.Records.{record_number, body_of, record_rows, Records}
use Rattle.trace_promises.proofs.Ranged.{in_range_lem, not_in_range}

-- the layout has the paper's bodies
size_is : (k : RecordKind) → size_of k ≡ 1 + body_of k
size_is RecordKind.Setup = refl
size_is RecordKind.Alerting = refl
size_is RecordKind.Connect = refl
size_is RecordKind.Information = refl
size_is RecordKind.Facility = refl
size_is RecordKind.Disconnect = refl
size_is RecordKind.ReleaseComplete = refl
size_is RecordKind.Tick = refl

-- RECORDS, by what is known of the trace's front
module _ (t : List ℕ) where
  some : (n : Option RecordKind) (k : RecordKind) → record_kind_of (get_or t 0 0) ≡ n → n ≡ Some k → (a : Bool) (x : Option Field) → ltb (length t) (size_of k) ≡ a → first_out_of (layout_of k) t ≡ x → 1 ≤ length t
      → First (record_rows t) (record_number (cond a (Some (Err Fault.Short)) (whole_of x (entry_of k t))))
  some n k e f true x s r l =
      let known = e ∙ f in
      inr ((λ u. let z : ◌≡◌ {A = ℕ} 0 1 = cc (known, u.1) in omega arith), inl ((l, rw known (omega (arith, size_is k, ltb-true (length t) (size_of k) s))), refl))
  some n k e f false None s r l =
      let known = e ∙ f in
      let whole = ltb-false (length t) (size_of k) s in
      inr ((λ u. let z : ◌≡◌ {A = ℕ} 0 1 = cc (known, u.1) in omega arith), inr ((λ u. let v = rw known at u.1 in omega (arith, size_is k)), inr ((λ u. let v = rw known at u.1 in v (in_range_lem t k whole r)), refl)))
  some n k e f false (Some g) s r l =
      let known = e ∙ f in
      let whole = ltb-false (length t) (size_of k) s in
      inr ((λ u. let z : ◌≡◌ {A = ℕ} 0 1 = cc (known, u.1) in omega arith), inr ((λ u. let v = rw known at u.1 in omega (arith, size_is k)), inl ((l, rw known (not_in_range t k whole g r)), refl)))

  by_kind : (n : Option RecordKind) → record_kind_of (get_or t 0 0) ≡ n → 1 ≤ length t → First (record_rows t) (record_number (named_of n t))
  by_kind None e l = inl ((l, e), refl)
  by_kind (Some k) e l = some (Some k) k e refl _ _ refl refl l

  at_the_end : (b : Bool) → eqb (length t) 0 ≡ b → First (record_rows t) (record_number (cond b None (named_of (record_kind_of (get_or t 0 0)) t)))
  at_the_end true z =
      let o = eqb-true (length t) 0 z in
      inr ((λ u. let l = u.0 in omega arith), inr ((λ u. let l = u.0 in omega arith), inr ((λ u. let l = u.0 in omega arith), refl)))
  at_the_end false z = by_kind (record_kind_of (get_or t 0 0)) refl (let n = eqb-false (length t) 0 z in one_more (length t) n)
    where
      one_more : (k : ℕ) → (k ≡ 0 → ⊥) → 1 ≤ k
      one_more k n = omega arith

pub records : Records
unfolding record_of
records t = exactly (record_rows t) _ (at_the_end t _ refl)
