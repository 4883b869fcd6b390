-- What holds of every refusal, and of what is taken from the elements, holds of what is read.
use Rattle.std.specs.Prelude.{Option, Some, None, Result, Err}
use Rattle.message_fields.specs.declared.Reading.{Reading}
use Prim.Native.Nat.{ℕ, ◌+◌}
use mathlib.Core.List.{List}
use mathlib.Core.Path.{◌≡◌, refl}
use borrow.Author.Tests.{eqb-true}
use lib.ListN.{length, get_or, drop}
use lib.Dec.{ltb, eqb}
use Rattle.message_types.specs.declared.Kind.{Kind}
use Rattle.message_types.specs.Kind.{kind_of}
use Rattle.message_fields.specs.declared.Width.{Width}
use Rattle.message_fields.specs.declared.Fault.{Fault}
use Rattle.message_fields.specs.Width.{width_of}
use Rattle.elements.specs.Elements.{elements}
use Rattle.elements.specs.Meaning.{taken_from}
use Rattle.message.specs.Reading.{header_of, typed_of, headed_of, read_of}
use Rattle.octet_promises.specs.Promises.{IsKind}
use Rattle.octet_promises.specs.Ours.{start}
use Rattle.octet_promises.proofs.Nine.{names}
use Rattle.logic.proofs.Decide.{by_cond}

module _ (m : List ℕ) (P : Result Reading Fault → Type 0) (no : (f : Fault) → P (Err f)) (so : (w : Width) (k : Kind) → get_or m 1 0 ≡ width_of w → IsKind (get_or m (get_or m 1 0 + 2) 0) k → P (taken_from (header_of w m k) (elements (start m) 0 (drop (start m) m)))) where
  typed : (w : Width) → get_or m 1 0 ≡ width_of w → (t : Option Kind) → kind_of (get_or m (width_of w + 2) 0) ≡ t → P (typed_of w m t)
  typed w e None u = no Fault.Kind
  typed w e (Some k) u = rw e at (so w k e (rw e (names _ u)))

  headed : (w : Width) → get_or m 1 0 ≡ width_of w → P (headed_of w m)
  unfolding headed_of
  headed w e = by_cond P (ltb (length m) (width_of w + 3)) (λ _. no Fault.Short) (λ _. typed w e _ refl)

  pub read_by_lem : P (read_of m)
  unfolding read_of
  read_by_lem =
      by_cond P (ltb 260 (length m)) (λ _. no Fault.TooLong)
      (λ _. by_cond P (ltb (length m) 1) (λ _. no Fault.Short)
      (λ _. by_cond P (eqb (get_or m 0 0) 8)
      (λ _. by_cond P (ltb (length m) 2) (λ _. no Fault.Short)
      (λ _. by_cond P (eqb (get_or m 1 0) 1) (λ t. headed Width.One (eqb-true _ _ t))
      (λ _. by_cond P (eqb (get_or m 1 0) 2) (λ t. headed Width.Two (eqb-true _ _ t)) (λ _. no Fault.Reference))))
      (λ _. no Fault.Foreign)))
