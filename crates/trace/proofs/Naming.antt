-- A record of a known kind.
use Rattle.std.specs.Prelude.{Some, None, Ok}
use Prim.Native.Nat.{ℕ, ◌≤◌}
use mathlib.Core.List.{List}
use mathlib.Core.Path.{◌≡◌}
use borrow.Author.Tests.{le-ltb}
use lib.ListN.{length}
use Rattle.trace.specs.declared.kind.RecordKind.{RecordKind}
use Rattle.trace.specs.Kind.{layout_of, size_of}
use Rattle.trace.specs.Ranges.{first_out_of}
use Rattle.trace.specs.Reading.{entry_of, named_of}

module _ (k : RecordKind) (t : List ℕ) where
  pub named_taken : size_of k ≤ length t → first_out_of (layout_of k) t ≡ None → Some (Ok (entry_of k t)) ≡ named_of (Some k) t
  named_taken h e = simp (le-ltb (length t) (size_of k) h, e)
