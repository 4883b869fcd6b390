-- A message whose reference has a known number of octets.
use Rattle.std.specs.Prelude.{Some}
use Prim.Native.Nat.{ℕ, ◌+◌, ◌≤◌}
use mathlib.Core.List.{List}
use mathlib.Core.Path.{◌≡◌, sym, ap, ◌∙◌}
use borrow.Author.Tests.{le-ltb}
use lib.ListN.{length, get_or, drop}
use Rattle.message_types.specs.declared.Kind.{Kind}
use Rattle.message_fields.specs.declared.Width.{Width}
use Rattle.message_types.specs.Kind.{kind_of}
use Rattle.elements.specs.Elements.{elements}
use Rattle.elements.specs.Meaning.{taken_from}
use Rattle.message.specs.Reading.{header_of, typed_of, headed_of}
use Rattle.message_fields.specs.Width.{width_of}

module _ (w : Width) (m : List ℕ) where
  pub headed_typed : width_of w + 3 ≤ length m → headed_of w m ≡ typed_of w m (kind_of (get_or m (width_of w + 2) 0))
  unfolding headed_of
  headed_typed h = simp (le-ltb _ _ h)

  pub headed_known : (k : Kind) → width_of w + 3 ≤ length m → kind_of (get_or m (width_of w + 2) 0) ≡ Some k → taken_from (header_of w m k) (elements (width_of w + 3) 0 (drop (width_of w + 3) m)) ≡ headed_of w m
  headed_known k h e = sym (headed_typed h ∙ ap (typed_of w m) e)
