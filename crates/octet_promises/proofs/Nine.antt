-- The nine octets, and the type that the definition finds for each.
use Rattle.std.specs.Prelude.{Option, Some, None}
use Prim.Native.Nat.{ℕ}
use mathlib.Core.Bool.{cond}
use mathlib.Core.Path.{◌≡◌, refl}
use borrow.Author.Tests.{eqb-true}
use lib.Dec.{eqb}
use Rattle.message_types.specs.declared.Kind.{Kind}
use Rattle.message_types.specs.Kind.{kind_of}
use Rattle.octet_promises.specs.Promises.{IsKind, alerting, proceeding, setup, connect, information, disconnect, complete, facility, congestion}
use Rattle.logic.proofs.Decide.{by_cond}

pub kind_octet_lem : {x : ℕ} {k : Kind} → IsKind x k → kind_of x ≡ Some k
unfolding kind_of
kind_octet_lem alerting = refl
kind_octet_lem proceeding = refl
kind_octet_lem setup = refl
kind_octet_lem connect = refl
kind_octet_lem information = refl
kind_octet_lem disconnect = refl
kind_octet_lem complete = refl
kind_octet_lem facility = refl
kind_octet_lem congestion = refl

module _ (x : ℕ) where
  abbrev Named : Option Kind → Type 0
  Named None = Unit {0}
  Named (Some k) = IsKind x k

  one_of : (y : ℕ) (k : Kind) (t : Option Kind) → IsKind y k → Named t → Named (cond (eqb x y) (Some k) t)
  one_of y k t i n = by_cond Named (eqb x y) (λ e. rw (eqb-true x y e) i) (λ _. n)

  named : Named (kind_of x)
  unfolding kind_of
  named =
      one_of _ _ _ alerting (one_of _ _ _ proceeding (one_of _ _ _ setup (one_of _ _ _ connect (one_of _ _ _ information
      (one_of _ _ _ disconnect (one_of _ _ _ complete (one_of _ _ _ facility (one_of _ _ _ congestion tt))))))))

pub names : (x : ℕ) {k : Kind} → kind_of x ≡ Some k → IsKind x k
names x e = rw e at (named x)
