-- What is written reads back: the bodies of the two elements.
use Rattle.std.specs.Prelude.{Some}
use Prim.Native.Nat.{ℕ, ◌+◌, ◌%◌}
use mathlib.Core.List.{[], ◌∷◌}
use mathlib.Core.Bool.{true}
use mathlib.Core.Path.{◌≡◌, refl}
use native.Mathlib.Omega.{arith}
use borrow.Author.Tests.{ltb-true}
use Rattle.rights.specs.declared.Service.{Service}
use Rattle.facility.specs.declared.Wish.{Wish}
use Rattle.facility.specs.declared.Refusal.{Refusal}
use Rattle.facility.specs.declared.Component.{Component}
use Rattle.cause.specs.Element.{cause_of, cause_fits}
use Rattle.facility.specs.Facility.{service_octet, component_fits}
use Rattle.facility.specs.Forms.{size, stand, spells, service_of, wish_of, refusal_of, invoke_says, error_says, read_as, invoke_of, result_of, error_of, facility_of}
use Rattle.facility.specs.Filling.{filled, wish_octet, refusal_octet, body_of}

service_back : (id : ℕ) (s : Service) (w : Wish) → invoke_says id (service_of (service_octet s)) w ≡ Some (Component.Invoke id s w)
unfolding service_of
service_back id Service.One w = refl
service_back id Service.Two w = refl
service_back id Service.Three w = refl

wish_back : (w : Wish) → wish_of (wish_octet w) ≡ w
unfolding wish_of
wish_back Wish.Preferred = refl
wish_back Wish.Required = refl

refusal_back : (id : ℕ) (e : Refusal) → error_says id (refusal_of (refusal_octet e)) ≡ Some (Component.Rejected id e)
unfolding refusal_of
refusal_back id Refusal.ByNetwork = refl
refusal_back id Refusal.ByUser = refl

pub facility_back : (c : Component) → component_fits c ≡ true → facility_of (body_of c) ≡ Some c
unfolding facility_of invoke_of result_of error_of read_as spells size stand filled
facility_back (Component.Invoke id s w) h = simp (h, wish_back w, service_back id s w)
facility_back (Component.Accepted id) h = simp h
facility_back (Component.Rejected id e) h = simp (h, refusal_back id e)

low : (v : ℕ) → cause_fits v ≡ true → (0x80 + v) % 128 ≡ v
low v h = let l = ltb-true v 128 h in omega arith

pub cause_back : (v : ℕ) → cause_fits v ≡ true → cause_of (0x82 ∷ (0x80 + v) ∷ []) ≡ Some v
unfolding cause_of
cause_back v h = simp (low v h)
