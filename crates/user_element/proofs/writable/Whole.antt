-- An element that can be written is absent or whole.
use Prim.Native.Nat.{ℕ, ◌≤◌}
use mathlib.Core.List.{List}
use mathlib.Core.Bool.{true}
use mathlib.Core.Logic.{◌⊎◌, inl, inr, ⊎_elim}
use mathlib.Core.Path.{◌≡◌}
use native.Mathlib.Omega.{arith}
use borrow.Author.Tests.{ltb-false, eqb-true, le-ltb, eq-eqb, ne_eqb}
use lib.ListN.{length, get_or}
use lib.Dec.{ltb, eqb}
use Rattle.logic.proofs.Tests.{if_so, if_not, if_yes}
use Rattle.user_element.specs.Writable.{UserElement, element_fits_of}

pub element_in_lem : (u : List ℕ) → element_fits_of u ≡ true → (length u ≡ 0) ⊎ UserElement u
unfolding element_fits_of
element_in_lem u h =
    ⊎_elim (λ z. inl (eqb-true (length u) 0 z))
    (λ n.
    let a = if_not (ltb (length u) 2) _ n in
    let b = if_not (ltb 131 (length u)) _ a.1 in
    let d = if_so (eqb (get_or u 0 0) 0x7E) _ b.1 in
    inr (record { least = ltb-false _ _ a.0; most = ltb-false _ _ b.0; first = eqb-true _ _ d.0; second = eqb-true _ _ d.1 }))
    (if_yes (eqb (length u) 0) _ h)

pub element_fits : (u : List ℕ) → (length u ≡ 0) ⊎ UserElement u → element_fits_of u ≡ true
unfolding element_fits_of
element_fits u (inl z) = simp (eq-eqb _ _ z)
element_fits u (inr e) =
    simp (
      ne_eqb (length u) 0 (λ z. omega arith),
      le-ltb (length u) 2 e.least,
      le-ltb 131 (length u) e.most,
      eq-eqb _ _ e.first,
      eq-eqb _ _ e.second,
    )

pub element_small : (u : List ℕ) → element_fits_of u ≡ true → length u ≤ 131
element_small u h = ⊎_elim (λ z. omega arith) (λ w. w.most) (element_in_lem u h)
