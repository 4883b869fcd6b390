-- What a test that came out true says of its parts.
use mathlib.Core.Bool.{Bool, true, false, cond, ◌&&◌, true≢false}
use mathlib.Core.Logic.{◌⊎◌, inl, inr}
use mathlib.Core.Path.{◌≡◌, refl, sym, ap, ◌∙◌}

pub both : (a b : Bool) → a && b ≡ true → (a ≡ true) × (b ≡ true)
both true b h = (refl, h)
both false b h = absurd (true≢false (sym h))

pub and_true : (a b : Bool) → a ≡ true → b ≡ true → a && b ≡ true
and_true a b e f = ap (λ (x : Bool). x && b) e ∙ f

pub if_so : (a b : Bool) → cond a b false ≡ true → (a ≡ true) × (b ≡ true)
if_so true b h = (refl, h)
if_so false b h = absurd (true≢false (sym h))

pub if_not : (a b : Bool) → cond a false b ≡ true → (a ≡ false) × (b ≡ true)
if_not true b h = absurd (true≢false (sym h))
if_not false b h = (refl, h)

pub if_yes : (a b : Bool) → cond a true b ≡ true → (a ≡ true) ⊎ (b ≡ true)
if_yes true b h = inl refl
if_yes false b h = inr h
