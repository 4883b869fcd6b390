-- Runs from a fresh record stay in range.
use Rattle.std.specs.Prelude.{ℕ, List, [], ◌∷◌, ◌≡◌}
use Rattle.answer.specs.Answer.{number_of}
use Rattle.call.specs.declared.Call.{Call}
use Rattle.event.specs.declared.Event.{Event}
use Rattle.call.specs.Sound.{fresh_call}
use Rattle.call_promises.specs.Ranges.{Live, InRangeCall}
use Rattle.call_promises.specs.Numbers.{Core}

-- an event with its element
pub record Offered : Type 0 where
  pub event : Event
  pub element : List ℕ

-- the record after a run, whatever the events are and whatever they are answered
abbrev pub run_of : Core → Call → List Offered → Call
run_of f c [] = c
run_of f c (o ∷ os) = run_of f (f c o.event o.element).call os

-- SOUND. After every run from a fresh record, a live record has every field in range, each credit at most X and each
-- count at most 2.
abbrev pub Sound : Core → Type 0
Sound f = (os : List Offered) → Live (run_of f fresh_call os).phase → InRangeCall (run_of f fresh_call os)

-- So no event of any such run is answered 25.
abbrev pub NeverUnsound : Core → Type 0
NeverUnsound f =
    (os : List Offered) (e : Event) (l : List ℕ) → number_of (f (run_of f fresh_call os) e l).answer ≡ 25 → ⊥
