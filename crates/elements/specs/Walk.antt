-- A walk over the elements of a message, step by step. Nobody has to believe this: the reader's contract does not cite it.
use Rattle.std.specs.Prelude.{Option, Result, Ok, Err, MatchOption, ℕ, ◌≤◌, ◌≡◌, length, drop}
use Rattle.message_fields.specs.declared.Fault.{Fault}
use Rattle.elements.specs.declared.walk.Walk.{Walk}
use Rattle.elements.specs.Elements.{cut, elements, Ended}

-- an element with its start and its end, or that the octets end before a part of it
abbrev pub StepsBy : Walk → Walk → Result (ℕ × ℕ) Fault → Type 0
StepsBy s t (Ok p) = (p.0 ≡ s.place) × Ended s.message.now s.place p.1 × (t.place ≡ p.1)
StepsBy s t (Err f) = (f ≡ Fault.Short) × (elements s.place 0 (drop s.place s.message.now) ≡ cut)

abbrev pub Steps : Walk → Option (Result (ℕ × ℕ) Fault) → Walk → Type 0
Steps s r t = (t.message.now ≡ s.message.now) × MatchOption r (length s.message.now ≤ s.place) (StepsBy s t)
