-- The two sides of a call.
use Rattle.sent.specs.declared.side.Side.{Side}
use Rattle.sent.specs.declared.side.BySide.{BySide}

abbrev pub peer_of : Side → Side
peer_of Side.Calling = Side.Called
peer_of Side.Called = Side.Calling

-- what is there for a side
abbrev pub on_side : {A : Type 0} → BySide A → Side → A
on_side b Side.Calling = b.calling
on_side b Side.Called = b.called

-- another value for one side
abbrev pub with_side : {A : Type 0} → BySide A → Side → A → BySide A
with_side b Side.Calling x = record { calling = x; called = b.called }
with_side b Side.Called x = record { calling = b.calling; called = x }
