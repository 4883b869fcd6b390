-- Causes that the box gives itself.
use Rattle.std.specs.Prelude.{ℕ}

-- EN 300 286-1, 9.1.1.2.2, 9.2.1.2 and 9.3.1.1.2, on an explicit rejection of a required service as on no answer:
-- "shall clear the call towards the calling network indicating cause #69"
abbrev pub not_accepted : ℕ
not_accepted = 69

-- "and to the called user with cause 31"
abbrev pub cleared : ℕ
cleared = 31

-- "not ready, cause 43, to its sender", and "ready, with cause 43 too"
abbrev pub discarded : ℕ
discarded = 43

-- "RELEASE COMPLETE to the caller, cause 50"
abbrev pub not_subscribed : ℕ
not_subscribed = 50

-- "DISCONNECT, cause over 127"
abbrev pub greatest_cause : ℕ
greatest_cause = 127
