-- Numbers given back by a call.
use Rattle.std.specs.Prelude.{ℕ, Bool, true, false, cond}
use Rattle.answer.specs.declared.Answer.{Answer}

-- the paper's number of each answer
abbrev pub number_of : Answer → ℕ
number_of Answer.Taken = 0
number_of Answer.OutOfPhase = 11
number_of Answer.NotAnEvent = 12
number_of Answer.NoService = 13
number_of Answer.Spent = 14
number_of Answer.NotOpen = 15
number_of Answer.NotGranted = 16
number_of Answer.BadElement = 17
number_of Answer.AskedRequired = 18
number_of Answer.OutOfRange = 24
number_of Answer.Unsound = 25

abbrev pub taken_of : Answer → Bool
taken_of Answer.Taken = true
taken_of Answer.OutOfPhase = false
taken_of Answer.NotAnEvent = false
taken_of Answer.NoService = false
taken_of Answer.Spent = false
taken_of Answer.NotOpen = false
taken_of Answer.NotGranted = false
taken_of Answer.BadElement = false
taken_of Answer.AskedRequired = false
taken_of Answer.OutOfRange = false
taken_of Answer.Unsound = false

-- "25 comes first of 11 to 25; .. then the call 12, 11, 24". allowed: the phase allows the event. ranged: reference,
-- rights and cause are in range.
abbrev pub first_bar : Bool → Bool → Bool → Answer
first_bar sound allowed ranged = cond sound (cond allowed (cond ranged Answer.Taken Answer.OutOfRange) Answer.OutOfPhase) Answer.Unsound
