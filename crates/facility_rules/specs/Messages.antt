-- FACILITY about service 3: what it says, and what the asker and the other user are told.
use Rattle.std.specs.Prelude.{Option, None, Bool, true, false}
use Rattle.sent.specs.declared.Message.{Message}
use Rattle.services.specs.declared.Said.{Said}
use Rattle.answer.specs.declared.Answer.{Answer}
use Rattle.facility_rules.specs.declared.What.{What}
use Rattle.answer.specs.Answer.{taken_of}
use Rattle.message_types.specs.declared.Kind.{Kind}
use Rattle.sent.specs.Message.{saying_of, only_if_of}

-- what is passed to the other user
abbrev pub facility_said_of : What → Said
facility_said_of What.Preferred = Said.Preferred
facility_said_of What.Accept = Said.Accepted
facility_said_of What.Reject = Said.ByUser
facility_said_of What.Required = Said.Required

-- 16 and no other
abbrev pub not_granted_of : Answer → Bool
not_granted_of Answer.Taken = false
not_granted_of Answer.OutOfPhase = false
not_granted_of Answer.NotAnEvent = false
not_granted_of Answer.NoService = false
not_granted_of Answer.Spent = false
not_granted_of Answer.NotOpen = false
not_granted_of Answer.NotGranted = true
not_granted_of Answer.BadElement = false
not_granted_of Answer.AskedRequired = false
not_granted_of Answer.OutOfRange = false
not_granted_of Answer.Unsound = false

-- FACILITY that says one thing of service 3
unfoldable pub about_three_of : Said → Option Message
about_three_of s = saying_of Kind.Facility None (record { one = Said.Nothing; two = Said.Nothing; three = s }) false

-- "16 sends the asker FACILITY with rejectedByNetwork"
abbrev pub to_asker_of : Answer → Option Message
to_asker_of verdict = only_if_of (not_granted_of verdict) (about_three_of Said.ByNetwork)

-- "Request, accept or reject for service 3, passed to the other user when taken"
abbrev pub to_other_of : Answer → What → Option Message
to_other_of verdict what = only_if_of (taken_of verdict) (about_three_of (facility_said_of what))
