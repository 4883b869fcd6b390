-- What an event sends: "At most one message goes to each user per event." And the service that carries its element.
use Rattle.std.specs.Prelude.{Option, Some, None, Bool, cond}
use Rattle.sent.specs.declared.Message.{Message}
use Rattle.rights.specs.declared.Service.{Service}
use Rattle.sent.specs.declared.dispatch.Dispatch.{Dispatch}

-- in SETUP "the element (if service 1 remains)", later "its element if service 1 is in force": where it goes out at all
unfoldable pub by_one_of : Bool → Option Service
by_one_of goes = cond goes (Some Service.One) None

abbrev pub to_users_of : Option Message → Option Message → Option Service → Dispatch
to_users_of calling called carrier = record { calling = calling; called = called; carrier = carrier }

-- "send nothing"
abbrev pub nothing_sent : Dispatch
nothing_sent = to_users_of None None None
