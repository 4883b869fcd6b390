-- A message to one user.
use Rattle.std.specs.Prelude.{Option, Some, None, ℕ, Bool, true, false, cond}
use Rattle.sent.specs.declared.Message.{Message}
use Rattle.services.specs.declared.ByService.{ByService}
use Rattle.services.specs.declared.Said.{Said}
use Rattle.message_types.specs.declared.Kind.{Kind}
use Rattle.sent.specs.declared.Level.{Level}
use Rattle.cause.specs.Cause.{discarded}

-- nothing is said of any service
unfoldable pub silence : ByService Said
silence = record { one = Said.Nothing; two = Said.Nothing; three = Said.Nothing }

-- a message with what it says of the services, and whether the event's element goes out in it
unfoldable pub saying_of : Kind → Option ℕ → ByService Said → Bool → Option Message
saying_of kind cause said element =
    Some (record { kind = kind; cause = cause; level = Level.Absent; said = said; more = false; element = element })

unfoldable pub bare_of : Kind → Option ℕ → Option Message
bare_of kind cause = saying_of kind cause silence false

-- "sends not ready, cause 43, to its sender"; "sends ready, with cause 43 too (house)"
unfoldable pub congestion_of : Level → Option Message
congestion_of level =
    Some
    (record {
      kind = Kind.CongestionControl;
      cause = Some discarded;
      level = level;
      said = silence;
      more = false;
      element = false;
    })

-- "More data goes on unchanged."
unfoldable pub informs_of : Bool → Option Message
informs_of more =
    Some
    (record {
      kind = Kind.UserInformation;
      cause = None;
      level = Level.Absent;
      said = silence;
      more = more;
      element = true;
    })

unfoldable pub only_if_of : Bool → Option Message → Option Message
only_if_of b s = cond b s None
