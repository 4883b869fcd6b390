-- DISCONNECT from the called side: the answers in it.
use Rattle.services.specs.declared.ByService.{ByService}
use Rattle.std.specs.Prelude.{Bool, cond, ◌||◌}
use Rattle.services.specs.declared.Given.{Given}
use Rattle.services.specs.declared.Said.{Said}
use Rattle.services.specs.declared.Standing.{Standing}
use Rattle.services.specs.Standing.{awaits_of}
use Rattle.sent.specs.declared.side.Side.{Side}

-- "rejections of the caller's open requests go on too"
abbrev pub rejection_of : Bool → Given → Said
rejection_of waits Given.Silent = Said.Nothing
rejection_of waits Given.Accepted = Said.Nothing
rejection_of waits Given.Rejected = cond waits Said.ByUser Said.Nothing

-- "and an acceptance of open service 1 counts first and goes on"
abbrev pub closing_said_of : Standing → Given → Said
closing_said_of s Given.Silent = Said.Nothing
closing_said_of s Given.Accepted = cond (awaits_of s) Said.Accepted Said.Nothing
closing_said_of s Given.Rejected = cond (awaits_of s) Said.ByUser Said.Nothing

abbrev pub closing_standing_of : Standing → Given → Standing
closing_standing_of s Given.Silent = s
closing_standing_of s Given.Accepted = cond (awaits_of s) Standing.InForce s
closing_standing_of s Given.Rejected = s

-- no service is answered
unfoldable pub silent_answers : ByService Given
silent_answers = record { one = Given.Silent; two = Given.Silent; three = Given.Silent }

-- "From the called side": the calling side's answers count for nothing
abbrev pub heard_answers_of : Side → ByService Given → ByService Given
heard_answers_of Side.Calling a = silent_answers
heard_answers_of Side.Called a = a

-- "rejections of the caller's open requests go on too, and an acceptance of open service 1 counts first and goes on".
-- asks: the caller's own FACILITY request is open.
unfoldable pub closing_facilities_of : ByService Standing → Bool → ByService Given → ByService Said
closing_facilities_of s asks a =
    record {
      one = closing_said_of s.one a.one;
      two = rejection_of (awaits_of s.two) a.two;
      three = rejection_of (awaits_of s.three || asks) a.three;
    }
