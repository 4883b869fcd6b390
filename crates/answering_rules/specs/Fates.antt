-- ALERTING and CONNECT: an answer that is due.
use Rattle.services.specs.declared.ByService.{ByService}
use Rattle.std.specs.Prelude.{Bool, cond}
use Rattle.answering_rules.specs.declared.Fate.{Fate}
use Rattle.services.specs.declared.Given.{Given}
use Rattle.services.specs.declared.Standing.{Standing}

-- "Accepted: in force. Preferred and not accepted: closed, .. Required and not accepted: DISCONNECT to the caller",
-- whether it is rejected or nothing is said of it
-- "Answers .. not asked are ignored; implicit service 1 is due none and stays in force."
abbrev pub decided_of : Standing → Given → Fate
decided_of Standing.Preferred Given.Accepted = Fate.Accepted
decided_of Standing.Preferred Given.Rejected = Fate.Closed
decided_of Standing.Preferred Given.Silent = Fate.Closed
decided_of Standing.Required Given.Accepted = Fate.Accepted
decided_of Standing.Required Given.Rejected = Fate.Failed
decided_of Standing.Required Given.Silent = Fate.Failed
decided_of Standing.Unasked g = Fate.Kept
decided_of Standing.InForce g = Fate.Kept
decided_of Standing.Closed g = Fate.Kept

-- ALERTING: "Answers to 1 and 2 are due." "Answers not due .. are ignored".
unfoldable pub alerting_fates_of : ByService Standing → ByService Given → ByService Fate
alerting_fates_of s a =
    record { one = decided_of s.one a.one; two = decided_of s.two a.two; three = Fate.Kept }

-- CONNECT: "The answer to 3 is due, and to 1 if no ALERTING came; service 2 without ALERTING counts as unanswered."
unfoldable pub connect_fates_of : Bool → ByService Standing → ByService Given → ByService Fate
connect_fates_of alerted s a =
    record {
      one = cond alerted Fate.Kept (decided_of s.one a.one);
      two = cond alerted Fate.Kept (decided_of s.two Given.Silent);
      three = decided_of s.three a.three;
    }
