-- What SETUP asks for, held against the rights. had says whether the rights have the service.
use Rattle.std.specs.Prelude.{Option, Some, None, Bool, false, cond, ◌||◌, not, ◌&&◌}
use Rattle.sent.specs.declared.Message.{Message}
use Rattle.services.specs.declared.ByService.{ByService}
use Rattle.user_element.specs.declared.Seen.{Seen}
use Rattle.rights.specs.declared.Rights.{Rights}
use Rattle.rights.specs.declared.Service.{Service}
use Rattle.services.specs.declared.Request.{Request}
use Rattle.services.specs.declared.Said.{Said}
use Rattle.services.specs.declared.Standing.{Standing}
use Rattle.rights.specs.Rights.{has_of}
use Rattle.cause.specs.Cause.{not_subscribed}
use Rattle.user_element.specs.Element.{whole_of, noted_of, goes_out_of}
use Rattle.message_types.specs.declared.Kind.{Kind}
use Rattle.phases.specs.declared.Phase.{Phase}
use Rattle.sent.specs.Message.{saying_of}
use Rattle.sent.specs.Dispatch.{by_one_of, to_users_of}
use Rattle.services.specs.Standing.{remains_of}
use Rattle.setup_rules.specs.declared.Opening.{Opening}

-- "Each service is not asked, preferred or required."
abbrev pub asked_standing_of : Request → Bool → Standing
asked_standing_of Request.Unasked had = Standing.Unasked
asked_standing_of Request.Preferred had = cond had Standing.Preferred Standing.Closed
asked_standing_of Request.Required had = cond had Standing.Required Standing.Closed

-- "An element without note 1 or 2 and with no explicit request for service 1 is an implicit preferred request."
abbrev pub implied_of : Request → Seen → Bool
implied_of Request.Unasked s = whole_of s
implied_of Request.Preferred s = false
implied_of Request.Required s = false

-- "Implicit service 1 is then in force."
unfoldable pub first_standing_of : Request → Seen → Bool → Standing
first_standing_of q s had = cond (implied_of q s) (cond had Standing.InForce Standing.Closed) (asked_standing_of q had)

-- "If a required service is not in the rights"
abbrev pub lacking_of : Request → Bool → Bool
lacking_of Request.Unasked had = false
lacking_of Request.Preferred had = false
lacking_of Request.Required had = not had

-- "SETUP goes on with the remaining requests"
abbrev pub passed_request_of : Request → Bool → Said
passed_request_of Request.Unasked had = Said.Nothing
passed_request_of Request.Preferred had = cond had Said.Preferred Said.Nothing
passed_request_of Request.Required had = cond had Said.Required Said.Nothing

-- "rejectedByNetwork for every asked service the rights lack"; where SETUP goes on these are the preferred ones.
-- "An implicit refusal is silent."
abbrev pub network_refusal_of : Request → Bool → Said
network_refusal_of Request.Unasked had = Said.Nothing
network_refusal_of Request.Preferred had = cond had Said.Nothing Said.ByNetwork
network_refusal_of Request.Required had = cond had Said.Nothing Said.ByNetwork

unfoldable pub standings_of : Rights → ByService Request → Seen → ByService Standing
standings_of rights q s =
    record {
      one = first_standing_of q.one s (has_of rights Service.One);
      two = asked_standing_of q.two (has_of rights Service.Two);
      three = asked_standing_of q.three (has_of rights Service.Three);
    }

unfoldable pub lacks_of : Rights → ByService Request → Bool
lacks_of rights q =
    (lacking_of q.one (has_of rights Service.One) || lacking_of q.two (has_of rights Service.Two))
    || lacking_of q.three (has_of rights Service.Three)

unfoldable pub passed_requests_of : Rights → ByService Request → ByService Said
passed_requests_of rights q =
    record {
      one = passed_request_of q.one (has_of rights Service.One);
      two = passed_request_of q.two (has_of rights Service.Two);
      three = passed_request_of q.three (has_of rights Service.Three);
    }

unfoldable pub network_refusals_of : Rights → ByService Request → ByService Said
network_refusals_of rights q =
    record {
      one = network_refusal_of q.one (has_of rights Service.One);
      two = network_refusal_of q.two (has_of rights Service.Two);
      three = network_refusal_of q.three (has_of rights Service.Three);
    }

-- "If a required service is not in the rights: .. Ended. Otherwise .. Requested."
unfoldable pub setup_phase_of : Bool → Phase
setup_phase_of lacking = cond lacking Phase.Ended Phase.Requested

-- "RELEASE COMPLETE to the caller, cause 50, rejectedByNetwork for every asked service the rights lack"; otherwise
-- "CALL PROCEEDING to the caller with rejectedByNetwork for each explicit preferred service lacking"
unfoldable pub to_caller_of : Bool → ByService Said → Option Message
to_caller_of lacking refusals =
    cond lacking (saying_of Kind.ReleaseComplete (Some not_subscribed) refusals false)
    (saying_of Kind.CallProceeding None refusals false)

-- "Otherwise SETUP goes on with the remaining requests and the element"
unfoldable pub to_called_of : Bool → ByService Said → Bool → Option Message
to_called_of lacking requests element = cond lacking None (saying_of Kind.Setup None requests element)

-- "the element (if service 1 remains)", and the message goes on
unfoldable pub setup_carries_of : Rights → ByService Request → Seen → Bool
setup_carries_of rights q seen = not (lacks_of rights q) && remains_of (standings_of rights q seen).one

-- what a SETUP that is taken opens with
abbrev pub opening_of : Rights → ByService Request → Seen → Opening
opening_of rights q seen =
    record {
      phase = setup_phase_of (lacks_of rights q);
      standings = standings_of rights q seen;
      note = noted_of seen (setup_carries_of rights q seen);
      dispatch =
          to_users_of (to_caller_of (lacks_of rights q) (network_refusals_of rights q))
          (to_called_of (lacks_of rights q) (passed_requests_of rights q) (goes_out_of seen (setup_carries_of rights q seen)))
          (by_one_of (goes_out_of seen (setup_carries_of rights q seen)));
    }
