-- SETUP.
use Rattle.services.specs.declared.ByService.{ByService}
use Rattle.services.specs.declared.Request.{Request}
use Rattle.std.specs.Prelude.{ℕ, List, ◌&&◌}
use Rattle.user_element.specs.declared.Seen.{Seen}
use Rattle.rights.specs.declared.Rights.{Rights}
use Rattle.answer.specs.declared.Answer.{Answer}
use Rattle.call.specs.declared.Call.{Call}
use Rattle.call.specs.declared.reply.Reply.{Reply}
use Rattle.rights.specs.Rights.{rights_fit_of, reference_fits_of}
use Rattle.setup_rules.specs.Requests.{opening_of}
use Rattle.user_element.specs.Element.{seen_of}
use Rattle.phases.specs.Phase.{fresh_of}
use Rattle.call.specs.Records.{opened_of}
use Rattle.call.specs.Reply.{bar_of, heard_of}

-- a SETUP that is taken: "SETUP fills the whole record, used for one call", and the two messages
unfoldable pub proceeds_of : ℕ → Rights → ByService Request → Seen → Reply
proceeds_of reference rights q seen =
    record {
      call = opened_of reference rights (opening_of rights q seen).phase (opening_of rights q seen).standings;
      answer = Answer.Taken;
      note = (opening_of rights q seen).note;
      dispatch = (opening_of rights q seen).dispatch;
    }

-- "SETUP (Fresh)." Number 24: "SETUP, reference or rights out of range".
unfoldable pub setup_of : Call → ℕ → Rights → ByService Request → List ℕ → Reply
setup_of c reference rights q e =
    heard_of c (bar_of c (fresh_of c.phase) (reference_fits_of reference && rights_fit_of rights))
    (proceeds_of reference rights q (seen_of e rights.limit))
