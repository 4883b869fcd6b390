-- Instances of the promises on handling, computed.
use Rattle.std.proofs.Common.{[], inl, ◌≡◌, refl}
use Rattle.rights.specs.declared.Service.{Service}
use Rattle.services.specs.declared.Standing.{Standing}
use Rattle.phases.specs.declared.Phase.{Phase}
use Rattle.event.specs.declared.Event.{Event}
use Rattle.call.specs.declared.reply.Reply.{Reply}
use Rattle.answer.specs.Answer.{number_of}
use Rattle.call.specs.Step.{step_of}
use Rattle.call.specs.Sound.{fresh_call}
use Rattle.call_promises.specs.Numbers.{InForce}
use Rattle.call_promises.specs.Sound.{run_of}
use Rattle.call_cases.specs.Cases.{silent}
use Rattle.call_promises.specs.Services.{standing_for, Taken, Requires, asked, alerting}
use Rattle.call_cases.specs.Handed.{opening, connected, agreed, ElementsHanded, ServicesHeld}
use Rattle.call_promises.proofs.Conditions.{silence_no}
use Rattle.call_promises.proofs.Opened.{steps_compute}

-- what is computed, all under one line that opens the definitions
abbrev opened : Reply
opened = step_of fresh_call opening.event opening.element

record Facts : Type 0 where
  handed : ElementsHanded
  taken : number_of opened.answer ≡ 0
  required : opened.call.standings.one ≡ Standing.Required
  active : (run_of step_of fresh_call connected).phase ≡ Phase.Active
  one : InForce (run_of step_of fresh_call connected).standings.one
  two : InForce (run_of step_of fresh_call connected).standings.two
  three : InForce (run_of step_of fresh_call connected).standings.three
  by_facility : InForce (run_of step_of fresh_call agreed).standings.three
  answered : Taken step_of opened.call (Event.Alerting silent) []
  clearing : (step_of opened.call (Event.Alerting silent) []).call.phase ≡ Phase.Clearing

facts : Facts
unfolding steps_compute
facts =
    record {
      handed = (refl, (refl, (refl, (refl, (refl, (refl, (refl, (refl, (refl, (refl, tt))))))))));
      taken = refl;
      required = refl;
      active = refl;
      one = refl;
      two = refl;
      three = refl;
      by_facility = refl;
      answered = refl;
      clearing = refl;
    }

pub handed : ElementsHanded
handed = facts.handed

-- all three services are required by the first event
all_asked : (k : Service) → Requires k opening.event opening.element
all_asked Service.One = asked refl
all_asked Service.Two = asked refl
all_asked Service.Three = asked refl

all_in_force : (k : Service) → InForce (standing_for (run_of step_of fresh_call connected).standings k)
all_in_force Service.One = facts.one
all_in_force Service.Two = facts.two
all_in_force Service.Three = facts.three

pub held : ServicesHeld
held =
    record {
      asked = λ k. record { before = []; event = opening; after = _; split = refl; holds = (facts.taken, all_asked k) };
      active = facts.active;
      in_force = all_in_force;
      by_facility = facts.by_facility;
      taken = facts.answered;
      failing = alerting (inl (facts.required, silence_no));
      clearing = facts.clearing;
    }
