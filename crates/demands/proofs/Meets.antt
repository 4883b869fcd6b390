-- This core meets the demands.
use Rattle.call.specs.Step.{step_of}
use Rattle.demands.specs.Demands.{Demands}
use Rattle.call_promises.proofs.Numbers.{answers}
use Rattle.call_promises.proofs.Notes.{notes}
use Rattle.call_promises.proofs.Refusals.{refusals}
use Rattle.call_promises.proofs.Sound.{sound, never_unsound_lem}
use Rattle.call_promises.proofs.Handling.{unaltered, goes_out_lem, under_a_service_lem}
use Rattle.call_promises.proofs.Required.{required, failed}
use Rattle.call_promises.proofs.Granted.{granted}
use Rattle.call_promises.proofs.MoreRights.{more_rights_lem}
use Rattle.call_promises.proofs.Credit.{credit, covered}
use Rattle.call_promises.proofs.Sends.{sends}
use Rattle.call_promises.proofs.Carriers.{carriers}
use Rattle.call_promises.proofs.Becomes.{becomes, history}

pub meets : Demands step_of
meets =
    record {
      answers = answers;
      notes = notes;
      refusals = refusals;
      sound = sound;
      never_unsound = never_unsound_lem;
      unaltered = unaltered;
      goes_out = goes_out_lem;
      under_a_service = under_a_service_lem;
      required = required;
      failed = failed;
      granted = granted;
      more_rights = more_rights_lem;
      credit = credit;
      covered = covered;
      sends = sends;
      carriers = carriers;
      becomes = becomes;
      history = history;
    }
