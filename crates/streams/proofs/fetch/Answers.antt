-- What was kept stands at the buffer's front, and so it does after the read.
use Rattle.std.proofs.Common.{refl, arith}
use Rattle.streams.proofs.Refilling.{refills}
use Rattle.streams.proofs.fetch.Goals as goal

pub returns-in-Ok : goal.returns-in-Ok
returns-in-Ok g c = refills refl refl c.keep-left.ensures c.in-Ok.ensures

pub returns-in-Err : goal.returns-in-Err
returns-in-Err g c = refills (omega arith) refl c.keep-left.ensures c.in-Err.ensures
