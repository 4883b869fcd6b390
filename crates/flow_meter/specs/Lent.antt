-- The flow meter of one direction, lent: what a message or a tick answers, and the meter that it leaves.
use Rattle.std.specs.Prelude.{ℕ, Bool, cond, ◌&&◌, leb}
use Rattle.rights.specs.Rights.{within, greatest_burst, greatest_refill}
use Rattle.flow_meter.specs.declared.Meter.{Meter}
use Rattle.flow_meter.specs.declared.passage.Passage.{Passage}
use Rattle.flow_meter.specs.declared.lent.Spent.{Spent}
use Rattle.flow_meter.specs.declared.lent.Ticked.{Ticked}
use Rattle.flow_meter.specs.declared.lent.Left.{Left}
use Rattle.flow_meter.specs.Meter.{meter_fits_of, ticked_of}
use Rattle.flow_meter.specs.Passage.{passage_of, after_of}

abbrev pub spent_by : Passage → Spent
spent_by (Passage.Two n) = Spent.Two
spent_by (Passage.Three n) = Spent.Three
spent_by (Passage.Marks n) = Spent.Marked
spent_by Passage.Spent = Spent.Dropped
spent_by Passage.Unserved = Spent.Unserved

-- "25 .. meter with a field out of range, credit over X or count over 2". X is held to its own range too, "burst X 1 to
-- 255".
unfoldable pub lent_fits_of : Meter → ℕ → Bool
lent_fits_of m burst = within 1 burst greatest_burst && meter_fits_of m burst

-- A message in the meter's direction, which service 2 and service 3 serve or not. 25 leaves the meter as it was.
unfoldable pub spends_of : Meter → ℕ → Bool → Bool → Left Spent
spends_of m burst two three =
    record {
      next = cond (lent_fits_of m burst) (after_of m (passage_of m two three)) m;
      answer = cond (lent_fits_of m burst) (spent_by (passage_of m two three)) Spent.Unsound;
    }

-- "refill Y 1 to 255"
unfoldable pub refill_fits_of : Meter → ℕ → ℕ → Bool
refill_fits_of m burst refill = (lent_fits_of m burst && leb 1 refill) && leb refill greatest_refill

-- "A tick with the mark set clears it and sends ready"
unfoldable pub ticks_of : Meter → ℕ → ℕ → Left Ticked
ticks_of m burst refill =
    record {
      next = cond (refill_fits_of m burst refill) (ticked_of m burst refill) m;
      answer = cond (refill_fits_of m burst refill) (cond m.mark Ticked.Ready Ticked.Quiet) Ticked.Unsound;
    }

-- the paper's number of each answer
abbrev pub spent_number : Spent → ℕ
spent_number Spent.Two = 0
spent_number Spent.Three = 0
spent_number Spent.Marked = 14
spent_number Spent.Dropped = 14
spent_number Spent.Unserved = 13
spent_number Spent.Unsound = 25

abbrev pub ticked_number : Ticked → ℕ
ticked_number Ticked.Ready = 0
ticked_number Ticked.Quiet = 0
ticked_number Ticked.Unsound = 25
