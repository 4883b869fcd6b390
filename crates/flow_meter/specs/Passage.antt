-- What a message meets in a meter.
use Rattle.std.specs.Prelude.{◌+◌, ◌-◌, Bool, true, cond, ◌&&◌, ltb}
use Rattle.flow_meter.specs.declared.Meter.{Meter}
use Rattle.flow_meter.specs.declared.passage.Passage.{Passage}
use Rattle.flow_meter.specs.Meter.{greatest_count}

-- a message under service 2
unfoldable pub counted_of : Meter → Meter
counted_of m = record { credit = m.credit; mark = m.mark; count = m.count + 1 }

-- "a message spends one"
unfoldable pub paid_of : Meter → Meter
paid_of m = record { credit = m.credit - 1; mark = m.mark; count = m.count }

-- "The first message dropped for credit under service 3 sets that direction's mark"
unfoldable pub marked_of : Meter → Meter
marked_of m = record { credit = m.credit; mark = true; count = m.count }

unfoldable pub under_three_of : Meter → Passage
under_three_of m =
    cond (ltb 0 m.credit) (Passage.Three (paid_of m)) (cond m.mark Passage.Spent (Passage.Marks (marked_of m)))

-- Where service 2 serves, "its remaining count first; then service 3". A spent count without service 3 is 14, no
-- service at all 13.
unfoldable pub passage_of : Meter → Bool → Bool → Passage
passage_of m two three =
    cond (two && ltb m.count greatest_count) (Passage.Two (counted_of m))
    (cond three (under_three_of m) (cond two Passage.Spent Passage.Unserved))

-- the meter after a message
abbrev pub after_of : Meter → Passage → Meter
after_of m (Passage.Two n) = n
after_of m (Passage.Three n) = n
after_of m (Passage.Marks n) = n
after_of m Passage.Spent = m
after_of m Passage.Unserved = m
