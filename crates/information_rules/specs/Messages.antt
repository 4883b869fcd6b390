-- What a USER INFORMATION message is answered, which service carries it, and what both sides are sent.
use Rattle.std.specs.Prelude.{Option, Some, None, Bool, true, false}
use Rattle.sent.specs.declared.Message.{Message}
use Rattle.flow_meter.specs.declared.passage.Passage.{Passage}
use Rattle.rights.specs.declared.Service.{Service}
use Rattle.sent.specs.declared.Level.{Level}
use Rattle.sent.specs.Message.{congestion_of, informs_of, only_if_of}
use Rattle.answer.specs.declared.Answer.{Answer}

-- "13 USER INFORMATION, no service in force for it", "14 USER INFORMATION, count or credit spent"
abbrev pub passage_answer_of : Passage → Answer
passage_answer_of (Passage.Two n) = Answer.Taken
passage_answer_of (Passage.Three n) = Answer.Taken
passage_answer_of (Passage.Marks n) = Answer.Spent
passage_answer_of Passage.Spent = Answer.Spent
passage_answer_of Passage.Unserved = Answer.NoService

-- "its remaining count first; then service 3": the service that pays for a message carries it
abbrev pub carrier_of : Passage → Option Service
carrier_of (Passage.Two n) = Some Service.Two
carrier_of (Passage.Three n) = Some Service.Three
carrier_of (Passage.Marks n) = None
carrier_of Passage.Spent = None
carrier_of Passage.Unserved = None

abbrev pub passes_of : Passage → Bool
passes_of (Passage.Two n) = true
passes_of (Passage.Three n) = true
passes_of (Passage.Marks n) = false
passes_of Passage.Spent = false
passes_of Passage.Unserved = false

abbrev pub marks_of : Passage → Bool
marks_of (Passage.Two n) = false
marks_of (Passage.Three n) = false
marks_of (Passage.Marks n) = true
marks_of Passage.Spent = false
marks_of Passage.Unserved = false

-- "14 may set the not-ready mark and send CONGESTION CONTROL" to the sender
abbrev pub to_sender_of : Passage → Option Message
to_sender_of p = only_if_of (marks_of p) (congestion_of Level.NotReady)

-- a message that passes goes on to the other side
abbrev pub to_receiver_of : Passage → Bool → Option Message
to_receiver_of p more = only_if_of (passes_of p) (informs_of more)
