-- The tests that come first, 25, 11 and 24, and replies.
use Rattle.std.specs.Prelude.{Option, Bool, cond}
use Rattle.sent.specs.declared.Message.{Message}
use Rattle.rights.specs.declared.Service.{Service}
use Rattle.user_element.specs.declared.Note.{Note}
use Rattle.answer.specs.declared.Answer.{Answer}
use Rattle.sent.specs.declared.side.Side.{Side}
use Rattle.call.specs.declared.Call.{Call}
use Rattle.call.specs.declared.reply.Reply.{Reply}
use Rattle.sent.specs.Dispatch.{to_users_of, nothing_sent}
use Rattle.answer.specs.Answer.{taken_of, first_bar}
use Rattle.call.specs.Sound.{sound_of}

-- what bars an event from being heard, if anything does
unfoldable pub bar_of : Call → Bool → Bool → Answer
bar_of c allowed ranged = first_bar (sound_of c) allowed ranged

-- "11 to 25 change no call, meter or table and send nothing"
unfoldable pub refused_of : Call → Answer → Note → Reply
refused_of c a note = record { call = c; answer = a; note = note; dispatch = nothing_sent }

-- the reply, unless the event is barred; "Every other refusal has note 0."
unfoldable pub heard_of : Call → Answer → Reply → Reply
heard_of c bar r = cond (taken_of bar) r (refused_of c bar Note.Clear)

abbrev pub pick_of : Side → Option Message → Option Message → Option Message
pick_of Side.Calling calling called = calling
pick_of Side.Called calling called = called

-- a reply to one side's event: back goes to that side, on to the other
unfoldable pub reply_of : Side → Call → Answer → Note → Option Message → Option Message → Option Service → Reply
reply_of side c a note back on carrier =
    record { call = c; answer = a; note = note; dispatch = to_users_of (pick_of side back on) (pick_of side on back) carrier }
