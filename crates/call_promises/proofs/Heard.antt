-- What the first tests of an event leave: a refusal that is bare, or the reply itself.
use Rattle.std.proofs.Common.{Bool, true, false, ◌≡◌, refl, arith}
use Rattle.user_element.specs.declared.Note.{Note}
use Rattle.answer.specs.declared.Answer.{Answer}
use Rattle.answer.specs.Answer.{number_of}
use Rattle.call.specs.declared.Call.{Call}
use Rattle.call.specs.declared.reply.Reply.{Reply}
use Rattle.call.specs.Sound.{sound_of}
use Rattle.call.specs.Reply.{bar_of, refused_of, heard_of}
use Rattle.logic.proofs.Decide.{never}

-- the answers that stand before an event is acted on
pub data Bar : Answer → Type 0 where
  unsound : Bar Answer.Unsound
  phase : Bar Answer.OutOfPhase
  range : Bar Answer.OutOfRange

-- an event that is barred is not taken
pub bar_not_taken : {x : Answer} → Bar x → number_of x ≡ 0 → ⊥
bar_not_taken unsound h = omega arith
bar_not_taken phase h = omega arith
bar_not_taken range h = omega arith

-- an event is heard, and its reply stands, or it is barred
pub data Heard (c : Call) (a g : Bool) (r : Reply) : Reply → Type 0 where
  through : sound_of c ≡ true → a ≡ true → g ≡ true → Heard c a g r r
  barred : {x : Answer} → (sound_of c ≡ true → a ≡ true → g ≡ true → ⊥) → Bar x → Heard c a g r (refused_of c x Note.Clear)

module _ (c : Call) (r : Reply) where
  hears : (s a g : Bool) → sound_of c ≡ s → Heard c a g r (heard_of c (bar_of c a g) r)
  unfolding heard_of bar_of
  hears true true true e = rw e (through e refl refl)
  hears true true false e = rw e (barred (λ _ _ h. never h refl) range)
  hears true false g e = rw e (barred (λ _ h _. never h refl) phase)
  hears false a g e = rw e (barred (λ h _ _. never h e) unsound)

pub heard : (c : Call) (a g : Bool) (r : Reply) → Heard c a g r (heard_of c (bar_of c a g) r)
heard c a g r = hears c r (sound_of c) a g refl
