-- Whatever core meets the demands is this one.
use Rattle.std.specs.Prelude.{Option, Some, None}
use Prim.Native.Nat.{ℕ}
use mathlib.Core.List.{List}
use mathlib.Core.Bool.{cond}
use mathlib.Core.Path.{◌≡◌, refl, sym, ◌∙◌, ap}
use native.Mathlib.Omega.{arith}
use lib.Dec.{eqb}
use Rattle.logic.specs.First.{Rows, Exactly}
use Rattle.rights.specs.declared.Service.{Service}
use Rattle.user_element.specs.declared.Note.{Note}
use Rattle.user_element.specs.Element.{note_number_of}
use Rattle.answer.specs.declared.Answer.{Answer}
use Rattle.answer.specs.Answer.{number_of}
use Rattle.sent.specs.declared.Message.{Message}
use Rattle.sent.specs.declared.side.Side.{Side}
use Rattle.call.specs.declared.Call.{Call}
use Rattle.event.specs.declared.Event.{Event}
use Rattle.call.specs.Step.{step_of}
use Rattle.call_promises.specs.Numbers.{Core, answer_rows, AnswersExactly}
use Rattle.call_promises.specs.Notes.{note_rows}
use Rattle.call_promises.specs.Refusals.{sent_to}
use Rattle.call_promises.specs.Sends.{IsWhatIsSent, SendsExactly}
use Rattle.call_promises.specs.Carriers.{IsTheCarrier, CarriersExactly}
use Rattle.call_promises.specs.Becomes.{IsTheRecord, BecomesExactly}
use Rattle.demands.specs.Demands.{Decided}
use Rattle.demands.proofs.Meets.{meets}

-- a number tells its answer, and its note
abbrev answer_at : ℕ → Answer
answer_at n =
    cond (eqb n 0) Answer.Taken
    (cond (eqb n 11) Answer.OutOfPhase
    (cond (eqb n 12) Answer.NotAnEvent
    (cond (eqb n 13) Answer.NoService
    (cond (eqb n 14) Answer.Spent
    (cond (eqb n 15) Answer.NotOpen
    (cond (eqb n 16) Answer.NotGranted
    (cond (eqb n 17) Answer.BadElement
    (cond (eqb n 18) Answer.AskedRequired (cond (eqb n 24) Answer.OutOfRange Answer.Unsound)))))))))

answer_back : (a : Answer) → answer_at (number_of a) ≡ a
answer_back Answer.Taken = refl
answer_back Answer.OutOfPhase = refl
answer_back Answer.NotAnEvent = refl
answer_back Answer.NoService = refl
answer_back Answer.Spent = refl
answer_back Answer.NotOpen = refl
answer_back Answer.NotGranted = refl
answer_back Answer.BadElement = refl
answer_back Answer.AskedRequired = refl
answer_back Answer.OutOfRange = refl
answer_back Answer.Unsound = refl

abbrev note_at : ℕ → Note
note_at n = cond (eqb n 0) Note.Clear (cond (eqb n 1) Note.Malformed (cond (eqb n 2) Note.TooLong Note.NotCarried))

note_back : (n : Note) → note_at (note_number_of n) ≡ n
note_back Note.Clear = refl
note_back Note.Malformed = refl
note_back Note.TooLong = refl
note_back Note.NotCarried = refl

same_answer : (a b : Answer) → number_of a ≡ number_of b → a ≡ b
same_answer a b e = sym (answer_back a) ∙ ap answer_at e ∙ answer_back b

same_note : (a b : Note) → note_number_of a ≡ note_number_of b → a ≡ b
same_note a b e = sym (note_back a) ∙ ap note_at e ∙ note_back b

same_number : (rows : Rows) (m n : ℕ) → Exactly rows m → Exactly rows n → m ≡ n
same_number rows m n p q = (p n).1 ((q n).0 refl)

-- what is told alike is sent alike
absent : {m : Message} → None ≡ Some m → ⊥
absent {m} e = let z : ◌≡◌ {A = ℕ} 0 1 = cc in omega arith

same_sent : (P : Message → Type 0) (s t : Option Message) → IsWhatIsSent P s → IsWhatIsSent P t → s ≡ t
same_sent P None None p q = refl
same_sent P None (Some m) p q = absurd (absent ((p m).1 ((q m).0 refl)))
same_sent P (Some m) t p q = sym ((q m).1 ((p m).0 refl))

same_call : (P : Call → Type 0) (c d : Call) → IsTheRecord P c → IsTheRecord P d → c ≡ d
same_call P c d p q = (p d).1 ((q d).0 refl)

-- and what is carried alike has one carrier
nobody : {k : Service} → None ≡ Some k → ⊥
nobody {k} e = let z : ◌≡◌ {A = ℕ} 0 1 = cc in omega arith

same_bearer : (P : Service → Type 0) (x y : Option Service) → IsTheCarrier P x → IsTheCarrier P y → x ≡ y
same_bearer P None None p q = refl
same_bearer P None (Some k) p q = absurd (nobody ((p k).1 ((q k).0 refl)))
same_bearer P (Some k) y p q = sym ((q k).1 ((p k).0 refl))

-- what four of the demands fix of a reply
pub same_record : (f : Core) → BecomesExactly f → (c : Call) (e : Event) (l : List ℕ) → (f c e l).call ≡ (step_of c e l).call
same_record f d c e l = same_call _ _ _ (d c e l) (meets.becomes c e l)

pub same_numbers : (f : Core) → AnswersExactly f → (c : Call) (e : Event) (l : List ℕ) → number_of (f c e l).answer ≡ number_of (step_of c e l).answer
same_numbers f d c e l = same_number (answer_rows c e l) _ _ (d c e l) (meets.answers c e l)

pub same_messages : (f : Core) → SendsExactly f → (c : Call) (e : Event) (l : List ℕ) (side : Side) → sent_to (f c e l) side ≡ sent_to (step_of c e l) side
same_messages f d c e l side = same_sent _ _ _ (d c e l side) (meets.sends c e l side)

pub same_carrier : (f : Core) → CarriersExactly f → (c : Call) (e : Event) (l : List ℕ) → (f c e l).dispatch.carrier ≡ (step_of c e l).dispatch.carrier
same_carrier f d c e l = same_bearer _ _ _ (d c e l) (meets.carriers c e l)

pub decided : Decided
decided f d c e l =
    let call = same_record f d.becomes c e l in
    let answer = same_answer _ _ (same_numbers f d.answers c e l) in
    let note = same_note _ _ (same_number (note_rows c e l) _ _ (d.notes c e l) (meets.notes c e l)) in
    let calling = same_messages f d.sends c e l Side.Calling in
    let called = same_messages f d.sends c e l Side.Called in
    let carrier = same_carrier f d.carriers c e l in
    λ i.
    record {
      call = call i;
      answer = answer i;
      note = note i;
      dispatch = record { calling = calling i; called = called i; carrier = carrier i };
    }
