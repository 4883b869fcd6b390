-- "Any two replies it allows are shown equal." A public contract has one of six forms, and of each form: two results
-- of one input that meet it are the same, and so is every octet and record that was lent. Which function has which form
-- is listed in docs/made/CONTRACTS.md.
use Rattle.std.specs.Prelude.{Result, ℕ, List, Bool, ◌≡◌}
use Rattle.memory.specs.declared.Bar.{Bar}
use Rattle.memory.specs.Room.{Written, Kept}
use Rattle.text.specs.declared.octets.Reading.{Reading}
use Rattle.text.specs.declared.octets.Spelt.{Spelt}
use Rattle.text.specs.Octets.{Spells}
use Rattle.capture.specs.declared.frames.Done.{Done}
use Rattle.capture.specs.Frames.{Digested}
use Rattle.call.specs.declared.Call.{Call}
use Rattle.trace_run.specs.declared.Worked.{Worked}
use Rattle.trace_run.specs.Course.{Output}
use Rattle.trace_run.specs.Run.{WorkedOff}

pub record OneReply : Type 1 where
  -- the result, or what is lent at exit, is a definition's value: here all lies in the definition that is cited
  pub valued : (A : Type 0) (value r s : A) → r ≡ value → s ≡ value → r ≡ s
  -- a piece was to be written into lent memory
  pub written :
      (fits : Bool) (at : ℕ) (p l l' l'' : List ℕ) (r s : Result ℕ Bar) → Written fits at p l l' r → Written fits at p l l'' s → (r ≡ s) × (l' ≡ l'')
  -- octets of lent memory are moved to its front
  pub kept : (from to : ℕ) (l l' l'' : List ℕ) (r s : ℕ) → Kept from to l l' r → Kept from to l l'' s → (r ≡ s) × (l' ≡ l'')
  -- a piece of text is read as octets into lent memory
  pub spelt :
      (t : List ℕ) (from : Reading) (l l' l'' : List ℕ) (r s : Spelt) → Spells t from l l' r → Spells t from l l'' s → (r ≡ s) × (l' ≡ l'')
  -- a piece of capture is printed into lent memory
  pub digested :
      (c : List ℕ) (offset : ℕ) (l l' l'' : List ℕ) (r s : Done) → Digested c offset l l' r → Digested c offset l l'' s → (r ≡ s) × (l' ≡ l'')
  -- a piece of trace is worked off at a lent table, and printed into lent memory
  pub worked_off :
      (p : Output) (last : Bool) (table : List Call) (t l l' l'' : List ℕ) (r s : Worked) → WorkedOff p last table t l l' r →
      WorkedOff p last table t l l'' s → (r ≡ s) × (l' ≡ l'')
