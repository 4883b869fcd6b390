-- Pieces that are put into a lent buffer, one after another. Nobody has to believe this: the writer's contract does not
-- cite it.
use Rattle.std.specs.Prelude.{List, ℕ, ◌≡◌, length}
use Rattle.memory.specs.Putting.{Put}
use Rattle.writer.specs.declared.pen.Pen.{Pen}

-- a piece p was put where the next one went, into the same buffer
pub record Adds (p : List ℕ) (s t : Pen) : Type 0 where
  pub same : t.buf.ghost_name ≡ s.buf.ghost_name
  pub long : length t.buf.now ≡ length s.buf.now
  pub put : Put s.at p s.buf.now t.buf.now t.at
