-- What a piece of trace begins with.
use Rattle.std.specs.Prelude.{Option, Some, None, Result, Ok, Err, ℕ, List, Bool, cond}
use Rattle.trace.specs.declared.Entry.{Entry}
use Rattle.trace.specs.declared.Fault.{Fault}
use Rattle.trace.specs.Reading.{record_of}

-- "record cut short" is a fault where nothing more comes; otherwise the rest of the record is waited for
abbrev pub heeded_of : Bool → Option (Result Entry Fault) → Option (Result Entry Fault)
heeded_of last None = None
heeded_of last (Some (Ok e)) = Some (Ok e)
heeded_of last (Some (Err Fault.Kind)) = Some (Err Fault.Kind)
heeded_of last (Some (Err Fault.Short)) = cond last (Some (Err Fault.Short)) None
heeded_of last (Some (Err (Fault.Range f))) = Some (Err (Fault.Range f))

-- what a piece of trace begins with; last says that nothing comes after the piece
unfoldable pub front_of : Bool → List ℕ → Option (Result Entry Fault)
front_of last t = heeded_of last (record_of t)
