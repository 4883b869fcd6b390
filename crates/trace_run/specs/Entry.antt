-- The columns of what a record of a trace is answered.
use Rattle.table.specs.declared.settle.Outcome.{Outcome}
use Rattle.table.specs.Verdict.{verdict_number}
use Rattle.trace.specs.declared.Entry.{Entry}
use Rattle.trace_lines.specs.declared.report.Columns.{Columns}

-- `kind ref answer note calling called`
unfoldable pub columns_of : Entry → Outcome → Columns
columns_of e o =
    record {
      kind = e.kind;
      reference = e.reference;
      answer = verdict_number o.verdict;
      note = o.note;
      dispatch = o.dispatch;
    }
