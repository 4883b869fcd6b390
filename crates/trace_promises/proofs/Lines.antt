-- The line of a record has at most 143 octets.
use Rattle.std.specs.Prelude.{Option, Some, None}
use Prim.Native.Nat.{ℕ, suc, ◌+◌, ◌≤◌}
use mathlib.Core.List.{List, [], ◌∷◌, ◌++◌}
use mathlib.Core.Bool.{Bool, true, false}
use mathlib.Core.Path.{◌≡◌, refl}
use native.Mathlib.Omega.{arith}
use lib.ListN.{length, length-append}
use Rattle.user_element.specs.declared.Note.{Note}
use Rattle.services.specs.declared.Said.{Said}
use Rattle.user_element.specs.Element.{note_number_of}
use Rattle.answer.specs.declared.Answer.{Answer}
use Rattle.sent.specs.declared.Level.{Level}
use Rattle.sent.specs.declared.Message.{Message}
use Rattle.answer.specs.Answer.{number_of}
use Rattle.call.specs.declared.Call.{Call}
use Rattle.table.specs.declared.verdict.Verdict.{Verdict}
use Rattle.table.specs.Verdict.{verdict_number}
use Rattle.table.specs.Step.{step_outcome}
use Rattle.trace.specs.declared.kind.RecordKind.{RecordKind}
use Rattle.trace.specs.declared.Entry.{Entry}
use Rattle.trace.specs.declared.Fault.{Fault}
use Rattle.trace.specs.Kind.{record_kind_octet}
use Rattle.trace.specs.Reading.{trace_fault_number, record_reference_of, entry_of, element_of}
use Rattle.text.specs.Decimal.{decimal_of}
use Rattle.text.proofs.Digits.{at_most}
use Rattle.trace_lines.specs.declared.report.Columns.{Columns}
use Rattle.trace_lines.specs.Items.{cause_item, level_item, said_item, more_item, element_item, items_of, commas, joined, message_column}
use Rattle.trace_lines.specs.Line.{type_column, said_columns, number_columns, type_columns, line_of}
use Rattle.trace_lines.specs.Notices.{fault_line}
use Rattle.trace_run.specs.Entry.{columns_of}
use Rattle.trace_run.specs.Course.{turned_at, Answered, answered_at, lines}
use Rattle.trace_run.specs.Run.{line_at}
use Rattle.trace_promises.specs.WholeRun.{Octets}
use Rattle.trace_promises.proofs.Fronts.{Whole}
use Rattle.trace_promises.proofs.Causes.{CauseIn, SentIn, tells}

-- items, each with its `,`
commas_then : (a b : List (List ℕ)) → length (commas (a ++ b)) ≡ length (commas a) + length (commas b)
unfolding commas
commas_then [] b = omega arith
commas_then (i ∷ is) b = let h = commas_then is b in simp length-append (omega arith)

one_item : (i : List ℕ) → length (commas (i ∷ [])) ≡ 1 + length i
unfolding commas
one_item i = simp length-append (omega arith)

no_items : length (commas []) ≡ 0
unfolding commas
no_items = refl

joined_short : (is : List (List ℕ)) (n : ℕ) → length (commas is) ≤ suc n → 4 ≤ n → length (joined is) ≤ n
unfolding commas joined
joined_short [] n h k = omega arith
joined_short (i ∷ is) n h k = omega arith

few : (n : ℕ) → n ≤ 127 → length (decimal_of n) ≤ 3
few n h = at_most 2 n (omega arith)

cause_item_lem : (c : Option ℕ) → CauseIn c → length (commas (cause_item c)) ≤ 10
cause_item_lem None h = rw no_items (omega arith)
cause_item_lem (Some n) h = let f = few n h in rw one_item (omega arith)

level_item_lem : (l : Level) → length (commas (level_item l)) ≤ 9
level_item_lem Level.Absent = rw no_items (omega arith)
level_item_lem Level.Ready = rw one_item (omega arith)
level_item_lem Level.NotReady = rw one_item (omega arith)

said_item_lem : (digit : ℕ) (s : Said) → length (commas (said_item digit s)) ≤ 10
said_item_lem digit Said.Nothing = rw no_items (omega arith)
said_item_lem digit Said.Preferred = rw one_item (omega arith)
said_item_lem digit Said.Required = rw one_item (omega arith)
said_item_lem digit Said.Accepted = rw one_item (omega arith)
said_item_lem digit Said.ByUser = rw one_item (omega arith)
said_item_lem digit Said.ByNetwork = rw one_item (omega arith)

more_item_lem : (b : Bool) → length (commas (more_item b)) ≤ 5
more_item_lem true = rw one_item (omega arith)
more_item_lem false = rw no_items (omega arith)

element_item_lem : (b : Bool) → length (commas (element_item b)) ≤ 8
element_item_lem true = rw one_item (omega arith)
element_item_lem false = rw no_items (omega arith)

items_short : (m : Message) → CauseIn m.cause → length (commas (items_of m)) ≤ 62
unfolding items_of
items_short m h =
    let a = cause_item_lem m.cause h in
    let b = level_item_lem m.level in
    let c = said_item_lem 49 m.said.one in
    let d = said_item_lem 50 m.said.two in
    let e = said_item_lem 51 m.said.three in
    let f = more_item_lem m.more in
    let g = element_item_lem m.element in
    simp commas_then (omega arith)

message_short : (s : Option Message) → SentIn s → length (message_column s) ≤ 61
message_short None h = omega arith
message_short (Some m) h = joined_short (items_of m) 61 (items_short m h) (omega arith)

-- the other columns
kind_small : (k : RecordKind) → record_kind_octet k ≤ 9
kind_small RecordKind.Setup = omega arith
kind_small RecordKind.Alerting = omega arith
kind_small RecordKind.Connect = omega arith
kind_small RecordKind.Information = omega arith
kind_small RecordKind.Facility = omega arith
kind_small RecordKind.Disconnect = omega arith
kind_small RecordKind.ReleaseComplete = omega arith
kind_small RecordKind.Tick = omega arith

answer_small : (a : Answer) → number_of a ≤ 25
answer_small Answer.Taken = omega arith
answer_small Answer.OutOfPhase = omega arith
answer_small Answer.NotAnEvent = omega arith
answer_small Answer.NoService = omega arith
answer_small Answer.Spent = omega arith
answer_small Answer.NotOpen = omega arith
answer_small Answer.NotGranted = omega arith
answer_small Answer.BadElement = omega arith
answer_small Answer.AskedRequired = omega arith
answer_small Answer.OutOfRange = omega arith
answer_small Answer.Unsound = omega arith

verdict_small : (v : Verdict) → verdict_number v ≤ 25
verdict_small (Verdict.Heard a) = answer_small a
verdict_small Verdict.NoPlace = omega arith
verdict_small Verdict.Held = omega arith
verdict_small Verdict.NoCall = omega arith

note_small : (n : Note) → note_number_of n ≤ 3
note_small Note.Clear = omega arith
note_small Note.Malformed = omega arith
note_small Note.TooLong = omega arith
note_small Note.NotCarried = omega arith

type_short : (s : Option Message) → length (type_column s) ≤ 2
type_short None = omega arith
type_short (Some m) = omega arith

-- the columns of a line
pub record ColumnsIn (o : Columns) : Type 0 where
  pub reference : o.reference ≤ 65535
  pub answer : o.answer ≤ 25
  pub calling : SentIn o.dispatch.calling
  pub called : SentIn o.dispatch.called

numbers_short : (o : Columns) → ColumnsIn o → length (number_columns o) ≤ 12
unfolding number_columns
numbers_short o h =
    let a = at_most 0 (record_kind_octet o.kind) (omega (arith, kind_small o.kind)) in
    let b = at_most 4 o.reference (omega (arith, h.reference)) in
    let c = at_most 1 o.answer (omega (arith, h.answer)) in
    let d = at_most 0 (note_number_of o.note) (omega (arith, note_small o.note)) in
    simp length-append (omega arith)

types_short : (o : Columns) → length (type_columns o) ≤ 6
unfolding type_columns
types_short o =
    let a = type_short o.dispatch.calling in
    let b = type_short o.dispatch.called in
    simp length-append (omega arith)

said_short : (explained : Bool) (o : Columns) → ColumnsIn o → length (said_columns explained o) ≤ 124
said_short true o h =
    let a = message_short o.dispatch.calling h.calling in
    let b = message_short o.dispatch.called h.called in
    simp length-append (omega arith)
said_short false o h = omega arith

line_short : (explained : Bool) (o : Columns) → ColumnsIn o → length (line_of explained o) ≤ 143
unfolding line_of
line_short explained o h =
    let a = numbers_short o h in
    let b = types_short o in
    let c = said_short explained o h in
    simp length-append (omega arith)

-- the line of a record
reference_in_lem : (t : List ℕ) (e : Entry) → Octets t → Whole t e → e.reference ≤ 65535
unfolding entry_of record_reference_of
reference_in_lem t e o w = rw w.entry (let a = o 1 in let b = o 2 in omega arith)

columns_in : (calls : List Call) (t : List ℕ) (e : Entry) → Octets t → Whole t e → ColumnsIn (columns_of e (turned_at calls e t).outcome)
unfolding columns_of turned_at
columns_in calls t e o w =
    let s = tells calls e.reference e.event (element_of e t) in
    record {
      reference = reference_in_lem t e o w;
      answer = verdict_small (step_outcome calls e.reference e.event (element_of e t)).verdict;
      calling = s.calling;
      called = s.called;
    }

pub record_short : (explained : Bool) (calls : List Call) (t : List ℕ) (e : Entry) → Octets t → Whole t e → length (line_at (lines explained) calls e t) ≤ 143
unfolding line_at answered_at
record_short explained calls t e o w = line_short explained _ (columns_in calls t e o w)

-- it has octets
pub line_some : (explained : Bool) (a : Answered) → 1 ≤ length ((lines explained).line a)
unfolding line_of
line_some explained a = simp length-append (omega arith)

pub fault_short : (f : Fault) → length (fault_line f) ≤ 143
fault_short f = let n = at_most 1 (trace_fault_number f) (omega (arith, fault_small f)) in simp length-append (omega arith)
  where
    fault_small : (f : Fault) → trace_fault_number f ≤ 33
    fault_small Fault.Kind = omega arith
    fault_small Fault.Short = omega arith
    fault_small (Fault.Range f) = omega arith
