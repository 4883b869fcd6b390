-- Every promise that is no part of the demands on one call: on octets, the lent meter, the lent table, captures and
-- traces, with the instances that show that no premise is empty. One term inhabits it, so that none can be left out.
use Rattle.call.specs.Step.{step_of}
use Rattle.demands.specs.Demand1.{Demand1}
use Rattle.demands.specs.Demands.{Demands, Decided}
use Rattle.demands.specs.WrongCores.{WrongCores}
use Rattle.demands.specs.OneReply.{OneReply}
use Rattle.call_promises.specs.Numbers.{Core}
use Rattle.call_promises.specs.Sends.{SendsExactly}
use Rattle.call_promises.specs.Causes.{Causes, OneCause, TwentyNine}
use Rattle.octet_promises.specs.ReadingDemands.{OurReading}
use Rattle.octet_promises.specs.OtherReaders.{ShiftsBind}
use Rattle.octet_promises.specs.Promises.{WholeElement, Writes, RoundTrip as MessageRoundTrip, Alike}
use Rattle.wire_promises.specs.Sending.{Sending, Apart}
use Rattle.wire_promises.specs.Samples.{Samples}
use Rattle.wire_promises.specs.Marked.{Marked}
use Rattle.call_promises.specs.LentMeter.{LentSpending, LentTicking, LentMet}
use Rattle.table_promises.specs.Table.{Table, RefusalsKeep, OnePlace, Named, Fourteen}
use Rattle.table_promises.specs.Replies.{Replies}
use Rattle.table_promises.specs.Halves.{Halves, Stale, StaleMet}
use Rattle.table_promises.specs.Alone.{Alone, AloneMet, Needed}
use Rattle.capture.specs.Promises.{GoesOn as CaptureGoesOn, LineEach, Bounded as CaptureBounded, WholeRun as CaptureWholeRun, Always as CaptureAlways}
use Rattle.trace_promises.specs.Records.{Records}
use Rattle.trace_promises.specs.Names.{Names}
use Rattle.trace_promises.specs.Means.{Kinds, Means}
use Rattle.trace_promises.specs.RoundTrip.{RoundTrip as TraceRoundTrip, Fitting, WrittenBack}
use Rattle.trace_promises.specs.Heeded.{Heeded, Places}
use Rattle.trace_promises.specs.WholeRun.{GoesOn as TraceGoesOn, Bounded as TraceBounded, WholeRun as TraceWholeRun, Always as TraceAlways}
use Rattle.call_cases.specs.Instances.{Instances, Reached, Broken, Example, Cleared, TwentyNineMet}
use Rattle.call_cases.specs.MoreInstances.{MoreInstances, NoneLeftOut, CreditShown}
use Rattle.call_cases.specs.Handed.{ElementsHanded, ServicesHeld}
use Rattle.trace_promises.specs.Instances.{TraceMet}

pub record EveryPromise : Type 1 where
  -- DEMAND 1, and that the demands on a call decide it
  pub demand1 : Demand1
  pub meets : Demands step_of
  pub decided : Decided
  pub wrong_cores : WrongCores
  pub one_reply : OneReply
  -- the causes follow from what is sent, whatever the core
  pub causes : (f : Core) → SendsExactly f → Causes f
  pub one_cause : OneCause
  pub twenty_nine : (f : Core) → Causes f → TwentyNine f
  -- OCTETS. What is written reads back the same; which elements count, and that this decides the reader
  pub reading : OurReading
  pub shifts : ShiftsBind
  pub whole_element : WholeElement
  pub writes : Writes
  pub round_trip : MessageRoundTrip
  pub alike : Alike
  -- what a call says, as octets on the line; and the cases that the paper marks P
  pub sending : Sending
  pub apart : Apart
  pub samples : Samples
  pub marked : Marked
  -- THE LENT METER is that of the call
  pub spending : LentSpending
  pub ticking : LentTicking
  -- THE LENT TABLE
  pub table : Table
  pub refused : RefusalsKeep
  pub one_place : OnePlace
  pub named : Named
  pub fourteen : Fourteen
  pub replies : Replies
  pub halves : Halves
  pub stale : Stale
  pub alone : Alone
  -- CAPTURES, read in pieces
  pub capture_goes_on : CaptureGoesOn
  pub line_each : LineEach
  pub capture_bounded : CaptureBounded
  pub capture_whole : CaptureWholeRun
  pub capture_always : CaptureAlways
  -- TRACES, read in pieces
  pub records : Records
  pub field_named : Names
  pub record_kinds : Kinds
  pub record_means : Means
  pub record_trip : TraceRoundTrip
  pub record_fitting : Fitting
  pub record_back : WrittenBack
  pub heeded : Heeded
  pub places : Places
  pub trace_goes_on : TraceGoesOn
  pub trace_bounded : TraceBounded
  pub trace_whole : TraceWholeRun
  pub trace_always : TraceAlways
  -- NO EMPTY PREMISE. Runs that meet the premises, and runs that go wrong without one
  pub instances : Instances
  pub reached : Reached
  pub broken : Broken
  pub example : Example
  pub cleared : Cleared
  pub twenty_nine_met : TwentyNineMet
  pub more_instances : MoreInstances
  pub none_left_out : NoneLeftOut
  pub credit_shown : CreditShown
  pub handed : ElementsHanded
  pub held : ServicesHeld
  pub lent_met : LentMet
  pub alone_met : AloneMet
  pub needed : Needed
  pub stale_met : StaleMet
  pub trace_met : TraceMet
