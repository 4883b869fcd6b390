-- Every promise is kept.
use Rattle.demands.proofs.Demand1.{demand_1}
use Rattle.demands.proofs.Meets.{meets}
use Rattle.demands.proofs.Decided.{decided}
use Rattle.demands.proofs.WrongCores.{wrong_cores_lem}
use Rattle.demands.proofs.OneReply.{one_reply_lem}
use Rattle.call_promises.proofs.Causes.{causes, one_cause_lem, twenty_nine_lem}
use Rattle.octet_promises.proofs.Behind.{our_reading}
use Rattle.octet_promises.proofs.Others.{shifts_bind}
use Rattle.octet_promises.proofs.Promises.{element, writes, round_trip as message-round-trip, alike}
use Rattle.wire_promises.proofs.Sending.{sending}
use Rattle.wire_promises.proofs.Apart.{apart}
use Rattle.wire_promises.proofs.Samples.{samples}
use Rattle.wire_promises.proofs.Marked.{marked}
use Rattle.call_promises.proofs.LentMeter.{spending, ticking, lent_met}
use Rattle.table_promises.proofs.Table.{table, refused, one_place, named, fourteen}
use Rattle.table_promises.proofs.Replies.{replies}
use Rattle.table_promises.proofs.Halves.{halves, stale, stale_met_lem}
use Rattle.table_promises.proofs.Alone.{alone}
use Rattle.capture.proofs.Promises.{goes_on as capture-goes-on, line_each_lem, whole_run as capture-whole-run, always as capture-always}
use Rattle.capture.proofs.Bounds.{bounded as capture-bounded}
use Rattle.trace_promises.proofs.Records.{records}
use Rattle.trace_promises.proofs.Names.{names}
use Rattle.trace_promises.proofs.Means.{kinds, means}
use Rattle.trace_promises.proofs.RoundTrip.{round_trip as trace-round-trip, fitting}
use Rattle.trace_promises.proofs.WrittenBack.{written_back}
use Rattle.trace_promises.proofs.Heeded.{heeded, places_hold}
use Rattle.trace_promises.proofs.WholeRun.{goes_on as trace-goes-on, bounded as trace-bounded, whole_run as trace-whole-run, always as trace-always}
use Rattle.call_cases.proofs.Instances.{instances, reached, broken, example, cleared, twenty_nine_met_lem}
use Rattle.call_cases.proofs.MoreInstances.{more_instances_lem, none_left_out_lem, credit_shown_lem}
use Rattle.call_cases.proofs.Handed.{handed, held}
use Rattle.table_promises.proofs.AloneMet.{met as table-met, needed}
use Rattle.trace_promises.proofs.Instances.{met as trace-met}
use Rattle.demands.specs.EveryPromise.{EveryPromise}

pub every_promise : EveryPromise
every_promise =
    record {
      demand1 = demand_1;
      meets = meets;
      decided = decided;
      wrong_cores = wrong_cores_lem;
      one_reply = one_reply_lem;
      causes = causes;
      one_cause = one_cause_lem;
      twenty_nine = twenty_nine_lem;
      reading = our_reading;
      shifts = shifts_bind;
      whole_element = element;
      writes = writes;
      round_trip = message-round-trip;
      alike = alike;
      sending = sending;
      apart = apart;
      samples = samples;
      marked = marked;
      spending = spending;
      ticking = ticking;
      table = table;
      refused = refused;
      one_place = one_place;
      named = named;
      fourteen = fourteen;
      replies = replies;
      halves = halves;
      stale = stale;
      alone = alone;
      capture_goes_on = capture-goes-on;
      line_each = line_each_lem;
      capture_bounded = capture-bounded;
      capture_whole = capture-whole-run;
      capture_always = capture-always;
      records = records;
      field_named = names;
      record_kinds = kinds;
      record_means = means;
      record_trip = trace-round-trip;
      record_fitting = fitting;
      record_back = written_back;
      heeded = heeded;
      places = places_hold;
      trace_goes_on = trace-goes-on;
      trace_bounded = trace-bounded;
      trace_whole = trace-whole-run;
      trace_always = trace-always;
      instances = instances;
      reached = reached;
      broken = broken;
      example = example;
      cleared = cleared;
      twenty_nine_met = twenty_nine_met_lem;
      more_instances = more_instances_lem;
      none_left_out = none_left_out_lem;
      credit_shown = credit_shown_lem;
      handed = handed;
      held = held;
      lent_met = lent_met;
      alone_met = table-met;
      needed = needed;
      stale_met = stale_met_lem;
      trace_met = trace-met;
    }
