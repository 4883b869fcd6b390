-- A piece that is being worked off: what is left of it makes up what the whole of it makes.
use Rattle.std.specs.Prelude.{Option, Some, None, Result, Ok, Err}
use Rattle.trace.specs.declared.Field.{Field}
use Prim.Native.Nat.{ℕ, zero, suc, ◌+◌, ◌-◌, ◌<◌, ◌≤◌}
use mathlib.Core.List.{List, [], append-nil}
use mathlib.Core.Bool.{Bool, true, false, cond}
use mathlib.Core.Path.{◌≡◌, refl, sym, ap, ◌∙◌}
use native.Mathlib.Omega.{arith}
use borrow.Author.Tests.{le-leb, lt-leb, ltb-true, ltb-false, leb-true, leb-false}
use lib.Dec.{leb, ltb, eqb}
use lib.ListN.{length, get_or, take, drop, length-append, length-drop, drop_of_length-le}
use lib.Seq.{drop-drop, take_at}
use Rattle.memory.specs.declared.Bar.{Bar}
use Rattle.memory.specs.Putting.{end_of}
use Rattle.memory.specs.Room.{placed, wrote_of, left_of, Written}
use Rattle.memory.proofs.Pieces.{length_placed, placed_then, no_put}
use Rattle.call.specs.declared.Call.{Call}
use Rattle.trace.specs.declared.kind.RecordKind.{RecordKind}
use Rattle.trace.specs.declared.Entry.{Entry}
use Rattle.trace.specs.declared.Fault.{Fault}
use Rattle.trace.specs.Kind.{layout_of, size_of, record_kind_of}
use Rattle.trace.specs.Ranges.{first_out_of}
use Rattle.trace.specs.Reading.{record_of, named_of, entry_of, whole_of, element_of}
use Rattle.trace.proofs.Rows.{least}
use Rattle.trace_run.specs.declared.Stand.{Stand}
use Rattle.trace_run.specs.declared.Worked.{Worked}
use Rattle.table.specs.declared.settle.Outcome.{Outcome}
use Rattle.table.specs.Halves.{look_of, committed}
use Rattle.table.proofs.step.Planned.{plan_told, plan_put}
use Rattle.trace_run.specs.Front.{heeded_of, front_of}
use Rattle.trace_run.specs.Course.{turned_at, answered_at, Output, lines}
use Rattle.trace_run.specs.Entry.{columns_of}
use Rattle.trace_lines.specs.Line.{line_of}
use Rattle.table.specs.Plan.{plan_of}
use Rattle.trace_run.specs.Run.{line_at, Ran, ran_text, rests, ends, goes, run_in, trace_run_of, so_far, WorkedOff}

-- the octets of a whole record
abbrev size_in : Option (Result Entry Fault) → ℕ
size_in None = 0
size_in (Some (Err f)) = 0
size_in (Some (Ok e)) = size_of e.kind

-- nothing stands at the front of no octets
pub front_empty : (last : Bool) (c : List ℕ) (i : ℕ) → length c ≤ i → front_of last (drop i c) ≡ None
unfolding front_of record_of
front_empty last c i h = rw (drop_of_length-le c {i = i} h)

-- a whole record is no longer than the piece
module _ (last : Bool) (t : List ℕ) where
  cut_short : (b : Bool) → size_in (cond b (Some (Err Fault.Short)) None) ≤ length t
  cut_short true = omega arith
  cut_short false = omega arith

  of_kind : (k : RecordKind) (a : Bool) (x : Option Field) → ltb (length t) (size_of k) ≡ a → size_in (heeded_of last (cond a (Some (Err Fault.Short)) (whole_of x (entry_of k t)))) ≤ length t
  unfolding entry_of
  of_kind k true x s = cut_short last
  of_kind k false None s = ltb-false (length t) (size_of k) s
  of_kind k false (Some f) s = omega arith

  of_named : (n : Option RecordKind) → size_in (heeded_of last (named_of n t)) ≤ length t
  of_named None = omega arith
  of_named (Some k) = of_kind k (ltb (length t) (size_of k)) (first_out_of (layout_of k) t) refl

  of_record : (b : Bool) → size_in (heeded_of last (cond b None (named_of (record_kind_of (get_or t 0 0)) t))) ≤ length t
  of_record true = omega arith
  of_record false = of_named (record_kind_of (get_or t 0 0))

  fits : size_in (front_of last t) ≤ length t
  unfolding front_of record_of
  fits = of_record (eqb (length t) 0)

pub front_fits : (last : Bool) (c : List ℕ) (i : ℕ) → i ≤ length c → i + size_in (front_of last (drop i c)) ≤ length c
front_fits last c i h = let f = fits last (drop i c) in omega (arith, rw length-drop at f)

whole_fits : (last : Bool) (c : List ℕ) (i : ℕ) {e : Entry} → front_of last (drop i c) ≡ Some (Ok e) → size_of e.kind ≤ length c - i
whole_fits last c i h = rw (h, length-drop) at (fits last (drop i c))

-- a fault stands in front of something
at_end : {f : Fault} (t : Bool) (last : Bool) (c : List ℕ) (i : ℕ) → ltb i (length c) ≡ t → front_of last (drop i c) ≡ Some (Err f) → i < length c
at_end true last c i e h = ltb-true _ _ e
at_end false last c i e h =
    let w = front_empty last c i (ltb-false _ _ e) in
    let z : ◌≡◌ {A = ℕ} 0 1 = cc in
    absurd (omega arith)

faulty_some : (last : Bool) (c : List ℕ) (i : ℕ) {f : Fault} → front_of last (drop i c) ≡ Some (Err f) → i < length c
faulty_some last c i h = at_end (ltb i (length c)) last c i refl h

module _ (p : Output) (last : Bool) (room : ℕ) (table : List Call) (t : List ℕ) where
  run_waits : (fuel : ℕ) → front_of last t ≡ None → run_in fuel p last room table t ≡ rests table
  unfolding run_in
  run_waits zero h = refl
  run_waits (suc k) h = rw h

  run_faulty : (fuel : ℕ) {f : Fault} → 1 ≤ fuel → front_of last t ≡ Some (Err f) → run_in fuel p last room table t ≡ cond (leb (length (p.fault f)) room) (ends table f) (rests table)
  unfolding run_in
  run_faulty zero k h = absurd (omega arith)
  run_faulty (suc n) k h = rw h

  abbrev after : ℕ → Entry → Ran
  after fuel e = run_in fuel p last (room - length (line_at p table e t)) (turned_at table e t).calls (drop (size_of e.kind) t)

  run_whole : (fuel : ℕ) {e : Entry} → front_of last t ≡ Some (Ok e) → run_in (suc fuel) p last room table t ≡ cond (leb (length (line_at p table e t)) room) (goes (size_of e.kind) (answered_at table e t) (after fuel e)) (rests table)
  unfolding run_in
  run_whole fuel h = rw h

-- place i of the piece c is reached, with k octets of text written and at most as many records to come as there is fuel
pub record Going (p : Output) (last : Bool) (first : List Call) (c l : List ℕ) (fuel : ℕ) (table : List Call) (out : List ℕ) (i k n : ℕ) : Type 0 where
  pub within : i ≤ length c
  pub room : k ≤ length out
  pub long : length out ≡ length l
  pub enough : length c - i ≤ fuel
  pub calls : (run_in fuel p last (length out - k) table (drop i c)).calls ≡ (trace_run_of p last (length l) first c).calls
  pub used : i + (run_in fuel p last (length out - k) table (drop i c)).used ≡ (trace_run_of p last (length l) first c).used
  pub wrote : k + length (ran_text p (run_in fuel p last (length out - k) table (drop i c))) ≡ length (ran_text p (trace_run_of p last (length l) first c))
  pub records : n + length (run_in fuel p last (length out - k) table (drop i c)).list ≡ length (trace_run_of p last (length l) first c).list
  pub end : (run_in fuel p last (length out - k) table (drop i c)).end ≡ (trace_run_of p last (length l) first c).end
  pub buffer : placed k (ran_text p (run_in fuel p last (length out - k) table (drop i c))) out ≡ placed 0 (ran_text p (trace_run_of p last (length l) first c)) l

pub record Goes (p : Output) (last : Bool) (first : List Call) (c l : List ℕ) (table : List Call) (out : List ℕ) (i k n : ℕ) : Type 0 where
  pub fuel : ℕ
  pub going : Going p last first c l fuel table out i k n

pub start : (p : Output) (last : Bool) (first : List Call) (c l : List ℕ) → Goes p last first c l first l 0 0 0
unfolding trace_run_of
start p last first c l =
    let n : length l - 0 ≡ length l = omega arith in
    record {
      fuel = length c;
      going =
          record {
            within = omega arith;
            room = omega arith;
            long = refl;
            enough = omega arith;
            calls = rw n;
            used = rw n (omega arith);
            wrote = rw n (omega arith);
            records = rw n (omega arith);
            end = rw n;
            buffer = rw n;
          };
    }

module _ (p : Output) (last : Bool) (first : List Call) (c l : List ℕ) (table : List Call) (out : List ℕ) (i k n : ℕ) where
  abbrev to_come : ℕ → Ran
  to_come fuel = run_in fuel p last (length out - k) table (drop i c)

  -- nothing is to come
  stop : (fuel : ℕ) → Going p last first c l fuel table out i k n → to_come fuel ≡ rests table → WorkedOff p last first c l out (record { calls = table; used = i; wrote = k; records = n; end = None })
  stop fuel g e =
      record {
        calls = rw e at g.calls;
        used = omega (arith, rw e at g.used);
        wrote = omega (arith, rw e at g.wrote);
        records = omega (arith, rw e at g.records);
        end = rw e at g.end;
        buffer = (no_put {at = k} {l = out}).octets ∙ (rw e at g.buffer);
      }

  pub stop_waits : Goes p last first c l table out i k n → front_of last (drop i c) ≡ None → WorkedOff p last first c l out (record { calls = table; used = i; wrote = k; records = n; end = None })
  stop_waits s h = stop s.fuel s.going (run_waits p last (length out - k) table (drop i c) s.fuel h)

  module _ {f : Fault} (s : Goes p last first c l table out i k n) (faulty : front_of last (drop i c) ≡ Some (Err f)) where
    turns : to_come s.fuel ≡ cond (leb (length (p.fault f)) (length out - k)) (ends table f) (rests table)
    turns = let h = faulty_some last c i faulty in run_faulty p last (length out - k) table (drop i c) s.fuel (omega (arith, s.going.enough)) faulty

    fault_full : length out < k + length (p.fault f) → WorkedOff p last first c l out (record { calls = table; used = i; wrote = k; records = n; end = None })
    fault_full r =
        let g = s.going in
        let t = lt-leb (length (p.fault f)) (length out - k) (omega (arith, g.room, r)) in
        stop s.fuel g (turns ∙ ap (λ (b : Bool). cond b (ends table f) (rests table)) t)

    fault_put : k + length (p.fault f) ≤ length out → WorkedOff p last first c l (placed k (p.fault f) out) (record { calls = table; used = i; wrote = k + length (p.fault f); records = n; end = Some f })
    fault_put r =
        let g = s.going in
        let t = le-leb (length (p.fault f)) (length out - k) (omega (arith, r)) in
        let u : to_come s.fuel ≡ ends table f = turns ∙ ap (λ (b : Bool). cond b (ends table f) (rests table)) t in
        record {
          calls = rw u at g.calls;
          used = omega (arith, rw u at g.used);
          wrote = rw u at g.wrote;
          records = omega (arith, rw u at g.records);
          end = rw u at g.end;
          buffer = rw u at g.buffer;
        }

  module _ (e : Entry) (whole : front_of last (drop i c) ≡ Some (Ok e)) where
    abbrev line : List ℕ
    line = line_at p table e (drop i c)

    abbrev later : ℕ → Ran
    later fuel = after p last (length out - k) table (drop i c) fuel e

    chosen : Bool → ℕ → Ran
    chosen b fuel = cond b (goes (size_of e.kind) (answered_at table e (drop i c)) (later fuel)) (rests table)

    line_full : (fuel : ℕ) → Going p last first c l fuel table out i k n → length out < k + length line → WorkedOff p last first c l out (record { calls = table; used = i; wrote = k; records = n; end = None })
    unfolding chosen
    line_full zero g r =
        let m = whole_fits last c i whole in
        absurd (omega (arith, g.enough, least e.kind))
    line_full (suc fuel) g r =
        let t = lt-leb (length line) (length out - k) (omega (arith, g.room, r)) in
        stop (suc fuel) g (run_whole p last (length out - k) table (drop i c) fuel whole ∙ ap (λ (b : Bool). chosen b fuel) t)

    module _ (r : k + length line ≤ length out) where
      as_long : length (placed k line out) ≡ length out
      as_long = length_placed k line out r

      next : (fuel : ℕ) → to_come (suc fuel) ≡ goes (size_of e.kind) (answered_at table e (drop i c)) (run_in fuel p last (length (placed k line out) - (k + length line)) (turned_at table e (drop i c)).calls (drop (i + size_of e.kind) c))
      unfolding chosen
      next fuel =
          let a = as_long in
          let t = le-leb (length line) (length out - k) (omega (arith, r)) in
          let left : length out - k - length line ≡ length (placed k line out) - (k + length line) = omega arith in
          run_whole p last (length out - k) table (drop i c) fuel whole ∙ ap (λ (b : Bool). chosen b fuel) t ∙ rw (left, drop-drop (size_of e.kind) i c)

      line_put : (fuel : ℕ) → Going p last first c l fuel table out i k n → Goes p last first c l (turned_at table e (drop i c)).calls (placed k line out) (i + size_of e.kind) (k + length line) (n + 1)
      unfolding line_at
      line_put zero g =
          let m = whole_fits last c i whole in
          absurd (omega (arith, g.enough, least e.kind))
      line_put (suc f) g =
          let m = whole_fits last c i whole in
          let a = as_long in
          record {
            fuel = f;
            going =
                record {
                  within = omega (arith, g.within);
                  room = omega (arith, r);
                  long = a ∙ g.long;
                  enough = omega (arith, g.enough, least e.kind);
                  calls = rw (next f) at g.calls;
                  used = omega (arith, rw (next f) at g.used);
                  wrote = omega (arith, simp length-append at (rw (next f) at g.wrote));
                  records = omega (arith, rw (next f) at g.records);
                  end = rw (next f) at g.end;
                  buffer = placed_then k line out r (ran_text p (run_in f p last (length (placed k line out) - (k + length line)) (turned_at table e (drop i c)).calls (drop (i + size_of e.kind) c))) ∙ (rw (next f) at g.buffer);
                };
          }

-- the rest of the piece, as the code lends it on
pub rest_is : (c : List ℕ) (i : ℕ) → take (length c - i) (drop i c) ≡ drop i c
rest_is c i = ap (λ (l : List ℕ). take (length c - i) l) (sym (append-nil (drop i c))) ∙ take_at (drop i c) [] (length c - i) (rw length-drop)

-- ---- turn by turn: what has been worked off, and what is left of the piece, make up what the whole piece makes
pub record Kept (p : Output) (last : Bool) (first : List Call) (c l : List ℕ) (s : Stand) (table : List Call) (out : List ℕ) : Type 0 where
  pub counted : s.records ≤ s.used
  pub unended : s.end ≡ None
  pub going : Goes p last first c l table out s.used s.wrote s.records

-- a text that was written, and one that had no room; what is public of the first is cited by the proof that comes with
-- must-fail/fault_goes_on
pub record Took (at : ℕ) (p l l' : List ℕ) (n : ℕ) : Type 0 where
  pub fits : at + length p ≤ length l
  pub end : n ≡ at + length p
  pub octets : l' ≡ placed at p l

record Full (at : ℕ) (p l l' : List ℕ) : Type 0 where
  over : length l < at + length p
  octets : l' ≡ l

module _ {at : ℕ} {p l l' : List ℕ} where
  took_by : {n : ℕ} (b : Bool) → leb (at + length p) (length l) ≡ b → ◌≡◌ {A = Result ℕ Bar} (Ok n) (cond b (Ok (at + length p)) (Err Bar.Room)) → l' ≡ cond b (placed at p l) l → Took at p l l' n
  took_by true e a o = record { fits = leb-true _ _ e; end = ap end_of a; octets = o }
  took_by false e a o = let z : ◌≡◌ {A = ℕ} 0 1 = cc in absurd (omega arith)

  full_by : {b : Bar} (f : Bool) → leb (at + length p) (length l) ≡ f → ◌≡◌ {A = Result ℕ Bar} (Err b) (cond f (Ok (at + length p)) (Err Bar.Room)) → l' ≡ cond f (placed at p l) l → Full at p l l'
  full_by true e a o = let z : ◌≡◌ {A = ℕ} 0 1 = cc in absurd (omega arith)
  full_by false e a o = record { over = leb-false _ _ e; octets = o }

  pub took : {n : ℕ} → Written true at p l l' (Ok n) → Took at p l l' n
  unfolding wrote_of left_of
  took w = took_by _ refl w.answer w.buffer

  full : {b : Bar} → Written true at p l l' (Err b) → Full at p l l'
  unfolding wrote_of left_of
  full w = full_by _ refl w.answer w.buffer

-- look, plan and commit are a step of the table
module _ (table : List Call) (e : Entry) (t : List ℕ) where
  pub line_so : (x : Bool) → line_at (lines x) table e t ≡ line_of x (columns_of e (plan_of (look_of table e.reference e.event) e.event (element_of e t)).outcome)
  unfolding line_at answered_at turned_at
  line_so x = ap (λ (o : Outcome). line_of x (columns_of e o)) (sym (plan_told table e.reference e.event (element_of e t)))

  pub left_so : (turned_at table e t).calls ≡ committed table (plan_of (look_of table e.reference e.event) e.event (element_of e t)).put
  unfolding turned_at
  left_so = sym (plan_put table e.reference e.event (element_of e t))

module _ (p : Output) (last : Bool) (first : List Call) (c l : List ℕ) (s : Stand) (table : List Call) (out : List ℕ) (kept : Kept p last first c l s table out) where
  -- the rest of the piece, as the code lends it on
  abbrev t : List ℕ
  t = take (length c - s.used) (drop s.used c)

  abbrev stands : Worked
  stands = so_far table s.used s.wrote s.records s.end

  pub waits : front_of last t ≡ None → WorkedOff p last first c l out stands
  waits h = rw kept.unended (stop_waits p last first c l table out s.used s.wrote s.records kept.going (rw (rest_is c s.used) at h))

  -- a fault, with its text or without
  pub faulty : {f : Fault} {n : ℕ} {out' : List ℕ} → front_of last t ≡ Some (Err f) → Written true s.wrote (p.fault f) out out' (Ok n) → WorkedOff p last first c l out' (so_far table s.used n s.records (Some f))
  faulty h w =
      let k = took w in
      rw (k.octets, k.end) (fault_put p last first c l table out s.used s.wrote s.records kept.going (rw (rest_is c s.used) at h) k.fits)

  pub faulty_full : {f : Fault} {b : Bar} {out' : List ℕ} → front_of last t ≡ Some (Err f) → Written true s.wrote (p.fault f) out out' (Err b) → WorkedOff p last first c l out' stands
  faulty_full h w =
      let k = full w in
      rw (k.octets, kept.unended) (fault_full p last first c l table out s.used s.wrote s.records kept.going (rw (rest_is c s.used) at h) k.over)

  -- a whole record, with its line or without
  module _ (e : Entry) (h : front_of last t ≡ Some (Ok e)) where
    whole : front_of last (drop s.used c) ≡ Some (Ok e)
    whole = rw (rest_is c s.used) at h

    pub within : s.used + size_of e.kind ≤ length c
    within = let w = whole_fits last c s.used whole in let g = kept.going.going.within in omega arith

    pub record_full : {b : Bar} {out' : List ℕ} → Written true s.wrote (line_at p table e t) out out' (Err b) → WorkedOff p last first c l out' stands
    record_full w =
        let k = full (rw (rest_is c s.used) at w) in
        rw (k.octets, kept.unended) (line_full p last first c l table out s.used s.wrote s.records e whole kept.going.fuel kept.going.going k.over)

    pub onward : {n : ℕ} {out' : List ℕ} → Written true s.wrote (line_at p table e t) out out' (Ok n) → Kept p last first c l (record { used = s.used + size_of e.kind; wrote = n; records = s.records + 1; end = None }) (turned_at table e t).calls out'
    onward w =
        let k = took (rw (rest_is c s.used) at w) in
        record {
          counted = let a = kept.counted in let b = least e.kind in omega arith;
          unended = refl;
          going = rw (k.octets, k.end, rest_is c s.used) (line_put p last first c l table out s.used s.wrote s.records e whole k.fits kept.going.fuel kept.going.going);
        }
