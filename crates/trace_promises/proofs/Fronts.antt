-- A record that is whole at the front of a piece is the one at the front of the piece with whatever comes after it.
use Rattle.std.specs.Prelude.{Option, Some, None, Result, Ok, Err}
use Prim.Native.Nat.{ℕ, ◌+◌, ◌<◌, ◌≤◌}
use mathlib.Core.List.{List, [], ◌∷◌, ◌++◌}
use mathlib.Core.Logic.{⊎_elim}
use mathlib.Core.Bool.{Bool, true, false, cond}
use mathlib.Core.Path.{◌≡◌, refl, sym, ◌∙◌}
use native.Mathlib.Omega.{arith}
use borrow.Author.Tests.{le-leb, le-ltb, ltb-false, ltb-true, ne_eqb}
use lib.Dec.{leb, ltb}
use lib.ListN.{length, get_or, take, drop, length-append, length-drop, get_or-append}
use lib.Seq.{take-append-le, drop-append-le}
use Rattle.rights.specs.declared.Service.{Service}
use Rattle.trace.specs.declared.kind.RecordKind.{RecordKind}
use Rattle.trace.specs.declared.Entry.{Entry}
use Rattle.trace.specs.declared.Fault.{Fault}
use Rattle.trace.specs.declared.Field.{Field}
use Rattle.trace.specs.declared.kind.Layout.{Layout}
use Rattle.trace.specs.Kind.{record_kind_of, layout_of, size_of}
use Rattle.trace.specs.ElementField.{form_fits_of, zeros_fit_of}
use Rattle.trace.specs.Ranges.{up_to_of, three_of, element_out_of, first_out_of}
use Rattle.trace.specs.Reading.{record_reference_of, rights_of, requests_of, answers_of, event_of, begin_of, count_of, entry_of, whole_of, named_of, record_of, element_of}
use Rattle.memory.specs.Stretch.{stretch_of}
use Rattle.trace_promises.specs.Records as records
use Rattle.trace_promises.specs.Records.{FieldsInRange}
use Rattle.trace.proofs.Rows.{least}
use Rattle.trace_promises.proofs.Ranged.{in_range_lem}

-- an end and a record that is cut short may become another record; all others stay
abbrev Stays : Option (Result Entry Fault) → Type 0
Stays None = ⊥
Stays (Some (Ok e)) = Unit {0}
Stays (Some (Err Fault.Kind)) = Unit {0}
Stays (Some (Err Fault.Short)) = ⊥
Stays (Some (Err (Fault.Range f))) = Unit {0}

-- octet i of a field at a place is one of the first n octets
abbrev Within : Option ℕ → ℕ → ℕ → Type 0
Within None i n = Unit {0}
Within (Some p) i n = p + i < n

wider : (place : Option ℕ) (i j n m : ℕ) → i ≤ j → n ≤ m → Within place j n → Within place i m
wider None i j n m a b w = tt
wider (Some p) i j n m a b w = omega arith

-- every field that is held to a range stands in the record
record Inside (l : Layout) : Type 0 where
  rights : Within l.rights 2 l.size
  side : Within l.side 0 l.size
  what : Within l.what 0 l.size
  cause : Within l.cause 0 l.size
  requests : Within l.requests 2 l.size
  answers : Within l.answers 2 l.size

inside : (k : RecordKind) → Inside (layout_of k)
inside RecordKind.Setup = record { rights = omega arith; side = tt; what = tt; cause = tt; requests = omega arith; answers = tt }
inside RecordKind.Alerting = record { rights = tt; side = tt; what = tt; cause = tt; requests = tt; answers = omega arith }
inside RecordKind.Connect = record { rights = tt; side = tt; what = tt; cause = tt; requests = tt; answers = omega arith }
inside RecordKind.Information = record { rights = tt; side = omega arith; what = tt; cause = tt; requests = tt; answers = tt }
inside RecordKind.Facility = record { rights = tt; side = omega arith; what = omega arith; cause = tt; requests = tt; answers = tt }
inside RecordKind.Disconnect = record { rights = tt; side = omega arith; what = tt; cause = omega arith; requests = tt; answers = omega arith }
inside RecordKind.ReleaseComplete = record { rights = tt; side = omega arith; what = tt; cause = tt; requests = tt; answers = tt }
inside RecordKind.Tick = record { rights = tt; side = tt; what = tt; cause = tt; requests = tt; answers = tt }

module _ (t more : List ℕ) where
  same : (i : ℕ) → i < length t → get_or (t ++ more) i 0 ≡ get_or t i 0
  same i h = get_or-append t more 0 i h

  same_stretch : (p n : ℕ) → p + n ≤ length t → stretch_of p n (t ++ more) ≡ stretch_of p n t
  same_stretch p n h =
      let a = le-leb (p + n) (length t) h in
      let b = le-leb (p + n) (length (t ++ more)) (rw length-append (omega arith)) in
      rw (a, b, drop-append-le p t more (omega arith), take-append-le n (drop p t) more (rw length-drop (omega arith)))

  -- a test looks no further than the octets that it tests
  same_up_to : (f : Field) (most : ℕ) (place : Option ℕ) (i : ℕ) → Within place i (length t) → up_to_of f most place i (t ++ more) ≡ up_to_of f most place i t
  unfolding up_to_of
  same_up_to f most None i h = refl
  same_up_to f most (Some p) i h = rw (same (p + i) h)

  same_three : (f : Service → Field) (place : Option ℕ) → Within place 2 (length t) → three_of f place (t ++ more) ≡ three_of f place t
  unfolding three_of
  same_three f place h =
      let n = length t in
      rw (
        same_up_to (f Service.One) 2 place 0 (wider place 0 2 n n (omega arith) (omega arith) h),
        same_up_to (f Service.Two) 2 place 1 (wider place 1 2 n n (omega arith) (omega arith) h),
        same_up_to (f Service.Three) 2 place 2 h,
      )

  same_element_out : (p : ℕ) → p + 132 ≤ length t → element_out_of (Some p) (t ++ more) ≡ element_out_of (Some p) t
  unfolding element_out_of form_fits_of zeros_fit_of
  same_element_out p h = rw (same p (omega arith), same (p + 1) (omega arith), same (p + 2) (omega arith), same_stretch p 132 h)

  no_element : (s : List ℕ) → element_out_of None s ≡ None
  unfolding element_out_of
  no_element s = refl

  same_element_of : (k : RecordKind) → size_of k ≤ length t → element_out_of (layout_of k).element (t ++ more) ≡ element_out_of (layout_of k).element t
  same_element_of RecordKind.Setup h = same_element_out 12 (omega arith)
  same_element_of RecordKind.Alerting h = same_element_out 6 (omega arith)
  same_element_of RecordKind.Connect h = same_element_out 6 (omega arith)
  same_element_of RecordKind.Information h = same_element_out 4 (omega arith)
  same_element_of RecordKind.Facility h = no_element (t ++ more) ∙ sym (no_element t)
  same_element_of RecordKind.Disconnect h = same_element_out 8 (omega arith)
  same_element_of RecordKind.ReleaseComplete h = no_element (t ++ more) ∙ sym (no_element t)
  same_element_of RecordKind.Tick h = no_element (t ++ more) ∙ sym (no_element t)

  same_ranged : (k : RecordKind) → size_of k ≤ length t → first_out_of (layout_of k) (t ++ more) ≡ first_out_of (layout_of k) t
  unfolding first_out_of
  same_ranged k h =
      let i = inside k in
      let l = layout_of k in
      let n = length t in
      rw (
        same_up_to Field.Late 1 l.rights 1 (wider l.rights 1 2 l.size n (omega arith) h i.rights),
        same_up_to Field.Leave 1 l.rights 2 (wider l.rights 2 2 l.size n (omega arith) h i.rights),
        same_up_to Field.Side 1 l.side 0 (wider l.side 0 0 l.size n (omega arith) h i.side),
        same_up_to Field.What 3 l.what 0 (wider l.what 0 0 l.size n (omega arith) h i.what),
        same_up_to Field.Cause 127 l.cause 0 (wider l.cause 0 0 l.size n (omega arith) h i.cause),
        same_three Field.Request l.requests (wider l.requests 2 2 l.size n (omega arith) h i.requests),
        same_three Field.Answer l.answers (wider l.answers 2 2 l.size n (omega arith) h i.answers),
        same_element_of k h,
      )

  same_reference : 3 ≤ length t → record_reference_of (t ++ more) ≡ record_reference_of t
  unfolding record_reference_of
  same_reference h = rw (same 1 (omega arith), same 2 (omega arith))

  same_requests : (p : ℕ) → p + 3 ≤ length t → requests_of (Some p) (t ++ more) ≡ requests_of (Some p) t
  unfolding requests_of
  same_requests p h = rw (same (p + 0) (omega arith), same (p + 1) (omega arith), same (p + 2) (omega arith))

  same_answers : (p : ℕ) → p + 3 ≤ length t → answers_of (Some p) (t ++ more) ≡ answers_of (Some p) t
  unfolding answers_of
  same_answers p h = rw (same (p + 0) (omega arith), same (p + 1) (omega arith), same (p + 2) (omega arith))

  same_rights : (p : ℕ) → p + 6 ≤ length t → rights_of (Some p) (t ++ more) ≡ rights_of (Some p) t
  unfolding rights_of
  same_rights p h =
      rw (
        same (p + 0) (omega arith),
        same (p + 1) (omega arith),
        same (p + 2) (omega arith),
        same (p + 3) (omega arith),
        same (p + 4) (omega arith),
        same (p + 5) (omega arith),
      )

  same_event : (k : RecordKind) → size_of k ≤ length t → event_of k (layout_of k) (t ++ more) ≡ event_of k (layout_of k) t
  same_event RecordKind.Setup h = rw (same_reference (omega arith), same_rights 3 (omega arith), same_requests 9 (omega arith))
  same_event RecordKind.Alerting h = rw (same_answers 3 (omega arith))
  same_event RecordKind.Connect h = rw (same_answers 3 (omega arith))
  same_event RecordKind.Information h = rw (same 3 (omega arith))
  same_event RecordKind.Facility h = rw (same 3 (omega arith), same 4 (omega arith))
  same_event RecordKind.Disconnect h = rw (same 3 (omega arith), same 4 (omega arith), same_answers 5 (omega arith))
  same_event RecordKind.ReleaseComplete h = rw (same 3 (omega arith))
  same_event RecordKind.Tick h = refl

  same_count : (k : RecordKind) → size_of k ≤ length t → count_of (layout_of k).element (t ++ more) ≡ count_of (layout_of k).element t
  same_count RecordKind.Setup h = same 12 (omega arith)
  same_count RecordKind.Alerting h = same 6 (omega arith)
  same_count RecordKind.Connect h = same 6 (omega arith)
  same_count RecordKind.Information h = same 4 (omega arith)
  same_count RecordKind.Facility h = refl
  same_count RecordKind.Disconnect h = same 8 (omega arith)
  same_count RecordKind.ReleaseComplete h = refl
  same_count RecordKind.Tick h = refl

  same_entry : (k : RecordKind) → size_of k ≤ length t → entry_of k (t ++ more) ≡ entry_of k t
  unfolding entry_of
  same_entry k h = rw (same_reference (omega (arith, least k)), same_event k h, same_count k h)

  kind_stays : (k : RecordKind) (a : Bool) → ltb (length t) (size_of k) ≡ a → Stays (cond a (Some (Err Fault.Short)) (whole_of (first_out_of (layout_of k) t) (entry_of k t))) → named_of (Some k) (t ++ more) ≡ named_of (Some k) t
  kind_stays k true e s = absurd s
  kind_stays k false e s =
      let h = ltb-false (length t) (size_of k) e in
      let g = le-ltb (length (t ++ more)) (size_of k) (rw length-append (omega arith)) in
      rw (g, e, same_ranged k h, same_entry k h)

  named_stays : (n : Option RecordKind) → Stays (named_of n t) → named_of n (t ++ more) ≡ named_of n t
  named_stays None s = refl
  named_stays (Some k) s = kind_stays k (ltb (length t) (size_of k)) refl s

-- none at the end of a trace
pub record_none : record_of [] ≡ None
unfolding record_of
record_none = refl

record_some : (x : ℕ) (t : List ℕ) → record_of (x ∷ t) ≡ named_of (record_kind_of x) (x ∷ t)
unfolding record_of
record_some x t = rw (ne_eqb (length (x ∷ t)) 0 (λ h. absurd (omega arith)))

pub stays : (t more : List ℕ) → Stays (record_of t) → record_of (t ++ more) ≡ record_of t
stays [] more s = absurd (rw record_none at s)
stays (x ∷ t) more s = record_some x (t ++ more) ∙ named_stays (x ∷ t) more (record_kind_of x) (rw (record_some x t) at s) ∙ sym (record_some x t)

-- a record that is taken
pub record Whole (t : List ℕ) (e : Entry) : Type 0 where
  pub kind : RecordKind
  pub named : record_kind_of (get_or t 0 0) ≡ Some kind
  pub entry : e ≡ entry_of kind t
  pub within : size_of kind ≤ length t
  pub ranged : first_out_of (layout_of kind) t ≡ None

-- what each answer says of the octets
abbrev pub Told : List ℕ → Option (Result Entry Fault) → Type 0
Told t None = t ≡ []
Told t (Some (Ok e)) = Whole t e
Told t (Some (Err Fault.Kind)) = Unit {0}
Told t (Some (Err Fault.Short)) = length t ≤ 143
Told t (Some (Err (Fault.Range f))) = Unit {0}

largest : (k : RecordKind) → size_of k ≤ 144
largest RecordKind.Setup = omega arith
largest RecordKind.Alerting = omega arith
largest RecordKind.Connect = omega arith
largest RecordKind.Information = omega arith
largest RecordKind.Facility = omega arith
largest RecordKind.Disconnect = omega arith
largest RecordKind.ReleaseComplete = omega arith
largest RecordKind.Tick = omega arith

kind_told : (t : List ℕ) (k : RecordKind) (a : Bool) (x : Option Field) → record_kind_of (get_or t 0 0) ≡ Some k → ltb (length t) (size_of k) ≡ a → first_out_of (layout_of k) t ≡ x → Told t (cond a (Some (Err Fault.Short)) (whole_of x (entry_of k t)))
kind_told t k true x n e f = let h = ltb-true (length t) (size_of k) e in let g = largest k in omega arith
kind_told t k false None n e f = record { kind = k; named = n; entry = refl; within = ltb-false (length t) (size_of k) e; ranged = f }
kind_told t k false (Some g) n e f = tt

named_told : (t : List ℕ) (n : Option RecordKind) → record_kind_of (get_or t 0 0) ≡ n → Told t (named_of n t)
named_told t None e = tt
named_told t (Some k) e = kind_told t k (ltb (length t) (size_of k)) (first_out_of (layout_of k) t) e refl refl

pub told : (t : List ℕ) → Told t (record_of t)
told [] = rw record_none refl
told (x ∷ t) = rw (record_some x t) (named_told (x ∷ t) (record_kind_of x) refl)

-- its size
pub size_least : {t : List ℕ} {e : Entry} → Whole t e → 3 ≤ size_of e.kind
size_least {t} {e} w = least e.kind

pub size_within : {t : List ℕ} {e : Entry} → Whole t e → size_of e.kind ≤ length t
unfolding entry_of
size_within w = rw w.entry w.within

-- its element lies in it
field_small : (t : List ℕ) (p : ℕ) → records.Field t p → get_or t p 0 ≤ 131
field_small t p f = ⊎_elim (λ z. omega (arith, z)) (λ h. h.most) f.element

some_same : {a b : ℕ} → Some a ≡ Some b → a ≡ b
some_same e = cc

-- a part that follows its number, where an element field is in range, lies in the octets
pub record Held (t : List ℕ) (p : ℕ) : Type 0 where
  pub number : p < length t
  pub part : p + 1 + get_or t p 0 ≤ length t

held_at : (t : List ℕ) (q p : ℕ) → q ≡ p → q + 132 ≤ length t → records.Field t q → Held t p
held_at t q p e h f = let s = field_small t q f in rw (sym e) (record { number = omega arith; part = omega arith })

pub within_it : (k : RecordKind) (t : List ℕ) → size_of k ≤ length t → FieldsInRange k t → (p : ℕ) → (layout_of k).element ≡ Some p → Held t p
within_it RecordKind.Setup t h r p e = held_at t 12 p (some_same e) (omega arith) r.3
within_it RecordKind.Alerting t h r p e = held_at t 6 p (some_same e) (omega arith) r.1
within_it RecordKind.Connect t h r p e = held_at t 6 p (some_same e) (omega arith) r.1
within_it RecordKind.Information t h r p e = held_at t 4 p (some_same e) (omega arith) r.1
within_it RecordKind.Facility t h r p e = cc
within_it RecordKind.Disconnect t h r p e = held_at t 8 p (some_same e) (omega arith) r.3
within_it RecordKind.ReleaseComplete t h r p e = cc
within_it RecordKind.Tick t h r p e = cc

-- no octets, from wherever they would be
pub no_octets : (b : Bool) (t : List ℕ) → cond b (take 0 t) [] ≡ []
no_octets false t = refl
no_octets true t = refl

same_part : (t more : List ℕ) (place : Option ℕ) → ((p : ℕ) → place ≡ Some p → Held t p) → stretch_of (begin_of place) (count_of place t) (t ++ more) ≡ stretch_of (begin_of place) (count_of place t) t
same_part t more None h = no_octets (leb 1 (length (t ++ more))) (drop 1 (t ++ more)) ∙ sym (no_octets (leb 1 (length t)) (drop 1 t))
same_part t more (Some p) h = same_stretch t more (p + 1) (get_or t p 0) (h p refl).part

pub same_element : (t more : List ℕ) (e : Entry) → Whole t e → element_of e (t ++ more) ≡ element_of e t
unfolding element_of entry_of
same_element t more e w =
    rw w.entry (same_part t more (layout_of w.kind).element (within_it w.kind t w.within (in_range_lem t w.kind w.within w.ranged)))
