-- What is written reads back.
use Rattle.std.specs.Prelude.{Some, None, Ok}
use Prim.Native.Nat.{ℕ, suc, ◌+◌, ◌-◌, ◌*◌, ◌/◌, ◌%◌, ◌<◌, ◌≤◌}
use mathlib.Core.List.{List, [], ◌∷◌, ◌++◌, append_assoc}
use mathlib.Core.Bool.{Bool, true, false, not, ◌&&◌, true≢false}
use mathlib.Core.Logic.{inl, inr, ⊎_elim}
use mathlib.Core.Path.{◌≡◌, refl, sym, ap, ◌∙◌}
use native.Mathlib.Omega.{arith}
use borrow.Author.Tests.{ltb-true, le-leb, eqb-true, ne_eqb, not-true}
use lib.ListN.{length, get_or, drop, replicate, length-append, get_or-replicate, get_or-append}
use lib.Seq.{get_or-append-add, take-append_seam, drop-append-add}
use lib.Dec.{ltb, eqb}
use Rattle.event.specs.declared.Event.{Event}
use Rattle.facility_rules.specs.declared.What.{What}
use Rattle.sent.specs.declared.side.Side.{Side}
use Rattle.services.specs.declared.Given.{Given}
use Rattle.services.specs.declared.Request.{Request}
use Rattle.trace.specs.declared.kind.RecordKind.{RecordKind}
use Rattle.trace.specs.Kind.{record_kind_of, layout_of, size_of}
use Rattle.trace.specs.Values.{flag_octet, side_octet, request_octet, given_octet, what_octet, flag_back, side_back, request_back, given_back, what_back}
use Rattle.trace.specs.Reading.{record_reference_of, rights_of, requests_of, answers_of, event_of, entry_of, record_of, element_of}
use Rattle.recorder.specs.Writing.{field_octets, kind_for, head_octets, record_octets, record_fits_of}
use Rattle.trace_promises.specs.Records.{Zeros, HoldsElement, Field, FieldsInRange}
use Rattle.trace_promises.specs.RoundTrip.{Again, Fitting}
use Rattle.logic.proofs.Tests.{both}
use Rattle.memory.specs.Stretch.{stretch_of}
use Rattle.user_element.specs.Writable.{element_fits_of, UserElement}
use Rattle.user_element.proofs.writable.Whole.{element_in_lem, element_small}
use Rattle.recorder.proofs.Sizing.{field_is}
use Rattle.trace_promises.proofs.Ranged.{ranged}
use Rattle.trace.proofs.Naming.{named_taken}
use Rattle.trace.proofs.Rows.{least}

-- small fields
flag_small : (b : Bool) → flag_octet b ≤ 1
flag_small false = omega arith
flag_small true = omega arith

side_small : (s : Side) → side_octet s ≤ 1
side_small Side.Calling = omega arith
side_small Side.Called = omega arith

request_small : (q : Request) → request_octet q ≤ 2
request_small Request.Unasked = omega arith
request_small Request.Preferred = omega arith
request_small Request.Required = omega arith

given_small : (g : Given) → given_octet g ≤ 2
given_small Given.Silent = omega arith
given_small Given.Accepted = omega arith
given_small Given.Rejected = omega arith

what_small : (w : What) → what_octet w ≤ 3
what_small What.Preferred = omega arith
what_small What.Accept = omega arith
what_small What.Reject = omega arith
what_small What.Required = omega arith

reference_back : (r : ℕ) → r / 256 * 256 + r % 256 ≡ r
reference_back r = omega arith

octet_back : (n : ℕ) → ltb n 256 ≡ true → n % 256 ≡ n
octet_back n h = let l = ltb-true n 256 h in omega arith

-- THE ELEMENT FIELD, after a head of p octets
module _ (h u rest : List ℕ) (fit : element_fits_of u ≡ true) where
  abbrev text : List ℕ
  text = h ++ (field_octets u ++ rest)

  at_field : (i : ℕ) → get_or text (length h + i) 0 ≡ get_or (field_octets u ++ rest) i 0
  at_field i = get_or-append-add h (field_octets u ++ rest) i 0

  in_field : (i : ℕ) → i < 132 → get_or text (length h + i) 0 ≡ get_or (field_octets u) i 0
  in_field i l = at_field i ∙ get_or-append (field_octets u) rest 0 i (rw (field_is u (element_small u fit)) l)

  in_element : (i : ℕ) → i < length u → get_or text (length h + suc i) 0 ≡ get_or u i 0
  unfolding field_octets
  in_element i l =
      let s = element_small u fit in
      in_field (suc i) (omega arith) ∙ get_or-append u (replicate (131 - length u) 0) 0 i l

  after_element : (j : ℕ) → j < 131 - length u → get_or text (length h + suc (length u + j)) 0 ≡ 0
  unfolding field_octets
  after_element j l =
      let s = element_small u fit in
      in_field (suc (length u + j)) (omega arith) ∙ get_or-append-add u (replicate (131 - length u) 0) j 0 ∙ get_or-replicate (131 - length u) j 0 0 l

  count_is : get_or text (length h) 0 ≡ length u
  unfolding field_octets
  count_is = let z : length h + 0 ≡ length h = omega arith in rw z at (in_field 0 (omega arith))

  zeros : Zeros text (length h + 1 + length u) (length h + 132)
  zeros = record {
    zero = λ i a b.
        let s = element_small u fit in
        let e : length h + suc (length u + (i - (length h + 1 + length u))) ≡ i = omega arith in
        rw e at (after_element (i - (length h + 1 + length u)) (omega arith));
  }

  held : UserElement u → HoldsElement text (length h)
  held w =
      let a = w.least in
      let one : length h + 1 ≡ length h + suc 0 = omega arith in
      let two : length h + 2 ≡ length h + suc 1 = omega arith in
      record {
        least = rw count_is w.least;
        most = rw count_is w.most;
        first = rw one (in_element 0 (omega arith) ∙ w.first);
        second = rw (count_is, two) (in_element 1 (omega arith) ∙ w.second);
      }

  pub field_back : Field text (length h)
  field_back = record {
    element = ⊎_elim (λ z. inl (count_is ∙ z)) (λ w. inr (held w)) (element_in_lem u fit);
    after = rw count_is zeros;
  }

  pub element_back : stretch_of (length h + 1) (get_or text (length h) 0) text ≡ u
  unfolding field_octets
  element_back =
      let s = element_small u fit in
      let n : length text ≡ length h + (132 + length rest) = length-append h (field_octets u ++ rest) ∙ ap (λ (k : ℕ). length h + k) (length-append (field_octets u) rest ∙ ap (λ (k : ℕ). k + length rest) (field_is u s)) in
      let d : drop (length h + 1) text ≡ u ++ (replicate (131 - length u) 0 ++ rest) = drop-append-add h (field_octets u ++ rest) 1 ∙ append_assoc u (replicate (131 - length u) 0) rest in
      rw (count_is, le-leb (length h + 1 + length u) (length text) (omega arith), d) (take-append_seam u _)

  pub long : length h + 132 ≤ length text
  long =
      let s = element_small u fit in
      rw (length-append h (field_octets u ++ rest), length-append (field_octets u) rest, field_is u s) (omega arith)

-- a record that is whole and in range
whole : (k : RecordKind) (t : List ℕ) → record_kind_of (get_or t 0 0) ≡ Some k → 3 ≤ length t → size_of k ≤ length t → FieldsInRange k t → record_of t ≡ Some (Ok (entry_of k t))
unfolding record_of
whole k t e l s i = simp (ne_eqb (length t) 0 (λ z. omega arith), e) (sym (named_taken k t s (ranged t k s i)))

nothing_is : (u : List ℕ) → length u ≡ 0 → u ≡ []
nothing_is [] h = refl
nothing_is (x ∷ xs) h = absurd (omega arith)

-- an event without an element field
bare_back : (r : ℕ) (e : Event) (k : RecordKind) (u t : List ℕ) → record_kind_of (get_or t 0 0) ≡ Some k → 3 ≤ length t → size_of k ≤ length t → FieldsInRange k t → record_reference_of t ≡ r → event_of k (layout_of k) t ≡ e → (layout_of k).element ≡ None → eqb (length u) 0 ≡ true → Again r e u t
unfolding entry_of element_of
bare_back r e k u t a l s i b d p z =
    record {
      entry = entry_of k t;
      back = record {
        taken = whole k t a l s i;
        reference = b;
        event = d;
        element = rw (nothing_is u (eqb-true (length u) 0 z), p, le-leb (1 + 0) (length t) (omega arith)) refl;
      };
    }

-- an event with one
fielded_back : (r : ℕ) (e : Event) (k : RecordKind) (h u rest : List ℕ) → (fit : element_fits_of u ≡ true) → record_kind_of (get_or (h ++ (field_octets u ++ rest)) 0 0) ≡ Some k → size_of k ≡ length h + 132 → FieldsInRange k (h ++ (field_octets u ++ rest)) → record_reference_of (h ++ (field_octets u ++ rest)) ≡ r → event_of k (layout_of k) (h ++ (field_octets u ++ rest)) ≡ e → (layout_of k).element ≡ Some (length h) → Again r e u ((h ++ field_octets u) ++ rest)
unfolding entry_of element_of
fielded_back r e k h u rest fit a s i b d q =
    let t = h ++ (field_octets u ++ rest) in
    let n = long h u rest fit in
    let g = least k in
    rw (append_assoc h (field_octets u) rest)
    (record {
      entry = entry_of k t;
      back = record {
        taken = whole k t a (omega arith) (omega arith) i;
        reference = b;
        event = d;
        element = rw q (element_back h u rest fit);
      };
    })

-- the octets before the element field
abbrev head_for : ℕ → Event → List ℕ
head_for r e = head_octets (kind_for e) r e

-- every event that fits
pub round_trip : (r : ℕ) (e : Event) (u rest : List ℕ) → record_fits_of r e u ≡ true → Again r e u (record_octets r e u ++ rest)
unfolding record_fits_of record_octets record_kind_of record_reference_of rights_of requests_of answers_of
round_trip r (Event.Setup n rights q) u rest h =
    let a = both ((eqb n r && ltb rights.burst 256) && ltb rights.refill 256) (element_fits_of u) h in
    let b = both (eqb n r && ltb rights.burst 256) (ltb rights.refill 256) a.0 in
    let c = both (eqb n r) (ltb rights.burst 256) b.0 in
    let same : n ≡ r = eqb-true n r c.0 in
    fielded_back r (Event.Setup n rights q) RecordKind.Setup (head_for r (Event.Setup n rights q)) u rest a.1 refl refl (
      flag_small rights.late,
      flag_small rights.leave,
      record { one = request_small q.one; two = request_small q.two; three = request_small q.three },
      field_back (head_for r (Event.Setup n rights q)) u rest a.1,
    )
    (reference_back r)
    (simp (
      reference_back r,
      same,
      flag_back rights.late,
      flag_back rights.leave,
      octet_back rights.burst c.1,
      octet_back rights.refill b.1,
      request_back q.one,
      request_back q.two,
      request_back q.three,
    ))
    refl
round_trip r (Event.Alerting x) u rest h =
    fielded_back r (Event.Alerting x) RecordKind.Alerting (head_for r (Event.Alerting x)) u rest h refl refl
    (record { one = given_small x.one; two = given_small x.two; three = given_small x.three }, field_back (head_for r (Event.Alerting x)) u rest h)
    (reference_back r) (simp (given_back x.one, given_back x.two, given_back x.three)) refl
round_trip r (Event.Connect x) u rest h =
    fielded_back r (Event.Connect x) RecordKind.Connect (head_for r (Event.Connect x)) u rest h refl refl
    (record { one = given_small x.one; two = given_small x.two; three = given_small x.three }, field_back (head_for r (Event.Connect x)) u rest h)
    (reference_back r) (simp (given_back x.one, given_back x.two, given_back x.three)) refl
round_trip r (Event.Information side more) u rest h =
    let a = both (not more) (element_fits_of u) h in
    let no : more ≡ false = not-true more a.0 in
    fielded_back r (Event.Information side more) RecordKind.Information (head_for r (Event.Information side more)) u rest a.1 refl refl
    (side_small side, field_back (head_for r (Event.Information side more)) u rest a.1)
    (reference_back r) (simp (side_back side, no)) refl
round_trip r (Event.Facility side what) u rest h =
    bare_back r (Event.Facility side what) RecordKind.Facility u _ refl (omega arith) (omega arith) (side_small side, what_small what)
    (reference_back r) (simp (side_back side, what_back what)) refl h
round_trip r (Event.Disconnect side cause x) u rest h =
    let a = both (ltb cause 128) (element_fits_of u) h in
    let l = ltb-true cause 128 a.0 in
    fielded_back r (Event.Disconnect side cause x) RecordKind.Disconnect (head_for r (Event.Disconnect side cause x)) u rest a.1 refl refl (
      side_small side,
      omega arith,
      record { one = given_small x.one; two = given_small x.two; three = given_small x.three },
      field_back (head_for r (Event.Disconnect side cause x)) u rest a.1,
    )
    (reference_back r) (simp (side_back side, given_back x.one, given_back x.two, given_back x.three)) refl
round_trip r (Event.ReleaseComplete side) u rest h =
    bare_back r (Event.ReleaseComplete side) RecordKind.ReleaseComplete u _ refl (omega arith) (omega arith) (side_small side)
    (reference_back r) (simp (side_back side)) refl h
round_trip r Event.Tick u rest h = bare_back r Event.Tick RecordKind.Tick u _ refl (omega arith) (omega arith) tt (reference_back r) refl refl h
round_trip r Event.CallProceeding u rest h = absurd (true≢false (sym h))
round_trip r Event.CongestionControl u rest h = absurd (true≢false (sym h))

pub fitting : Fitting
unfolding record_fits_of element_fits_of
fitting =
    record {
      setup = refl;
      alerting = refl;
      connect = refl;
      information = refl;
      facility = refl;
      disconnect = refl;
      complete = refl;
      tick = refl;
    }
