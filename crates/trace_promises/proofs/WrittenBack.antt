-- What is read in octets can be written, and is written as these octets.
use Rattle.std.specs.Prelude.{Some}
use Prim.Native.Nat.{ℕ, zero, suc, ◌+◌, ◌-◌, ◌/◌, ◌%◌, ◌<◌, ◌≤◌}
use mathlib.Core.List.{List, [], ◌∷◌, ◌++◌}
use mathlib.Core.Bool.{Bool, true, false}
use mathlib.Core.Logic.{inl, inr, ⊎_elim}
use mathlib.Core.Path.{◌≡◌, refl, sym, ap, ◌∙◌}
use native.Mathlib.Omega.{arith}
use borrow.Author.Tests.{ltb-true, ltb-false, eq-eqb, lt-ltb}
use lib.Dec.{ltb}
use lib.ListN.{length, get_or, take, drop, replicate, length-drop, get_or-replicate, get_or-append}
use lib.Seq.{length-take-le, drop-cons, get_or-take, get_or-drop, get_or-append-add, take-add, ext_get_or}
use Rattle.logic.proofs.Tests.{and_true}
use Rattle.facility_rules.specs.declared.What.{What}
use Rattle.sent.specs.declared.side.Side.{Side}
use Rattle.services.specs.declared.Given.{Given}
use Rattle.services.specs.declared.Request.{Request}
use Rattle.trace.specs.declared.kind.RecordKind.{RecordKind}
use Rattle.trace.specs.declared.Entry.{Entry}
use Rattle.trace.specs.Kind.{layout_of, size_of}
use Rattle.trace.specs.Reading.{record_reference_of, rights_of, requests_of, answers_of, event_of, entry_of}
use Rattle.trace.specs.Values.{flag_octet, side_octet, request_octet, given_octet, what_octet}
use Rattle.recorder.specs.Writing.{field_octets, head_of, head_octets, record_octets, record_fits_of}
use Rattle.recorder.proofs.Sizing.{field_is}
use Rattle.user_element.specs.Writable.{element_fits_of, UserElement}
use Rattle.user_element.proofs.writable.Whole.{element_fits}
use Rattle.trace_promises.specs.Records.{HoldsElement, Field, FieldsInRange, body_of}
use Rattle.trace_promises.specs.WholeRun.{Octets}
use Rattle.trace_promises.specs.Means.{kind_number, FlagIs, SideIs, RequestIs, AnswerIs, WhatIs, element_at}
use Rattle.trace_promises.specs.RoundTrip.{Rewritten, WrittenBack}
use Rattle.trace_promises.proofs.Ranged.{in_range_lem}
use Rattle.trace_promises.proofs.Fronts.{Whole}
use Rattle.trace_promises.proofs.Making.{taken}
use Rattle.trace_promises.proofs.Means.{element_in, kinds, flag_is, side_is, request_is, answer_is, what_is, element_is}

-- ---- the element
module _ (t : List ℕ) (p : ℕ) (within : p + 132 ≤ length t) (f : Field t p) where
  abbrev n : ℕ
  n = get_or t p 0

  abbrev u : List ℕ
  u = element_at p t

  small : n ≤ 131
  small = ⊎_elim (λ z. omega (arith, z)) (λ h. h.most) f.element

  long : length u ≡ n
  long = let s = small in length-take-le n (drop (p + 1) t) (rw (length-drop (p + 1) t) (omega arith))

  octet : (i : ℕ) → i < n → get_or u i 0 ≡ get_or t (p + 1 + i) 0
  octet i h = get_or-take n (drop (p + 1) t) i 0 h ∙ get_or-drop (p + 1) t i 0

  held : HoldsElement t p → UserElement u
  held h =
      let l = h.least in
      let zeroth : p + 1 + 0 ≡ p + 1 = omega arith in
      let next : p + 1 + 1 ≡ p + 2 = omega arith in
      record {
        least = rw long h.least;
        most = rw long h.most;
        first = rw zeroth at (octet 0 (omega arith)) ∙ h.first;
        second = rw long (rw next at (octet 1 (omega arith)) ∙ h.second);
      }

  field_fits : element_fits_of u ≡ true
  field_fits = element_fits u (⊎_elim (λ z. inl (long ∙ z)) (λ h. inr (held h)) f.element)

  -- its field, octet by octet
  abbrev zeros : List ℕ
  zeros = replicate (131 - length u) 0

  in_tail : (i : ℕ) (b : Bool) → ltb i n ≡ b → i < 131 → get_or (u ++ zeros) i 0 ≡ get_or t (p + suc i) 0
  in_tail i true e h =
      let l = ltb-true i n e in
      let at : p + 1 + i ≡ p + suc i = omega arith in
      get_or-append u zeros 0 i (rw long l) ∙ rw at at (octet i l)
  in_tail i false e h =
      let l = ltb-false i n e in
      let at : length u + (i - n) ≡ i = rw long (omega arith) in
      rw at at (get_or-append-add u zeros (i - n) 0)
      ∙ get_or-replicate (131 - length u) (i - n) 0 0 (rw long (omega arith))
      ∙ sym (f.after.zero (p + suc i) (omega arith) (omega arith))

  in_field : (i : ℕ) → i < 132 → get_or (field_octets u) i 0 ≡ get_or t (p + i) 0
  unfolding field_octets
  in_field zero h = let at : p + 0 ≡ p = omega arith in rw at long
  in_field (suc i) h = in_tail i (ltb i n) refl (omega arith)

  field_same : field_octets u ≡ take 132 (drop p t)
  field_same =
      let l = field_is u (rw long small) in
      ext_get_or 0 (field_octets u) (take 132 (drop p t)) (l ∙ sym (length-take-le 132 (drop p t) (rw (length-drop p t) (omega arith))))
      (λ i h. let g = rw l at h in in_field i g ∙ sym (get_or-take 132 (drop p t) i 0 g ∙ get_or-drop p t i 0))

-- ---- small fields
flag_octet_lem : {x : ℕ} {b : Bool} → FlagIs x b → flag_octet b ≡ x
flag_octet_lem FlagIs.no = refl
flag_octet_lem FlagIs.yes = refl

side_octet_lem : {x : ℕ} {s : Side} → SideIs x s → side_octet s ≡ x
side_octet_lem SideIs.calling = refl
side_octet_lem SideIs.called = refl

request_octet_lem : {x : ℕ} {q : Request} → RequestIs x q → request_octet q ≡ x
request_octet_lem RequestIs.unasked = refl
request_octet_lem RequestIs.preferred = refl
request_octet_lem RequestIs.required = refl

given_octet_lem : {x : ℕ} {g : Given} → AnswerIs x g → given_octet g ≡ x
given_octet_lem AnswerIs.silent = refl
given_octet_lem AnswerIs.accepted = refl
given_octet_lem AnswerIs.rejected = refl

what_octet_lem : {x : ℕ} {w : What} → WhatIs x w → what_octet w ≡ x
what_octet_lem WhatIs.preferred = refl
what_octet_lem WhatIs.accept = refl
what_octet_lem WhatIs.reject = refl
what_octet_lem WhatIs.required = refl

one_octet : (a : ℕ) → a < 256 → a % 256 ≡ a
one_octet a h = omega arith

-- ---- the octets from i on, one by one
abbrev from : ℕ → ℕ → List ℕ → List ℕ
from zero i t = []
from (suc n) i t = get_or t i 0 ∷ from n (suc i) t

from_is : (n i : ℕ) (t : List ℕ) → i + n ≤ length t → take n (drop i t) ≡ from n i t
from_is zero i t h = refl
from_is (suc n) i t h = rw (drop-cons t i 0 (omega arith)) (ap (λ (r : List ℕ). get_or t i 0 ∷ r) (from_is n (suc i) t (omega arith)))

module _ (t : List ℕ) (o : Octets t) where
  joined : (p : ℕ) (h : List ℕ) → h ≡ from p 0 t → p + 132 ≤ length t → Field t p → h ++ field_octets (element_at p t) ≡ take (p + 132) t
  joined p h e w f =
      ap (λ (x : List ℕ). x ++ field_octets (element_at p t)) (e ∙ sym (from_is p 0 t (omega arith)))
      ∙ ap (λ (x : List ℕ). take p t ++ x) (field_same t p w f)
      ∙ sym (take-add p 132 t)

  abbrev element_for : RecordKind → List ℕ
  element_for k = element_in t (layout_of k).element

  -- ---- every kind
  fits : (k : RecordKind) → size_of k ≤ length t → FieldsInRange k t → record_fits_of (record_reference_of t) (event_of k (layout_of k) t) (element_for k) ≡ true
  unfolding record_fits_of rights_of
  fits RecordKind.Setup s i =
      and_true _ _ (and_true _ _ (and_true _ _ (eq-eqb (record_reference_of t) (record_reference_of t) refl) (lt-ltb _ _ (o 7))) (lt-ltb _ _ (o 8)))
      (field_fits t 12 (omega arith) i.3)
  fits RecordKind.Alerting s i = field_fits t 6 (omega arith) i.1
  fits RecordKind.Connect s i = field_fits t 6 (omega arith) i.1
  fits RecordKind.Information s i = field_fits t 4 (omega arith) i.1
  fits RecordKind.Facility s i = refl
  fits RecordKind.Disconnect s i =
      let c = i.1 in
      and_true _ _ (lt-ltb (get_or t 4 0) 128 (omega arith)) (field_fits t 8 (omega arith) i.3)
  fits RecordKind.ReleaseComplete s i = refl
  fits RecordKind.Tick s i = refl

  -- the octets before the element field
  abbrev head_for : RecordKind → List ℕ
  head_for k = head_octets (Some k) (record_reference_of t) (event_of k (layout_of k) t)

  high : record_reference_of t / 256 ≡ get_or t 1 0
  unfolding record_reference_of
  high = let l = o 2 in omega arith

  low : record_reference_of t % 256 ≡ get_or t 2 0
  unfolding record_reference_of
  low = let l = o 2 in omega arith

  head_same : (k : RecordKind) → get_or t 0 0 ≡ kind_number k → FieldsInRange k t → head_for k ≡ from (head_of (layout_of k)) 0 t
  unfolding rights_of requests_of answers_of
  head_same RecordKind.Setup e i =
      simp (
        e,
        high,
        low,
        flag_octet_lem (flag_is (get_or t 4 0) i.0),
        flag_octet_lem (flag_is (get_or t 5 0) i.1),
        one_octet (get_or t 7 0) (o 7),
        one_octet (get_or t 8 0) (o 8),
        request_octet_lem (request_is (get_or t 9 0) i.2.one),
        request_octet_lem (request_is (get_or t 10 0) i.2.two),
        request_octet_lem (request_is (get_or t 11 0) i.2.three),
      )
  head_same RecordKind.Alerting e i =
      simp (
        e,
        high,
        low,
        given_octet_lem (answer_is (get_or t 3 0) i.0.one),
        given_octet_lem (answer_is (get_or t 4 0) i.0.two),
        given_octet_lem (answer_is (get_or t 5 0) i.0.three),
      )
  head_same RecordKind.Connect e i =
      simp (
        e,
        high,
        low,
        given_octet_lem (answer_is (get_or t 3 0) i.0.one),
        given_octet_lem (answer_is (get_or t 4 0) i.0.two),
        given_octet_lem (answer_is (get_or t 5 0) i.0.three),
      )
  head_same RecordKind.Information e i = simp (e, high, low, side_octet_lem (side_is (get_or t 3 0) i.0))
  head_same RecordKind.Facility e i =
      simp (e, high, low, side_octet_lem (side_is (get_or t 3 0) i.0), what_octet_lem (what_is (get_or t 4 0) i.1))
  head_same RecordKind.Disconnect e i =
      simp (
        e,
        high,
        low,
        side_octet_lem (side_is (get_or t 3 0) i.0),
        given_octet_lem (answer_is (get_or t 5 0) i.2.one),
        given_octet_lem (answer_is (get_or t 6 0) i.2.two),
        given_octet_lem (answer_is (get_or t 7 0) i.2.three),
      )
  head_same RecordKind.ReleaseComplete e i = simp (e, high, low, side_octet_lem (side_is (get_or t 3 0) i))
  head_same RecordKind.Tick e i = simp (e, high, low)

  same : (k : RecordKind) → get_or t 0 0 ≡ kind_number k → size_of k ≤ length t → FieldsInRange k t → record_octets (record_reference_of t) (event_of k (layout_of k) t) (element_for k) ≡ take (1 + body_of k) t
  unfolding record_octets
  same RecordKind.Setup e s i = joined 12 (head_for RecordKind.Setup) (head_same RecordKind.Setup e i) (omega arith) i.3
  same RecordKind.Alerting e s i = joined 6 (head_for RecordKind.Alerting) (head_same RecordKind.Alerting e i) (omega arith) i.1
  same RecordKind.Connect e s i = joined 6 (head_for RecordKind.Connect) (head_same RecordKind.Connect e i) (omega arith) i.1
  same RecordKind.Information e s i = joined 4 (head_for RecordKind.Information) (head_same RecordKind.Information e i) (omega arith) i.1
  same RecordKind.Facility e s i = head_same RecordKind.Facility e i ∙ sym (from_is 5 0 t s)
  same RecordKind.Disconnect e s i = joined 8 (head_for RecordKind.Disconnect) (head_same RecordKind.Disconnect e i) (omega arith) i.3
  same RecordKind.ReleaseComplete e s i = head_same RecordKind.ReleaseComplete e i ∙ sym (from_is 4 0 t s)
  same RecordKind.Tick e s i = head_same RecordKind.Tick e i ∙ sym (from_is 3 0 t s)

  of_kind : (k : RecordKind) → get_or t 0 0 ≡ kind_number k → size_of k ≤ length t → FieldsInRange k t → Rewritten t (entry_of k t)
  unfolding entry_of
  of_kind k e s i = record { fits = rw (element_is t k s i) (fits k s i); same = rw (element_is t k s i) (same k e s i) }

  whole : (x : Entry) → Whole t x → Rewritten t x
  whole x w =
      let k = w.kind in
      rw w.entry (of_kind k (kinds.only _ k w.named) w.within (in_range_lem t k w.within w.ranged))

pub written_back : WrittenBack
written_back t x o h = whole t o x (taken t x h)
