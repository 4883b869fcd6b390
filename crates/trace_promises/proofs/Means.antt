-- What a record of a trace means.
use Rattle.std.specs.Prelude.{Option, Some, None}
use Prim.Native.Nat.{ℕ, zero, suc, ◌+◌, ◌≤◌}
use mathlib.Core.List.{List, []}
use mathlib.Core.Bool.{true}
use mathlib.Core.Path.{◌≡◌, refl, ap, ◌∙◌}
use native.Mathlib.Nat.{add-zero}
use native.Mathlib.Omega.{arith}
use borrow.Author.Tests.{eqb-true, le-leb}
use lib.Dec.{leb, eqb}
use lib.ListN.{length, get_or, take, drop}
use Rattle.logic.proofs.Decide.{by_cond}
use Rattle.memory.specs.Stretch.{stretch_of}
use Rattle.trace.specs.declared.kind.RecordKind.{RecordKind}
use Rattle.trace.specs.declared.Entry.{Entry}
use Rattle.trace.specs.Kind.{record_kind_of, layout_of, size_of}
use Rattle.trace.specs.Values.{flag_of, side_of, request_of, given_of, what_of}
use Rattle.trace.specs.Reading.{record_reference_of, rights_of, requests_of, answers_of, event_of, begin_of, count_of, entry_of, element_of}
use Rattle.trace_promises.specs.Records.{Three, FieldsInRange}
use Rattle.trace_promises.specs.Means.{kind_number, Kinds, FlagIs, SideIs, RequestIs, AnswerIs, WhatIs, RightsIn, RequestsAt, AnswersAt, Says, Meant, Means, element_at}
use Rattle.trace_promises.proofs.Ranged.{in_range_lem}
use Rattle.trace_promises.proofs.Fronts.{Whole, Held, within_it, no_octets}
use Rattle.trace_promises.proofs.Making.{taken, none_left}

-- ---- kinds
known : (k : RecordKind) → record_kind_of (kind_number k) ≡ Some k
unfolding record_kind_of
known RecordKind.Setup = refl
known RecordKind.Alerting = refl
known RecordKind.Connect = refl
known RecordKind.Information = refl
known RecordKind.Facility = refl
known RecordKind.Disconnect = refl
known RecordKind.ReleaseComplete = refl
known RecordKind.Tick = refl

abbrev number_in : Option RecordKind → ℕ
number_in None = 0
number_in (Some k) = kind_number k

abbrev Only : ℕ → Option RecordKind → Type 0
Only x n = (k : RecordKind) → n ≡ Some k → x ≡ kind_number k

module _ (x : ℕ) where
  row : (j : RecordKind) → eqb x (kind_number j) ≡ true → Only x (Some j)
  row j e k h = eqb-true x (kind_number j) e ∙ ap number_in h

  none : Only x None
  none k h = absurd (let z : ◌≡◌ {A = ℕ} 0 1 = cc h in omega arith)

  only : Only x (record_kind_of x)
  unfolding record_kind_of
  only =
      by_cond (Only x) (eqb x 1) (row RecordKind.Setup)
      (λ _. by_cond (Only x) (eqb x 2) (row RecordKind.Alerting)
      (λ _. by_cond (Only x) (eqb x 3) (row RecordKind.Connect)
      (λ _. by_cond (Only x) (eqb x 4) (row RecordKind.Information)
      (λ _. by_cond (Only x) (eqb x 5) (row RecordKind.Facility)
      (λ _. by_cond (Only x) (eqb x 6) (row RecordKind.Disconnect)
      (λ _. by_cond (Only x) (eqb x 7) (row RecordKind.ReleaseComplete)
      (λ _. by_cond (Only x) (eqb x 8) (row RecordKind.Tick) (λ _. none))))))))

pub kinds : Kinds
kinds = record { known = known; only = only }

-- ---- values
pub flag_is : (x : ℕ) → x ≤ 1 → FlagIs x (flag_of x)
unfolding flag_of
flag_is zero h = FlagIs.no
flag_is (suc zero) h = FlagIs.yes
flag_is (suc (suc x)) h = absurd (omega arith)

pub side_is : (x : ℕ) → x ≤ 1 → SideIs x (side_of x)
unfolding side_of
side_is zero h = SideIs.calling
side_is (suc zero) h = SideIs.called
side_is (suc (suc x)) h = absurd (omega arith)

pub request_is : (x : ℕ) → x ≤ 2 → RequestIs x (request_of x)
unfolding request_of
request_is zero h = RequestIs.unasked
request_is (suc zero) h = RequestIs.preferred
request_is (suc (suc zero)) h = RequestIs.required
request_is (suc (suc (suc x))) h = absurd (omega arith)

pub answer_is : (x : ℕ) → x ≤ 2 → AnswerIs x (given_of x)
unfolding given_of
answer_is zero h = AnswerIs.silent
answer_is (suc zero) h = AnswerIs.accepted
answer_is (suc (suc zero)) h = AnswerIs.rejected
answer_is (suc (suc (suc x))) h = absurd (omega arith)

pub what_is : (x : ℕ) → x ≤ 3 → WhatIs x (what_of x)
unfolding what_of
what_is zero h = WhatIs.preferred
what_is (suc zero) h = WhatIs.accept
what_is (suc (suc zero)) h = WhatIs.reject
what_is (suc (suc (suc zero))) h = WhatIs.required
what_is (suc (suc (suc (suc x)))) h = absurd (omega arith)

-- ---- fields
module _ (t : List ℕ) where
  rights_in_lem : get_or t 4 0 ≤ 1 → get_or t 5 0 ≤ 1 → RightsIn t (rights_of (Some 3) t)
  unfolding rights_of
  rights_in_lem a b = record { services = refl; late = flag_is _ a; leave = flag_is _ b; limit = refl; x = refl; y = refl }

  requests_at : (p : ℕ) → Three t p → RequestsAt p t (requests_of (Some p) t)
  unfolding requests_of
  requests_at p h = rw (add-zero p) (record { one = request_is _ h.one; two = request_is _ h.two; three = request_is _ h.three })

  answers_at : (p : ℕ) → Three t p → AnswersAt p t (answers_of (Some p) t)
  unfolding answers_of
  answers_at p h = rw (add-zero p) (record { one = answer_is _ h.one; two = answer_is _ h.two; three = answer_is _ h.three })

  -- a part that lies in the octets
  part_is : (p n : ℕ) → p + n ≤ length t → stretch_of p n t ≡ take n (drop p t)
  part_is p n h = simp (le-leb (p + n) (length t) h)

  -- ---- every kind
  -- the octets of an element, as many as the number before them says
  abbrev pub element_in : Option ℕ → List ℕ
  element_in None = []
  element_in (Some p) = element_at p t

  part_at : (place : Option ℕ) → ((p : ℕ) → place ≡ Some p → Held t p) → stretch_of (begin_of place) (count_of place t) t ≡ element_in place
  part_at None h = no_octets (leb 1 (length t)) (drop 1 t)
  part_at (Some p) h = part_is (p + 1) (get_or t p 0) (h p refl).part

  pub element_is : (k : RecordKind) → size_of k ≤ length t → FieldsInRange k t → element_of (entry_of k t) t ≡ element_in (layout_of k).element
  unfolding element_of entry_of
  element_is k s i = part_at (layout_of k).element (within_it k t s i)

  says : (k : RecordKind) → get_or t 0 0 ≡ kind_number k → FieldsInRange k t → Says t k (event_of k (layout_of k) t) (element_in (layout_of k).element)
  unfolding record_reference_of
  says RecordKind.Setup n i = Says.setup n (rights_in_lem i.0 i.1) (requests_at 9 i.2)
  says RecordKind.Alerting n i = Says.alerting n (answers_at 3 i.0)
  says RecordKind.Connect n i = Says.connect n (answers_at 3 i.0)
  says RecordKind.Information n i = Says.information n (side_is _ i.0)
  says RecordKind.Facility n i = Says.facility n (side_is _ i.0) (what_is _ i.1)
  says RecordKind.Disconnect n i = Says.disconnect n (side_is _ i.0) (answers_at 5 i.2)
  says RecordKind.ReleaseComplete n i = Says.complete n (side_is _ i)
  says RecordKind.Tick n i = Says.tick n

  of_kind : (k : RecordKind) → get_or t 0 0 ≡ kind_number k → size_of k ≤ length t → FieldsInRange k t → Meant t (entry_of k t)
  unfolding entry_of record_reference_of
  of_kind k n s i = record { reference = refl; says = rw (element_is k s i) (says k n i) }

  whole : (x : Entry) → Whole t x → Meant t x
  whole x w =
      let k = w.kind in
      rw w.entry (of_kind k (only _ k w.named) w.within (in_range_lem t k w.within w.ranged))

pub means : Means
means = record { taken = λ t x h. whole t x (taken t x h); ended = none_left }
