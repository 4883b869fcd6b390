-- The reader's test of a record and what the paper says is in range are one, field by field.
use Rattle.std.specs.Prelude.{Option, Some, None}
use Prim.Native.Nat.{ℕ, zero, suc, ◌+◌, ◌-◌, ◌<◌, ◌≤◌}
use mathlib.Core.List.{List, [], ◌∷◌}
use mathlib.Core.Bool.{Bool, true, false, cond, ◌&&◌, true≢false}
use mathlib.Core.Logic.{◌⊎◌, inl, inr, ⊎_elim}
use mathlib.Core.Path.{◌≡◌, refl, sym, ◌∙◌}
use native.Mathlib.Nat.{add-zero}
use native.Mathlib.Omega.{arith}
use borrow.Author.Tests.{ltb-true, ltb-false, eqb-true, le-leb, le-ltb, eq-eqb}
use lib.ListN.{length, get_or, take, drop, length-drop}
use lib.Seq.{get_or-take, get_or-drop, length-take-le}
use lib.Dec.{ltb, eqb}
use Rattle.rights.specs.declared.Service.{Service}
use Rattle.trace.specs.declared.Field.{Field}
use Rattle.trace.specs.declared.kind.RecordKind.{RecordKind}
use Rattle.trace.specs.Kind.{layout_of, size_of}
use Rattle.trace.specs.ElementField.{blank_of, form_fits_of, zeros_fit_of}
use Rattle.trace.proofs.First.{first_assoc}
use Rattle.trace.specs.Ranges.{first_of, up_to_of, three_of, element_out_of, first_out_of}
use Rattle.trace_promises.specs.Records.{Zeros, HoldsElement, FieldsInRange}
use Rattle.trace_promises.specs.Names.{Fields, FirstOut, three_fields, element_fields, fields_of}
use Rattle.logic.proofs.Tests.{both, if_so, if_not}

-- ---- what a test says of the fields
abbrev AllIn : Fields → Type 0
AllIn Fields.none = Unit {0}
AllIn (Fields.field f P rest) = P × AllIn rest

abbrev Says : Fields → Option Field → Type 0
Says fs None = AllIn fs
Says fs (Some f) = FirstOut fs f

not_both : (fs : Fields) (f : Field) → AllIn fs → FirstOut fs f → ⊥
not_both Fields.none f a o = o
not_both (Fields.field g P rest) f a o = ⊎_elim (λ u. u.1 a.0) (λ u. not_both rest f a.1 u.1) o

-- one field more, which is in range
passes : (f : Field) (P : Type 0) (rest : Fields) (x : Option Field) → P → Says rest x → Says (Fields.field f P rest) x
passes f P rest None p s = (p, s)
passes f P rest (Some g) p s = inr (p, s)

module _ (f : Field) (most : ℕ) (t : List ℕ) (rest : Fields) (x : Option Field) (s : Says rest x) where
  held_to : (v : ℕ) (b : Bool) → ltb most v ≡ b → Says (Fields.field f (v ≤ most) rest) (first_of (cond b (Some f) None) x)
  held_to v true e = inl (refl, λ h. let l = ltb-true most v e in omega arith)
  held_to v false e = passes f (v ≤ most) rest x (ltb-false most v e) s

  up_to_says : (p i : ℕ) → Says (Fields.field f (get_or t (p + i) 0 ≤ most) rest) (first_of (up_to_of f most (Some p) i t) x)
  unfolding up_to_of
  up_to_says p i = held_to (get_or t (p + i) 0) _ refl

  at_says : (p : ℕ) → Says (Fields.field f (get_or t p 0 ≤ most) rest) (first_of (up_to_of f most (Some p) 0 t) x)
  unfolding up_to_of
  at_says p = rw (add-zero p) (held_to (get_or t p 0) _ refl)

three_says : (f : Service → Field) (t : List ℕ) (rest : Fields) (x : Option Field) → Says rest x → (p : ℕ) → Says (three_fields f t p rest) (first_of (three_of f (Some p) t) x)
unfolding three_of
three_says f t rest x s p =
    let three = Fields.field (f Service.Three) (get_or t (p + 2) 0 ≤ 2) rest in
    let two = Fields.field (f Service.Two) (get_or t (p + 1) 0 ≤ 2) three in
    let c = first_of (up_to_of (f Service.Three) 2 (Some p) 2 t) x in
    let b = first_of (up_to_of (f Service.Two) 2 (Some p) 1 t) c in
    rw (first_assoc, first_assoc)
    (at_says (f Service.One) 2 t two b
    (up_to_says (f Service.Two) 2 t three c (up_to_says (f Service.Three) 2 t rest x s p 2) p 1)
    p)

-- ---- the element field
-- zeros, one by one
blank_each : (l : List ℕ) → blank_of l ≡ true → (i : ℕ) → get_or l i 0 ≡ 0
unfolding blank_of
blank_each [] h i = refl
blank_each (x ∷ xs) h zero = eqb-true x 0 (if_so (eqb x 0) (blank_of xs) h).0
blank_each (x ∷ xs) h (suc i) = blank_each xs (if_so (eqb x 0) (blank_of xs) h).1 i

each_blank : (l : List ℕ) → ((i : ℕ) → i < length l → get_or l i 0 ≡ 0) → blank_of l ≡ true
unfolding blank_of
each_blank [] f = refl
each_blank (x ∷ xs) f = simp (eq-eqb x 0 (f 0 (omega arith)), each_blank xs (λ i h. f (suc i) (omega arith)))

module _ (t : List ℕ) (p : ℕ) (within : p + 132 ≤ length t) where
  abbrev n : ℕ
  n = get_or t p 0

  abbrev field : List ℕ
  field = take 132 (drop p t)

  field_long : length field ≡ 132
  field_long = length-take-le 132 (drop p t) (rw (length-drop p t) (omega arith))

  after : (j : ℕ) → n + 1 + j < 132 → get_or (drop (n + 1) field) j 0 ≡ get_or t (p + (n + 1 + j)) 0
  after j h = get_or-drop (n + 1) field j 0 ∙ get_or-take 132 (drop p t) (n + 1 + j) 0 h ∙ get_or-drop p t (n + 1 + j) 0

  zeros_in : blank_of (drop (n + 1) field) ≡ true → Zeros t (p + 1 + n) (p + 132)
  zeros_in b = record {
    zero = λ i h l.
        let at : p + (n + 1 + (i - (p + 1 + n))) ≡ i = omega arith in
        rw at at (sym (after (i - (p + 1 + n)) (omega arith)) ∙ blank_each (drop (n + 1) field) b (i - (p + 1 + n)));
  }

  zeros_to : Zeros t (p + 1 + n) (p + 132) → blank_of (drop (n + 1) field) ≡ true
  zeros_to z =
      each_blank (drop (n + 1) field)
      (λ j h.
      let l = rw (length-drop (n + 1) field, field_long) at h in
      after j (omega arith) ∙ z.zero (p + (n + 1 + j)) (omega arith) (omega arith))

  zeros_so : (b : Bool) → blank_of (drop (n + 1) field) ≡ b → Says (Fields.field Field.Zeros (Zeros t (p + 1 + n) (p + 132)) Fields.none) (cond b None (Some Field.Zeros))
  zeros_so true e = (zeros_in e, tt)
  zeros_so false e = inl (refl, λ z. true≢false (sym (zeros_to z) ∙ e))

  abbrev form : Bool
  form = cond (ltb n 2) (eqb n 0) (cond (ltb 131 n) false (eqb (get_or t (p + 1) 0) 126 && eqb (get_or t (p + 2) 0) (n - 2)))

  form_in : (b : Bool) → ltb n 2 ≡ b → cond b (eqb n 0) (cond (ltb 131 n) false (eqb (get_or t (p + 1) 0) 126 && eqb (get_or t (p + 2) 0) (n - 2))) ≡ true → (n ≡ 0) ⊎ HoldsElement t p
  form_in true e h = inl (eqb-true n 0 h)
  form_in false e h =
      let a = if_not (ltb 131 n) _ h in
      let c = both (eqb (get_or t (p + 1) 0) 126) (eqb (get_or t (p + 2) 0) (n - 2)) a.1 in
      inr (record { least = ltb-false n 2 e; most = ltb-false 131 n a.0; first = eqb-true _ _ c.0; second = eqb-true _ _ c.1 })

  absent : n ≡ 0 → form ≡ true
  absent z = rw z refl

  held : HoldsElement t p → form ≡ true
  held w = simp (le-ltb n 2 w.least, le-ltb 131 n w.most, eq-eqb _ _ w.first, eq-eqb _ _ w.second)

  form_so : (b : Bool) → form ≡ b → (x : Option Field) → Says (Fields.field Field.Zeros (Zeros t (p + 1 + n) (p + 132)) Fields.none) x → Says (element_fields t p) (cond b x (Some Field.Element))
  form_so true e x s =
      passes Field.Element ((n ≡ 0) ⊎ HoldsElement t p) (Fields.field Field.Zeros (Zeros t (p + 1 + n) (p + 132)) Fields.none) x
      (form_in _ refl e) s
  form_so false e x s = inl (refl, λ w. true≢false (sym (⊎_elim absent held w) ∙ e))

  element_says : Says (element_fields t p) (element_out_of (Some p) t)
  unfolding element_out_of form_fits_of zeros_fit_of
  element_says =
      rw (le-leb (p + 132) (length t) within)
      (form_so _ refl _ (zeros_so _ refl))

-- ---- every kind
module _ (t : List ℕ) where
  says : (k : RecordKind) → size_of k ≤ length t → Says (fields_of k t) (first_out_of (layout_of k) t)
  unfolding first_out_of up_to_of three_of element_out_of form_fits_of zeros_fit_of
  says RecordKind.Setup s =
      let element = element_fields t 12 in
      let three = three_fields Field.Request t 9 element in
      up_to_says Field.Late 1 t (Fields.field Field.Leave (get_or t 5 0 ≤ 1) three) _
      (up_to_says Field.Leave 1 t three _
      (three_says Field.Request t element _ (element_says t 12 (omega arith)) 9)
      3 2)
      3 1
  says RecordKind.Alerting s =
      three_says Field.Answer t (element_fields t 6) _ (element_says t 6 (omega arith)) 3
  says RecordKind.Connect s =
      three_says Field.Answer t (element_fields t 6) _ (element_says t 6 (omega arith)) 3
  says RecordKind.Information s =
      up_to_says Field.Side 1 t (element_fields t 4) _ (element_says t 4 (omega arith)) 3 0
  says RecordKind.Facility s =
      up_to_says Field.Side 1 t (Fields.field Field.What (get_or t 4 0 ≤ 3) Fields.none) _
      (up_to_says Field.What 3 t Fields.none None tt 4 0)
      3 0
  says RecordKind.Disconnect s =
      let element = element_fields t 8 in
      let three = three_fields Field.Answer t 5 element in
      up_to_says Field.Side 1 t (Fields.field Field.Cause (get_or t 4 0 ≤ 127) three) _
      (up_to_says Field.Cause 127 t three _
      (three_says Field.Answer t element _ (element_says t 8 (omega arith)) 5)
      4 0)
      3 0
  says RecordKind.ReleaseComplete s = up_to_says Field.Side 1 t Fields.none None tt 3 0
  says RecordKind.Tick s = tt

  all_in : (k : RecordKind) → AllIn (fields_of k t) → FieldsInRange k t
  all_in RecordKind.Setup a = (a.0, a.1.0, record { one = a.1.1.0; two = a.1.1.1.0; three = a.1.1.1.1.0 }, record { element = a.1.1.1.1.1.0; after = a.1.1.1.1.1.1.0 })
  all_in RecordKind.Alerting a = (record { one = a.0; two = a.1.0; three = a.1.1.0 }, record { element = a.1.1.1.0; after = a.1.1.1.1.0 })
  all_in RecordKind.Connect a = (record { one = a.0; two = a.1.0; three = a.1.1.0 }, record { element = a.1.1.1.0; after = a.1.1.1.1.0 })
  all_in RecordKind.Information a = (a.0, record { element = a.1.0; after = a.1.1.0 })
  all_in RecordKind.Facility a = (a.0, a.1.0)
  all_in RecordKind.Disconnect a = (a.0, a.1.0, record { one = a.1.1.0; two = a.1.1.1.0; three = a.1.1.1.1.0 }, record { element = a.1.1.1.1.1.0; after = a.1.1.1.1.1.1.0 })
  all_in RecordKind.ReleaseComplete a = a.0
  all_in RecordKind.Tick a = tt

  in_all : (k : RecordKind) → FieldsInRange k t → AllIn (fields_of k t)
  in_all RecordKind.Setup i = (i.0, (i.1, (i.2.one, (i.2.two, (i.2.three, (i.3.element, (i.3.after, tt)))))))
  in_all RecordKind.Alerting i = (i.0.one, (i.0.two, (i.0.three, (i.1.element, (i.1.after, tt)))))
  in_all RecordKind.Connect i = (i.0.one, (i.0.two, (i.0.three, (i.1.element, (i.1.after, tt)))))
  in_all RecordKind.Information i = (i.0, (i.1.element, (i.1.after, tt)))
  in_all RecordKind.Facility i = (i.0, (i.1, tt))
  in_all RecordKind.Disconnect i = (i.0, (i.1, (i.2.one, (i.2.two, (i.2.three, (i.3.element, (i.3.after, tt)))))))
  in_all RecordKind.ReleaseComplete i = (i, tt)
  in_all RecordKind.Tick i = tt

  module _ (k : RecordKind) (s : size_of k ≤ length t) where
    pub in_range_lem : first_out_of (layout_of k) t ≡ None → FieldsInRange k t
    in_range_lem e = all_in k (rw e at (says k s))

    pub first_out : (f : Field) → first_out_of (layout_of k) t ≡ Some f → FirstOut (fields_of k t) f
    first_out f e = rw e at (says k s)

    pub not_in_range : (f : Field) → first_out_of (layout_of k) t ≡ Some f → FieldsInRange k t → ⊥
    not_in_range f e i = not_both (fields_of k t) f (in_all k i) (first_out f e)

    by_test : (x : Option Field) → first_out_of (layout_of k) t ≡ x → FieldsInRange k t → x ≡ None
    by_test None e i = refl
    by_test (Some f) e i = absurd (not_in_range f e i)

    pub ranged : FieldsInRange k t → first_out_of (layout_of k) t ≡ None
    ranged i = by_test _ refl i
