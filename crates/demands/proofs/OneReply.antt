-- Two results that meet one contract are one.
use mathlib.Core.Path.{◌≡◌, sym, ◌∙◌}
use Rattle.demands.specs.OneReply.{OneReply}

both : {A : Type 0} {d r s : A} → r ≡ d → s ≡ d → r ≡ s
both a b = a ∙ sym b

pub one_reply_lem : OneReply
one_reply_lem =
    record {
      valued = λ A value r s a b. both a b;
      written = λ fits at p l l' l'' r s a b. (both a.answer b.answer, both a.buffer b.buffer);
      kept = λ from to l l' l'' r s a b. (both a.count b.count, both a.buffer b.buffer);
      spelt = λ t from l l' l'' r s a b. (both a.answer b.answer, both a.buffer b.buffer);
      digested =
          λ c offset l l' l'' r s a b.
          ((λ i. record { used = both a.used b.used i; wrote = both a.wrote b.wrote i }), both a.buffer b.buffer);
      worked_off =
          λ p last table t l l' l'' r s a b.
          ((λ i. record { calls = both a.calls b.calls i; used = both a.used b.used i; wrote = both a.wrote b.wrote i; records = both a.records b.records i; end = both a.end b.end i }), both a.buffer b.buffer);
    }
