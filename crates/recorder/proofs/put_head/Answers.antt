use Rattle.std.proofs.Common.{◌≡◌, ◌/◌, ◌%◌, ◌∙◌, List, ℕ, ap, arith}
use Rattle.recorder.specs.Writing.{fields_in}
use Rattle.recorder.proofs.Heads.{begun}
use Rattle.recorder.proofs.put_head.Goals as goal

pub returns : goal.returns
returns c =
    let high : c.args.r / 256 % 256 ≡ c.args.r / 256 = omega (arith, c.ranges.r) in
    let put = rw (c.to_be_bytes.ensures, high) at c.put_fields.ensures in
    put ∙ ap (λ (o : List ℕ). fields_in c.args.e c.args.l o) (begun c.args.l.octet (c.args.r / 256) (c.args.r % 256) c.args.head.now c.requires)
