use Rattle.std.proofs.Common.{rules, arith, ◌∷◌, append_assoc}
use Rattle.text.specs.Decimal.{decimal_of}
use Rattle.trace.specs.Kind.{record_kind_octet}
use Rattle.user_element.specs.Element.{note_number_of}
use Rattle.trace_lines.specs.InPlace.{Grows}
use Rattle.trace_lines.specs.Line.{number_columns}
use Rattle.trace_lines.proofs.Grown.{two, spelled}
use Rattle.trace_lines.proofs.report.put_numbers.Goals as goal

pub returns : goal.returns
unfolding number_columns
returns c =
    let kind : Grows 20 (decimal_of (record_kind_octet c.args.o.kind)) c.args.line.now c.put_decimal.new.self = search rules in
    let reference : Grows 21 (32 ∷ decimal_of c.args.o.reference) c.put_decimal.new.self c.put_numbered.new.self = search rules in
    let answer : Grows 21 (32 ∷ decimal_of c.args.o.answer) c.put_numbered.new.self c.put_numbered-2.new.self = search rules in
    let note : Grows 21 (32 ∷ decimal_of (note_number_of c.args.o.note)) c.put_numbered-2.new.self c.put_numbered-3.new.self = search rules in
    spelled (simp append_assoc) (omega arith)
    (two (omega (arith, c.requires)) (two (omega (arith, c.requires)) (two (omega (arith, c.requires)) kind reference) answer) note)
