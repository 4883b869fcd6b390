use Rattle.std.proofs.Common.{arith}
use Rattle.writer.specs.Writing.{front_octets, message_octets}
use Rattle.writer.proofs.Pens.{adds_five}
use Rattle.writer.proofs.sizes.Sizes.{size_is}
use Rattle.writer.proofs.pen.Pen.message.Goals as goal

pub returns : goal.returns
unfolding message_octets front_octets
returns c =
    let n = size_is c.args.w c.args.user.now in
    adds_five (omega arith) c.header.ensures c.single.ensures c.cause.ensures c.facilities.ensures c.octets.ensures
