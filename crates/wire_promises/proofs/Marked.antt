-- All marked edges, computed under one line that opens the definitions.
use Rattle.std.proofs.Common.{refl}
use Rattle.elements.specs.Elements.{elements, then}
use Rattle.elements.specs.Meaning.{taken_from}
use Rattle.message.specs.Reading.{headed_of, read_of}
use Rattle.message_types.specs.Kind.{kind_of}
use Rattle.wire_promises.specs.Marked.{Marked}
use Rattle.call_promises.proofs.Opened.{steps_compute}

pub marked : Marked
unfolding steps_compute read_of headed_of kind_of elements then taken_from
marked = (refl, (refl, (refl, (refl, (refl, (refl, (refl, (refl, (refl, (refl, (refl, (refl, tt))))))))))))
