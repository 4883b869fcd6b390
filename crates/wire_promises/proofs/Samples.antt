-- What is written for messages of real calls, computed.
use Rattle.std.proofs.Common.{refl}
use Rattle.cause.specs.Element.{cause_of}
use Rattle.facility.specs.Forms.{size, stand, spells, service_of, wish_of, refusal_of, read_as, invoke_of, result_of, error_of, facility_of as component_of}
use Rattle.facility.specs.Filling.{filled}
use Rattle.memory.specs.Room.{placed, wrote_of, left_of}
use Rattle.elements.specs.Elements.{then, elements, counted}
use Rattle.message_types.specs.Kind.{kind_of}
use Rattle.elements.specs.Single.{single_of}
use Rattle.elements.specs.Meaning.{first_single, first_cause, first_place, components, reading_of, taken_from}
use Rattle.message.specs.Reading.{headed_of, read_of}
use Rattle.message.specs.Parts.{user_user_of}
use Rattle.user_element.specs.Writable.{element_fits_of}
use Rattle.writer.specs.Fitting.{message_fits}
use Rattle.writer.specs.Writing.{front_octets, message_octets}
use Rattle.wire_promises.specs.Samples.{Samples}
use Rattle.call_promises.proofs.Opened.{steps_compute}

pub samples : Samples
unfolding steps_compute cause_of size stand spells filled service_of wish_of refusal_of read_as invoke_of result_of error_of component_of placed wrote_of left_of then elements counted kind_of single_of first_single first_cause first_place components reading_of taken_from headed_of read_of user_user_of front_octets message_octets element_fits_of message_fits
samples = (refl, refl, (refl, refl, (refl, refl, (refl, refl, (refl, refl, (refl, refl, (refl, refl, tt)))))))
