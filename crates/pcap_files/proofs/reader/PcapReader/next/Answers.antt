use Rattle.std.proofs.Common.{◌∙◌, sym, ap, refl}
use Rattle.pcap_files.specs.Capture.{answer_of}
use Rattle.pcap_files.proofs.Left.{from-some, from-none, from-err}
use Rattle.pcap_files.proofs.reader.PcapReader.next.Goals as goal

pub returns-in-Ok-Some-clause-answer : goal.returns-in-Ok-Some-clause-answer
returns-in-Ok-Some-clause-answer c = ap answer_of (sym c.self.view_is ∙ from-some _ c.in-Ok-Some.packet.now (rw c.in-Ok-Some.field-0-is at c.in-Ok-Some.ensures.given))

pub returns-in-Ok-Some-clause-some : goal.returns-in-Ok-Some-clause-some
returns-in-Ok-Some-clause-some c = rw c.tail-self-inside.ensures (sym c.self.view_is ∙ from-some _ c.in-Ok-Some.packet.now (rw c.in-Ok-Some.field-0-is at c.in-Ok-Some.ensures.given))

pub returns-in-Ok-None-clause-answer : goal.returns-in-Ok-None-clause-answer
returns-in-Ok-None-clause-answer c = ap answer_of (sym c.self.view_is ∙ from-none _ (rw c.in-Ok-None.field-0-is at c.in-Ok-None.ensures.given))

pub returns-in-Ok-None-clause-end : goal.returns-in-Ok-None-clause-end
returns-in-Ok-None-clause-end c = λ _. (sym c.self.view_is ∙ from-none _ (rw c.in-Ok-None.field-0-is at c.in-Ok-None.ensures.given), refl)

pub returns-in-Err-clause-answer : goal.returns-in-Err-clause-answer
returns-in-Err-clause-answer c = ap answer_of (sym c.self.view_is ∙ from-err _ c.in-Err.e c.in-Err.ensures.given)

pub returns-in-Err-clause-err : goal.returns-in-Err-clause-err
returns-in-Err-clause-err c = (sym c.self.view_is ∙ from-err _ c.in-Err.e c.in-Err.ensures.given, refl)
