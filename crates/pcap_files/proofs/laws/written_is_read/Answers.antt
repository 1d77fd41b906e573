use Rattle.std.proofs.Common.{ap}
use Rattle.pcap_files.specs.Capture.{Packets, whole_by}
use Rattle.pcap_files.proofs.Again.{written-read, written-length}
use Rattle.pcap_files.proofs.laws.written_is_read.Goals as goal

pub returns-clause-space : goal.returns-clause-space
returns-clause-space c = written-length

pub returns-clause-read : goal.returns-clause-read
returns-clause-read c link_type most packets h = ap (λ (p : Packets). whole_by p.packets p.refusal) (written-read link_type most packets h)
