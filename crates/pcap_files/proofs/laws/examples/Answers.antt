use Rattle.std.proofs.Common.{refl}
use Rattle.pcap_files.specs.Capture.{header_of, packet_at, packets_within}
use Rattle.pcap_files.specs.Numbers.{number}
use Rattle.pcap_files.specs.Written.{header_bytes}
use Rattle.pcap_files.proofs.laws.examples.Goals as goal

pub returns-clause-written : goal.returns-clause-written
unfolding header_bytes
returns-clause-written c = refl

pub returns-clause-little : goal.returns-clause-little
unfolding header_of packet_at packets_within number
returns-clause-little c = refl

pub returns-clause-big : goal.returns-clause-big
unfolding header_of packet_at packets_within number
returns-clause-big c = refl

pub returns-clause-none : goal.returns-clause-none
unfolding header_of packet_at packets_within number
returns-clause-none c = refl

pub returns-clause-newer : goal.returns-clause-newer
unfolding header_of packet_at packets_within number
returns-clause-newer c = refl

pub returns-clause-three_bytes : goal.returns-clause-three_bytes
unfolding header_of packet_at packets_within number
returns-clause-three_bytes c = refl

pub returns-clause-magic : goal.returns-clause-magic
unfolding header_of packet_at packets_within number
returns-clause-magic c = refl

pub returns-clause-short_header : goal.returns-clause-short_header
unfolding header_of packet_at packets_within number
returns-clause-short_header c = refl

pub returns-clause-version : goal.returns-clause-version
unfolding header_of packet_at packets_within number
returns-clause-version c = refl

pub returns-clause-seven_bytes : goal.returns-clause-seven_bytes
unfolding header_of packet_at packets_within number
returns-clause-seven_bytes c = refl

pub returns-clause-empty : goal.returns-clause-empty
unfolding header_of packet_at packets_within number
returns-clause-empty c = refl

pub returns-clause-long : goal.returns-clause-long
unfolding header_of packet_at packets_within number
returns-clause-long c = refl

pub returns-clause-cut : goal.returns-clause-cut
unfolding header_of packet_at packets_within number
returns-clause-cut c = refl
