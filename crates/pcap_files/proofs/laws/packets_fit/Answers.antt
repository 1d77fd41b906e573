use Rattle.std.proofs.Common.{ℕ, ◌<◌}
use Rattle.pcap_files.proofs.Sizes.{packets-within, packets-bytes, records-whole}
use Rattle.pcap_files.proofs.laws.packets_fit.Goals as goal

pub returns-clause-within : goal.returns-clause-within
returns-clause-within c = packets-within

pub returns-clause-whole : goal.returns-clause-whole
returns-clause-whole c = records-whole

pub returns-clause-bytes : goal.returns-clause-bytes
returns-clause-bytes c = packets-bytes (λ (b : ℕ). b < 256)
