use Rattle.pcap_files.proofs.Stand.{records-stand}
use Rattle.pcap_files.proofs.Sizes.{none-exactly}
use Rattle.pcap_files.proofs.laws.records_stand.Goals as goal

pub returns-clause-records : goal.returns-clause-records
returns-clause-records c = records-stand

pub returns-clause-end : goal.returns-clause-end
returns-clause-end c = none-exactly
