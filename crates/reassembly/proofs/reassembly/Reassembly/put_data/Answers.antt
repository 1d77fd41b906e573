-- What is kept goes on with the words.
use Rattle.reassembly.proofs.Runs.{stands-data}
use Rattle.reassembly.proofs.reassembly.Reassembly.put_data.Goals as goal

pub returns-clause-stands : goal.returns-clause-stands
returns-clause-stands c = λ setting put given after stands.
    rw c.data_all.ensures (stands-data c.args.numbers.now c.args.self.now c.args.at.group c.args.at.index setting put given c.requires.waits after stands)

pub returns-clause-nothing : goal.returns-clause-nothing
returns-clause-nothing c = rw c.data_all.ensures c.requires.waits
