use Rattle.duplex_model.specs.DuplexRun.{heard_word}
use Rattle.duplex_model.proofs.Telling.{upper_of_heard, heard_crc}
use Rattle.burst_scheduler.proofs.scheduler.Scheduler.hear.Goals as goal

pub take_flow-requires : goal.take_flow-requires
take_flow-requires c =
    let x = c.args.word in
    record { gives = (c.requires.gives.0, heard_word x, c.requires.gives.1, c.requires.gives.2, c.verified_word.ensures (heard_word x) (upper_of_heard x, heard_crc x)) }

pub returns-clause-gives : goal.returns-clause-gives
returns-clause-gives c a g still =
    let x = c.args.word in
    c.take_flow.ensures.gives a (heard_word x) g still (c.verified_word.ensures (heard_word x) (upper_of_heard x, heard_crc x))

pub returns-clause-words : goal.returns-clause-words
returns-clause-words c a g still =
    let x = c.args.word in
    c.take_flow.ensures.words a (heard_word x) g still (c.verified_word.ensures (heard_word x) (upper_of_heard x, heard_crc x))
