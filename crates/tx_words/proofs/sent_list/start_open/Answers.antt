use Rattle.std.proofs.Common.{None}
use Rattle.tx_words.specs.declared.sent.Place.{Place}
use Rattle.tx_words.proofs.SentLists.{start_at}
use Rattle.tx_words.proofs.sent_list.start_open.Goals as goal

abbrev fresh : Place
fresh = record { started = 0; current = None }

pub returns-clause-stands : goal.returns-clause-stands
returns-clause-stands c p word half slot is =
    start_at p word c.args.channel c.args.count c.args.slot c.args.list.now c.args.places.now fresh half c.requires.room slot is c.requires.low
