use Rattle.std.proofs.Common.{None, length, ◌<◌, arith, rules}
use Rattle.tx_words.specs.declared.sent.Sent.{Sent}
use Rattle.tx_words.specs.declared.sent.Place.{Place}
use Rattle.tx_words.proofs.Opening.{half-idle}
use Rattle.tx_words.proofs.SentLists.{end_at, number_there}
use Rattle.tx_words.proofs.sent_list.end_open.Goals as goal

abbrev none : Sent
none = record { channel = 0; number = 0; first = 0; last = None }

abbrev fresh : Place
fresh = record { started = 0; current = None }

pub bounds-list-number : goal.bounds-list-number
bounds-list-number c =
    let (p, count, stands, within, slot, last) = c.requires.stands in
    let n = number_there p c.args.channel c.in-Some.number count c.args.list.now c.args.places.now fresh none stands within c.requires.low c.in-Some.is in
    omega (arith, n, within)

pub offset_bounds-list-number : goal.offset_bounds-list-number
offset_bounds-list-number c =
    let n : c.in-Some.number < length c.args.list.now = bounds-list-number c in
    search rules

pub returns-in-Some-clause-half : goal.returns-in-Some-clause-half
returns-in-Some-clause-half c p word count stands within slot last ended =
    end_at p word c.args.channel c.in-Some.number count c.args.slot c.args.list.now c.args.places.now fresh none stands within slot last ended c.requires.low c.in-Some.is

pub returns-in_default-clause-half : goal.returns-in_default-clause-half
returns-in_default-clause-half c p word count stands within slot last ended =
    half-idle p word c.args.channel _ c.args.places.now fresh stands ended last c.requires.low c.in_default.is
