use Rattle.std.proofs.Common.{sym, ◌∙◌}
use Rattle.tx_words.proofs.Opening.{half-none, ends-none, ended-some}
use Rattle.tx_words.proofs.sent_list.end_packet.Goals as goal

pub end_open-requires : goal.end_open-requires
end_open-requires c =
    let (p, count, stands, within, slot, last) = c.requires.stands in
    let some = ended-some c.args.word c.args.last c.in-Some.channel (sym c.ended_channel.ensures.channel ∙ c.in-Some.is) in
    record { stands = (p, count, stands, within, slot, sym last ∙ some.1); low = c.in-Some.ensures.within c.requires.low }

pub returns-in-Some-clause-half : goal.returns-in-Some-clause-half
returns-in-Some-clause-half c p count stands within slot last =
    let some = ended-some c.args.word c.args.last c.in-Some.channel (sym c.ended_channel.ensures.channel ∙ c.in-Some.is) in
    c.end_open.ensures.half p c.args.word count stands within slot (sym last ∙ some.1) some.0

pub returns-in-None-clause-half : goal.returns-in-None-clause-half
returns-in-None-clause-half c p count stands within slot last =
    half-none p c.args.word _ c.args.places.now stands
    (λ k. ends-none p c.args.word c.args.last k last (sym c.ended_channel.ensures.channel ∙ c.in-None.is))
