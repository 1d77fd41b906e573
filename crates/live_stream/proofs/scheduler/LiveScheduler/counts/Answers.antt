use Rattle.std.proofs.Common.{◌≡◌, ◌∙◌, ◌<◌, ℕ, length, get_or, Contains, sym, ap, subst, arith}
use Rattle.std.proofs.lemmas.List.Elements.{Contains-get_or}
use Rattle.live_stream.specs.Waiting.{channels_of}
use Rattle.live_stream.proofs.More.{counts_at}
use Rattle.live_stream.proofs.Places.{as_many, channel_at}
use Rattle.live_stream.proofs.scheduler.LiveScheduler.counts.Goals as goal

pub returns-then-at-len : goal.returns-then-at-len
returns-then-at-len c g w h =
    let s = c.args.self.now in
    let at : ℕ = c.place-at.result in
    let below : at < length s.turns.items = omega (arith, c.if-at-len.true, c.len.ensures, s.turns.ok.0) in
    let long = ap length c.deref.ensures.value in
    let found : get_or (channels_of s.turns.items) at 0 ≡ c.args.channel = ap (λ ts. get_or (channels_of ts) at 0) (sym c.deref.ensures.value) ∙ c.place-at.ensures.found (omega (arith, below, long)) in
    let named = sym (channel_at s.turns.items at c.index.result.now below c.index.ensures) ∙ found in
    let n = as_many s.turns.items in
    let listed : Contains g.channels c.args.channel = (h.words.turns.exact c.args.channel).0 (subst (Contains (channels_of s.turns.items)) found (Contains-get_or (channels_of s.turns.items) at 0 (omega (arith, below, n)))) in
    (listed, counts_at s g w h at c.index.result.now below c.index.ensures c.args.channel named)

pub returns-else-at-len : goal.returns-else-at-len
returns-else-at-len c g w h known =
    let s = c.args.self.now in
    let long = ap length c.deref.ensures.value in
    let missing = c.place-at.ensures.missing (omega (arith, c.if-at-len.false, c.len.ensures, c.place-at.ensures.within, long, s.turns.ok.0)) in
    missing (subst (λ ts. Contains (channels_of ts) c.args.channel) (sym c.deref.ensures.value) ((h.words.turns.exact c.args.channel).1 known))
