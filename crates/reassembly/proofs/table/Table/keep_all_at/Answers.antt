-- The channel stays at its place.
use Rattle.std.proofs.Common.{◌≡◌, ◌<◌, ◌∙◌, sym, ap, subst, arith, length, set, Some, None}
use Rattle.std.proofs.lemmas.List.{length-set}
use Rattle.reassembly.specs.declared.channel.Channel.{Channel}
use Rattle.reassembly.specs.Packets.{Packets}
use Rattle.reassembly.specs.Tables.{IsPlaced, channel_row, kept_at}
use Rattle.reassembly.proofs.Placed.{indexed, placed_next, table_next}
use Rattle.reassembly.specs.Folds.{with_words}
use Rattle.reassembly.proofs.Folds.{listed-words}
use Rattle.reassembly.proofs.Unlisted.{unlisted-stays}
use Rattle.reassembly.proofs.table.Table.keep_all_at.Goals as goal

pub keep_all-requires-clause-place : goal.keep_all-requires-clause-place
keep_all-requires-clause-place c =
    let inside : c.args.number < length c.self.inside.channels.items = (let a = c.len.ensures in let b = c.if-number-len.true in omega (arith, c.self.inside.channels.ok)) in
    let there : kept_at c.self.inside.channels.items c.args.number ≡ Some c.in-Some.channel = indexed c.self.inside.channels.items c.args.number c.index_mut.result.now inside c.index_mut.ensures.value ∙ c.in-Some.is in
    c.self.invariant.within c.args.number c.in-Some.channel there

pub invariant_of-self : goal.invariant_of-self
invariant_of-self c =
    let inside : c.args.number < length c.self.inside.channels.items = (let a = c.len.ensures in let b = c.if-number-len.true in omega (arith, c.self.inside.channels.ok)) in
    let there : kept_at c.self.inside.channels.items c.args.number ≡ Some c.in-Some.channel = indexed c.self.inside.channels.items c.args.number c.index_mut.result.now inside c.index_mut.ensures.value ∙ c.in-Some.is in
    let kept : length c.keep_all.new.packets.kept ≡ length c.self.inside.packets.kept = ap (λ (p : Packets). length p.kept) c.keep_all.ensures.packets ∙ length-set c.self.inside.packets.kept c.in-Some.channel.place (with_words c.self.inside.packets.greatest c.args.words.now (channel_row c.self.inside.packets.kept c.in-Some.channel)).bytes in
    subst (λ k. IsPlaced (set c.self.inside.channels.items c.args.number (Some c.keep_all.new.channel)) c.self.inside.numbers.items k) (sym kept)
    (placed_next c.self.inside.channels.items c.self.inside.numbers.items (length c.self.inside.packets.kept) c.args.number c.in-Some.channel c.keep_all.new.channel c.self.invariant there (ap (λ (x : Channel). x.place) c.keep_all.ensures.channel))

pub returns-in-Some : goal.returns-in-Some
returns-in-Some c =
    let inside : c.args.number < length c.self.inside.channels.items = (let a = c.len.ensures in let b = c.if-number-len.true in omega (arith, c.self.inside.channels.ok)) in
    let there : kept_at c.self.inside.channels.items c.args.number ≡ Some c.in-Some.channel = indexed c.self.inside.channels.items c.args.number c.index_mut.result.now inside c.index_mut.ensures.value ∙ c.in-Some.is in
    rw (c.keep_all.ensures.channel, c.keep_all.ensures.packets) (table_next c.args.self.now c.self.inside.numbers.items c.self.inside.channels.items c.self.inside.packets c.args.number c.in-Some.channel (λ t r. with_words t.greatest c.args.words.now r) (λ t r. t.packet) c.self.view_is c.self.invariant there (listed-words c.self.inside.packets.greatest c.args.words.now (channel_row c.self.inside.packets.kept c.in-Some.channel)))

pub returns-in_default : goal.returns-in_default
returns-in_default c =
    let inside : c.args.number < length c.self.inside.channels.items = (let a = c.len.ensures in let b = c.if-number-len.true in omega (arith, c.self.inside.channels.ok)) in
    let there : kept_at c.self.inside.channels.items c.args.number ≡ None = indexed c.self.inside.channels.items c.args.number c.index_mut.result.now inside c.index_mut.ensures.value ∙ c.in_default.is in
    unlisted-stays c.args.self.now c.self.inside.numbers.items c.self.inside.channels.items c.self.inside.packets c.args.number c.index_mut.result.now c.args.words.now c.self.view_is c.index_mut.ensures.value there
