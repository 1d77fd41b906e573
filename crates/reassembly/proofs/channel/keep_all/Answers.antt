-- The open packet goes on with the words; another piece stays.
use Rattle.std.proofs.Common.{◌∙◌, sym, ap}
use Rattle.reassembly.specs.Packets.{with_kept}
use Rattle.reassembly.specs.States.{Row}
use Rattle.reassembly.specs.Tables.{channel_as}
use Rattle.reassembly.proofs.Adding.{kept-same}
use Rattle.reassembly.proofs.Folds.{closed-row, open-bytes, open-channel, over-channel, same-channel}
use Rattle.reassembly.proofs.channel.keep_all.Goals as goal

pub returns-then-not-are_kept-clause-channel : goal.returns-then-not-are_kept-clause-channel
returns-then-not-are_kept-clause-channel c =
    over-channel c.args.channel.now c.add_all-are_kept.result c.if-not-are_kept.true
    ∙ open-channel c.args.packets.now.greatest c.args.words.now c.args.packets.now.kept c.args.channel.now c.in-Open.field-0 c.add_all-are_kept.result c.in-Open.is c.add_all-are_kept.ensures.is_kept

pub returns-then-not-are_kept-clause-packets : goal.returns-then-not-are_kept-clause-packets
returns-then-not-are_kept-clause-packets c =
    c.add_all-are_kept.ensures.state ∙ ap (with_kept c.args.packets.now c.args.channel.now.place) (open-bytes c.args.packets.now.greatest c.args.words.now c.args.packets.now.kept c.args.channel.now c.in-Open.field-0 c.in-Open.is)

pub returns-else-not-are_kept-clause-channel : goal.returns-else-not-are_kept-clause-channel
returns-else-not-are_kept-clause-channel c =
    same-channel c.args.channel.now c.add_all-are_kept.result c.if-not-are_kept.false
    ∙ open-channel c.args.packets.now.greatest c.args.words.now c.args.packets.now.kept c.args.channel.now c.in-Open.field-0 c.add_all-are_kept.result c.in-Open.is c.add_all-are_kept.ensures.is_kept

pub returns-else-not-are_kept-clause-packets : goal.returns-else-not-are_kept-clause-packets
returns-else-not-are_kept-clause-packets c =
    c.add_all-are_kept.ensures.state ∙ ap (with_kept c.args.packets.now c.args.channel.now.place) (open-bytes c.args.packets.now.greatest c.args.words.now c.args.packets.now.kept c.args.channel.now c.in-Open.field-0 c.in-Open.is)

pub returns-in_default : goal.returns-in_default
returns-in_default c =
    let same = closed-row c.args.packets.now.greatest c.args.words.now c.args.packets.now.kept c.args.channel.now c.in_default.not-Open in
    record {
      channel = sym (ap (λ (r : Row). channel_as c.args.channel.now.place r) same);
      packets = kept-same c.args.packets.now c.args.channel.now.place ∙ sym (ap (λ (r : Row). with_kept c.args.packets.now c.args.channel.now.place r.bytes) same);
    }
