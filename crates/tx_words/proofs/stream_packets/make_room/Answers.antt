use Rattle.std.proofs.Common.{◌∙◌, add-zero, subst, sym}
use Rattle.tx_words.specs.SentLists.{Lists}
use Rattle.tx_words.proofs.SentLists.{starts_none, starts_too}
use Rattle.tx_words.proofs.stream_packets.make_room.Goals as goal

pub returns-in_ok-room-in-Some : goal.returns-in_ok-room-in-Some
returns-in_ok-room-in-Some c p room is =
    rw (starts_too c.args.word c.in-Some.field-0 (sym c.start_channel.ensures.channel ∙ c.in-Some.is)) (c.in_ok-room-in-Some.ensures.ok p room is)

pub returns-in-None : goal.returns-in-None
returns-in-None c p room is =
    rw (starts_none c.args.word (sym c.start_channel.ensures.channel ∙ c.in-None.is)) (subst (λ n. Lists c.args.list.now p n) (sym (add-zero room)) is)
