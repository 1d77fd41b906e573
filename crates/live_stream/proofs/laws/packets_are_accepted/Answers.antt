use Rattle.live_stream.proofs.laws.packets_are_accepted.Goals as goal

pub returns : goal.returns
returns c s g w h = h.words.given_by.accepted
