use Rattle.live_stream.proofs.AtOnce.{live_open, whole_is_stream}
use Rattle.live_stream.proofs.laws.given_at_once.Goals as goal

pub returns-clause-open : goal.returns-clause-open
returns-clause-open c given w once = live_open given once w

pub returns-clause-whole : goal.returns-clause-whole
returns-clause-whole c given w closed once is soon rows = whole_is_stream given w closed once is soon rows
