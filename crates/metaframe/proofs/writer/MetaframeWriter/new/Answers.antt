-- No word is made yet.
use Rattle.std.proofs.Common.{refl}
use Rattle.metaframe.proofs.Writers.{begun}
use Rattle.metaframe.proofs.writer.MetaframeWriter.new.Goals as goal

pub returns : goal.returns
returns c = begun _ c.args.link.now c.args.lane c.keeps_limits.ensures refl refl c.load.ensures c.new.ensures
