use Rattle.word_list.proofs.Lists.{pushed}
use Rattle.word_list.proofs.list.WordList.push.Goals as goal

pub returns-clause-ok : goal.returns-clause-ok
returns-clause-ok c =
    pushed c.push_parts.result c.self.inside.numbers.items c.push_parts.new.numbers.items c.self.inside.controls.items c.push_parts.new.controls.items c.args.self.now c.args.word c.number.result c.is_control.result
    c.self.view_is c.self.invariant c.number.ensures c.is_control.ensures c.push_parts.ensures.numbers c.push_parts.ensures.controls
