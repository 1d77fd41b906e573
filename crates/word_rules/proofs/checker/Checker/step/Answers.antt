use Rattle.word_rules.proofs.checker.Checker.step.Goals as goal

pub returns-in-Data-clause-rows : goal.returns-in-Data-clause-rows
returns-in-Data-clause-rows c p e k ord = rw c.in-Data.is (c.data.ensures.rows p e c.args.next k)

pub returns-in-Bad-clause-rows : goal.returns-in-Bad-clause-rows
returns-in-Bad-clause-rows c p e k ord = rw c.in-Bad.is (c.bad.ensures.rows p e c.args.next k)
