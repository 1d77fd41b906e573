use Rattle.std.proofs.Common.{Ok, ap, rules}
use Rattle.lk_base.specs.Fields.{crc_field}
use Rattle.control_words.specs.declared.fields.Control.{Control}
use Rattle.control_words.proofs.control_word.ControlWord.control.Goals as goal
use Rattle.control_words.proofs.SameControl.{same_control}

pub returns-clause-ok : goal.returns-clause-ok
returns-clause-ok c = search rules

pub returns-clause-only : goal.returns-clause-only
returns-clause-only c other crc is = ap (λ (x : Control). Ok x) (same_control _ other (crc_field c.args.self.0) crc c.args.self.0 (returns-clause-ok c) is)
