use Rattle.std.proofs.Common.{◌/◌, ◌^◌}
use Rattle.std.proofs.lemmas.Nat.{and_mask, one_shl}
use Rattle.control_words.proofs.control_word.ControlWord.bits.Goals as goal

pub returns : goal.returns
returns c = rw (one_shl c.args.count 64 c.requires.count) (and_mask (c.args.self.0 / 2 ^ c.args.low) c.args.count)
