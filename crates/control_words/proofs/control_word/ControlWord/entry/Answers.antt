use Rattle.std.proofs.Common.{ℕ, ◌==◌, ◌-◌, ap}
use Rattle.std.proofs.lemmas.Nat.Bits.{shr_and_one}
use Rattle.control_words.proofs.control_word.ControlWord.entry.Goals as goal

pub returns : goal.returns
returns c = ap (λ (n : ℕ). n == 1) (shr_and_one c.args.self.0 (55 - c.args.i))
