-- The number of a word under the key.
use Rattle.std.proofs.Common.{ℕ, ap, bit_xor, ◌∙◌}
use Rattle.lk_base.specs.Words.{number_of}
use Rattle.lane_model.specs.Coding.{word_of_code}
use Rattle.lane_model.specs.Key.{key_word, start_of}
use Rattle.lane_lock.specs.Inside.{InsideState}
use Rattle.lane_lock.specs.Run.{keyed_word}
use Rattle.lane_lock.proofs.EightWords.{legal_number}
use Rattle.lane_lock.proofs.inside.Inside.unscrambled_code.Goals as goal

pub returns-clause-number : goal.returns-clause-number
returns-clause-number c =
    c.apply.ensures.value ∙ ap (λ (x : ℕ). bit_xor x (key_word (start_of c.self.inside.key) 0)) c.payload_of.ensures
    ∙ legal_number c.self.inside.key c.args.code c.requires.legal
    ∙ ap (λ (x : InsideState). number_of (keyed_word x.state (word_of_code c.args.code))) c.self.view_is
