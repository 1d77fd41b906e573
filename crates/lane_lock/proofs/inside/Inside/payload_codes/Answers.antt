-- Eight payload words.
use Rattle.std.proofs.Common.{ℕ, List, ap, ◌∙◌}
use Rattle.lk_base.specs.Checksum.{bits_of_words, register_after}
use Rattle.lane_lock.specs.Inside.{InsideState}
use Rattle.lane_lock.specs.Run.{words_with}
use Rattle.lane_lock.proofs.EightWords.{eight_ran, keyed_with}
use Rattle.lane_lock.proofs.WordsRan.{polynomial}
use Rattle.lane_lock.proofs.inside.Inside.payload_codes.Goals as goal

pub returns-clause-words : goal.returns-clause-words
returns-clause-words c =
    c.words_with.ensures ∙ ap (words_with c.args.codes.now) c.unscrambled_codes-numbers.ensures.numbers ∙ keyed_with c.args.self.now.state c.args.codes.now c.requires.legal

pub returns-clause-value : goal.returns-clause-value
returns-clause-value c =
    let i : InsideState = record { settings = c.self.inside.link; position = c.self.inside.position; loaded = c.self.inside.loaded; state = c.self.inside.key; syncs = c.self.inside.syncs; states = c.self.inside.states; register = c.self.inside.register; bad = c.self.inside.bad } in
    eight_ran c.args.self.now i c.args.codes.now c.crc32_words-self-inside.result c.told-codes c.requires.ahead c.requires.legal (c.self.view_is ∙ c.unscrambled_codes-numbers.ensures.value)
    (c.crc32_words-self-inside.ensures ∙ ap (λ (numbers : List ℕ). register_after 32 polynomial c.self.inside.register (bits_of_words numbers)) c.unscrambled_codes-numbers.ensures.numbers)
