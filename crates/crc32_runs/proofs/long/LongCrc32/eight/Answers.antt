use Rattle.std.proofs.Common.{◌≡◌, ◌+◌, ℕ, take, ap, ◌∙◌}
use Rattle.lk_base.specs.Checksum.{bits_of_words, register_after}
use Rattle.crc32_runs.proofs.Waiting.{more_wait, none_waits}
use Rattle.crc32_runs.proofs.long.LongCrc32.eight.Goals as goal
use Rattle.crc32_runs.proofs.long.LongCrc32.eight.Goals.{then-self-gt-MOST, else-self-gt-MOST}

pub returns : goal.returns
returns c =
    let inside = c.if-self-gt-MOST.self-inside in
    let held : register_after 32 0x1EDC6F41 inside.register (bits_of_words (take inside.waiting inside.words)) ≡ c.args.self.now =
    elim c.if-self-gt-MOST.branch [
      | then-self-gt-MOST w ↦ rw w.self-inside-is (none_waits w.settle-self-inside.result w.settle-self-inside.new.words ∙ w.settle-self-inside.ensures ∙ c.self.view_is)
      | else-self-gt-MOST w ↦ rw w.self-inside-is c.self.view_is
    ] in
    more_wait inside.register inside.waiting (inside.waiting + 8) inside.words c.put_eight.new.words c.args.words.now c.put_eight.ensures.put
    ∙ ap (λ (r : ℕ). register_after 32 0x1EDC6F41 r (bits_of_words c.args.words.now)) held
