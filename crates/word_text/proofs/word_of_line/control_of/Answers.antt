use Rattle.std.proofs.Common.{ℕ, ◌==◌, ◌%◌, ap}
use Rattle.word_text.proofs.Fields.{control-read}
use Rattle.word_text.proofs.word_of_line.control_of.Goals as goal

pub returns : goal.returns
returns g d crc x h e =
    control-read d _ crc _ x g.to_word.result g.args.line.now g.after_equals-sop.result.now g.after_equals-eop.result.now g.after_equals-reset.result.now g.after_equals-flow.result.now g.after_equals-channel.result.now g.after_equals-multi.result.now g.after_equals-crc.result.now
    h g.to_word.ensures e g.after_equals-sop.ensures g.after_equals-eop.ensures g.after_equals-reset.ensures g.after_equals-flow.ensures g.after_equals-channel.ensures g.after_equals-multi.ensures g.after_equals-crc.ensures
    (ap (λ (b : ℕ). b == 98) g.byte_at.ensures) (ap (λ (b : ℕ). b == 49) g.byte_at-2.ensures) g.end_of.ensures (ap (λ (b : ℕ). b == 49) g.byte_at-3.ensures)
    (ap (λ (n : ℕ). n % 65536) g.number_of.ensures) (ap (λ (n : ℕ). n % 256) g.number_of-2.ensures) (ap (λ (n : ℕ). n % 256) g.number_of-3.ensures) (ap (λ (n : ℕ). n % 16777216) g.number_of-4.ensures)
