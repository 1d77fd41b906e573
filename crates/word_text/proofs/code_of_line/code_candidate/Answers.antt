use Rattle.std.proofs.Common.{ℕ, List, ◌==◌, ◌+◌, ◌*◌, ◌%◌, drop, ap, ◌∙◌}
use Rattle.lk_base.specs.Checksum.{digit}
use Rattle.word_text.specs.Read.{number_after, byte_at}
use Rattle.word_text.proofs.CodeText.{sync-after, state-after, other-after}
use Rattle.word_text.proofs.code_of_line.code_candidate.Goals as goal

pub returns-in-Some-clause-only : goal.returns-in-Some-clause-only
returns-in-Some-clause-only c code h is =
    let with = c.code_with.ensures in
    sync-after c.code_with.result code c.args.line.now c.in-Some.fields.now with.below h is c.in-Some.ensures (with.inversion ∙ c.is_one.ensures) with.header with.payload

pub returns-in-Some-after_start-clause-only : goal.returns-in-Some-after_start-clause-only
returns-in-Some-after_start-clause-only c code h is =
    let with = c.code_with-in-Some-after_start.ensures in
    let state = c.number_of.ensures ∙ ap (number_after 16 0) c.after.ensures in
    state-after c.code_with-in-Some-after_start.result code c.args.line.now c.in-Some-after_start.fields.now with.below h is c.in-Some-after_start.ensures
    (with.inversion ∙ c.is_one-in-Some-after_start.ensures) with.header (with.payload ∙ ap (λ (n : ℕ). 0x2800000000000000 + n % 0x400000000000000) state)

pub returns-clause-only : goal.returns-clause-only
returns-clause-only c code h is =
    let with = c.code_with-2.ensures in
    let fields = c.after-fields.ensures in
    let header = c.header_at-header.ensures.value ∙ ap (λ (l : List ℕ). 2 * digit (byte_at l 0 == 49) + digit (byte_at l 1 == 49)) (c.after-2.ensures ∙ ap (drop 2) fields) in
    let payload = c.number_of-payload.ensures ∙ ap (number_after 16 0) (c.after-3.ensures ∙ ap (drop 5) fields) in
    other-after c.code_with-2.result code c.args.line.now with.below h is c.in_default.ensures c.in_default-after_start.ensures
    (with.inversion ∙ c.is_one-2.ensures ∙ ap (λ (l : List ℕ). byte_at l 0 == 49) fields) (with.header ∙ header) (with.payload ∙ payload)
