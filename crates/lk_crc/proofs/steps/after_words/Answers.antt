use Rattle.std.proofs.Common.{sym, ◌∙◌}
use Rattle.lk_crc.proofs.steps.after_words.Goals as goal
use Rattle.lk_crc.proofs.Registers.{only_number, pair_first, without_number}

pub loop-rest-preserved : goal.loop-rest-preserved
loop-rest-preserved g c p near far = rw (c.after_pair-stepped.ensures p near far) (sym (pair_first g.row.WIDTH p c.loop-rest.stepped 64 c.loop-rest.rest.now c.in-len2-up.len_at_least) ∙ c.loop-rest.invariant p near far)

pub returns-in-empty : goal.returns-in-empty
returns-in-empty g c p near far = sym (without_number g.row.WIDTH p c.loop-rest.stepped 64 c.loop-rest.rest.now c.in-empty.len_below) ∙ c.loop-rest.invariant p near far

pub returns-in-len1-up : goal.returns-in-len1-up
returns-in-len1-up g c p near far = c.after_word.ensures p near ∙ sym (only_number g.row.WIDTH p c.loop-rest.stepped 64 c.loop-rest.rest.now c.in-len1-up.len_at_least c.in_default.len_below) ∙ c.loop-rest.invariant p near far
