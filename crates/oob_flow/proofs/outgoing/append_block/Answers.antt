use Rattle.std.proofs.Common.{◌≡◌, ◌++◌, Bool, ℕ, List, false, length, map, drop, get_or, sym, ap, ◌∙◌, append_assoc}
use Rattle.std.proofs.lemmas.List.{drop_at}
use Rattle.lk_base.specs.Checksum.{bits_of}
use Rattle.oob_flow.specs.Frames.{block_bits, block_checksum}
use Rattle.oob_flow.proofs.outgoing.append_block.Goals as goal

pub returns-clause-bits : goal.returns-clause-bits
unfolding block_bits
returns-clause-bits c =
    let states : List Bool = map (λ (channel : ℕ). get_or c.args.on.now channel false) c.args.entries.now in
    let made : c.append_states.new.frame.items ≡ c.args.frame.now.items ++ map (λ (channel : ℕ). get_or c.args.on.now channel false) c.args.entries.now = c.append_states.ensures.bits in
    let start : length c.args.frame.now.items ≡ c.len-start.result = sym c.len-start.ensures.value in
    let behind : c.split_at.result.1.now ≡ map (λ (channel : ℕ). get_or c.args.on.now channel false) c.args.entries.now =
    c.split_at.ensures.back ∙ ap (drop c.len-start.result) (c.as_slice.ensures.value ∙ made) ∙ drop_at c.args.frame.now.items (map (λ (channel : ℕ). get_or c.args.on.now channel false) c.args.entries.now) c.len-start.result start in
    c.append_checksum.ensures.bits
    ∙ ap (λ (xs : List Bool). xs ++ bits_of 4 c.block_checksum-checksum.result) made
    ∙ append_assoc c.args.frame.now.items (map (λ (channel : ℕ). get_or c.args.on.now channel false) c.args.entries.now) (bits_of 4 c.block_checksum-checksum.result)
    ∙ ap (λ (n : ℕ). c.args.frame.now.items ++ (map (λ (channel : ℕ). get_or c.args.on.now channel false) c.args.entries.now ++ bits_of 4 n)) (c.block_checksum-checksum.ensures.value ∙ ap block_checksum behind)
