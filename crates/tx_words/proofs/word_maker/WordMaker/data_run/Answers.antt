-- The data words that are made are written to the first places of the block.
use Rattle.std.proofs.Common.{◌≡◌, ◌∙◌, ◌++◌, List, drop, map, take, sym, ap, subst, arith}
use Rattle.lk_base.specs.declared.word.Word.{Word}
use Rattle.lk_base.specs.declared.word.Word.TheVariants.{Data}
use Rattle.tx_words.specs.Making.{GaveWords, last_made}
use Rattle.tx_words.proofs.word_maker.WordMaker.data_run.Goals as goal

pub next_data-count-requires : goal.next_data-count-requires
next_data-count-requires c = c.requires

pub write_data-requires : goal.write_data-requires
write_data-requires c = let many = c.last_data.ensures.count in let within = c.next_data-count.ensures.within in record { room = omega (arith, many, within) }

pub returns-clause-given : goal.returns-clause-given
returns-clause-given c source words k =
    let n = c.next_data-count.result in
    let put : take n c.write_data.new.out ≡ map Data (last_made c.next_data-count.new.self n) =
    ap (λ i. take i c.write_data.new.out) (sym c.last_data.ensures.count) ∙ c.write_data.ensures.words ∙ ap (map Data) c.last_data.ensures.numbers in
    subst (λ (ws : List Word). GaveWords c.next_data-count.new.self source (words ++ ws)) (sym put) (c.next_data-count.ensures.given source words k)

pub returns-clause-rest : goal.returns-clause-rest
returns-clause-rest c = subst (λ i. drop i c.write_data.new.out ≡ drop i c.args.block.now) c.last_data.ensures.count c.write_data.ensures.rest
