-- The first of the words that wait.
use Rattle.std.proofs.Common.{ℕ, ◌≡◌, ◌∙◌, sym, ap, subst, List, [], ◌∷◌, ◌++◌, false, length, map, take, arith}
use Rattle.lk_base.specs.declared.word.RxWord.{RxWord}
use Rattle.lk_base.specs.declared.word.RxWord.TheVariants.{Data}
use Rattle.lk_base.specs.Positions.{words_from}
use Rattle.reassembly.specs.Stands.{Stands}
use Rattle.rx_front.specs.Waiting.{words_in}
use Rattle.rx_front.proofs.Waiting.{as_many, data_first, data_within, one_first}
use Rattle.rx_end.proofs.first_words.put_first.Goals as goal

pub returns-then-is_empty-clause-stands : goal.returns-then-is_empty-clause-stands
returns-then-is_empty-clause-stands c = λ setting put given behind st.
    let at = c.args.at in
    let ws = words_in c.args.front.now.waiting in
    let many = as_many at.group at.index c.args.front.now.waiting c.requires.are in
    let some = c.requires.some in
    let one : take 1 ws ≡ c.word.result ∷ [] = one_first ws (omega (arith, many, some)) ∙ ap (λ (w : RxWord). w ∷ []) (sym c.word.ensures) in
    subst (λ (words : List RxWord). Stands c.put.new.self setting (put ++ words_from at.group at.index words) false given) (sym one) (c.put.ensures.stands setting put given behind st)

pub put_data-requires-clause-places : goal.put_data-requires-clause-places
put_data-requires-clause-places c =
    let ws = words_in c.args.front.now.waiting in
    let many = as_many c.args.at.group c.args.at.index c.args.front.now.waiting c.requires.are in
    let run = ap length c.data_run-run.ensures in
    let within = data_within ws in
    let fits = c.requires.fits in
    omega (arith, many, run, within, fits)

pub returns-clause-most : goal.returns-clause-most
returns-clause-most c =
    let ws = words_in c.args.front.now.waiting in
    let many = as_many c.args.at.group c.args.at.index c.args.front.now.waiting c.requires.are in
    let run = ap length c.data_run-run.ensures in
    let within = data_within ws in
    omega (arith, many, run, within)

pub returns-clause-stands : goal.returns-clause-stands
returns-clause-stands c = λ setting put given behind st.
    let at = c.args.at in
    let ws = words_in c.args.front.now.waiting in
    let first : take (length c.data_run-run.result.now) ws ≡ map Data c.data_run-run.result.now =
    ap (λ (n : ℕ). take n ws) (ap length c.data_run-run.ensures) ∙ data_first ws ∙ ap (λ (xs : List ℕ). map Data xs) (sym c.data_run-run.ensures) in
    subst (λ (words : List RxWord). Stands c.put_data.new.self setting (put ++ words_from at.group at.index words) false given) (sym first) (c.put_data.ensures.stands setting put given behind st)
