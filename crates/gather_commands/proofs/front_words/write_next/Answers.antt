use Rattle.std.proofs.Common.{◌≡◌, ◌<◌, ◌≤◌, ◌+◌, ◌*◌, ◌++◌, ◌∙◌, List, length, take, drop, ap, ℕ, arith, length-drop}
use Rattle.lk_base.specs.declared.word.RxWord.TheVariants.{Bad}
use Rattle.rx_front.proofs.Waiting.{as_many, data_within}
use Rattle.rx_front.specs.Waiting.{words_in}
use Rattle.words_files.specs.FileWord.{nine_bytes}
use Rattle.words_files.specs.declared.file_word.FileWord.{FileWord}
use Rattle.gather_commands.proofs.FrontWords.{one_written, run_written}
use Rattle.gather_commands.proofs.front_words.write_next.Goals as goal

pub returns-then-is_empty-clause-put : goal.returns-then-is_empty-clause-put
returns-then-is_empty-clause-put c =
    let at = c.args.at in
    let ws = words_in c.args.front.now.waiting in
    let many = as_many c.at.result.group c.at.result.index c.args.front.now.waiting c.at.ensures.waiting in
    let there = c.requires.there in
    let here : at < length ws = omega (arith, many, there) in
    let e : 9 * (at + 1) ≡ 9 * at + 9 = omega arith in
    ap (λ (n : ℕ). take n c.write_word.new.bytes) e ∙ c.write_word.ensures.put
    ∙ ap (λ (bs : List ℕ). take (9 * at) c.args.bytes.now ++ bs) (ap nine_bytes c.from.ensures ∙ one_written ws at c.word.result here c.word.ensures)

pub write_run-requires : goal.write_run-requires
write_run-requires c =
    let at = c.args.at in
    let ws = words_in c.args.front.now.waiting in
    let many = as_many c.at.result.group c.at.result.index c.args.front.now.waiting c.at.ensures.waiting in
    let long = ap (length {A = ℕ}) c.data_run-run.ensures in
    let within = data_within (drop at ws) in
    let rest = length-drop at ws in
    let room = c.requires.room in
    let there = c.requires.there in
    omega (arith, many, long, within, rest, room, there)

pub returns-clause-within : goal.returns-clause-within
returns-clause-within c =
    let at = c.args.at in
    let ws = words_in c.args.front.now.waiting in
    let many = as_many c.at.result.group c.at.result.index c.args.front.now.waiting c.at.ensures.waiting in
    let long = ap (length {A = ℕ}) c.data_run-run.ensures in
    let within = data_within (drop at ws) in
    let rest = length-drop at ws in
    let there = c.requires.there in
    omega (arith, many, long, within, rest, there)

pub returns-clause-put : goal.returns-clause-put
returns-clause-put c =
    let at = c.args.at in
    let ws = words_in c.args.front.now.waiting in
    let run = c.data_run-run.result.now in
    let e : 9 * (at + length run) ≡ 9 * at + 9 * length run = omega arith in
    ap (λ (n : ℕ). take n c.write_run.new.bytes) e ∙ c.write_run.ensures.put
    ∙ ap (λ (bs : List ℕ). take (9 * at) c.args.bytes.now ++ bs) (run_written ws at run c.data_run-run.ensures)
