-- The data words of a run are listed at once, or one word.
use Rattle.std.proofs.Common.{◌≡◌, ◌++◌, ◌+◌, ◌≤◌, ◌∙◌, ℕ, zero, suc, List, [], ◌∷◌, length, map, sym, subst, ap, arith, append-nil, length-append}
use Rattle.std.proofs.lemmas.List.{length-map, length_push}
use Rattle.lk_base.specs.declared.word.Word.{Word}
use Rattle.lk_base.specs.declared.word.Word.TheVariants.{Data}
use Rattle.stream_model.specs.BurstStream.{Source}
use Rattle.tx_words.specs.Making.{GaveWords, last_made}
use Rattle.tx_words.specs.SentLists as packets
use Rattle.tx_words.specs.declared.word_maker.WordMaker.{WordMaker}
use Rattle.tx_words.proofs.Making.{few_made, few_started}
use Rattle.stream_commands.proofs.sent_stream.make_few.Goals as goal

pub next_data-count-requires : goal.next_data-count-requires
next_data-count-requires c = let (source, is) = c.requires in (source, c.args.words.now, is.gave)

-- ---- the data words of a run

run_gave : (m : WordMaker) (source : Source) (words : List Word) (n : ℕ) (numbers : List ℕ) → GaveWords m source (words ++ map Data (last_made m n)) → numbers ≡ last_made m n → GaveWords m source (words ++ map Data numbers)
run_gave m source words n numbers k is = subst (λ (xs : List ℕ). GaveWords m source (words ++ map Data xs)) (sym is) k

run_long : (words : List Word) (numbers : List ℕ) (n : ℕ) → length numbers ≡ n → length (words ++ map Data numbers) ≡ length words + n
run_long words numbers n long = length-append words (map Data numbers) ∙ ap (λ k. length words + k) (length-map numbers Data ∙ long)

pub pass_data-requires : goal.pass_data-requires
pass_data-requires c =
    let (source, is) = c.requires in
    let words = c.args.words.now in
    let numbers = c.last_data.result.now in
    let gave = run_gave c.next_data-count.new.self source words c.next_data-count.result numbers (c.next_data-count.ensures.given source words is.gave) c.last_data.ensures.numbers in
    let few = few_made c.next_data-count.new.self source (words ++ map Data numbers) gave in
    let long = run_long words numbers c.next_data-count.result c.last_data.ensures.count in
    (words, length source.packets, is.lists, omega (arith, few, long))

pub returns-then-count-gt0-clause-lists : goal.returns-then-count-gt0-clause-lists
returns-then-count-gt0-clause-lists c source is =
    let words = c.args.words.now in
    let numbers = c.last_data.result.now in
    let items : c.extend_data.new.self ≡ words ++ map Data numbers = (c.in_ok-extend_data.ensures {u = tt}).ok in
    let gave = run_gave c.next_data-count.new.self source words c.next_data-count.result numbers (c.next_data-count.ensures.given source words is.gave) c.last_data.ensures.numbers in
    record {
      gave = subst (GaveWords c.next_data-count.new.self source) (sym items) gave;
      bytes = is.bytes;
      few = is.few;
      lists = subst (λ (p : List Word). packets.Lists c.pass_data.new.self p (length source.packets)) (sym items) (c.pass_data.ensures words numbers (length source.packets) is.lists c.last_data.ensures.count);
    }

pub returns-then-count-gt0-clause-more : goal.returns-then-count-gt0-clause-more
returns-then-count-gt0-clause-more c source is going =
    let words = c.args.words.now in
    let numbers = c.last_data.result.now in
    let items : c.extend_data.new.self ≡ words ++ map Data numbers = (c.in_ok-extend_data.ensures {u = tt}).ok in
    let all = ap length items in
    let long = run_long words numbers c.next_data-count.result c.last_data.ensures.count in
    let some = c.if-count-gt0.true in
    omega (arith, all, long, some)

-- ---- the one next word

no_data : (m : WordMaker) (words : List Word) (n : ℕ) → n ≤ 0 → words ++ map Data (last_made m n) ≡ words
no_data m words zero h = append-nil words
no_data m words (suc n) h = absurd (omega arith)

-- where no data word is next, the maker is where it was
unmoved : (old new : WordMaker) (n : ℕ) → n ≤ 0 → ((source : Source) (words : List Word) → GaveWords old source words → GaveWords new source (words ++ map Data (last_made new n)))
    → (source : Source) (words : List Word) → GaveWords old source words → GaveWords new source words
unmoved old new n none given source words k = subst (GaveWords new source) (no_data new words n none) (given source words k)

pub next-requires : goal.next-requires
next-requires c = let (source, is) = c.requires in (source, _, c.next_data-count.ensures.given source c.args.words.now is.gave)

pub pass-requires : goal.pass-requires
pass-requires c =
    let (source, is) = c.requires in
    let words = c.args.words.now in
    let here = unmoved c.args.maker.now c.next_data-count.new.self c.next_data-count.result c.if-count-gt0.false c.next_data-count.ensures.given source words is.gave in
    let gave = c.next.ensures.some source words c.in-Some.word here c.in-Some.is in
    let few = few_made c.next_data-count.new.self source words here in
    (words, length source.packets, is.lists, few_started c.next.new.self source (words ++ c.in-Some.word ∷ []) is.bytes gave, is.few, omega (arith, few))

pub returns-in_ok-push-in-Some-clause-lists : goal.returns-in_ok-push-in-Some-clause-lists
returns-in_ok-push-in-Some-clause-lists c source is =
    let words = c.args.words.now in
    let here = unmoved c.args.maker.now c.next_data-count.new.self c.next_data-count.result c.if-count-gt0.false c.next_data-count.ensures.given source words is.gave in
    let items : c.push.new.self ≡ words ++ c.in-Some.word ∷ [] = (c.in_ok-push-in-Some.ensures {u = tt}).ok in
    record {
      gave = subst (GaveWords c.next.new.self source) (sym items) (c.next.ensures.some source words c.in-Some.word here c.in-Some.is);
      bytes = is.bytes;
      few = is.few;
      lists = subst (λ (p : List Word). packets.Lists c.pass.new.self p (length source.packets)) (sym items) (c.pass.ensures words (length source.packets) is.lists);
    }

pub returns-in_ok-push-in-Some-clause-more : goal.returns-in_ok-push-in-Some-clause-more
returns-in_ok-push-in-Some-clause-more c source is going =
    let words = c.args.words.now in
    let items : c.push.new.self ≡ words ++ c.in-Some.word ∷ [] = (c.in_ok-push-in-Some.ensures {u = tt}).ok in
    let all = ap length items in
    let one = length_push words c.in-Some.word in
    omega (arith, all, one)

pub returns-in-None-clause-lists : goal.returns-in-None-clause-lists
returns-in-None-clause-lists c source is =
    let words = c.args.words.now in
    let here = unmoved c.args.maker.now c.next_data-count.new.self c.next_data-count.result c.if-count-gt0.false c.next_data-count.ensures.given source words is.gave in
    record {
      gave = (c.next.ensures.none source words here c.in-None.is).0;
      bytes = is.bytes;
      few = is.few;
      lists = is.lists;
    }

pub returns-in-None-clause-more : goal.returns-in-None-clause-more
returns-in-None-clause-more c source is going =
    let words = c.args.words.now in
    let here = unmoved c.args.maker.now c.next_data-count.new.self c.next_data-count.result c.if-count-gt0.false c.next_data-count.ensures.given source words is.gave in
    absurd (going (c.next.ensures.none source words here c.in-None.is).1)
