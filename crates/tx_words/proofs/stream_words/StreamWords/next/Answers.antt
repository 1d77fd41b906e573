-- The maker makes the word, which may be a burst.
use Rattle.std.proofs.Common.{◌≡◌, ◌++◌, [], ◌∷◌, Some, sym, subst, ap, arith, length-append}
use Rattle.lk_base.specs.declared.word.Word.{Word}
use Rattle.tx_words.specs.Streaming.{Streams}
use Rattle.tx_words.proofs.Making.{few_made}
use Rattle.tx_words.proofs.stream_words.StreamWords.next.Goals as goal

same_word : (v w : Word) → Some v ≡ Some w → v ≡ w
same_word v w e = cc

pub next-requires : goal.next-requires
next-requires c = let (source, words, k) = c.requires in (source, words, k.gave)

pub count_burst-requires-clause-long : goal.count_burst-requires-clause-long
count_burst-requires-clause-long c = let (source, words, k) = c.requires in k.long

pub count_burst-requires-clause-few : goal.count_burst-requires-clause-few
count_burst-requires-clause-few c =
    let (source, words, k) = c.requires in
    let few = few_made c.args.self.now.maker source words k.gave in
    (words, k.bursts, omega (arith, few))

pub returns-in-Some-clause-some : goal.returns-in-Some-clause-some
returns-in-Some-clause-some c source words word k is =
    let here = c.in-Some.word in
    subst (λ (w : Word). Streams (record { maker = c.next.new.self; tallies = c.count_burst.new.tallies }) source (words ++ w ∷ [])) (same_word here word is) (record {
      gave = c.next.ensures.some source words here k.gave c.in-Some.is;
      long = c.count_burst.ensures.long;
      bursts = c.count_burst.ensures.bursts words k.bursts;
    })

pub returns-in-None-clause-none : goal.returns-in-None-clause-none
returns-in-None-clause-none c source words k is =
    let end = c.next.ensures.none source words k.gave c.in-None.is in
    (record { gave = end.0; long = k.long; bursts = k.bursts }, end.1)
