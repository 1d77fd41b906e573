-- Words that are written a step apart.
use Rattle.std.proofs.Common.{ℕ, ◌≡◌, ap, ◌+◌, ◌*◌, ◌<◌, List, length, drop, set, get_or, arith}
use Rattle.std.proofs.Math.Nat.{suc-mul}
use Rattle.std.proofs.lemmas.List.{drop_more}
use Rattle.lk_base.specs.declared.word.RxWord.{RxWord}
use Rattle.word_list.specs.Received.{spread}

-- a word is written, and those that are left follow a step further
pub spread_more : (step at i : ℕ) (words block : List RxWord) (d : RxWord) → i < length words →
    spread step at (drop i words) block ≡ spread step (at + step) (drop (i + 1) words) (set block at (get_or words i d))
spread_more step at i words block d lt = ap (λ (ws : List RxWord). spread step at ws block) (drop_more words i d lt)

pub left_more : (step at i : ℕ) (words : List RxWord) (d : RxWord) → i < length words → at + step + length (drop (i + 1) words) * step ≡ at + length (drop i words) * step
left_more step at i words d lt =
    let s = suc-mul (length (drop (i + 1) words)) step in
    let n = ap (λ (ws : List RxWord). length ws * step) (drop_more words i d lt) in
    omega (arith, s, n)
