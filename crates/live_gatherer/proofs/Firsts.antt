-- The first of the words that wait in a front.
use Rattle.std.proofs.Common.{◌≡◌, sym, ap, ◌∙◌, ◌≤◌, List, [], ◌∷◌, length, take, get_or, arith}
use Rattle.lk_base.specs.Positions.{words_from}
use Rattle.lk_base.specs.declared.position.Pos.{Pos}
use Rattle.lk_base.specs.declared.word.Aligned.{Aligned}
use Rattle.lk_base.specs.declared.word.Aligned.TheVariants.{Word}
use Rattle.lk_base.specs.declared.word.RxWord.{RxWord}

pub first_is : (waiting : List Aligned) (at : Pos) (ws : List RxWord) (word d : RxWord) → waiting ≡ words_from at.group at.index ws → word ≡ get_or ws 0 d → 1 ≤ length waiting → take 1 waiting ≡ Word at word ∷ []
first_is waiting at [] word d e f some = absurd (let l = ap length e in omega (arith, l, some))
first_is waiting at (w ∷ ws) word d e f some = ap (λ (xs : List Aligned). take 1 xs) e ∙ ap (λ (v : RxWord). Word at v ∷ []) (sym f)
