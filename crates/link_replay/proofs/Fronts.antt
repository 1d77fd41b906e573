-- Data words at the front of words that wait.
use Rattle.std.proofs.Common.{ℕ, zero, suc, ◌≡◌, refl, sym, ap, ◌∙◌, subst, ◌+◌, ◌≤◌, ◌<◌, true, List, [], ◌∷◌, length, map, take, drop, get_or, Option, arith}
use Rattle.std.proofs.lemmas.List.{get_or-drop, get_or-take}
use Rattle.lk_base.specs.declared.word.RxWord.{RxWord}
use Rattle.lk_base.specs.declared.word.RxWord.TheVariants.{Bad, Control, Data}
use Rattle.lk_base.specs.declared.word.Word.{Word}
use Rattle.lk_base.specs.Words.{word_at}
use Rattle.word_list.specs.Received.{data_front}
use Rattle.link_replay.specs.Runs.{is_same_data}
use Rattle.link_replay.specs.Standing.{RunsOn, Watch}
use Rattle.link_replay.specs.Stretches.{GoesOn, Running}

-- the first of the data words at the front are the first words
pub data_part : (n : ℕ) (ws : List RxWord) → take (length (take n (data_front ws))) ws ≡ map Data (take n (data_front ws))
data_part zero ws = refl
data_part (suc n) [] = refl
data_part (suc n) (Data x ∷ ws) = ap (λ (xs : List RxWord). Data x ∷ xs) (data_part n ws)
data_part (suc n) (Control x ∷ ws) = refl
data_part (suc n) (Bad ∷ ws) = refl

pub data_few : (ws : List RxWord) → length (data_front ws) ≤ length ws
data_few [] = omega arith
data_few (Data x ∷ ws) = (let r = data_few ws in omega (arith, r))
data_few (Control x ∷ ws) = omega arith
data_few (Bad ∷ ws) = omega arith

-- words that begin with these data words
module _ (xs : List ℕ) (ws : List RxWord) (begin : take (length xs) ws ≡ map Data xs) where
  same : (k : ℕ) → k < length xs → get_or (map Data xs) k Bad ≡ get_or ws k Bad
  same k lt = ap (λ (l : List RxWord). get_or l k Bad) (sym begin) ∙ get_or-take (length xs) ws k Bad lt

  goes_further : (words : List Word) (v : Running) (n count : ℕ) → count ≤ length xs → GoesOn words v n (map Data xs) count → GoesOn words v n ws count
  goes_further words v n count few g = record {
    on = g.on;
    within = g.within;
    same = λ k lt. subst (λ (w : RxWord). is_same_data w (word_at words (n + k)) ≡ true) (same k (omega (arith, lt, few))) (g.same k lt);
  }

  pub runs_further : (v u : Watch) (words : List Word) (slot : Option ℕ) (room count : ℕ) → count ≤ length xs → RunsOn v u words slot room (map Data xs) count → RunsOn v u words slot room ws count
  runs_further v u words slot room count few r = record { from = r.from; slot_is = r.slot_is; inside = r.inside; goes = goes_further words v.stretch r.from count few r.goes; is = r.is }

-- the first of the words from a place on
pub first_at : (n : ℕ) (ws : List RxWord) (w : RxWord) → w ≡ get_or ws n Bad → get_or (drop n ws) 0 Bad ≡ w
first_at n ws w is = get_or-drop n ws 0 Bad ∙ (let e : n + 0 ≡ n = omega arith in ap (λ (i : ℕ). get_or ws i Bad) e) ∙ sym is
