-- Words without a fault have none without their first idles.
use Rattle.std.proofs.Common.{◌≡◌, ◌≤◌, true, List, [], ◌∷◌, ◌++◌, length, take, drop, refl, sym, subst, take-append-drop}
use Rattle.std.specs.List.{list_all}
use Rattle.std.proofs.lemmas.Bool.{and_from, and_parts}
use Rattle.lk_base.specs.declared.word.RxWord.{RxWord}
use Rattle.receive_model.specs.Lists.{first_of}
use Rattle.word_rules.specs.Rules.{accepted_before}
use Rattle.word_rules.specs.Faults.{Plan, faults, faults_at, faults_from}
use Rattle.gathered_laws.specs.LaterWords.{LawOnLaterWords, is_idle}
use Rattle.gathered_laws.proofs.Alike.{after_idles}
use Rattle.gathered_laws.proofs.Resets.{Within}
use Rattle.gathered_laws.proofs.Kept.{no_part, keeps_rows, keeps_within}

module _ (p : Plan) (some : 1 ≤ length p.entries) (none : p.flow ≡ []) where
  abbrev IsWithin : List RxWord → Type 0
  IsWithin e = Within (length p.entries) (accepted_before e)

  -- the words ys after the words e and, before these, the idles f
  without_idles : (e f ys : List RxWord) → list_all is_idle f ≡ true → IsWithin (e ++ f) → faults_from p (e ++ f) ys ≡ [] → faults_from p e ys ≡ []
  without_idles e f [] idles within h = refl
  without_idles e f (y ∷ ys) idles within h =
      let two = no_part (faults_at p (e ++ f) y (first_of ys)) (faults_from p (y ∷ (e ++ f)) ys) h in
      let now = keeps_rows e (e ++ f) (after_idles e f idles) p some none within y (first_of ys) two.0 in
      let later = without_idles (y ∷ e) f ys idles (keeps_within p some (e ++ f) y (first_of ys) two.0 within) two.1 in
      rw (now, later) refl

  -- the idles are taken into the words before
  past_idles : (xs f ys : List RxWord) → list_all is_idle f ≡ true → list_all is_idle xs ≡ true → IsWithin f → faults_from p f (xs ++ ys) ≡ [] → faults p ys ≡ []
  past_idles [] f ys idles more within h = without_idles [] f ys idles within h
  past_idles (x ∷ xs) f ys idles more within h =
      let two = no_part (faults_at p f x (first_of (xs ++ ys))) (faults_from p (x ∷ f) (xs ++ ys)) h in
      let each = and_parts (is_idle x) (list_all is_idle xs) more in
      past_idles xs (x ∷ f) ys (and_from (is_idle x) (list_all is_idle f) each.0 idles) each.1 (keeps_within p some f x (first_of (xs ++ ys)) two.0 within) two.1

pub the_law_on_later_words : LawOnLaterWords
the_law_on_later_words p words n some none idles h =
    past_idles p some none (take n words) [] (drop n words) refl idles (λ d e. cc)
    (subst (λ (ws : List RxWord). faults p ws ≡ []) (sym (take-append-drop n words)) h)
