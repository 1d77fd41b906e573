-- The words of a file, read as another kind of word.
use Rattle.std.proofs.Common.{◌≡◌, ℕ, List, map, Option, Some, None, Ok, Err, sym, ap, ◌∙◌}
use Rattle.std.proofs.lemmas.Simd.{map-map}
use Rattle.words_files.specs.declared.error.WordsError.{WordsError}
use Rattle.words_files.specs.WordsOfFile.{given_by}

module _ (V W : Type 0) (read : List ℕ → V) (seen : V → W) where
  pub given_as : (r : Option WordsError) (cut : List (List ℕ)) (words : List V) → given_by r (map read cut) ≡ Ok words → given_by r (map (λ word. seen (read word)) cut) ≡ Ok (map seen words)
  given_as None cut words e =
      let same : map read cut ≡ words = cc in
      ap (λ (ws : List W). Ok ws) (sym (map-map seen read cut) ∙ ap (map seen) same)
  given_as (Some why) cut words e = absurd cc

  pub refused_as : (r : Option WordsError) (cut : List (List ℕ)) (why : WordsError) → given_by r (map read cut) ≡ Err why → given_by r (map (λ word. seen (read word)) cut) ≡ Err why
  refused_as None cut why e = absurd cc
  refused_as (Some other) cut why e = ap (λ (x : WordsError). Err x) cc
