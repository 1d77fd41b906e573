-- A test that each passing stretch has the words of a sent one.
use Rattle.std.proofs.Common.{◌≡◌, ◌==◌, Bool, true, false, not, ◌&&◌, ◌||◌, ap, ap₂, inl, inr, List, [], ◌∷◌, Contains, refl, sym, ◌∙◌}
use Rattle.std.specs.List.{list_all, list_any}
use Rattle.std.proofs.lemmas.Bool.{and_parts, eqb-true, false≢true, not-true, or_cases}
use Rattle.lk_base.specs.Positions.{is_same}
use Rattle.lk_base.specs.declared.word.RxWord.{RxWord}
use Rattle.lk_base.specs.declared.word.RxWord.TheVariants.{Bad, Control, Data}
use Rattle.stream_model.proofs.SourceTest.{all_at, any_found}
use Rattle.receive_model.specs.Positions.{Placed}
use Rattle.receive_model.specs.Stretches.{Stretch, passes}
use Rattle.receive_model.proofs.Order.{same-places}
use Rattle.delivery_laws.specs.Law.{HasWordsOf}

abbrev same_word : RxWord → RxWord → Bool
same_word (Data x) (Data y) = x == y
same_word (Data x) (Control y) = false
same_word (Data x) Bad = false
same_word (Control x) (Data y) = false
same_word (Control x) (Control y) = x == y
same_word (Control x) Bad = false
same_word Bad (Data y) = false
same_word Bad (Control y) = false
same_word Bad Bad = true

words_same : (v w : RxWord) → same_word v w ≡ true → v ≡ w
words_same (Data x) (Data y) h = ap Data (eqb-true x y h)
words_same (Data x) (Control y) h = cc
words_same (Data x) Bad h = cc
words_same (Control x) (Data y) h = cc
words_same (Control x) (Control y) h = ap Control (eqb-true x y h)
words_same (Control x) Bad h = cc
words_same Bad (Data y) h = cc
words_same Bad (Control y) h = cc
words_same Bad Bad h = refl

abbrev same_placed : List Placed → List Placed → Bool
same_placed [] [] = true
same_placed [] (q ∷ qs) = false
same_placed (p ∷ ps) [] = false
same_placed (p ∷ ps) (q ∷ qs) = same_word p.word q.word && (is_same p.at q.at && same_placed ps qs)

placed_same : (ps qs : List Placed) → same_placed ps qs ≡ true → ps ≡ qs
placed_same [] [] h = refl
placed_same [] (q ∷ qs) h = cc
placed_same (p ∷ ps) [] h = cc
placed_same (p ∷ ps) (q ∷ qs) h =
    let word = and_parts _ _ h in
    let rest = and_parts _ _ word.1 in
    let first : p ≡ q = ap₂ (λ at word. record { at = at; word = word }) (same-places p.at q.at rest.0) (words_same p.word q.word word.0) in
    ap₂ (λ x xs. x ∷ xs) first (placed_same ps qs rest.1)

abbrev has_words : Stretch → Stretch → Bool
has_words s t = (s.closed_by == t.closed_by) && (is_same s.closed_at t.closed_at && same_placed s.inner t.inner)

-- each of these stretches has the words of one of the sent ones, or does not pass
abbrev pub passing_ok : List Stretch → List Stretch → Bool
passing_ok sent all = list_all (λ s. list_any (has_words s) sent || not (passes s)) all

pub passing_are_sent : (sent all : List Stretch) → passing_ok sent all ≡ true → (s : Stretch) → Contains all s → passes s ≡ true → (t : Stretch) × Contains sent t × HasWordsOf s t
passing_are_sent sent all h s is pass = elim (or_cases (list_any (has_words s) sent) (not (passes s)) (all_at (λ s. list_any (has_words s) sent || not (passes s)) all s h is)) [
  | inl some ↦ (
      let found = any_found (has_words s) sent some in
      let by = and_parts _ _ found.2 in
      let rest = and_parts _ _ by.1 in
      (found.0, found.1, record { inner = placed_same s.inner found.0.inner rest.1; closed_at = same-places s.closed_at found.0.closed_at rest.0; closed_by = eqb-true _ _ by.0 }))
  | inr fails ↦ absurd (false≢true (sym (not-true (passes s) fails) ∙ pass))
]
