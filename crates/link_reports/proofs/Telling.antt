-- The counts of reasons are told one after another.
use Rattle.std.proofs.Common.{◌≡◌, ◌<◌, ◌+◌, ◌∙◌, ◌++◌, ◌∷◌, ℕ, List, [], sym, ap, length, get_or, take, slice_index, append-nil, append_assoc}
use Rattle.std.specs.Prelude.{flat_map}
use Rattle.std.proofs.lemmas.List.{take_more}
use Rattle.std.proofs.lemmas.List.Concat.{flat_map-append}
use Rattle.lk_base.specs.declared.fault.DropWhy.{DropWhy}
use Rattle.link_reports.specs.Drops.{drop_place}
use Rattle.link_reports.specs.Lines.{drop_text, drop_text_of}

pub one_more : (counts : List ℕ) (reasons : List DropWhy) (i : ℕ) (d : DropWhy) (place : ℕ) (first old new : List ℕ) → i < length reasons → place ≡ drop_place (get_or reasons i d) →
    old ≡ first ++ flat_map (drop_text_of counts) (take i reasons) → new ≡ old ++ drop_text (get_or reasons i d) (slice_index counts place) →
    new ≡ first ++ flat_map (drop_text_of counts) (take (i + 1) reasons)
one_more counts reasons i d place first old new lt is h more =
    let why : DropWhy = get_or reasons i d in
    let before : List ℕ = flat_map (drop_text_of counts) (take i reasons) in
    more ∙ ap (λ (p : ℕ). old ++ drop_text why (slice_index counts p)) is ∙ ap (λ (l : List ℕ). l ++ drop_text_of counts why) h
    ∙ append_assoc first before (drop_text_of counts why)
    ∙ ap (λ (l : List ℕ). first ++ (before ++ l)) (sym (append-nil (drop_text_of counts why)))
    ∙ ap (λ (l : List ℕ). first ++ l) (sym (flat_map-append (drop_text_of counts) (take i reasons) (why ∷ [])))
    ∙ ap (λ (l : List DropWhy). first ++ flat_map (drop_text_of counts) l) (sym (take_more reasons i d lt))
