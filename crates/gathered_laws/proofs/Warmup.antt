-- The stream of a source without flow rows has no fault from any place of its warm-up on.
use Rattle.std.proofs.Common.{ℕ, zero, suc, ◌≡◌, ◌*◌, ◌<◌, ◌≤◌, true, not, List, [], ◌∷◌, length, map, take, drop, refl, sym, ap, ◌∙◌, subst, arith}
use Rattle.std.specs.List.{list_all}
use Rattle.std.proofs.lemmas.Bool.{and_from, and_right}
use Rattle.std.proofs.lemmas.List.{drop-map}
use Rattle.std.proofs.lemmas.Nat.{mul-le}
use Rattle.lk_base.specs.Words.{as_sent}
use Rattle.lk_base.specs.Fields.{burst_field, has_burst, is_control_word}
use Rattle.lk_base.specs.declared.word.Word.{Word}
use Rattle.lk_base.specs.declared.word.Word.TheVariants.{Data, Control}
use Rattle.stream_model.specs.BurstStream.{Source, IsAt, IsBurstStream, warmup_slots}
use Rattle.word_rules.specs.Places.{is_burst_word}
use Rattle.word_rules.specs.Faults.{Plan, faults}
use Rattle.rule_laws.specs.Law.{IsPlanOf}
use Rattle.rule_laws.proofs.AllKept.{breaks_none}
use Rattle.gathered_laws.specs.LaterWords.{LawOnWarmup, LawOnFourthGroup, is_idle}
use Rattle.gathered_laws.proofs.Later.{the_law_on_later_words}

idle_is : (x : ℕ) → burst_field x ≡ 0 → not (is_burst_word x) ≡ true
idle_is x h = ap not (and_right (is_control_word x) (has_burst x) (rw h refl))

first_idles : (n : ℕ) (w : List Word) → ((t : ℕ) → t < n → (x : ℕ) × IsAt w t (Control x) × (burst_field x ≡ 0)) → list_all is_idle (take n (map as_sent w)) ≡ true
first_idles zero w h = refl
first_idles (suc n) [] h = refl
first_idles (suc n) (Data d ∷ w) h = let first = h 0 (omega arith) in cc (first.1)
first_idles (suc n) (Control y ∷ w) h =
    let first = h 0 (omega arith) in
    let same : y ≡ first.0 = cc (first.1) in
    let none : burst_field y ≡ 0 = ap burst_field same ∙ first.2 in
    and_from (not (is_burst_word y)) (list_all is_idle (take n (map as_sent w))) (idle_is y none)
    (first_idles n w (λ t low. h (suc t) (omega arith)))

-- of what a source keeps, that its calendar has an entry is all that is needed
pub none_from_warmup : (source : Source) (p : Plan) (w : List Word) (n : ℕ) → 1 ≤ length source.entries → IsPlanOf p source → IsBurstStream source w → source.flow ≡ [] → n ≤ warmup_slots source
    → faults p (map as_sent (drop n w)) ≡ []
none_from_warmup source p w n some of stream none low =
    let whole = breaks_none source p w some of stream in
    let idles = first_idles n w (λ t below. stream.warmup t (omega arith)) in
    let entries : 1 ≤ length p.entries = subst (λ (es : List ℕ). 1 ≤ length es) (sym of.entries) some in
    subst (λ ws. faults p ws ≡ []) (drop-map as_sent n w) (the_law_on_later_words p (map as_sent w) n entries (of.flow ∙ none) idles whole)

pub three_in_warmup : (source : Source) → 3 ≤ source.shape.warmup → 3 * source.shape.group ≤ warmup_slots source
three_in_warmup source h = mul-le 3 source.shape.group source.shape.warmup source.shape.group h (omega arith)

pub the_law_on_warmup : LawOnWarmup
the_law_on_warmup source p w n keeps of stream none low = none_from_warmup source p w n keeps.some_entry of stream none low

pub the_law_on_the_fourth_group : LawOnFourthGroup
the_law_on_the_fourth_group source p w keeps of stream none warm = none_from_warmup source p w (3 * source.shape.group) keeps.some_entry of stream none (three_in_warmup source warm)
