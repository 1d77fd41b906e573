-- A word inside a declared lock.
use Rattle.std.proofs.Common.{ℕ, ◌≡◌, ◌+◌, ◌-◌, ◌*◌, ◌%◌, ◌^◌, ◌<◌, ◌≤◌, refl, sym, ap, subst, ◌∙◌, Bool, true, Option, Some, List, [], ◌∷◌, ◌++◌, arith}
use Rattle.std.proofs.lemmas.Bool.{lt-ltb, ne_eqb}
use Rattle.lk_base.specs.declared.word.RxWord.{RxWord}
use Rattle.lk_base.specs.Link.{Settings}
use Rattle.lk_base.specs.Checksum.{digit}
use Rattle.std.proofs.lemmas.List.{append-nil}
use Rattle.lane_model.specs.Coding.{word_of_code}
use Rattle.lock_model.specs.declared.types.LaneReport.{LaneReport}
use Rattle.lock_model.specs.declared.types.LaneStep.TheVariants as steps
use Rattle.lock_model.specs.Steps.{step_covered}
use Rattle.lane_lock.specs.declared.passing.Passing.TheVariants as passings
use Rattle.lane_lock.specs.declared.seen_word.SeenWord.{SeenWord}
use Rattle.lane_lock.specs.Behind.{Sees}
use Rattle.lane_lock.specs.Counts.{with_seen}
use Rattle.lane_lock.specs.Lane.{LaneView}
use Rattle.lane_lock.specs.Standing.{IsStep, Stands, open_lock, tally}
use Rattle.lane_lock.specs.Watch.{WatchState}
use Rattle.lane_lock.specs.Watching.{Answers, WatchesLock}
use Rattle.lane_lock.proofs.Lanes.{counts_more, holding_word, word_ends, words_more}
use Rattle.lane_lock.proofs.LastWord.{held, last_word_is, there_behind, word_behind}
use Rattle.lane_lock.proofs.Tallies.{tally_seen}

-- a word after the declaring one is no declaration
covered_step : (s : Settings) (bits : List Bool) (p d t at : ℕ) (seen : SeenWord) → d < t → at ≡ p + 67 * t → Sees seen s bits (p + 67 * d) (t - d) →
    steps.Word seen.word seen.role at ≡ step_covered s bits p (Some d) t
covered_step s bits p d t at seen less e k =
    let n = ne_eqb t d (λ e. omega arith) in
    let l = lt-ltb d t less in
    rw (n, l, ← k.received, ← k.of_role, ← e) refl

same_some : (o : Option ℕ) (a b : ℕ) → o ≡ Some a → o ≡ Some b → a ≡ b
same_some o a b h k = cc

earlier : (v : WatchState) (s : Settings) (bits : List Bool) (p t d : ℕ) (declared : Option ℕ) → WatchesLock v s bits p t declared → declared ≡ Some d → d < t
earlier v s bits p t d declared k e = (subst (λ (x : Option ℕ). WatchesLock v s bits p t x) e k).phase.behind

-- the last bit ends it, where it is answered as such a word and the report counts it
pub inside_word : (v w : LaneView) (s : Settings) (bits : List Bool) (b : Bool) → Stands v s bits → v.watching ≡ true → v.at + 67 ≤ v.taken + 1 →
    (word : RxWord) (seen : SeenWord) (at : ℕ) {window : ℕ} → window ≡ (v.window * 2 + digit b) % 2 ^ 67 → word ≡ word_of_code window → Answers (passings.Inside seen) v.watch w.watch word →
    w.watch.settings ≡ v.watch.settings → w.window ≡ (v.window * 2 + digit b) % 2 ^ 67 → w.taken ≡ v.taken + 1 → w.from ≡ v.from → w.watching ≡ true → w.at ≡ v.taken + 1 →
    w.report ≡ with_seen v.report seen → at ≡ v.at → Stands w s (bits ++ b ∷ []) × IsStep s (bits ++ b ∷ []) (steps.Word seen.word seen.role at)
inside_word v w s bits b k ew due word seen at of_window of_word answered e1 e2 e3 ef eg ea report e =
    let h = held v s bits k ew in
    let ends = word_ends v s bits b k h due in
    let is = last_word_is v s bits b k word (h.p + 67 * h.t) of_window of_word (sym ends) in
    let answers = λ (rest : List Bool). answered s ((bits ++ b ∷ []) ++ rest) h.p h.t h.declared (words_more v s bits b k h rest)
    (there_behind (bits ++ b ∷ []) rest (h.p + 67 * h.t) word ends is) (word_behind (bits ++ b ∷ []) rest (h.p + 67 * h.t) word ends is) in
    let at' : at ≡ h.p + 67 * h.t = e ∙ h.next in
    let d = (answers []).0 in
    let ed : h.declared ≡ Some d = (answers []).1 in
    let less : d < h.t = earlier v.watch s ((bits ++ b ∷ []) ++ []) h.p h.t d h.declared (words_more v s bits b k h []) ed in
    let same = λ (rest : List Bool). same_some h.declared (answers rest).0 d (answers rest).1 ed in
    let sees : Sees seen s (bits ++ b ∷ []) (h.p + 67 * d) (h.t - d) =
    subst (λ (xs : List Bool). Sees seen s xs (h.p + 67 * d) (h.t - d)) (append-nil (bits ++ b ∷ [])) (answers []).2 in
    holding_word v s bits b k h due w (Some d) (steps.Word seen.word seen.role at) (e1 ∙ k.of_link) e2 e3 ef eg ea
    (λ rest. subst (λ (x : ℕ). WatchesLock w.watch s ((bits ++ b ∷ []) ++ rest) h.p (h.t + 1) (Some x)) (same rest) (answers rest).3)
    (λ rest. report
    ∙ ap (λ (x : LaneReport). with_seen x seen) (counts_more v s bits b k h rest ∙ ap (λ (x : Option ℕ). tally s ((bits ++ b ∷ []) ++ rest) k.front (open_lock h.p h.t x)) ed)
    ∙ tally_seen s ((bits ++ b ∷ []) ++ rest) k.front h.p h.t d seen less (subst (λ (x : ℕ). Sees seen s ((bits ++ b ∷ []) ++ rest) (h.p + 67 * x) (h.t - x)) (same rest) (answers rest).2))
    (covered_step s (bits ++ b ∷ []) h.p d h.t at seen less at' sees)
