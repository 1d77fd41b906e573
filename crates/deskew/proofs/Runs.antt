-- Words that are put at once are words put one by one.
use Rattle.std.proofs.Common.{ℕ, zero, suc, ◌≡◌, refl, sym, ap, ◌∙◌, ◌+◌, ◌-◌, ◌*◌, ◌<◌, ◌≤◌, eqb, true, false, not, cond, List, [], ◌∷◌, ◌++◌, length, take, drop, set, get_or, arith}
use Rattle.std.proofs.lemmas.Grind.{take-set_at}
use Rattle.std.proofs.lemmas.List.{append_assoc, length-append, take_more}
use Rattle.lk_base.specs.declared.word.RxWord.{RxWord}
use Rattle.lane_model.specs.declared.role.Role.{Role}
use Rattle.lock_model.specs.declared.types.LaneStep.{LaneStep}
use Rattle.lock_model.specs.declared.types.LaneStep.TheVariants as steps
use Rattle.lock_model.specs.Low.{all_low}
use Rattle.lock_model.specs.PayloadSteps.{payload_steps}
use Rattle.lane_model.specs.declared.role.Role.TheVariants.{Payload}
use Rattle.circular_buffer.specs.Buffer.{keep_last}
use Rattle.deskew.specs.States.{LaneState}
use Rattle.deskew.specs.Lanes.{has_lock, is_sync, lane_after}
use Rattle.deskew.specs.Runs.{all_worded}
use Rattle.deskew.specs.Steps.{lane_after_all}
use Rattle.deskew.proofs.LaneSteps.{not_zero}
use Rattle.deskew.proofs.Tracks.{keep_keep, length-keep}

pub after_append : (l : LaneState) (xs ys : List LaneStep) → lane_after_all l (xs ++ ys) ≡ lane_after_all (lane_after_all l xs) ys
after_append l [] ys = refl
after_append l (x ∷ xs) ys = after_append (lane_after l x) xs ys

-- a word more
pub more_worded : (l : LaneState) (words : List RxWord) (last sync : ℕ) (w : RxWord) (role : Role) (at : ℕ) → 1 ≤ length l.words → length l.words ≤ l.room →
    lane_after (all_worded words last sync l) (steps.Word w role at) ≡ all_worded (words ++ w ∷ []) at (cond (is_sync role) at sync) l
more_worded l words last sync w role at some fits =
    let n = length-append l.words words in
    let k = length-keep l.room (l.words ++ words) in
    let has : has_lock (all_worded words last sync l) ≡ true = not_zero (length (keep_last l.room (l.words ++ words))) (omega (arith, n, k, some, fits)) in
    let e : keep_last l.room (keep_last l.room (l.words ++ words) ++ w ∷ []) ≡ keep_last l.room (l.words ++ (words ++ w ∷ [])) =
    keep_keep l.room (l.words ++ words) w ∙ ap (λ (ws : List RxWord). keep_last l.room ws) (append_assoc l.words words (w ∷ [])) in
    rw has (ap (λ (ws : List RxWord). record { room = l.room; words = ws; last = at; sync = cond (is_sync role) at sync; start = l.start; lost = l.lost; over = l.over }) e)

pub has_some : (l : LaneState) → has_lock l ≡ true → 1 ≤ length l.words
has_some l has = by_words l.words refl
  where
    by_words : (ws : List RxWord) → l.words ≡ ws → 1 ≤ length l.words
    by_words [] e = absurd (let h : false ≡ true = sym (ap (λ ws. not (eqb (length ws) 0)) e) ∙ has in cc)
    by_words (w ∷ ws) e = (let n = ap length e in omega (arith, n))

-- the next step is a word
pub front_more : (l : LaneState) (given : List LaneStep) (run : List RxWord) (i last sync : ℕ) (w : RxWord) (role : Role) (at next : ℕ) → i < length given → i < length run →
    has_lock l ≡ true → length l.words ≤ l.room → get_or given i steps.Nothing ≡ steps.Word w role at → next ≡ cond (is_sync role) at sync →
    lane_after_all l (take i given) ≡ all_worded (take i run) last sync l → lane_after_all l (take (i + 1) given) ≡ all_worded (take (i + 1) (set run i w)) at next l
front_more l given run i last sync w role at next lt inside has fits is s before =
    ap (λ (xs : List LaneStep). lane_after_all l xs) (take_more given i steps.Nothing lt) ∙ after_append l (take i given) (get_or given i steps.Nothing ∷ [])
    ∙ ap (λ (k : LaneState). lane_after k (get_or given i steps.Nothing)) before ∙ ap (λ (x : LaneStep). lane_after (all_worded (take i run) last sync l) x) is
    ∙ more_worded l (take i run) last sync w role at (has_some l has) fits
    ∙ ap (λ (ws : List RxWord). all_worded ws at (cond (is_sync role) at sync) l) (sym (take-set_at run i (i + 1) w refl inside))
    ∙ ap (λ (n : ℕ). all_worded (take (i + 1) (set run i w)) at n l) (sym s)

-- those after some steps are low
pub low_drop : (n : ℕ) (given : List LaneStep) → all_low given → all_low (drop n given)
low_drop zero given low = low
low_drop (suc n) [] low = low
low_drop (suc n) (x ∷ xs) low = low_drop n xs low.1

-- ---- payload words

payloads_more : (l : LaneState) (given : List RxWord) (last sync number at : ℕ) (w : RxWord) (ws : List RxWord) → 1 ≤ length l.words → length l.words ≤ l.room →
    lane_after_all (all_worded given last sync l) (payload_steps number at (w ∷ ws)) ≡ all_worded (given ++ w ∷ ws) (at + 67 * length ws) sync l
payloads_more l given last sync number at w [] some fits =
    let e : at ≡ at + 67 * 0 = omega arith in
    more_worded l given last sync w (Payload number) at some fits ∙ ap (λ (n : ℕ). all_worded (given ++ w ∷ []) n sync l) e
payloads_more l given last sync number at w (x ∷ ws) some fits =
    let e : at + 67 + 67 * length ws ≡ at + 67 * suc (length ws) = omega arith in
    ap (λ (k : LaneState). lane_after_all k (payload_steps (number + 1) (at + 67) (x ∷ ws))) (more_worded l given last sync w (Payload number) at some fits)
    ∙ payloads_more l (given ++ w ∷ []) at sync (number + 1) (at + 67) x ws some fits
    ∙ ap (λ (g : List RxWord). all_worded g (at + 67 + 67 * length ws) sync l) (append_assoc given (w ∷ []) (x ∷ ws))
    ∙ ap (λ (n : ℕ). all_worded (given ++ w ∷ x ∷ ws) n sync l) e

payloads_first : (l : LaneState) (number at : ℕ) (w : RxWord) (ws : List RxWord) → has_lock l ≡ true → length l.words ≤ l.room →
    lane_after_all l (payload_steps number at (w ∷ ws)) ≡ all_worded (w ∷ ws) (at + 67 * length ws) l.sync l
payloads_first l number at w [] has fits =
    let e : at ≡ at + 67 * 0 = omega arith in
    rw has (ap (λ (n : ℕ). all_worded (w ∷ []) n l.sync l) e)
payloads_first l number at w (x ∷ ws) has fits =
    let e : at + 67 + 67 * length ws ≡ at + 67 * suc (length ws) = omega arith in
    let first : lane_after l (steps.Word w (Payload number) at) ≡ all_worded (w ∷ []) at l.sync l = rw has refl in
    ap (λ (k : LaneState). lane_after_all k (payload_steps (number + 1) (at + 67) (x ∷ ws))) first
    ∙ payloads_more l (w ∷ []) at l.sync (number + 1) (at + 67) x ws (has_some l has) fits ∙ ap (λ (n : ℕ). all_worded (w ∷ x ∷ ws) n l.sync l) e

-- payload words that are put at once
pub payloads_put : (l : LaneState) (number at : ℕ) (ws : List RxWord) → 1 ≤ length ws → has_lock l ≡ true → length l.words ≤ l.room →
    all_worded ws (at + 67 * (length ws - 1)) l.sync l ≡ lane_after_all l (payload_steps number at ws)
payloads_put l number at [] some has fits = absurd (omega (arith, some))
payloads_put l number at (w ∷ ws) some has fits =
    let e : at + 67 * (suc (length ws) - 1) ≡ at + 67 * length ws = omega arith in
    ap (λ (n : ℕ). all_worded (w ∷ ws) n l.sync l) e ∙ sym (payloads_first l number at w ws has fits)

-- without a lock they change nothing
pub payloads_lost : (l : LaneState) (number at : ℕ) (ws : List RxWord) → has_lock l ≡ false → l ≡ lane_after_all l (payload_steps number at ws)
payloads_lost l number at [] none = refl
payloads_lost l number at (w ∷ ws) none =
    let e : lane_after l (steps.Word w (Payload number) at) ≡ l = rw none refl in
    payloads_lost l (number + 1) (at + 67) ws none ∙ ap (λ (k : LaneState). lane_after_all k (payload_steps (number + 1) (at + 67) ws)) (sym e)

pub payloads_none : (l : LaneState) (number at : ℕ) (ws : List RxWord) → length ws ≡ 0 → l ≡ lane_after_all l (payload_steps number at ws)
payloads_none l number at [] e = refl
payloads_none l number at (w ∷ ws) e = absurd (omega (arith, e))
