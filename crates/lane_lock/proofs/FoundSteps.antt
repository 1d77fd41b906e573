-- What a step or payload words more change of the steps that are found.
use Rattle.std.proofs.Common.{ℕ, suc, ◌≡◌, refl, sym, ap, ◌∙◌, ◌+◌, ◌*◌, ◌<◌, List, [], ◌∷◌, ◌++◌, length, take, set, get_or, append-nil, append_assoc, arith}
use Rattle.std.proofs.lemmas.Grind.{take-set_at}
use Rattle.std.proofs.lemmas.List.{length-take-le, take_more}
use Rattle.lk_base.specs.declared.word.RxWord.{RxWord}
use Rattle.lane_model.specs.declared.role.Role.TheVariants as roles
use Rattle.lock_model.specs.declared.types.LaneStep.{LaneStep}
use Rattle.lock_model.specs.declared.types.LaneStep.TheVariants as steps
use Rattle.lock_model.specs.PayloadSteps.{payload_steps}

-- ---- a payload word more

abbrev pub payload_step : ℕ → ℕ → ℕ → RxWord → LaneStep
payload_step number at k w = steps.Word w (roles.Payload (number + k)) (at + 67 * k)

payload_again : (number at k : ℕ) (w : RxWord) → payload_step (number + 1) (at + 67) k w ≡ payload_step number at (suc k) w
payload_again number at k w =
    let e : number + 1 + k ≡ number + suc k = omega arith in
    let f : at + 67 + 67 * k ≡ at + 67 * suc k = omega arith in
    ap (λ (n : ℕ). steps.Word w (roles.Payload n) (at + 67 + 67 * k)) e ∙ ap (steps.Word w (roles.Payload (number + suc k))) f

payload_first : (number at : ℕ) (w : RxWord) → steps.Word w (roles.Payload number) at ≡ payload_step number at 0 w
payload_first number at w =
    let e : number ≡ number + 0 = omega arith in
    let f : at ≡ at + 67 * 0 = omega arith in
    ap (λ (n : ℕ). steps.Word w (roles.Payload n) at) e ∙ ap (steps.Word w (roles.Payload (number + 0))) f

pub payload_more : (number at : ℕ) (ws : List RxWord) (w : RxWord) → payload_steps number at (ws ++ w ∷ []) ≡ payload_steps number at ws ++ payload_step number at (length ws) w ∷ []
payload_more number at [] w = ap (λ (x : LaneStep). x ∷ []) (payload_first number at w)
payload_more number at (x ∷ ws) w =
    ap (λ (g : List LaneStep). steps.Word x (roles.Payload number) at ∷ g)
    (payload_more (number + 1) (at + 67) ws w ∙ ap (λ (y : LaneStep). payload_steps (number + 1) (at + 67) ws ++ y ∷ []) (payload_again number at (length ws) w))

pub payload_taken : (number at k : ℕ) (ws : List RxWord) (d : RxWord) → k < length ws → payload_steps number at (take (k + 1) ws) ≡ payload_steps number at (take k ws) ++ payload_step number at k (get_or ws k d) ∷ []
payload_taken number at k ws d lt =
    ap (payload_steps number at) (take_more ws k d lt) ∙ payload_more number at (take k ws) (get_or ws k d)
    ∙ ap (λ (n : ℕ). payload_steps number at (take k ws) ++ payload_step number at n (get_or ws k d) ∷ []) (length-take-le k ws (omega (arith, lt)))

pub payload_set : (number at k : ℕ) (ws : List RxWord) (w : RxWord) → k < length ws → payload_steps number at (take (k + 1) (set ws k w)) ≡ payload_steps number at (take k ws) ++ payload_step number at k w ∷ []
payload_set number at k ws w lt =
    ap (payload_steps number at) (take-set_at ws k (k + 1) w refl lt) ∙ payload_more number at (take k ws) w
    ∙ ap (λ (n : ℕ). payload_steps number at (take k ws) ++ payload_step number at n w ∷ []) (length-take-le k ws (omega (arith, lt)))

pub length-payloads : (number at : ℕ) (ws : List RxWord) → length (payload_steps number at ws) ≡ length ws
length-payloads number at [] = refl
length-payloads number at (w ∷ ws) = ap suc (length-payloads (number + 1) (at + 67) ws)

-- ---- the steps that are found

pub found_more : (found given : List LaneStep) (x : LaneStep) (more : List LaneStep) → more ≡ given ++ x ∷ [] → found ++ more ≡ (found ++ given) ++ x ∷ []
found_more found given x more e = ap (λ (g : List LaneStep). found ++ g) e ∙ sym (append_assoc found given (x ∷ []))

-- one word more is appended
pub words_more : (found old new : List LaneStep) (number at k : ℕ) (ws : List RxWord) (d : RxWord) → k < length ws → old ≡ found ++ payload_steps number at (take k ws) →
    new ≡ old ++ payload_step number at k (get_or ws k d) ∷ [] → new ≡ found ++ payload_steps number at (take (k + 1) ws)
words_more found old new number at k ws d lt before e =
    e ∙ ap (λ (g : List LaneStep). g ++ payload_step number at k (get_or ws k d) ∷ []) before
    ∙ sym (found_more found (payload_steps number at (take k ws)) (payload_step number at k (get_or ws k d)) (payload_steps number at (take (k + 1) ws)) (payload_taken number at k ws d lt))

-- payload words after payload words
pub payloads_on : (number at : ℕ) (ws more : List RxWord) → payload_steps number at (ws ++ more) ≡ payload_steps number at ws ++ payload_steps (number + length ws) (at + 67 * length ws) more
payloads_on number at [] more =
    let e : number ≡ number + 0 = omega arith in
    let f : at ≡ at + 67 * 0 = omega arith in
    ap (λ (n : ℕ). payload_steps n at more) e ∙ ap (λ (a : ℕ). payload_steps (number + 0) a more) f
payloads_on number at (w ∷ ws) more =
    let e : number + 1 + length ws ≡ number + suc (length ws) = omega arith in
    let f : at + 67 + 67 * length ws ≡ at + 67 * suc (length ws) = omega arith in
    ap (λ (g : List LaneStep). steps.Word w (roles.Payload number) at ∷ g)
    (payloads_on (number + 1) (at + 67) ws more
    ∙ ap (λ (n : ℕ). payload_steps (number + 1) (at + 67) ws ++ payload_steps n (at + 67 + 67 * length ws) more) e
    ∙ ap (λ (a : ℕ). payload_steps (number + 1) (at + 67) ws ++ payload_steps (number + suc (length ws)) a more) f)

pub found_on : (before after : List LaneStep) (number at : ℕ) (ws more : List RxWord) → after ≡ [] →
    before ++ (payload_steps number at (ws ++ more) ++ after) ≡ (before ++ (payload_steps number at ws ++ after)) ++ payload_steps (number + length ws) (at + 67 * length ws) more
found_on before after number at ws more none =
    let old = payload_steps number at ws in
    let new = payload_steps (number + length ws) (at + 67 * length ws) more in
    ap (λ (g : List LaneStep). before ++ (payload_steps number at (ws ++ more) ++ g)) none
    ∙ ap (λ (g : List LaneStep). before ++ g) (append-nil (payload_steps number at (ws ++ more)) ∙ payloads_on number at ws more)
    ∙ sym (append_assoc before old new)
    ∙ ap (λ (g : List LaneStep). (before ++ g) ++ new) (sym (append-nil old))
    ∙ ap (λ (g : List LaneStep). (before ++ (old ++ g)) ++ new) (sym none)
