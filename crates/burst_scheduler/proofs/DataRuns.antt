-- A run of data words: this many steps that each give one.
use Rattle.std.proofs.Common.{◌≡◌, ℕ, zero, suc, ◌+◌, ◌-◌, ◌<◌, ◌≤◌, Bool, true, false, List, [], ◌∷◌, ◌++◌, length, map, take, drop, get_or, Some, refl, sym, ap, subst, ◌∙◌, arith, append_assoc, append-nil, length-append, length-drop, inl, Vec, Global}
use Rattle.std.proofs.lemmas.List.{get_or-take, length-map, length-take, drop-take, length_push}
use Rattle.std.proofs.Math.Seq.{take-add}
use Rattle.lk_base.specs.declared.word.Word.{Word}
use Rattle.lk_base.specs.declared.word.Word.TheVariants.{Data}
use Rattle.stream_model.specs.BurstStream.{IsAt, StandsInBurst}
use Rattle.burst_scheduler.specs.Asked.{Asked, HasWholeBursts, MayStep, bound, stepped, stepped_by}
use Rattle.burst_scheduler.specs.Gives.{HasBegun, HasGivenData, Holds, KeepsAllButGiven, Runs, last_data, planned, to_come}
use Rattle.burst_scheduler.specs.declared.scheduler.Scheduler.{Scheduler}
use Rattle.burst_scheduler.proofs.DataSteps.{data_step}
use Rattle.burst_scheduler.proofs.Stepping.{below_step, nothing_behind}

-- ---- steps that follow one another are one that gives all their words

two_steps : (a : Asked) (more : Bool) (v : Word) (vs : List Word) → stepped (stepped a more (v ∷ [])) more vs ≡ stepped a more (v ∷ vs)
two_steps a true v vs = ap (λ (w : List Word). record { source = a.source; words = w; opened = length w; waits = true; closed = a.closed }) (append_assoc a.words (v ∷ []) vs)
two_steps a false v vs = ap (λ (w : List Word). record { source = a.source; words = w; opened = a.opened; waits = a.waits; closed = true }) (append_assoc a.words (v ∷ []) vs)

pub steps_are_one : (a : Asked) (more : Bool) (v : Word) (vs : List Word) → stepped_by a more (v ∷ vs) ≡ stepped a more (v ∷ vs)
steps_are_one a more v [] = refl
steps_are_one a more v (w ∷ ws) = steps_are_one (stepped a more (v ∷ [])) more w ws ∙ two_steps a more v (w ∷ ws)

pub words_by : (a : Asked) (more : Bool) (vs : List Word) → (stepped_by a more vs).words ≡ a.words ++ vs
words_by a more [] = sym (append-nil a.words)
words_by a more (v ∷ vs) = ap (λ (b : Asked). b.words) (steps_are_one a more v vs)

pub source_by : (a : Asked) (more : Bool) (vs : List Word) → (stepped_by a more vs).source ≡ a.source
source_by a more [] = refl
source_by a more (v ∷ vs) = ap (λ (b : Asked). b.source) (steps_are_one a more v vs)

-- ---- the first word of what is to come

first_left : (n : ℕ) (xs : List ℕ) (d : ℕ) (rest : List ℕ) → drop n xs ≡ d ∷ rest → (n < length xs) × (d ≡ get_or xs n 0) × (drop (n + 1) xs ≡ rest)
first_left zero [] d rest e = cc
first_left zero (x ∷ xs) d rest e = (omega arith, cc, cc)
first_left (suc n) [] d rest e = cc
first_left (suc n) (x ∷ xs) d rest e =
    let r = first_left n xs d rest e in
    let next : suc n + 1 ≡ suc (n + 1) = omega arith in
    (omega (arith, r.0), r.1, rw next r.2)

none_there : (n : ℕ) (v : Word) → IsAt [] n v → ⊥
none_there zero v e = cc
none_there (suc n) v e = cc

-- before the first word no data word is to come
has_started : (s : Scheduler) (a : Asked) (d : ℕ) (rest : List ℕ) → Holds s a → to_come s ≡ d ∷ rest → s.started ≡ true
has_started s a d rest g come = by s.started refl
  where
    by : (b : Bool) → s.started ≡ b → b ≡ true
    by true e = refl
    by false e =
        let same : planned s a ≡ Data d ∷ map Data rest = ap (λ (w : List Word). w ++ map Data (to_come s)) (g.unstarted e).0 ∙ ap (map Data) come in
        let at : IsAt (planned s a) 0 (Data d) = rw same refl in
        let stands : StandsInBurst (take 0 (planned s a)) = g.right.data_in_bursts 0 d at in
        let below : stands.0 < length (take 0 (planned s a)) = stands.1 in
        let none : length (take 0 (planned s a)) ≡ 0 = ap (λ (w : List Word). length (take 0 w)) same in
        absurd (omega (arith, below, none))

-- where a data word is to come, no finish is found
no_finish : (s : Scheduler) (a : Asked) (d : ℕ) (rest : List ℕ) → Runs s a → to_come s ≡ d ∷ rest → (z : ℕ) → s.finish ≡ Some z → ⊥
no_finish s a d rest g come z is = let none : to_come s ≡ [] = nothing_behind s a z g is in let e : d ∷ rest ≡ [] = sym come ∙ none in cc

-- ---- a step and the next

abbrev after_one : Scheduler → Scheduler
after_one s = record s { slot = s.slot + 1; burst = record s.burst { given = s.burst.given + 1 } }

keeps_one : (s : Scheduler) → KeepsAllButGiven s (after_one s)
keeps_one s = record {
  settings = (refl, refl, refl, refl);
  channels = (refl, refl);
  incoming = refl;
  line = (refl, refl, refl);
  words = record { outgoing = refl; run = refl; count = refl; eop = refl };
  rest = (refl, refl, refl);
}

keeps_on : (s new : Scheduler) → KeepsAllButGiven s new → KeepsAllButGiven (after_one s) new
keeps_on s new k = record { settings = k.settings; channels = k.channels; incoming = k.incoming; line = k.line; words = record { outgoing = k.words.outgoing; run = k.words.run; count = k.words.count; eop = k.words.eop }; rest = k.rest }

may_again : (a : Asked) (more : Bool) (v : Word) → MayStep a more → MayStep (stepped a more (v ∷ [])) more
may_again a true v may = may
may_again a false v may = may

one_more : (s new : Scheduler) (a : Asked) (more : Bool) (d : ℕ) (rest : List ℕ) → Runs s a → MayStep a more → KeepsAllButGiven s new → to_come s ≡ d ∷ rest → new.burst.given ≡ s.burst.given + 1 → new.slot ≡ s.slot + 1 → Runs new (stepped a more (Data d ∷ []))
one_more s new a more d rest g may k come given slot =
    let first = first_left s.burst.given (take s.burst.count s.burst.run.items) d rest come in
    let long : length (take s.burst.count s.burst.run.items) ≡ s.burst.count = (let n = length-take s.burst.count s.burst.run.items in let c = g.words.burst.given.1 in let r = g.words.burst.long in omega (arith, n, c, r)) in
    data_step s new a more d g k (has_started s a d rest g.words come) (omega (arith, long, first.0)) may given slot (first.1 ∙ get_or-take s.burst.count s.burst.run.items s.burst.given 0 (omega (arith, long, first.0))) (λ z f t. no_finish s a d rest g come z f)

-- this many steps
pub runs_on : (ds rest : List ℕ) (s new : Scheduler) (a : Asked) (more : Bool) → Runs s a → MayStep a more → KeepsAllButGiven s new → 1 ≤ length ds → to_come s ≡ ds ++ rest → new.burst.given ≡ s.burst.given + length ds → new.slot ≡ s.slot + length ds
    → Runs new (stepped_by a more (map Data ds)) × (length a.words + length ds ≤ bound (stepped_by a more (map Data ds)))
runs_on [] rest s new a more g may k some come given slot = absurd (omega arith)
runs_on (d ∷ []) rest s new a more g may k some come given slot = (
  one_more s new a more d rest g may k come given slot,
  (let b = below_step s a more (Data d) g (λ z f t. no_finish s a d rest g come z f) in omega (arith, b)),
)
runs_on (d ∷ e ∷ ds) rest s new a more g may k some come given slot =
    let b : Asked = stepped a more (Data d ∷ []) in
    let one : Runs (after_one s) b = one_more s (after_one s) a more d ((e ∷ ds) ++ rest) g may (keeps_one s) come refl refl in
    let on = runs_on (e ∷ ds) rest (after_one s) new b more one (may_again a more (Data d) may) (keeps_on s new k) (omega arith)
    (first_left s.burst.given (take s.burst.count s.burst.run.items) d ((e ∷ ds) ++ rest) come).2 (omega (arith, given)) (omega (arith, slot)) in
    let l : length (a.words ++ Data d ∷ []) ≡ length a.words + 1 = length_push a.words (Data d) in
    (on.0, omega (arith, l, on.1))

-- ---- the numbers that are given are the first to come

-- the first n numbers that are to come
abbrev pub next_numbers : Scheduler → ℕ → List ℕ
next_numbers s n = take n (drop s.burst.given s.burst.run.items)

many_next : (s : Scheduler) (n : ℕ) → s.burst.given + n ≤ length s.burst.run.items → length (next_numbers s n) ≡ n
many_next s n h = let l = length-take n (drop s.burst.given s.burst.run.items) in let d = length-drop s.burst.given s.burst.run.items in omega (arith, l, d, h)

-- once they are given they are the last
pub next_is_last : (s new : Scheduler) (n : ℕ) → KeepsAllButGiven s new → new.burst.given ≡ s.burst.given + n → last_data new n ≡ next_numbers s n
next_is_last s new n k e =
    let first : new.burst.given - n ≡ s.burst.given = omega (arith, e) in
    ap (λ m. take n (drop m new.burst.run.items)) first ∙ ap (λ (v : Vec ℕ Global). take n (drop s.burst.given v.items)) k.words.run

-- the part of the run that has them
pub last_part : (s : Scheduler) (xs : List ℕ) (n : ℕ) → xs ≡ s.burst.run.items → n ≤ s.burst.given → take (s.burst.given - (s.burst.given - n)) (drop (s.burst.given - n) xs) ≡ last_data s n
last_part s xs n is h =
    let less : s.burst.given - (s.burst.given - n) ≡ n = omega arith in
    ap (λ k. take k (drop (s.burst.given - n) xs)) less ∙ ap (λ ys. take n (drop (s.burst.given - n) ys)) is

pub many_last : (s : Scheduler) (n : ℕ) → HasGivenData s n → length (last_data s n) ≡ n
many_last s n h =
    let l = length-take n (drop (s.burst.given - n) s.burst.run.items) in
    let d = length-drop (s.burst.given - n) s.burst.run.items in
    let few = h.0 in
    let room = h.1 in
    omega (arith, l, d, few, room)

pub run_step : (s new : Scheduler) (a : Asked) (more : Bool) (vs : List Word) (n : ℕ) → Runs s a → MayStep a more → KeepsAllButGiven s new → 1 ≤ n → s.burst.given + n ≤ s.burst.count → new.burst.given ≡ s.burst.given + n → new.slot ≡ s.slot + n
    → vs ≡ map Data (next_numbers s n) → Runs new (stepped_by a more vs) × (length a.words + n ≤ bound (stepped_by a more vs))
run_step s new a more vs n g may k some left given slot is =
    let long : length (next_numbers s n) ≡ n = (let c = g.words.burst.given.1 in let r = g.words.burst.long in many_next s n (omega (arith, c, r, left))) in
    let rest : ℕ = s.burst.count - s.burst.given - n in
    let all : s.burst.count ≡ s.burst.given + (n + rest) = omega arith in
    let come : to_come s ≡ next_numbers s n ++ take rest (drop n (drop s.burst.given s.burst.run.items)) =
    ap (λ m. drop s.burst.given (take m s.burst.run.items)) all ∙ drop-take s.burst.given (n + rest) s.burst.run.items ∙ take-add n rest (drop s.burst.given s.burst.run.items) in
    let on = runs_on (next_numbers s n) (take rest (drop n (drop s.burst.given s.burst.run.items))) s new a more g may k (omega (arith, long, some)) come (omega (arith, given, long)) (omega (arith, slot, long)) in (
      subst (λ (ws : List Word). Runs new (stepped_by a more ws)) (sym is) on.0,
      subst (λ (ws : List Word). length a.words + n ≤ bound (stepped_by a more ws)) (sym is) (subst (λ (m : ℕ). length a.words + m ≤ bound (stepped_by a more (map Data (next_numbers s n)))) long on.1),
    )

pub begun_run : (s : Scheduler) (a : Asked) (more : Bool) (vs : List Word) (n : ℕ) → 1 ≤ n → s.burst.given + n ≤ length s.burst.run.items → vs ≡ map Data (next_numbers s n) → HasBegun (stepped_by a more vs)
begun_run s a more vs n some h is =
    let words : length (stepped_by a more vs).words ≡ length (a.words ++ vs) = ap length (words_by a more vs) in
    let both : length (a.words ++ vs) ≡ length a.words + length vs = length-append a.words vs in
    let long : length vs ≡ n = ap length is ∙ length-map (next_numbers s n) Data ∙ many_next s n h in
    inl (omega (arith, words, both, long, some))

-- where these are all that were to come, the bursts are whole
pub whole_bursts : (s : Scheduler) (a : Asked) (vs : List Word) (n : ℕ) → Holds s a → s.burst.count ≡ s.burst.given + n → vs ≡ map Data (next_numbers s n) → HasWholeBursts a.source (a.words ++ vs)
whole_bursts s a vs n g all is =
    let come : to_come s ≡ next_numbers s n = ap (λ m. drop s.burst.given (take m s.burst.run.items)) all ∙ drop-take s.burst.given n s.burst.run.items in
    subst (HasWholeBursts a.source) (ap (λ ds. a.words ++ map Data ds) come ∙ ap (λ (ws : List Word). a.words ++ ws) (sym is)) g.right.chunks
