-- One step of a scheduler after the rows of its slot.
use Rattle.std.proofs.Common.{◌≡◌, ℕ, ◌+◌, ◌-◌, ◌*◌, ◌/◌, ◌^◌, ◌<◌, ◌≤◌, max, Bool, true, false, List, [], ◌∷◌, ◌++◌, length, map, drop, get_or, nat_lt, sum_by, All, refl, sym, subst, ◌∙◌, inl, inr, arith, append-nil, length-append}
use Rattle.std.specs.List.{AllWithin}
use Rattle.std.specs.List.Sorted.{IsNonDecreasing}
use Rattle.std.proofs.Math.Nat.{mul-le-mul}
use Rattle.std.proofs.lemmas.Bool.{cases_lt, ltb-true, ltb-false, false_from_ne_true}
use Rattle.std.proofs.lemmas.List.{get_or-drop, length-drop}
use Rattle.lk_base.specs.declared.word.Word.{Word}
use Rattle.stream_model.specs.BurstStream.{Source, warmup_slots}
use Rattle.stream_model.specs.declared.rows.FlowRow.{FlowRow}
use Rattle.stream_model.specs.declared.rows.LocalRow.{LocalRow}
use Rattle.burst_scheduler.specs.Asked.{Asked, stepped, stepped_by, MayStep, GivesAll, bound}
use Rattle.burst_scheduler.specs.Gives.{Gives}
use Rattle.burst_scheduler.specs.declared.scheduler.Scheduler.{Scheduler}
use Rattle.burst_scheduler.proofs.DataRuns.{steps_are_one}
use Rattle.tx_words.specs.Driving.{Drives, IsTimed, PassesFlow, FlowLater, LocalLater, driven, limit}
use Rattle.tx_words.proofs.Passing.{later_before, still_open}

-- ---- numbers

product : (a b c d : ℕ) → a ≤ c → b ≤ d → a * b ≤ c * d
product a b c d h k = mul-le-mul h k

sum_low : (w g c : ℕ) → w ≤ 67108864 → g ≤ 1048576 → c ≤ 514 * 2 ^ 40 → max w 16777216 + c + 2 * g ≤ 515 * 2 ^ 40
sum_low w g c h k l = omega arith

pub limit_lower : (source : Source) → IsTimed source → limit source ≤ 515 * 2 ^ 40
limit_lower source timed =
    let s = source.shape in
    let w : s.warmup * s.group ≤ 64 * 1048576 = product s.warmup s.group 64 1048576 s.warmup_high s.group_high in
    let short : s.burst_short / 8 + 2 ≤ 514 = (let a = s.burst_short_high in let b = s.burst_max_high in omega arith) in
    let bytes : sum_by (λ (p : ℕ × List ℕ). length p.1) source.packets ≤ 2 ^ 40 = (let a = timed.bytes in omega arith) in
    let c : (s.burst_short / 8 + 2) * sum_by (λ (p : ℕ × List ℕ). length p.1) source.packets ≤ 514 * 2 ^ 40 = product (s.burst_short / 8 + 2) (sum_by (λ (p : ℕ × List ℕ). length p.1) source.packets) 514 (2 ^ 40) short bytes in
    sum_low (s.warmup * s.group) s.group ((s.burst_short / 8 + 2) * sum_by (λ (p : ℕ × List ℕ). length p.1) source.packets) w s.group_high c

pub limit_low : (source : Source) → IsTimed source → limit source < 2 ^ 60
limit_low source timed = (let a = limit_lower source timed in omega (arith, a))

-- a number within a bound is within that of a later slot
raised : (w o m n c g : ℕ) → o ≤ m → n ≤ max w o + c + g → n ≤ max w m + c + g
raised w o m n c g h k = omega arith

-- ---- what a step may say

may_step : (a : Asked) (b : Bool) → (b ≡ true → a.closed ≡ false) → (b ≡ false → a.waits ≡ false) → MayStep a b
may_step a true unclosed calm = unclosed refl
may_step a false unclosed calm = calm refl

module _ (s0 s2 : Scheduler) (source : Source) (words : List Word) (f l f1 l1 : ℕ) (d : Drives s0 source words f l) (timed : IsTimed source) where
  -- the scheduler has the rows up to these
  abbrev asked : Bool → Asked
  asked waits = driven source words f1 l1 d.opened waits d.closed

  abbrev before : Asked
  before = driven source words f l1 d.opened d.waits d.closed

  abbrev more : Bool
  more = nat_lt f1 (length source.flow)

  pub may : (p : PassesFlow s2 before source.flow f f1) → f ≤ f1 → f1 ≤ length source.flow → MayStep (asked p.waits) more
  may p le within = may_step (asked p.waits) more
      (λ e. let lt : f1 < length source.flow = ltb-true f1 (length source.flow) e in still_open d.closed (length source.flow) f d.calls (omega arith))
      (λ e.
      let ge : length source.flow ≤ f1 = ltb-false f1 (length source.flow) e in
      elim (cases_lt f f1) [
        | inl lt ↦ p.some lt
        | inr same_or_less ↦ (
            let same : f ≡ f1 = omega arith in
            p.none same ∙ false_from_ne_true d.waits (λ w. let lt = d.waiting w in omega arith))
      ])

  pub few_words : length words < 2 ^ 60
  few_words = let a = limit_low source timed in let b = d.words_low in omega arith

-- the rows are in order, and so on
pub timed_rows : (source : Source) → IsNonDecreasing (map (λ (row : FlowRow). row.slot) source.flow) → All (λ (row : FlowRow). row.slot ≤ 16777215) source.flow → IsNonDecreasing (map (λ (row : LocalRow). row.slot) source.local) → sum_by (λ (p : ℕ × List ℕ). length p.1) source.packets < 2 ^ 40 → IsTimed source
timed_rows source flow low local bytes = record { flow = flow; local = local; low = λ k d _ h. low k d h; bytes = bytes }

-- at the start no row was passed
pub begun : (s : Scheduler) (source : Source) → Gives s (driven source [] 0 0 0 false false) → Drives s source [] 0 0
begun s source g = record {
  opened = 0;
  waits = false;
  closed = false;
  gives = g;
  low = omega arith;
  waiting = λ e. let no : false ≡ true = e in cc;
  calls = λ e. let no : false ≡ true = e in cc;
  flow_within = omega arith;
  local_within = omega arith;
  flow_later = λ k d _ _. omega arith;
  local_later = λ k d _ _. omega arith;
  words_low = omega arith;
}

-- ---- after a step

-- steps gave words, one or more
pub given : (more : Bool) (s : Scheduler) (source : Source) (words vs : List Word) (f l opened : ℕ) (waits closed : Bool)
    → Gives s (stepped (driven source words f l opened waits closed) more vs)
    → MayStep (driven source words f l opened waits closed) more
    → (more ≡ true → f < length source.flow) → (more ≡ false → length source.flow ≤ f)
    → length words + length vs ≤ bound (stepped (driven source words f l opened waits closed) more vs)
    → IsTimed source → opened ≤ 16777216 → f ≤ length source.flow → l ≤ length source.local
    → FlowLater source.flow f (length words + length vs) → LocalLater source.local l (length words + length vs)
    → Drives s source (words ++ vs) f l
given true s source words vs f l opened waits closed g may some none below timed low fw lw flow local =
    let len : length (words ++ vs) ≡ length words + length vs = length-append words vs in
    let lt : f < length source.flow = some refl in
    let row : FlowRow = record { slot = 0; word = 0 } in
    let here : length words + length vs ≤ (get_or source.flow f row).slot = flow f row (omega arith) lt in
    let high : (get_or source.flow f row).slot ≤ 16777215 = timed.low f row (omega arith) lt in
    let new : length (words ++ vs) ≤ 16777216 = omega arith in
    let b : length words + length vs ≤ limit source = raised (warmup_slots source) (length (words ++ vs)) 16777216 (length words + length vs) ((source.shape.burst_short / 8 + 2) * sum_by (λ (p : ℕ × List ℕ). length p.1) source.packets) (2 * source.shape.group) new below in
    record {
      opened = length (words ++ vs);
      waits = true;
      closed = closed;
      gives = g;
      low = new;
      waiting = λ _. lt;
      calls = λ e. let no : true ≡ false = sym e ∙ may in cc;
      flow_within = fw;
      local_within = lw;
      flow_later = subst (FlowLater source.flow f) (sym len) flow;
      local_later = subst (LocalLater source.local l) (sym len) local;
      words_low = omega arith;
    }
given false s source words vs f l opened waits closed g may some none below timed low fw lw flow local =
    let len : length (words ++ vs) ≡ length words + length vs = length-append words vs in
    let b : length words + length vs ≤ limit source = raised (warmup_slots source) opened 16777216 (length words + length vs) ((source.shape.burst_short / 8 + 2) * sum_by (λ (p : ℕ × List ℕ). length p.1) source.packets) (2 * source.shape.group) low below in
    record {
      opened = opened;
      waits = waits;
      closed = true;
      gives = g;
      low = low;
      waiting = λ e. let no : true ≡ false = sym e ∙ may in cc;
      calls = λ _. none refl;
      flow_within = fw;
      local_within = lw;
      flow_later = subst (FlowLater source.flow f) (sym len) flow;
      local_later = subst (LocalLater source.local l) (sym len) local;
      words_low = omega arith;
    }

-- a step may be asked for with no row passed
pub may_now : (s : Scheduler) (source : Source) (words : List Word) (f l : ℕ) (d : Drives s source words f l) → IsTimed source → MayStep (driven source words f l d.opened d.waits d.closed) (nat_lt f (length source.flow))
may_now s source words f l d timed =
    may s s source words f l f l d timed (record { waits = d.waits; gives = d.gives; some = λ lt. absurd (omega arith); none = λ _. refl }) (omega arith) d.flow_within

-- this many steps gave these words, with no row between them
pub given_run : (more : Bool) (old s : Scheduler) (source : Source) (words vs : List Word) (f l : ℕ) (d : Drives old source words f l)
    → Gives s (stepped_by (driven source words f l d.opened d.waits d.closed) more vs)
    → MayStep (driven source words f l d.opened d.waits d.closed) more
    → (more ≡ true → f < length source.flow) → (more ≡ false → length source.flow ≤ f)
    → (1 ≤ length vs → length words + length vs ≤ bound (stepped_by (driven source words f l d.opened d.waits d.closed) more vs))
    → IsTimed source → FlowLater source.flow f (length words + length vs) → LocalLater source.local l (length words + length vs)
    → Drives s source (words ++ vs) f l
given_run more old s source words [] f l d g may some none below timed flow local = subst (λ (w : List Word). Drives s source w f l) (sym (append-nil words)) (record {
  opened = d.opened;
  waits = d.waits;
  closed = d.closed;
  gives = g;
  low = d.low;
  waiting = d.waiting;
  calls = d.calls;
  flow_within = d.flow_within;
  local_within = d.local_within;
  flow_later = d.flow_later;
  local_later = d.local_later;
  words_low = d.words_low;
})
given_run more old s source words (v ∷ vs) f l d g may some none below timed flow local =
    let a : Asked = driven source words f l d.opened d.waits d.closed in
    let one : stepped_by a more (v ∷ vs) ≡ stepped a more (v ∷ vs) = steps_are_one a more v vs in
    given more s source words (v ∷ vs) f l d.opened d.waits d.closed (subst (Gives s) one g) may some none (subst (λ (b : Asked). length words + length (v ∷ vs) ≤ bound b) one (below (omega arith))) timed d.low d.flow_within d.local_within flow local

-- The step gave none: the scheduler has the same words, and they are all.
pub stayed : (more : Bool) (s : Scheduler) (source : Source) (words : List Word) (f l opened : ℕ) (waits closed : Bool)
    → Gives s (stepped (driven source words f l opened waits closed) more [])
    → GivesAll (stepped (driven source words f l opened waits closed) more [])
    → MayStep (driven source words f l opened waits closed) more
    → (more ≡ true → f < length source.flow) → (more ≡ false → length source.flow ≤ f)
    → IsTimed source → opened ≤ 16777216 → f ≤ length source.flow → l ≤ length source.local
    → FlowLater source.flow f (length words + 1) → LocalLater source.local l (length words + 1) → length words ≤ limit source
    → (d : Drives s source words f l) × GivesAll (driven source words f l d.opened d.waits d.closed)
stayed true s source words f l opened waits closed g all may some none timed low fw lw flow local within =
    let lt : f < length source.flow = some refl in
    let row : FlowRow = record { slot = 0; word = 0 } in
    let here : length words + 1 ≤ (get_or source.flow f row).slot = flow f row (omega arith) lt in
    let high : (get_or source.flow f row).slot ≤ 16777215 = timed.low f row (omega arith) lt in
    let same = subst (λ (w : List Word). Gives s (driven source w f l (length w) true closed) × GivesAll (driven source w f l (length w) true closed)) (append-nil words) (g, all) in (
      record {
        opened = length words;
        waits = true;
        closed = closed;
        gives = same.0;
        low = omega arith;
        waiting = λ _. lt;
        calls = λ e. let no : true ≡ false = sym e ∙ may in cc;
        flow_within = fw;
        local_within = lw;
        flow_later = later_before (λ (row : FlowRow). row.slot) source.flow f (length words) (length words + 1) (omega arith) flow;
        local_later = later_before (λ (row : LocalRow). row.slot) source.local l (length words) (length words + 1) (omega arith) local;
        words_low = within;
      },
      same.1,
    )
stayed false s source words f l opened waits closed g all may some none timed low fw lw flow local within =
    let same = subst (λ (w : List Word). Gives s (driven source w f l opened waits true) × GivesAll (driven source w f l opened waits true)) (append-nil words) (g, all) in (
      record {
        opened = opened;
        waits = waits;
        closed = true;
        gives = same.0;
        low = low;
        waiting = λ e. let no : true ≡ false = sym e ∙ may in cc;
        calls = λ _. none refl;
        flow_within = fw;
        local_within = lw;
        flow_later = later_before (λ (row : FlowRow). row.slot) source.flow f (length words) (length words + 1) (omega arith) flow;
        local_later = later_before (λ (row : LocalRow). row.slot) source.local l (length words) (length words + 1) (omega arith) local;
        words_low = within;
      },
      same.1,
    )

-- what holds of the rows from a number on holds of the rest
pub rest_all : {X : Type 0} (P : X → Type 0) (xs : List X) (k : ℕ) → AllWithin P xs k (length xs) → All P (drop k xs)
rest_all P xs k h i d within =
    let len : length (drop k xs) ≡ length xs - k = length-drop k xs in
    subst P (sym (get_or-drop k xs i d)) (h (k + i) d (omega arith) (omega arith))
