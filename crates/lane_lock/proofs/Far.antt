-- A lane that is far from a declared lock: none is declared soon.
use Rattle.std.proofs.Common.{ℕ, zero, suc, ◌≡◌, refl, sym, ap, ◌∙◌, subst, ◌+◌, ◌-◌, ◌*◌, ◌/◌, ◌%◌, ◌<◌, ◌≤◌, Bool, true, false, List, [], ◌∷◌, ◌++◌, length, take, append_assoc, Option, Some, None, MatchBool, MatchOption, arith, inl, inr}
use Rattle.std.specs.Prelude.{◌==◌, nat_lt, nat_le}
use Rattle.std.proofs.Math.Seq.{take-append-add}
use Rattle.std.proofs.lemmas.Bool.{and_parts, cases_lt, eqb-true, leb-true}
use Rattle.std.proofs.lemmas.List.{append-nil, get_or-append-add, length-append, length-take-le}
use Rattle.std.proofs.lemmas.List.FromFn.{get_or-map-range_with_len, length-map-range_with_len}
use Rattle.std.proofs.lemmas.Nat.{div-add-mod'}
use Rattle.std.proofs.lemmas.Option.{get_or_from_slice_get, slice_get_within}
use Rattle.lk_base.specs.Link.{Settings}
use Rattle.lk_base.proofs.LeastLemmas.{one_least}
use Rattle.lane_model.proofs.Numbers.{split}
use Rattle.lock_model.specs.declared.types.LaneStep.TheVariants as steps
use Rattle.lock_model.specs.Locks.{Attempt, AttemptsFrom, IsAttempt, IsDeclared, IsFirstLoss, LocksWords, Loss, further, has_legal, has_sync, loss_at, next_search}
use Rattle.lock_model.specs.Steps.{ends_word, step_covered, step_of, step_of_attempt, step_unless_lost}
use Rattle.lock_model.proofs.Determined.{same_attempt}
use Rattle.lock_model.proofs.Existing.{attempts_exist}
use Rattle.lock_model.proofs.Prefixes.{legal_same}
use Rattle.phase_finder.specs.Phases.{highest}
use Rattle.phase_finder.specs.Runs.{hit_at}
use Rattle.phase_finder.proofs.Passing.{missed_since}
use Rattle.lane_lock.specs.Lane.{LaneView}
use Rattle.lane_lock.specs.Search.{FarDeclaresNothing, HasFewSyncs}
use Rattle.lane_lock.specs.Standing.{Chain, Holds, Hunts, positions}
use Rattle.lane_lock.specs.Watch.{WatchState}
use Rattle.lane_lock.specs.Watching.{WatchesLock, syncs_of}
use Rattle.lane_lock.proofs.Chains.{step_of-last}
use Rattle.lane_lock.proofs.Hunting.{count_positions, position_at}
use Rattle.lane_lock.proofs.LastWord.{held, hunted}
use Rattle.lane_lock.proofs.WatchSteps.{declared_before, has_frames, none_of, undeclared_before}

-- ---- no word lock began long ago

-- 33 words of a word lock would be counted
pub begun_early : (v : LaneView) (s : Settings) (bits rest : List Bool) (front : List Attempt) (q : ℕ) → Hunts v s bits front → highest v.starts.counts ≤ 32 → v.from ≤ q → q + 67 * 33 ≤ length bits →
    LocksWords (bits ++ rest) q → ⊥
begun_early v s bits rest front q h few low early k = elim (cases_lt (length bits) (q + 4288)) [
  | inl short ↦
      -- how many of its words are there
      let r = (length bits - q) / 67 in
      let d = div-add-mod' (length bits - q) 67 in
      let long = count_positions has_legal bits v.from in
      let miss = missed_since v.starts 67 64 v.from 32 (positions has_legal bits v.from) h.starts few (omega arith) (q - v.from + 67 * r) (omega arith) (omega arith) in
      let t = r - miss.0 - 1 in
      never_missed (q - v.from + 67 * t) t (omega arith) (omega arith) (omega arith) (miss.2 (q - v.from + 67 * t) (omega (arith, miss.1)))
  | inr all ↦ h.none q low (λ t less. legal_there t (omega arith) less)
]
  where
    legal_there : (t : ℕ) → q + 67 * t + 67 ≤ length bits → t < 64 → has_legal bits (q + 67 * t) ≡ true
    legal_there t there less = sym (legal_same 32 bits rest (q + 67 * t) there) ∙ k t less

    never_missed : (n t : ℕ) → v.from + n ≡ q + 67 * t → q + 67 * t + 67 ≤ length bits → t < 64 → hit_at (positions has_legal bits v.from) n ≡ false → ⊥
    never_missed n t at there less missed =
        let e : true ≡ false = sym (position_at has_legal bits v.from n (q + 67 * t) at there ∙ legal_there t there less) ∙ missed in
        cc

-- ---- the attempts of the last search

-- those after the ones that are lost
attempts_behind : (L : ℕ) (bits : List Bool) (first next : ℕ) (front all : List Attempt) → Chain L bits first front next → AttemptsFrom L bits (Some first) all →
    (back : List Attempt) × (all ≡ front ++ back) × AttemptsFrom L bits (Some next) back
attempts_behind L bits first next [] all chain are = (all, refl, subst (λ (x : ℕ). AttemptsFrom L bits (Some x) all) chain are)
attempts_behind L bits first next (a ∷ front) [] chain are = absurd (are a.starts chain.0.0.0 chain.0.0.1)
attempts_behind L bits first next (a ∷ front) (b ∷ all) chain are =
    let at : a.starts ≡ b.starts = one_least (λ q. (first ≤ q) × LocksWords bits q) a.starts b.starts chain.0 are.0 in
    let same : b ≡ a = sym (same_attempt L bits a b at chain.1 are.1) in
    let later : AttemptsFrom L bits (Some chain.2) all = subst (λ (x : Option ℕ). AttemptsFrom L bits x all) (ap (λ (x : Attempt). next_search x.starts x.lost) same ∙ chain.3) are.2 in
    let rest = attempts_behind L bits chain.2 next front all chain.4 later in
    (rest.0, both b a all (front ++ rest.0) same rest.1, rest.2)
  where
    both : (x y : Attempt) (xs ys : List Attempt) → x ≡ y → xs ≡ ys → ◌≡◌ {A = List Attempt} (x ∷ xs) (y ∷ ys)
    both x y xs ys e f = cc

-- the last of them has the step
record Last (s : Settings) (bits : List Bool) (first : ℕ) (all : List Attempt) : Type 0 where
  attempt : Attempt
  low : first ≤ attempt.starts
  lock : LocksWords bits attempt.starts
  is : IsAttempt s.metaframe bits attempt
  step : step_of s bits all ≡ step_of_attempt s bits attempt

-- behind an attempt come others where it is lost, and they start behind its losing word
later_search : (L : ℕ) (bits : List Bool) (p : ℕ) (lost : Option Loss) (b : Attempt) (back : List Attempt) → AttemptsFrom L bits (next_search p lost) (b ∷ back) →
    (loss : Loss) × (lost ≡ Some loss) × (m : ℕ) × (p + 67 * loss.word + 67 ≤ m) × AttemptsFrom L bits (Some m) (b ∷ back)
later_search L bits p None b back are = absurd are
later_search L bits p (Some loss) b back are = (loss, refl, p + 67 * (loss.word + 1) + further loss.why, omega arith, are)

last_from : (s : Settings) (bits : List Bool) (first : ℕ) (front : List Attempt) (a : Attempt) (back : List Attempt) → AttemptsFrom s.metaframe bits (Some first) (a ∷ back) →
    Last s bits first (front ++ a ∷ back)
last_from s bits first front a [] are = record { attempt = a; low = are.0.0.0; lock = are.0.0.1; is = are.1; step = step_of-last s bits front a }
last_from s bits first front a (b ∷ back) are =
    let next = later_search s.metaframe bits a.starts a.lost b back are.2 in
    let l = last_from s bits next.2 (front ++ a ∷ []) b back next.4 in
    let low = l.low in
    record {
      attempt = l.attempt;
      low = omega (arith, low, next.3, are.0.0.0);
      lock = l.lock;
      is = l.is;
      step = ap (step_of s bits) (sym (append_assoc front (a ∷ []) (b ∷ back))) ∙ l.step;
    }

-- ---- the bit that declares a lock

-- the word that it ends is the declaring one
covered_declares : (s : Settings) (bits : List Bool) (p : ℕ) (declared : Option ℕ) (t at : ℕ) → step_covered s bits p declared t ≡ steps.Locked at → declared ≡ Some t
covered_declares s bits p None t at e = absurd (let f : steps.Nothing ≡ steps.Locked at = e in cc)
covered_declares s bits p (Some d) t at e = split {b = t == d}
    (λ same. ap Some (sym (eqb-true t d same)))
    (λ other. split {b = nat_lt d t}
    (λ lt. absurd (let f = rw (other, lt) at e in cc))
    (λ ge. absurd (let f = rw (other, ge) at e in cc)))

unless_lost_declares : (s : Settings) (bits : List Bool) (p : ℕ) (declared : Option ℕ) (lost : Option Loss) (t at : ℕ) → step_unless_lost s bits p declared lost t ≡ steps.Locked at → declared ≡ Some t
unless_lost_declares s bits p declared None t at e = covered_declares s bits p declared t at e
unless_lost_declares s bits p declared (Some loss) t at e = split {b = t == loss.word}
    (λ same. absurd (let f = rw same at e in cc))
    (λ other. split {b = nat_lt t loss.word}
    (λ lt. covered_declares s bits p declared t at (rw (other, lt) at e))
    (λ ge. absurd (let f = rw (other, ge) at e in cc)))

attempt_declares : (s : Settings) (bits : List Bool) (a : Attempt) (at : ℕ) → step_of_attempt s bits a ≡ steps.Locked at → (d : ℕ) × (a.declared ≡ Some d) × (length bits ≡ a.starts + 67 * d + 67)
attempt_declares s bits a at e = split {b = ends_word bits a.starts}
    (λ ends.
    let parts = and_parts (nat_le (a.starts + 67) (length bits)) ((length bits - (a.starts + 67)) % 67 == 0) ends in
    let there = leb-true (a.starts + 67) (length bits) parts.0 in
    let whole = eqb-true ((length bits - (a.starts + 67)) % 67) 0 parts.1 in
    let d = div-add-mod' (length bits - (a.starts + 67)) 67 in
    ((length bits - (a.starts + 67)) / 67, unless_lost_declares s bits a.starts a.declared a.lost ((length bits - (a.starts + 67)) / 67) at (rw ends at e), omega (arith, there, whole, d)))
    (λ inside. absurd (let f = rw inside at e in cc))

-- a lock that an attempt declares
declared_at : (L : ℕ) (bits : List Bool) (a : Attempt) (d : ℕ) → IsAttempt L bits a → a.declared ≡ Some d → IsDeclared L bits a.starts d
declared_at L bits a d is e = subst (λ (x : Option ℕ). MatchOption x ((n : ℕ) → IsDeclared L bits a.starts n → ⊥) (IsDeclared L bits a.starts)) e is.declared

-- which is the 97th word of the word lock or a later one
declared_late : (L : ℕ) (bits : List Bool) (a : Attempt) (d : ℕ) → 32 ≤ L → IsAttempt L bits a → a.declared ≡ Some d → 96 ≤ d
declared_late L bits a d long is e = let at = (declared_at L bits a d is e).at in omega (arith, long, at)

-- attempts that start in the last 97 words declare none
none_late : (s : Settings) (bits : List Bool) (first : ℕ) (front : List Attempt) (a : Attempt) (back : List Attempt) (at : ℕ) → 32 ≤ s.metaframe → length bits < first + 67 * 97 →
    AttemptsFrom s.metaframe bits (Some first) (a ∷ back) → step_of s bits (front ++ a ∷ back) ≡ steps.Locked at → ⊥
none_late s bits first front a back at long late are e =
    let l = last_from s bits first front a back are in
    let d = attempt_declares s bits l.attempt at (sym l.step ∙ e) in
    let low = l.low in
    let end = d.2 in
    omega (arith, late, low, end, declared_late s.metaframe bits l.attempt d.0 long l.is d.1)

-- ---- a word lock that had few Syncs

module _ (w : WatchState) (s : Settings) (bits : List Bool) (p t : ℕ) (k : WatchesLock w s bits p t None) where
  -- its first t words lose nothing, wherever a lock is declared later
  lossless : (declared : Option ℕ) → MatchOption declared ((d : ℕ) → IsDeclared s.metaframe bits p d → ⊥) (IsDeclared s.metaframe bits p) → (j : ℕ) → j < t → loss_at s.metaframe bits p declared j ≡ None
  lossless None none j less = undeclared_before s.metaframe bits p t k.legal k.phase.short j less
  lossless (Some d) declared j less = declared_before s bits p t d k.legal
      (λ i behind early. absurd (k.phase.none declared.from declared.least.0 (omega (arith, declared.at, behind, early)))) j less

  -- so it is lost later, if at all
  lost_later : (declared : Option ℕ) (loss : Loss) → MatchOption declared ((d : ℕ) → IsDeclared s.metaframe bits p d → ⊥) (IsDeclared s.metaframe bits p) →
      IsFirstLoss s.metaframe bits p declared loss → t ≤ loss.word
  lost_later declared loss is lost = elim (cases_lt loss.word t) [
    | inl less ↦ absurd (let e : None ≡ Some loss.why = sym (lossless declared is loss.word less) ∙ lost.why in cc)
    | inr behind ↦ behind
  ]

  module _ (few : highest w.frames.counts ≤ 1) where
    -- the last two of its words at a place of the metaframes are not both Sync
    never_twice : (j : ℕ) → j + s.metaframe < t → t ≤ j + 2 * s.metaframe → has_sync bits (p + 67 * j) ≡ true → has_sync bits (p + 67 * (j + s.metaframe)) ≡ true → ⊥
    never_twice j there last one two =
        let n = length-map-range_with_len (λ i. has_sync bits (p + 67 * i)) 0 t in
        let miss = missed_since w.frames s.metaframe 4 0 1 (syncs_of bits p t) k.phase.given few (omega arith) (j + 2 * s.metaframe) (omega arith) (omega arith) in
        missed miss.0 miss.1 miss.2
      where
        hit : (i : ℕ) → i < t → has_sync bits (p + 67 * i) ≡ true → hit_at (syncs_of bits p t) i ≡ false → ⊥
        hit i less is not =
            let e : true ≡ false = sym (get_or-map-range_with_len (λ i. has_sync bits (p + 67 * i)) 0 t i i false less (omega arith) ∙ is) ∙ not in
            cc

        missed : (c : ℕ) → c ≤ 1 → ((m : ℕ) → m + (c + 1) * s.metaframe ≡ j + 2 * s.metaframe → hit_at (syncs_of bits p t) m ≡ false) → ⊥
        missed zero most miss = hit (j + s.metaframe) there two (miss (j + s.metaframe) (omega arith))
        missed (suc zero) most miss = hit j (omega arith) one (miss j (omega arith))
        missed (suc (suc c)) most miss = absurd (omega (arith, most))

    -- so none of its next 64 words declares a lock
    undeclared_soon : (d : ℕ) → d < t + 64 → IsDeclared s.metaframe bits p d → ⊥
    undeclared_soon d soon is =
        let at = is.at in
        let long = k.link.metaframe.0 in
        let sync = has_frames s.metaframe bits p is.from is.least.0 in
        let e0 : is.from + 0 * s.metaframe ≡ is.from = omega arith in
        let e1 : is.from + 1 * s.metaframe ≡ is.from + s.metaframe = omega arith in
        let e2 : is.from + 2 * s.metaframe ≡ is.from + s.metaframe + s.metaframe = omega arith in
        elim (cases_lt d t) [
          | inl early ↦ k.phase.none is.from is.least.0 (omega arith)
          | inr behind ↦ elim (cases_lt (is.from + 2 * s.metaframe) t) [
            | inl there ↦ never_twice (is.from + s.metaframe) (omega arith) (omega arith) (is_sync e1 (sync 1 (omega arith))) (is_sync e2 (sync 2 (omega arith)))
            | inr next ↦ never_twice is.from (omega arith) (omega arith) (is_sync e0 (sync 0 (omega arith))) (is_sync e1 (sync 1 (omega arith)))
          ]
        ]
      where
        is_sync : {i j : ℕ} → i ≡ j → has_sync bits (p + 67 * i) ≡ true → has_sync bits (p + 67 * j) ≡ true
        is_sync e = subst (λ (x : ℕ). has_sync bits (p + 67 * x) ≡ true) e

-- ---- the law

-- of a word lock that goes on
none_of_lock : (v : LaneView) (s : Settings) (bits more : List Bool) (front back : List Attempt) (at : ℕ) → Holds v s bits front → HasFewSyncs v.watch → 32 ≤ s.metaframe →
    length more ≤ 67 * 64 → AttemptsFrom s.metaframe (bits ++ more) (Some v.from) back → step_of s (bits ++ more) (front ++ back) ≡ steps.Locked at → ⊥
none_of_lock v s bits more front [] at h far long short are e = let lock = h.lock more in are h.p lock.0.0 lock.0.1
none_of_lock v s bits more front (a ∷ back) at h far long short are e =
    let same : h.p ≡ a.starts = one_least (λ q. (v.from ≤ q) × LocksWords (bits ++ more) q) h.p a.starts (h.lock more) are.0 in
    let none : h.declared ≡ None = none_of h.declared (sym (h.words []).is_declared ∙ far.undeclared) in
    let words : WatchesLock v.watch s (bits ++ more) a.starts h.t None = subst (λ (x : ℕ). WatchesLock v.watch s (bits ++ more) x h.t None) same (subst (WatchesLock v.watch s (bits ++ more) h.p h.t) none (h.words more)) in
    let all = length-append bits more in
    let next = h.next in
    let ends = h.short in
    before_next back are e words (omega (arith, short, all, next, ends, same))
  where
    before_next : (back : List Attempt) → AttemptsFrom s.metaframe (bits ++ more) (Some v.from) (a ∷ back) → step_of s (bits ++ more) (front ++ a ∷ back) ≡ steps.Locked at →
        WatchesLock v.watch s (bits ++ more) a.starts h.t None → length (bits ++ more) < a.starts + 67 * (h.t + 65) → ⊥
    before_next [] are e words close =
        let d = attempt_declares s (bits ++ more) a at (sym (step_of-last s (bits ++ more) front a) ∙ e) in
        undeclared_soon v.watch s (bits ++ more) a.starts h.t words far.few d.0 (omega (arith, close, d.2)) (declared_at s.metaframe (bits ++ more) a d.0 are.1 d.1)
    before_next (b ∷ back) are e words close =
        let next = later_search s.metaframe (bits ++ more) a.starts a.lost b back are.2 in
        let lost : IsFirstLoss s.metaframe (bits ++ more) a.starts a.declared next.0 =
        subst (λ (x : Option Loss). MatchOption x ((j : ℕ) → loss_at s.metaframe (bits ++ more) a.starts a.declared j ≡ None) (IsFirstLoss s.metaframe (bits ++ more) a.starts a.declared)) next.1 are.1.lost in
        let later = lost_later v.watch s (bits ++ more) a.starts h.t words a.declared next.0 are.1.declared lost in
        none_late s (bits ++ more) next.2 (front ++ a ∷ []) b back at long (omega (arith, close, later, next.3)) next.4
        (ap (step_of s (bits ++ more)) (append_assoc front (a ∷ []) (b ∷ back)) ∙ e)

-- of a search
none_of_search : (v : LaneView) (s : Settings) (bits more : List Bool) (front back : List Attempt) (at : ℕ) → Hunts v s bits front → highest v.starts.counts ≤ 32 → 32 ≤ s.metaframe →
    1 ≤ length more → length more ≤ 67 * 64 → AttemptsFrom s.metaframe (bits ++ more) (Some v.from) back → step_of s (bits ++ more) (front ++ back) ≡ steps.Locked at → ⊥
none_of_search v s bits [] front back at h low long some short are e = absurd (omega (arith, some))
none_of_search v s bits (b ∷ more) front [] at h low long some short are e =
    absurd (let f : steps.Nothing ≡ steps.Locked at = sym (h.quiet b more) ∙ ap (step_of s (bits ++ b ∷ more)) (sym (append-nil front)) ∙ e in cc)
none_of_search v s bits (b ∷ more) front (a ∷ back) at h low long some short are e =
    let l = last_from s (bits ++ b ∷ more) v.from front a back are in
    let d = attempt_declares s (bits ++ b ∷ more) l.attempt at (sym l.step ∙ e) in
    let late = declared_late s.metaframe (bits ++ b ∷ more) l.attempt d.0 long l.is d.1 in
    let ends = d.2 in
    let all = length-append bits (b ∷ more) in
    begun_early v s bits (b ∷ more) front l.attempt.starts h low l.low (omega (arith, short, late, ends, all)) l.lock

pub far_declares_nothing : FarDeclaresNothing
far_declares_nothing v s bits given own shown k at far few st own_are are e =
    let ends = own_are.long in
    let all_end = are.long in
    let all_shown = length-append own shown in
    let all_given = length-append bits given in
    let behind = slice_get_within shown k (steps.Locked at) e in
    let within : k < length given = omega (arith, ends, all_end, all_shown, all_given, behind) in
    let more = take (k + 1) given in
    let size : length more ≡ k + 1 = length-take-le (k + 1) given (omega (arith, within)) in
    let cut : take (length own + k + 1) (bits ++ given) ≡ bits ++ more =
    (let n : length own + k + 1 ≡ length bits + (k + 1) = omega (arith, ends) in ap (λ (n : ℕ). take n (bits ++ given)) n ∙ take-append-add bits given (k + 1)) in
    let all = attempts_exist s.metaframe (bits ++ more) in
    let back = attempts_behind s.metaframe (bits ++ more) 0 v.from st.front all.0 (st.over more) all.1 in
    let each = are.each (length own + k) all.0 (omega (arith, ends, all_given, within)) (subst (λ (bs : List Bool). AttemptsFrom s.metaframe bs (Some 0) all.0) (sym cut) all.1) in
    let step : step_of s (bits ++ more) all.0 ≡ steps.Locked at =
    sym (get_or_from_slice_get (own ++ shown) (length own + k) (step_of s (take (length own + k + 1) (bits ++ given)) all.0) steps.Nothing each
    ∙ ap (λ (bs : List Bool). step_of s bs all.0) cut)
    ∙ get_or-append-add own shown k steps.Nothing ∙ get_or_from_slice_get shown k (steps.Locked at) steps.Nothing e in
    let long = st.link.metaframe.0 in
    let short : length more ≤ 67 * 64 = omega (arith, size, within, few) in
    let last = ap (step_of s (bits ++ more)) (sym back.1) ∙ step in
    split {b = v.watching}
    (λ on. none_of_lock v s bits more st.front back.0 at (held v s bits st on) (is_far true on) long short back.2 last)
    (λ off. none_of_search v s bits more st.front back.0 at (hunted v s bits st off) (is_far false off) long (omega (arith, size)) short back.2 last)
  where
    is_far : (on : Bool) → v.watching ≡ on → MatchBool on (HasFewSyncs v.watch) (highest v.starts.counts ≤ 32)
    is_far on e = subst (λ (x : Bool). MatchBool x (HasFewSyncs v.watch) (highest v.starts.counts ≤ 32)) e far
