-- When an event is known: with the last bit of its word.
use Rattle.std.proofs.Common.{ℕ, ◌≡◌, refl, sym, ap, ◌∙◌, subst, ◌+◌, ◌-◌, ◌*◌, ◌/◌, ◌%◌, ◌<◌, ◌≤◌, ◌==◌, Bool, true, false, List, [], ◌∷◌, ◌++◌, length, map, filter, arith, Option, Some, None, append_assoc, eqb-true}
use Rattle.std.specs.Prelude.{nat_le, nat_lt}
use Rattle.std.proofs.lemmas.List.{append-nil, length-append}
use Rattle.std.proofs.lemmas.Bool.{and_parts, le-leb, leb-true, lt-leb}
use Rattle.lk_base.specs.Link.{Settings}
use Rattle.lane_model.proofs.Numbers.{split}
use Rattle.lock_model.specs.declared.types.LaneStep.{LaneStep}
use Rattle.lock_model.specs.declared.types.LaneStep.TheVariants as steps
use Rattle.lock_model.specs.declared.types.LostWhy.{LostWhy}
use Rattle.lock_model.specs.Locks.{Attempt, AreAttempts, Loss}
use Rattle.lock_model.specs.Received.{Lock}
use Rattle.lock_model.specs.Steps.{ends_word, step_covered, step_declared, step_of, step_of_attempt, step_unless_lost}
use Rattle.lock_model.proofs.Prefixes.{legal_here}
use Rattle.lane_events.specs.declared.types.EventKind.{EventKind}
use Rattle.lane_events.specs.declared.types.LaneEvent.{LaneEvent}
use Rattle.lane_events.specs.Events.{AreLaneEvents, all_kinds, has_event, lane_events, word_events}
use Rattle.lane_events.specs.EventLaw.{EventsAreDue, is_within}
use Rattle.lane_events.proofs.AllGrow.{grown_by_bit}
use Rattle.lane_events.proofs.EventsHold.{events_determined, events_exist}
use Rattle.lane_events.proofs.Grow.{CoversWord, First, Loses, Next, Quiet, Tells}

-- ---- a loss is told with the last bit of its word

-- the first bit of the losing word that a step tells, or else this bit
abbrev lost_bit : ℕ → LaneStep → ℕ
lost_bit other steps.Nothing = other
lost_bit other steps.Ended = other
lost_bit other (steps.Locked at) = other
lost_bit other (steps.Word word role at) = other
lost_bit other (steps.Lost why at) = at

covered_bit : (s : Settings) (bits : List Bool) (p other t : ℕ) (o : Option ℕ) → lost_bit other (step_covered s bits p o t) ≡ other
covered_bit s bits p other t None = refl
covered_bit s bits p other t (Some d) = split {b = t == d} (λ e. rw e refl) (λ e. rw e (split {b = nat_lt d t} (λ f. rw f refl) (λ f. rw f refl)))

-- a step of word t of a word lock tells a loss of this word, or none
word_bit : (s : Settings) (bits : List Bool) (p t : ℕ) (o : Option ℕ) (lost : Option Loss) → lost_bit (p + 67 * t) (step_unless_lost s bits p o lost t) ≡ p + 67 * t
word_bit s bits p t o None = covered_bit s bits p (p + 67 * t) t o
word_bit s bits p t o (Some loss) = split {b = t == loss.word} (λ e. rw e refl) (λ e. rw e (split {b = nat_lt t loss.word} (λ f. rw f (covered_bit s bits p (p + 67 * t) t o)) (λ f. rw f refl)))

-- the word that ends with the last bit
word_ends : (bits : List Bool) (p : ℕ) → ends_word bits p ≡ true → p + 67 * ((length bits - (p + 67)) / 67) + 67 ≡ length bits
word_ends bits p e =
    let parts = and_parts (nat_le (p + 67) (length bits)) ((length bits - (p + 67)) % 67 == 0) e in
    let within : p + 67 ≤ length bits = leb-true (p + 67) (length bits) parts.0 in
    let rest : (length bits - (p + 67)) % 67 ≡ 0 = eqb-true ((length bits - (p + 67)) % 67) 0 parts.1 in
    omega (arith, within, rest)

-- no step that tells nothing tells a loss
nothing_lost : (why : LostWhy) (at : ℕ) → steps.Nothing ≡ steps.Lost why at → ⊥
nothing_lost why at e = cc

attempt_ends : (s : Settings) (bits : List Bool) (a : Attempt) (why : LostWhy) (at : ℕ) → step_of_attempt s bits a ≡ steps.Lost why at → at + 67 ≡ length bits
attempt_ends s bits a why at e = split {b = ends_word bits a.starts} (λ here. at_end here) (λ not_here. absurd (nothing_lost why at (sym (skips not_here) ∙ e)))
  where
    t : ℕ
    t = (length bits - (a.starts + 67)) / 67

    skips : ends_word bits a.starts ≡ false → step_of_attempt s bits a ≡ steps.Nothing
    skips f = rw f refl

    steps_on : ends_word bits a.starts ≡ true → step_of_attempt s bits a ≡ step_unless_lost s bits a.starts a.declared a.lost t
    steps_on f = rw f refl

    at_end : ends_word bits a.starts ≡ true → at + 67 ≡ length bits
    at_end f =
        let is : at ≡ a.starts + 67 * t = sym (ap (lost_bit (a.starts + 67 * t)) (sym (steps_on f) ∙ e)) ∙ word_bit s bits a.starts t a.declared a.lost in
        ap (λ (n : ℕ). n + 67) is ∙ word_ends bits a.starts f

loss_ends : (s : Settings) (bits : List Bool) (attempts : List Attempt) (why : LostWhy) (at : ℕ) → step_of s bits attempts ≡ steps.Lost why at → at + 67 ≡ length bits
loss_ends s bits [] why at e = absurd (nothing_lost why at e)
loss_ends s bits (a ∷ []) why at e = attempt_ends s bits a why at e
loss_ends s bits (a ∷ b ∷ rest) why at e = loss_ends s bits (b ∷ rest) why at e

-- ---- the events that a bit brings

-- the last bit of the word of each of these events is above the first number, and at most the second
abbrev Within : ℕ → ℕ → List LaneEvent → Type 0
Within low high [] = Unit {0}
Within low high (e ∷ events) = (low < e.bit + 67) × (e.bit + 67 ≤ high) × Within low high events

within_word : (low n at : ℕ) (kinds : List EventKind) → at + 67 ≡ n → low < n → Within low n (map (λ (kind : EventKind). record { bit = at; kind = kind }) kinds)
within_word low n at [] e lt = tt
within_word low n at (kind ∷ kinds) e lt = (omega (arith, e, lt), omega (arith, e), within_word low n at kinds e lt)

of_word : (s : Settings) (bits : List Bool) (at r low : ℕ) → at + 67 * r + 67 ≡ length bits → low < length bits → Within low (length bits) (word_events s bits at r)
unfolding word_events
of_word s bits at r low e lt = within_word low (length bits) (at + 67 * r) (filter (has_event s bits at r) all_kinds) e lt

-- they are of the word that the bit ends
brought : (s : Settings) (bits : List Bool) (attempts : List Attempt) (before now : Option Lock) (new : List LaneEvent) (low : ℕ) → low < length bits →
    Tells s bits before now new (step_of s bits attempts) → Within low (length bits) new
brought s bits attempts before now new low lt (Quiet same none step) = subst (Within low (length bits)) (sym none) tt
brought s bits attempts before now new low lt (First at covers) = subst (Within low (length bits)) (sym covers.events) (of_word s bits at 0 low covers.ends lt)
brought s bits attempts before now new low lt (Next at r some goes covers) = subst (Within low (length bits)) (sym covers.events) (of_word s bits at r low covers.ends lt)
brought s bits attempts before now new low lt (Loses at declared loss none is step) =
    let ends = loss_ends s bits attempts loss.why at step in
    subst (Within low (length bits)) (sym is) (omega (arith, ends, lt), omega (arith, ends), tt)

within_more : (low high mid more : ℕ) (one other : List LaneEvent) → high ≤ more → low ≤ mid → Within low high one → Within mid more other → Within low more (one ++ other)
within_more low high mid more [] other le up a b = wider other b
  where
    wider : (events : List LaneEvent) → Within mid more events → Within low more events
    wider [] k = tt
    wider (e ∷ events) k = (omega (arith, k.0, up), k.1, wider events k.2)
within_more low high mid more (e ∷ one) other le up a b = (a.0, omega (arith, a.1, le), within_more low high mid more one other le up a.2 b)

-- the events of a lane with more bits: those before, and then those of words that end after these
record Longer (s : Settings) (bits more : List Bool) (one all : List LaneEvent) : Type 0 where
  rest : List LaneEvent
  appended : all ≡ one ++ rest
  within : Within (length bits) (length (bits ++ more)) rest

longer : (s : Settings) (bits more : List Bool) (one all : List LaneEvent) → 32 ≤ s.metaframe → AreLaneEvents s bits one → AreLaneEvents s (bits ++ more) all → Longer s bits more one all
longer s bits [] one all long a b = record {
  rest = [];
  appended = events_determined s bits all one (subst (λ (xs : List Bool). AreLaneEvents s xs all) (append-nil bits) b) a ∙ sym (append-nil one);
  within = tt;
}
longer s bits (x ∷ more) one all long a b =
    let next : List Bool = bits ++ x ∷ [] in
    let here = events_exist s next in
    let grown = grown_by_bit s long bits x a.attempts here.1.attempts a.are here.1.are in
    let joined = append_assoc bits (x ∷ []) more in
    let rest = longer s next more here.0 all long here.1 (subst (λ (xs : List Bool). AreLaneEvents s xs all) (sym joined) b) in
    let one_more : length next ≡ length bits + 1 = length-append bits (x ∷ []) in
    let as_long : length (next ++ more) ≡ length (bits ++ x ∷ more) = ap (λ (xs : List Bool). length xs) joined in
    let goes_on : length next ≤ length (next ++ more) = let e = length-append next more in omega (arith, e) in
    let new = brought s next here.1.attempts _ _ grown.new (length bits) (omega (arith, one_more)) grown.tells in
    record {
      rest = grown.new ++ rest.rest;
      appended = rest.appended ∙ ap (λ (xs : List LaneEvent). xs ++ rest.rest) (here.1.events_are ∙ grown.appended ∙ ap (λ (xs : List LaneEvent). xs ++ grown.new) (sym a.events_are)) ∙ append_assoc one grown.new rest.rest;
      within = subst (λ (n : ℕ). Within (length bits) n (grown.new ++ rest.rest)) as_long
          (within_more (length bits) (length next) (length next) (length (next ++ more)) grown.new rest.rest goes_on (omega (arith, one_more)) new rest.within);
    }

-- ---- no bits, no events

none_of_none : (s : Settings) (attempts : List Attempt) → AreAttempts s.metaframe [] attempts → lane_events s [] attempts ≡ []
none_of_none s [] k = refl
none_of_none s (a ∷ attempts) k = absurd (let there = legal_here s.metaframe [] [] (a.starts + 67 * 63) (k.0.0.1 63 (omega arith)) in omega (arith, there))

-- ---- the law

kept : (low n m : ℕ) (events : List LaneEvent) → Within low n events → n ≤ m → filter (is_within m) events ≡ events
kept low n m [] k le = refl
kept low n m (e ∷ events) k le =
    let here : is_within m e ≡ true = le-leb (e.bit + 67) m (omega (arith, k.1, le)) in
    rw here (ap (λ (es : List LaneEvent). e ∷ es) (kept low n m events k.2 le))

gone : (n high : ℕ) (events : List LaneEvent) → Within n high events → filter (is_within n) events ≡ []
gone n high [] k = refl
gone n high (e ∷ events) k =
    let late : is_within n e ≡ false = lt-leb (e.bit + 67) n k.0 in
    rw late (gone n high events k.2)

both : (n : ℕ) (one rest : List LaneEvent) → filter (is_within n) one ≡ one → filter (is_within n) rest ≡ [] → one ≡ filter (is_within n) (one ++ rest)
both n one rest a b = sym (filter_append (is_within n) one rest ∙ ap (λ (es : List LaneEvent). es ++ filter (is_within n) rest) a ∙ ap (λ (es : List LaneEvent). one ++ es) b ∙ append-nil one)
  where
    filter_append : (f : LaneEvent → Bool) (xs ys : List LaneEvent) → filter f (xs ++ ys) ≡ filter f xs ++ filter f ys
    filter_append f [] ys = refl
    filter_append f (x ∷ xs) ys = split {b = f x} (λ e. rw e (ap (λ (es : List LaneEvent). x ∷ es) (filter_append f xs ys))) (λ e. rw e (filter_append f xs ys))

pub events_are_due : EventsAreDue
events_are_due s bits more one all long a b =
    let none = events_exist s [] in
    let first = longer s [] bits none.0 one long none.1 a in
    let empty : none.0 ≡ [] = none.1.events_are ∙ none_of_none s none.1.attempts none.1.are in
    let is : one ≡ first.rest = first.appended ∙ ap (λ (es : List LaneEvent). es ++ first.rest) empty in
    let later = longer s bits more one all long a b in
    both (length bits) one later.rest (subst (λ (es : List LaneEvent). filter (is_within (length bits)) es ≡ es) (sym is) (kept 0 (length bits) (length bits) first.rest first.within (omega arith)))
    (gone (length bits) (length (bits ++ more)) later.rest later.within)
    ∙ ap (filter (is_within (length bits))) (sym later.appended)
