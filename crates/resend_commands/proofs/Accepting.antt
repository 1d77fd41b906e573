-- What is accepted grows with the events.
use Rattle.std.proofs.Common.{◌≡◌, ℕ, ◌+◌, ◌-◌, ◌≤◌, ◌==◌, Bool, true, false, if◌then◌else◌, List, [], ◌∷◌, ◌++◌, length, take, drop, refl, sym, ap, subst, ◌∙◌, arith, length-append}
use Rattle.std.proofs.Math.Seq.{take-add, drop-append_seam}
use Rattle.std.proofs.lemmas.List.Concat.{flat_map-append}
use Rattle.lk_base.specs.declared.word.Word.{Word}
use Rattle.words_files.specs.WordsFile.{words_file}
use Rattle.run_shell.specs.Outputs.{Prefixes, more}
use Rattle.stream_commands.proofs.PartsOfStreams.{words_before, words_put}
use Rattle.resend_events.specs.declared.event.Event.{Event}
use Rattle.resend_events.specs.declared.event.Event.TheVariants.{Send, Rewind, Take, Lose, Repeat, TakeBack, LoseBack, RepeatBack}
use Rattle.retransmit.specs.Pieces.{Piece, words_of, words_of_piece}
use Rattle.retransmit.specs.Resending.{Setting, State, after, state_from, does_nothing, effect, taken, taken_back}
use Rattle.retransmit.specs.Carried.{Carried, Follows, setting_of}
use Rattle.retransmit.specs.declared.answer.Did.{Did}
use Rattle.resend_commands.specs.Resent.{accepted_words}
use Rattle.resend_commands.specs.Carried.{events_done, accepted_file}

-- ---- how many are accepted

one_more : (b : Bool) (n : ℕ) → n ≤ (if b then n + 1 else n)
one_more true n = omega arith
one_more false n = omega arith

taken_accepts : (s : State) (ks : List ℕ) → s.accepted ≤ (taken s ks).accepted
taken_accepts s [] = omega arith
taken_accepts s (k ∷ ks) = one_more (k == s.accepted) s.accepted

taken_back_accepts : (s : State) (vs : List ℕ) → s.accepted ≤ (taken_back s vs).accepted
taken_back_accepts s [] = omega arith
taken_back_accepts s (v ∷ vs) = omega arith

effect_accepts : (s : State) (event : Event) → s.accepted ≤ (effect s event).accepted
effect_accepts s Send = omega arith
effect_accepts s Rewind = omega arith
effect_accepts s Take = taken_accepts s s.forward
effect_accepts s Lose = omega arith
effect_accepts s Repeat = omega arith
effect_accepts s TakeBack = taken_back_accepts s s.back
effect_accepts s LoseBack = omega arith
effect_accepts s RepeatBack = omega arith

either_accepts : (b : Bool) (s t : State) → s.accepted ≤ t.accepted → s.accepted ≤ (if b then s else t).accepted
either_accepts true s t h = omega arith
either_accepts false s t h = h

after_accepts : (g : Setting) (s : State) (event : Event) → s.accepted ≤ (after g s event).accepted
after_accepts g s event = either_accepts (does_nothing g s event) s (effect s event) (effect_accepts s event)

from_accepts : (g : Setting) (s : State) (events : List Event) → s.accepted ≤ (state_from g s events).accepted
from_accepts g s [] = omega arith
from_accepts g s (event ∷ events) =
    let here = after_accepts g s event in
    let later = from_accepts g (after g s event) events in
    omega arith

-- ---- their words

first_words : (pieces : List Piece) (a b : ℕ) → a ≤ b → (rest : List Word) × (words_of (take b pieces) ≡ words_of (take a pieces) ++ rest)
first_words pieces a b le =
    let e : b ≡ a + (b - a) = omega arith in (
      words_of (take (b - a) (drop a pieces)),
      ap (λ n. words_of (take n pieces)) e
          ∙ ap words_of (take-add a (b - a) pieces)
          ∙ flat_map-append words_of_piece (take a pieces) (take (b - a) (drop a pieces)),
    )

-- the words that are accepted before come first
words_grow : (c : Carried) (events : List Event) → (rest : List Word) × (accepted_words c.pieces (events_done c events).state ≡ accepted_words c.pieces c.state ++ rest)
words_grow c events = first_words c.pieces c.state.accepted (events_done c events).state.accepted (from_accepts (setting_of c) c.state events)

pub file_begins : (c : Carried) (events : List Event) → Prefixes (accepted_file c ∷ []) (accepted_file (events_done c events) ∷ [])
file_begins c events =
    let (rest, is) = words_grow c events in
    subst (λ (words : List Word). Prefixes (accepted_file c ∷ []) (words_file words ∷ [])) (sym is) (words_before (accepted_words c.pieces c.state) rest)

-- ---- some events

pub event_done : (old new : Carried) (event : Event) (did : Did) → Follows old event did new → new ≡ events_done old (event ∷ [])
event_done old new event did follows = follows.state

module _ (old new : Carried) (events : List Event) (done : new ≡ events_done old events) where
  grow : (rest : List Word) × (accepted_words new.pieces new.state ≡ accepted_words old.pieces old.state ++ rest)
  grow = subst (λ (c : Carried). (rest : List Word) × (accepted_words c.pieces c.state ≡ accepted_words old.pieces old.state ++ rest)) (sym done) (words_grow old events)

  module _ (lent : List Word) (is : lent ≡ accepted_words new.pieces new.state) where
    pub words_there : (at : ℕ) → at ≤ length (accepted_words old.pieces old.state) → at ≤ length lent
    words_there at few =
        let (rest, e) = grow in
        let long : length lent ≡ length (accepted_words old.pieces old.state) + length rest = ap length (is ∙ e) ∙ length-append (accepted_words old.pieces old.state) rest in
        omega arith

    -- the words from the first new one on are those that come
    pub words_come : (at : ℕ) → at ≡ length (accepted_words old.pieces old.state) → (words : List Word) → words ≡ drop at lent → accepted_words old.pieces old.state ++ words ≡ accepted_words new.pieces new.state
    words_come at count words taken =
        let (rest, e) = grow in
        let before : List Word = accepted_words old.pieces old.state in
        let those : words ≡ rest = taken ∙ ap (λ n. drop n lent) count ∙ ap (drop (length before)) (is ∙ e) ∙ drop-append_seam before rest in
        ap (λ ws. before ++ ws) those ∙ sym e

    -- so an output that was given the file of what was accepted, and then these words, was given that of what is accepted
    pub file_grown : (at : ℕ) → at ≡ length (accepted_words old.pieces old.state) → (words : List Word) → words ≡ drop at lent → (given : List (List ℕ)) → given ≡ accepted_file old ∷ [] → more given 0 (words_file words) ≡ accepted_file new ∷ []
    file_grown at count words taken given was =
        ap (λ (gs : List (List ℕ)). more gs 0 (words_file words)) was
        ∙ words_put (accepted_words old.pieces old.state) words (words_file words) refl
        ∙ ap (λ (ws : List Word). words_file ws ∷ []) (words_come at count words taken)
