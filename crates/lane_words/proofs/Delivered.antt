-- What is delivered on a channel, told of the stretches one by one.
use Rattle.std.proofs.Common.{ℕ, ◌≡◌, refl, sym, ap, ap₂, ◌∙◌, true, false, List, [], ◌∷◌, ◌++◌, append-nil, Option, Some, None, is_none, map}
use Rattle.std.proofs.lemmas.List.{map-append}
use Rattle.receive_model.specs.Lists.{ending, last_of}
use Rattle.receive_model.specs.Pieces.{Packet}
use Rattle.receive_model.specs.Spans.{last_span}
use Rattle.receive_model.specs.Stretches.{Verified, Item, OfStretch, Break, passes, passing_word, item_fault, verified, last_word}
use Rattle.receive_model.specs.Events.{Setting, FaultSpan, Flow, run_at_end, span_closed_at, at_end, at_start, at_word, at_either, outputs_at, outputs_from, no_word_span, events_of_items, delivered}
use Rattle.receive_model.proofs.Cuts.{split}
use Rattle.receive_model.proofs.Ends.{ending-on, ending-off}
use Rattle.receive_model.proofs.EventPackets.{delivered-append, at_start-none, at_why-none, span_closed-none}
use Rattle.receive_model.proofs.AllEvents.{faulty-none, no_word_span-none, verified-append}
use Rattle.lane_words.specs.GatheredLaws.{bytes_on}

abbrev pub bytes : Packet → List ℕ
bytes p = p.bytes

-- the packets that come at a verified word after the run before it
abbrev pub at_verified : Setting → ℕ → List Verified → Verified → List (List ℕ)
at_verified s channel run v = bytes_on channel (at_end s run v)

-- those of verified words, where none stands for a fault or a break, which ends the run
abbrev pub told : Setting → ℕ → List Verified → List (Option Verified) → List (List ℕ)
told s channel run [] = []
told s channel run (None ∷ rest) = told s channel [] rest
told s channel run (Some v ∷ rest) = at_verified s channel run v ++ told s channel (run ++ v ∷ []) rest

at_word-delivers : (s : Setting) (channel : ℕ) (before : List Item) (v : Verified) → delivered channel (at_word s before v) ≡ delivered channel (at_end s (run_at_end before) v)
at_word-delivers s channel before v =
    delivered-append channel (span_closed_at before v ++ Flow v.at v.number ∷ [] ++ at_end s (run_at_end before) v) (at_start s (run_at_end before) v)
    ∙ ap₂ (λ xs ys. xs ++ ys)
    (delivered-append channel (span_closed_at before v ++ Flow v.at v.number ∷ []) (at_end s (run_at_end before) v)
    ∙ ap (λ xs. xs ++ delivered channel (at_end s (run_at_end before) v))
    (delivered-append channel (span_closed_at before v) (Flow v.at v.number ∷ []) ∙ ap (λ xs. xs ++ []) (span_closed-none channel before v)))
    (at_start-none s channel (run_at_end before) v)
    ∙ append-nil (delivered channel (at_end s (run_at_end before) v))

-- an item, and what is told of it
Step : Setting → ℕ → List Item → Item → List (Option Verified) → Type 0
Step s channel before x later = bytes_on channel (outputs_at s before x) ++ told s channel (run_at_end (before ++ x ∷ [])) later ≡ told s channel (run_at_end before) (passing_word x ∷ later)

step_fault : (s : Setting) (channel : ℕ) (before : List Item) (x : Item) (later : List (Option Verified)) → passing_word x ≡ None → is_none (item_fault x) ≡ false → Step s channel before x later
unfolding Step
step_fault s channel before x later e f =
    ap₂ (λ ps r. map bytes ps ++ told s channel r later)
    (ap (λ o. delivered channel (at_either s before o (item_fault x))) e ∙ at_why-none s channel before (item_fault x))
    (ap verified (ending-off (λ y. is_none (item_fault y)) before x f))
    ∙ sym (ap (λ (o : Option Verified). told s channel (run_at_end before) (o ∷ later)) e)

step_word : (s : Setting) (channel : ℕ) (before : List Item) (x : Item) (v : Verified) (later : List (Option Verified)) → passing_word x ≡ Some v → is_none (item_fault x) ≡ true → Step s channel before x later
unfolding Step
step_word s channel before x v later e f =
    ap₂ (λ ps r. map bytes ps ++ told s channel r later)
    (ap (λ o. delivered channel (at_either s before o (item_fault x))) e ∙ at_word-delivers s channel before v)
    (ap verified (ending-on (λ y. is_none (item_fault y)) before x f) ∙ verified-append (ending (λ y. is_none (item_fault y)) before) x (Some v) e)
    ∙ sym (ap (λ (o : Option Verified). told s channel (run_at_end before) (o ∷ later)) e)

step : (s : Setting) (channel : ℕ) (before : List Item) (x : Item) (later : List (Option Verified)) → Step s channel before x later
step s channel before (Break at why) later = step_fault s channel before (Break at why) later refl refl
step s channel before (OfStretch p) later = split (passes p)
    (λ h. step_word s channel before (OfStretch p) (last_word p) later (rw h refl) h)
    (λ h. step_fault s channel before (OfStretch p) later (rw h refl) h)

outputs_told : (s : Setting) (channel : ℕ) (before rest : List Item) → bytes_on channel (outputs_from s before rest) ≡ told s channel (run_at_end before) (map passing_word rest)
unfolding Step
outputs_told s channel before [] = refl
outputs_told s channel before (x ∷ rest) =
    ap (map bytes) (delivered-append channel (outputs_at s before x) (outputs_from s (before ++ x ∷ []) rest))
    ∙ map-append bytes (delivered channel (outputs_at s before x)) (delivered channel (outputs_from s (before ++ x ∷ []) rest))
    ∙ ap (λ bs. bytes_on channel (outputs_at s before x) ++ bs) (outputs_told s channel (before ++ x ∷ []) rest)
    ∙ step s channel before x (map passing_word rest)

-- all that is delivered is told of the items
pub events_told : (s : Setting) (channel : ℕ) (items : List Item) → bytes_on channel (events_of_items s items) ≡ told s channel [] (map passing_word items)
events_told s channel items =
    ap (map bytes)
    (delivered-append channel (outputs_from s [] items ++ no_word_span (last_of (verified items))) (map FaultSpan (last_span items (last_of (verified items))))
    ∙ ap₂ (λ xs ys. xs ++ ys)
    (delivered-append channel (outputs_from s [] items) (no_word_span (last_of (verified items)))
    ∙ ap (λ xs. delivered channel (outputs_from s [] items) ++ xs) (no_word_span-none channel (last_of (verified items)))
    ∙ append-nil (delivered channel (outputs_from s [] items)))
    (faulty-none channel (last_span items (last_of (verified items))))
    ∙ append-nil (delivered channel (outputs_from s [] items)))
    ∙ outputs_told s channel [] items
