-- Words without a fault have no fault spans but the outer ones.
use Rattle.std.proofs.Common.{◌≡◌, true, false, List, [], ◌∷◌, ◌++◌, append-nil, map, filter, flat_map, Option, Some, None, is_none, is_some, refl, ap, ◌∙◌}
use Rattle.std.specs.List.{list_all}
use Rattle.std.proofs.lemmas.Bool.{and_right, and_parts}
use Rattle.lk_base.specs.declared.position.Pos.{Pos}
use Rattle.lk_base.specs.declared.word.RxWord.{RxWord}
use Rattle.lk_base.specs.declared.fault.Why.{Why}
use Rattle.lk_base.specs.declared.fault.Why.TheVariants as whys
use Rattle.lk_base.specs.Positions.{is_before}
use Rattle.receive_model.specs.Lists.{neighbours, last_of}
use Rattle.receive_model.specs.Positions.{placed_from}
use Rattle.receive_model.specs.Stretches.{Headed, headed, between, Stretch, stretches, fault_of, passes, Item, OfStretch, Break, Verified, last_word, verified}
use Rattle.receive_model.specs.Spans.{first_fault_after, span_between, first_span, last_span}
use Rattle.receive_model.specs.Events.{words_epoch}
use Rattle.receive_model.proofs.Cuts.{split}
use Rattle.receive_model.proofs.Order.{same-from}
use Rattle.receive_model.proofs.AllSpans.{spans_are_shown, word_places_rise}
use Rattle.delivery_laws.specs.Law.{word_items}
use Rattle.delivery_laws.proofs.ManyEpochs.{all-verified}
use Rattle.word_rules.specs.Faults.{Plan, faults}
use Rattle.rule_laws.specs.WordsWithoutFault.{outer_spans, LawOnSpans}
use Rattle.rule_laws.proofs.Unbroken.{the_law_on_stretches}

all_kept : (all : List Stretch) → list_all passes all ≡ true → filter passes all ≡ all
all_kept [] h = refl
all_kept (s ∷ rest) h =
    let both = and_parts (passes s) (list_all passes rest) h in
    rw both.0 (ap (λ (ss : List Stretch). s ∷ ss) (all_kept rest both.1))

-- the verified words are those after all stretches
pub all_verified : (p : Plan) (words : List RxWord) → faults p words ≡ [] → verified (word_items words) ≡ map last_word (stretches (placed_from 0 words))
all_verified p words h =
    all-verified (words_epoch words ∷ [])
    ∙ append-nil (map last_word (filter passes (stretches (placed_from 0 words))))
    ∙ ap (map last_word) (all_kept (stretches (placed_from 0 words)) (the_law_on_stretches p words h))

-- what ends these stretches is the end of the words
no_why : (s : Stretch) → passes s ≡ true → is_some (fault_of s) ≡ false
no_why s h = by (fault_of s) h
  where
    by : (o : Option Why) → is_none o ≡ true → is_some o ≡ false
    by None h = refl
    by (Some why) h = cc

ends_for_end : (at end : Pos) (ss : List Stretch) → list_all passes ss ≡ true → first_fault_after at (map OfStretch ss ++ Break end whys.End ∷ []) ≡ whys.End
ends_for_end at end [] h = split (is_before at end) (λ t. rw t refl) (λ t. rw t refl)
ends_for_end at end (s ∷ rest) h =
    let both = and_parts (passes s) (list_all passes rest) h in
    rw (no_why s both.0, and_right (is_before at s.closed_at) false refl) (ends_for_end at end rest both.1)

pub all_end : (p : Plan) (words : List RxWord) → faults p words ≡ [] → (at : Pos) → first_fault_after at (word_items words) ≡ whys.End
all_end p words h at =
    let ss = stretches (placed_from 0 words) in
    ap (first_fault_after at) (append-nil (map OfStretch ss ++ Break (words_epoch words).ended_at whys.End ∷ []))
    ∙ ends_for_end at (words_epoch words).ended_at ss (the_law_on_stretches p words h)

-- no span stands between two words that follow one another
no_gaps : (items : List Item) (a : Headed) (heads : List Headed) → flat_map (span_between items) (neighbours (map last_word (map between (neighbours (a ∷ heads))))) ≡ []
no_gaps items a [] = refl
no_gaps items a (b ∷ []) = refl
no_gaps items a (b ∷ c ∷ heads) = rw (same-from b.at b.at refl) (no_gaps items b (c ∷ heads))

none_between : (items : List Item) (heads : List Headed) → flat_map (span_between items) (neighbours (map last_word (map between (neighbours heads)))) ≡ []
none_between items [] = refl
none_between items (a ∷ heads) = no_gaps items a heads

last_some : (v : Verified) (rest : List Verified) → (u : Verified) × (last_of (v ∷ rest) ≡ Some u)
last_some v [] = (v, refl)
last_some v (w ∷ rest) = last_some w rest

outer : (items : List Item) (vs : List Verified) → flat_map (span_between items) (neighbours vs) ≡ [] → ((at : Pos) → first_fault_after at items ≡ whys.End)
    → first_span vs ++ flat_map (span_between items) (neighbours vs) ++ last_span items (last_of vs) ≡ outer_spans vs
outer items [] none ends = refl
outer items (v ∷ rest) none ends =
    let last = last_some v rest in
    rw (none, last.1, ends last.0.at) refl

pub the_law_on_spans : LawOnSpans
the_law_on_spans setting p words h =
    let vs = map last_word (stretches (placed_from 0 words)) in
    let none : flat_map (span_between (word_items words)) (neighbours (verified (word_items words))) ≡ [] =
    ap (λ (ws : List Verified). flat_map (span_between (word_items words)) (neighbours ws)) (all_verified p words h)
    ∙ none_between (word_items words) (headed (placed_from 0 words)) in
    spans_are_shown setting (words_epoch words ∷ []) (word_places_rise words)
    ∙ outer (word_items words) (verified (word_items words)) none (all_end p words h)
