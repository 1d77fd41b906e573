-- All packets that were given are those that came: the outputs of the words that arrived are those of a words file but for
-- its end, which delivers nothing.
use Rattle.std.proofs.Common.{◌≡◌, ℕ, ◌-◌, true, false, ◌==◌, if◌then◌else◌, List, [], ◌∷◌, ◌++◌, map, flat_map, take, Some, None, refl, sym, ap, ap₂, ◌∙◌, append_assoc, append-nil}
use Rattle.std.specs.List.{cons_option}
use Rattle.lk_base.specs.Words.{as_sent}
use Rattle.lk_base.specs.declared.position.Pos.{Pos}
use Rattle.lk_base.specs.declared.fault.Why.{Why}
use Rattle.lk_base.specs.declared.word.Word.{Word}
use Rattle.lk_base.specs.declared.word.RxWord.{RxWord}
use Rattle.lk_base.specs.Positions.{words_from}
use Rattle.receive_model.specs.Lists.{last_of}
use Rattle.receive_model.specs.Positions.{Placed, placed_from}
use Rattle.receive_model.specs.Stretches.{Item, OfStretch, Break, Verified, stretches, verified, items_of}
use Rattle.receive_model.specs.Spans.{last_span}
use Rattle.receive_model.specs.Pieces.{Packet, pieces}
use Rattle.receive_model.specs.Events.{Event, Setting, Delivered, Dropped, FaultSpan, Flow, is_listed, delivered, run_at_end, drop_why, at_fault, outputs_from, outputs_at, no_word_span, events_of_items, word_events, words_epoch}
use Rattle.reassembly.specs.SoFar.{ended_epochs, open_words, items_so_far, outputs_so_far, aligned_word}
use Rattle.delivery_laws.specs.LawOnWords.{EachIsPacket, NumbersFit}
use Rattle.duplex_model.specs.DuplexRun.{Settings, Ends, alone}
use Rattle.duplex_model.specs.Came.{came, sent_in_time}
use Rattle.duplex_model.proofs.WhatCame as model
use Rattle.duplex.specs.Inboxes.{packets_in, on_channel, GaveAll}
use Rattle.duplex.specs.Duplexes.{Runs, HasGotAll}
use Rattle.duplex.specs.declared.duplex.Duplex.{Duplex}
use Rattle.duplex.proofs.Opens.{is_run}
use Rattle.receive_model.proofs.AllEvents.{faulty-none, no_word_span-none}
use Rattle.receive_model.proofs.EventPackets.{delivered-append, open_drop-none}
use Rattle.reassembly.proofs.SoFarHold.{outputs-append, placed}

-- ---- what is delivered

no_drops : (s : Setting) (channel : ℕ) (run : List Verified) (why : Why) (channels : List ℕ) → delivered channel (flat_map (at_fault s run why) channels) ≡ []
no_drops s channel run why [] = refl
no_drops s channel run why (c ∷ channels) =
    delivered-append channel (at_fault s run why c) (flat_map (at_fault s run why) channels) ∙ ap₂ (λ (xs : List Packet) ys. xs ++ ys) (open_drop-none channel c (drop_why why) (last_of (pieces s.wide c run None))) (no_drops s channel run why channels)

-- the end of the words delivers nothing
with_end : (s : Setting) (channel : ℕ) (items : List Item) (at : Pos) (why : Why) → delivered channel (events_of_items s (items ++ Break at why ∷ [])) ≡ delivered channel (outputs_from s [] items)
with_end s channel items at why =
    let all : List Item = items ++ Break at why ∷ [] in
    let break : List Event = outputs_from s items (Break at why ∷ []) in
    let none : delivered channel break ≡ [] =
    delivered-append channel (outputs_at s items (Break at why)) [] ∙ ap (λ (ps : List Packet). ps ++ []) (no_drops s channel (run_at_end items) why s.channels) in
    delivered-append channel (outputs_from s [] all ++ no_word_span (last_of (verified all))) (map FaultSpan (last_span all (last_of (verified all))))
    ∙ ap₂ (λ (ps : List Packet) qs. ps ++ qs) (delivered-append channel (outputs_from s [] all) (no_word_span (last_of (verified all)))) (faulty-none channel (last_span all (last_of (verified all))))
    ∙ append-nil (delivered channel (outputs_from s [] all) ++ delivered channel (no_word_span (last_of (verified all))))
    ∙ ap (λ (ps : List Packet). delivered channel (outputs_from s [] all) ++ ps) (no_word_span-none channel (last_of (verified all)))
    ∙ append-nil (delivered channel (outputs_from s [] all))
    ∙ ap (delivered channel) (outputs-append s [] items (Break at why ∷ []))
    ∙ delivered-append channel (outputs_from s [] items) break
    ∙ ap (λ (ps : List Packet). delivered channel (outputs_from s [] items) ++ ps) none
    ∙ append-nil (delivered channel (outputs_from s [] items))

-- ---- the words so far

none_ended : (front ps : List Placed) → ended_epochs front (map aligned_word ps) ≡ []
none_ended front [] = refl
none_ended front (p ∷ ps) = none_ended (front ++ p ∷ []) ps

all_open : (front ps : List Placed) → open_words front (map aligned_word ps) ≡ front ++ ps
all_open front [] = sym (append-nil front)
all_open front (p ∷ ps) = all_open (front ++ p ∷ []) ps ∙ append_assoc front (p ∷ []) ps

so_far : (words : List RxWord) → items_so_far (words_from 0 0 words) ≡ map OfStretch (stretches (placed_from 0 words))
so_far words = ap items_so_far (placed 0 words) ∙ ap₂ (λ epochs ps. items_of epochs ++ map OfStretch (stretches ps)) (none_ended [] (placed_from 0 words)) (all_open [] (placed_from 0 words))

pub outputs_came : (s : Setting) (channel : ℕ) (words : List RxWord) → delivered channel (outputs_so_far s (words_from 0 0 words) false) ≡ delivered channel (word_events s words)
outputs_came s channel words =
    let epoch = words_epoch words in
    let items : List Item = map OfStretch (stretches (placed_from 0 words)) in
    ap (λ is. delivered channel (outputs_from s [] is)) (so_far words)
    ∙ sym (with_end s channel items epoch.ended_at epoch.ended_by)
    ∙ ap (λ is. delivered channel (events_of_items s is)) (sym (append-nil (items ++ Break epoch.ended_at epoch.ended_by ∷ [])))

-- ---- by channel

pub of_channel : (channel : ℕ) (outputs : List Event) → on_channel channel (packets_in outputs) ≡ delivered channel outputs
of_channel channel [] = refl
of_channel channel (Delivered other packet ∷ rest) = ap (cons_option (if other == channel then Some packet else None)) (of_channel channel rest)
of_channel channel (Dropped other why ∷ rest) = of_channel channel rest
of_channel channel (FaultSpan span ∷ rest) = of_channel channel rest
of_channel channel (Flow at word ∷ rest) = of_channel channel rest

pub all_came : (settings : Settings) (s : Setting) (sent : List Word) (channel slots : ℕ) (got : List (ℕ × Packet)) → GaveAll s (take (slots - settings.delay) sent) got → on_channel channel got ≡ came settings s sent channel slots
all_came settings s sent channel slots got all =
    let words : List RxWord = map as_sent (take (slots - settings.delay) sent) in
    ap (on_channel channel) all ∙ of_channel channel (outputs_so_far s (words_from 0 0 words) false) ∙ outputs_came s channel words

pub given_is_sent : (duplex : Duplex) (settings : Settings) (ends : Ends) (setting : Setting) (slots : ℕ) (a b : List Word) (got_a got_b : List (ℕ × Packet)) (channel : ℕ) → is_listed setting channel ≡ true
    → NumbersFit setting.wide (alone ends ends.packets_of_a) → EachIsPacket setting.max_packet (alone ends ends.packets_of_a) → EachIsPacket setting.max_packet (alone ends ends.packets_of_b) → Runs duplex settings ends slots a b → HasGotAll setting settings slots a b got_a got_b
    → (on_channel channel got_a ≡ sent_in_time settings ends ends.packets_of_b b channel slots) × (on_channel channel got_b ≡ sent_in_time settings ends ends.packets_of_a a channel slots)
given_is_sent duplex settings ends setting slots a b got_a got_b channel listed numbers each_a each_b r all =
    let law = model.what_came settings ends setting a b channel slots listed numbers each_a each_b (is_run duplex settings ends slots a b r) in (
      all_came settings setting b channel slots got_a all.at_a ∙ law.0,
      all_came settings setting a channel slots got_b all.at_b ∙ law.1,
    )
