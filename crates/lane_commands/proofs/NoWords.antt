-- No words make no bytes.
use Rattle.std.proofs.Common.{◌≡◌, ℕ, zero, suc, ◌/◌, ◌%◌, List, [], ◌∷◌, map, get_or, refl, sym, ap, ◌∙◌, subst, arith, zero-mul, div-le_self}
use Rattle.std.specs.List.{range_with_len}
use Rattle.std.proofs.lemmas.List.{length-map}
use Rattle.std.proofs.lemmas.List.FromFn.{length-map-range_with_len}
use Rattle.lk_base.specs.Link.{Settings, group_of}
use Rattle.lk_base.specs.declared.word.Word.{Word}
use Rattle.lane_model.specs.Coding.{codes_behind, codes_of}
use Rattle.lane_model.specs.Key.{first_state, start_of}
use Rattle.lane_model.specs.LaneBits.{IsFileOf, bits_of_codes, lane_bits, stream_lane_bits}
use Rattle.lane_model.specs.LaneWords.{lane_words, sent_at}
use Rattle.lane_model.specs.Striping.{lane_payload}
use Rattle.run_shell.specs.Names.{lane_name, lane_names}
use Rattle.run_shell.specs.Outputs.{blank, outs}
use Rattle.tx_end.specs.Lanes.{AreLaneFiles}
use Rattle.stream_commands.specs.Outputs.{AreLaneOutputs}
use Rattle.stream_commands.proofs.LaneContents.{one_list}
use Rattle.lane_commands.specs.Stripe.{Stripes}
use Rattle.lane_commands.specs.StripeLaws.{NoWordsNoBytes}
use Rattle.lane_commands.proofs.Filling.{stripe_once, stripes_whole}

-- no metaframe has no bits
no_bits : (s : Settings) (lane : ℕ) (sent : List Word) → lane_bits s lane sent 0 ≡ []
unfolding lane_bits lane_words bits_of_codes codes_behind
no_bits s lane sent = ap (λ n. bits_of_codes (codes_of (map (sent_at s (start_of (first_state lane)) sent) (range_with_len 0 n)))) (zero-mul s.metaframe)

no_groups : (g : ℕ) → 0 / g ≡ 0
no_groups g = let le = div-le_self 0 g in omega (arith, le)

no_lane : (s : Settings) (lane : ℕ) → stream_lane_bits s [] lane ≡ []
no_lane s lane = ap (lane_bits s lane (lane_payload s.lanes [] lane)) (no_groups (group_of s)) ∙ no_bits s lane (lane_payload s.lanes [] lane)

empty_file : IsFileOf [] []
empty_file = record { padding = 0; short = omega arith; holds = refl; each = λ k d lt. absurd (omega arith) }

blank_at : (names : List (List ℕ)) (i : ℕ) → get_or (blank names) i [] ≡ []
blank_at [] i = refl
blank_at (n ∷ names) zero = refl
blank_at (n ∷ names) (suc i) = blank_at names i

empty_lanes : (s : Settings) (prefix : List ℕ) → AreLaneFiles s [] (blank (lane_names prefix s.lanes))
empty_lanes s prefix = record {
  one_each = length-map (lane_names prefix s.lanes) (λ (n : List ℕ). []) ∙ length-map-range_with_len (lane_name prefix) 0 s.lanes;
  each = λ i lt. subst (λ (bytes : List ℕ). IsFileOf bytes (stream_lane_bits s [] i)) (sym (blank_at (lane_names prefix s.lanes) i)) (subst (IsFileOf []) (sym (no_lane s i)) empty_file);
}

pub no_words_no_bytes : NoWordsNoBytes
no_words_no_bytes i o none h =
    let s = i.plan.settings in
    let out = i.plan.out in
    let few = h.stripes.few in
    let stripes : Stripes s [] h.stream = subst (λ (ws : List Word). Stripes s ws h.stream) none h.stripes in
    let nothing : h.stream ≡ [] = stripe_once s [] h.stream [] stripes (stripes_whole s [] (omega (arith, few)) (no_rest (group_of s))) in
    one_list s out [] o.files (outs (lane_names out s.lanes) (blank (lane_names out s.lanes))) (subst (λ (w : List Word). AreLaneOutputs s out w o.files) nothing h.files)
    (blank (lane_names out s.lanes), empty_lanes s out, refl)
  where
    no_rest : (g : ℕ) → 0 % g ≡ 0
    no_rest g = omega arith
