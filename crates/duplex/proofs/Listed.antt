-- The bursts of an open stream are on listed channels.
use Rattle.std.proofs.Common.{◌≡◌, inl, inr, ℕ, zero, suc, ◌<◌, ◌≤◌, Bool, true, false, List, length, Contains, ◌==◌, Some, if◌then◌else◌, sym, ap, ◌∙◌, subst, arith, eqb-true}
use Rattle.std.proofs.lemmas.Bool.{cases_lt, and_parts}
use Rattle.std.proofs.lemmas.List.{get_or_past}
use Rattle.lk_base.specs.Fields.{channel_number, has_burst}
use Rattle.lk_base.specs.Words.{is_data, is_control, word_at}
use Rattle.lk_base.specs.declared.word.Word.{Word}
use Rattle.lk_base.specs.declared.word.Word.TheVariants.{Control}
use Rattle.stream_model.specs.BurstStream.{Source, is_burst_on}
use Rattle.stream_model.proofs.OneStream.{burst_word}
use Rattle.duplex_model.specs.OpenStream.{IsOpenStream}
use Rattle.duplex_model.specs.DuplexRun.{last_control}
use Rattle.duplex_model.proofs.Runs.{at_word, IsData, IsControl, word_cases}
use Rattle.duplex.specs.Sides.{AreListed}

-- a word that starts a burst
word_listed : (source : Source) (w : List Word) (channel t : ℕ) → IsOpenStream source w → t < length w → is_burst_on channel (word_at w t) ≡ true → Contains source.channels channel
word_listed source w channel t stream within on = elim (word_cases (word_at w t)) [
  | IsData x e ↦ (let none : false ≡ true = sym (ap (is_burst_on channel) e) ∙ on in cc)
  | IsControl x e ↦ (
      let parts = and_parts (has_burst x) (channel_number true x == channel) (sym (ap (is_burst_on channel) e) ∙ on) in
      let known = ((stream.controls t x (at_word w t within ∙ ap Some e)).ready (burst_word x parts.0)).known in
      subst (Contains source.channels) (eqb-true (channel_number true x) channel parts.1) known)
]

last_listed : (source : Source) (w : List Word) (channel t : ℕ) → IsOpenStream source w → t ≤ length w → is_burst_on channel (last_control w t) ≡ true → Contains source.channels channel
unfolding last_control
last_listed source w channel zero stream within on = cc
last_listed source w channel (suc t) stream within on = by (is_control (word_at w t)) (last_listed source w channel t stream (omega (arith, within))) on
  where
    by : (b : Bool) → (is_burst_on channel (last_control w t) ≡ true → Contains source.channels channel) → is_burst_on channel (if b then word_at w t else last_control w t) ≡ true → Contains source.channels channel
    by true rest on = word_listed source w channel t stream (omega (arith, within)) on
    by false rest on = rest on

pub bursts_listed : (source : Source) (w : List Word) → IsOpenStream source w → AreListed source.channels w
bursts_listed source w stream channel slot on =
    let parts = and_parts (is_data (word_at w slot)) (is_burst_on channel (last_control w slot)) on in
    elim (cases_lt slot (length w)) [
      | inl within ↦ last_listed source w channel slot stream (omega (arith, within)) parts.1
      | inr past ↦ (let none : false ≡ true = ap is_data (sym (get_or_past w slot (Control 0) past)) ∙ parts.0 in cc)
    ]
