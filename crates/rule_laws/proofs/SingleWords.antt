-- The fields of each control word of a stream, and its checksum.
use Rattle.std.proofs.Common.{ℕ, ◌≡◌, inl, inr, Bool, true, false, not, ◌&&◌, ◌||◌, ◌==◌, List, [], ◌∷◌, length, All, Contains, refl, sym, ap, ◌∙◌, eqb-true, eq-eqb}
use Rattle.std.specs.List.{list_any}
use Rattle.std.proofs.lemmas.Bool.{and_left, and_right, or_left, or_right}
use Rattle.lk_base.specs.Words.{is_bad}
use Rattle.lk_base.specs.Fields.{burst_field, channel_field, multi_field, crc_field, has_burst, has_sop, channel_number, is_control_word}
use Rattle.lk_base.specs.Checksum.{control_crc}
use Rattle.lk_base.specs.declared.word.Word.{Word}
use Rattle.lk_base.specs.declared.word.RxWord.{RxWord}
use Rattle.lk_base.proofs.Lists.{contains_none, contains_cons}
use Rattle.stream_model.specs.Calendar.{is_on}
use Rattle.stream_model.specs.BurstStream.{Source, data_since, IsReady}
use Rattle.stream_model.proofs.Blocks.{bit_cases, data_since_block}
use Rattle.stream_model.proofs.BurstsHold.{of_all, narrow_right}
use Rattle.delivery_laws.specs.LawOnWords.{NumbersFit}
use Rattle.receive_model.specs.Stretches.{has_wrong_crc}
use Rattle.receive_model.proofs.Cuts.{split}
use Rattle.word_rules.specs.declared.limits.WordLimits.{WordLimits}
use Rattle.word_rules.specs.Places.{is_burst_word, since_control}
use Rattle.word_rules.specs.Rules.{breaks_control, covered, breaks_crc, is_listed, breaks_channel, breaks_idle, breaks_multi, breaks_off}
use Rattle.rule_laws.proofs.Places.{Blocks, Start, More, right_of}
use Rattle.rule_laws.proofs.Behind.{covered_of}
use Rattle.rule_laws.proofs.Facts.{accepted_at, same_length}
use Rattle.rule_laws.proofs.Carrying.{number_at}

covered_start : covered [] ≡ data_since []
unfolding data_since
covered_start = refl

covered_is : (source : Source) (p : List Word) (e : List RxWord) (x : ℕ) → Blocks source p e x → covered e ≡ data_since p
covered_is source _ _ _ (Start x right) = covered_start
covered_is source _ _ _ (More p e y xs x before right closed) = covered_of xs y e ∙ sym (data_since_block p y _)

listed_from : (channels : List ℕ) (channel : ℕ) → Contains channels channel → is_listed channels channel ≡ true
listed_from [] channel h = absurd (contains_none channel h)
listed_from (c ∷ channels) channel h = elim (contains_cons c channel channels h) [
  | inl e ↦ or_left (c == channel) (is_listed channels channel) (eq-eqb c channel (sym e))
  | inr later ↦ or_right (c == channel) (is_listed channels channel) (listed_from channels channel later)
]

module _ (source : Source) (p : List Word) (e : List RxWord) (x : ℕ) (before : Blocks source p e x) where
  pub keeps_control : breaks_control x ≡ false
  keeps_control = ap not (accepted_at source p e x before)

  pub keeps_crc : breaks_crc e x ≡ false
  keeps_crc =
      let right : crc_field x ≡ control_crc (covered e) x = (right_of source p e x before).checksum ∙ ap (λ (ws : List ℕ). control_crc ws x) (sym (covered_is source p e x before)) in
      and_right (not (list_any is_bad (since_control e))) (has_wrong_crc (covered e) x) (ap not (eq-eqb (crc_field x) (control_crc (covered e) x) right))

  pub keeps_idle : breaks_idle x ≡ false
  keeps_idle =
      let right = right_of source p e x before in
      elim (bit_cases x) [
        | inl idle ↦ (
            let two = right.idle idle in
            let multi = right.multi idle in
            and_right (is_control_word x && not (has_burst x)) (has_sop x || (not (channel_field x == 0) || not (multi_field x == 0))) (rw (two.0, two.1, multi) refl))
        | inr burst ↦ and_left (is_control_word x && not (has_burst x)) (has_sop x || (not (channel_field x == 0) || not (multi_field x == 0))) (and_right (is_control_word x) (not (has_burst x)) (rw burst refl))
      ]

  -- what holds of burst words
  at_burst : (test : Bool) → (burst_field x ≡ 1 → test ≡ false) → (is_burst_word x && test) ≡ false
  at_burst test h = split (has_burst x)
      (λ t. and_right (is_burst_word x) test (h (eqb-true (burst_field x) 1 t)))
      (λ t. and_left (is_burst_word x) test (and_right (is_control_word x) (has_burst x) t))

  pub keeps_multi : (s : WordLimits) → NumbersFit s.wide source → breaks_multi s x ≡ false
  keeps_multi s fit = by s.wide fit
    where
      by : (wide : Bool) → NumbersFit wide source → (not wide && (is_burst_word x && not (multi_field x == 0))) ≡ false
      by true fit = refl
      by false fit = (let none = (narrow_right source p x fit (right_of source p e x before)).1 in and_right (is_burst_word x) (not (multi_field x == 0)) (rw none refl))

  pub keeps_channel : (s : WordLimits) (channels : List ℕ) → NumbersFit s.wide source → All (Contains channels) source.channels → breaks_channel s channels x ≡ false
  keeps_channel s channels fit listed = at_burst (not (is_listed channels (channel_number s.wide x))) (λ burst.
      let right = right_of source p e x before in
      let ready : IsReady source p (channel_number true x) = right.ready burst in
      let here : Contains channels (channel_number true x) = of_all (Contains channels) source.channels (channel_number true x) listed ready.known in
      ap not (ap (is_listed channels) (number_at source s.wide p x fit right) ∙ listed_from channels (channel_number true x) here))

  pub keeps_off : (s : WordLimits) (channels : List ℕ) → NumbersFit s.wide source → breaks_off s channels source.entries source.flow e x ≡ false
  keeps_off s channels fit = at_burst (is_listed channels (channel_number s.wide x) && not (is_on source.entries source.flow (channel_number s.wide x) (length e))) (λ burst.
      let right = right_of source p e x before in
      let ready : IsReady source p (channel_number true x) = right.ready burst in
      let on : is_on source.entries source.flow (channel_number s.wide x) (length e) ≡ true =
      ap (λ (c : ℕ). is_on source.entries source.flow c (length e)) (number_at source s.wide p x fit right)
      ∙ ap (is_on source.entries source.flow (channel_number true x)) (same_length source p e x before) ∙ ready.on in
      and_right (is_listed channels (channel_number s.wide x)) (not (is_on source.entries source.flow (channel_number s.wide x) (length e))) (ap not on))
