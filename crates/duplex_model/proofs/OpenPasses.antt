-- Each stretch of an open stream passes, so its words that come as they were sent deliver the packets whose end word is
-- among them.
use Rattle.std.proofs.Common.{ℕ, ◌≡◌, inl, inr, ◌+◌, ◌<◌, refl, sym, ap, ◌∙◌, subst, true, false, not, ◌&&◌, List, [], ◌∷◌, ◌++◌, append_assoc, append-nil, map, filter, length, None, is_none, arith, eqb-true, eq-eqb}
use Rattle.std.proofs.lemmas.Bool.{cases_lt}
use Rattle.std.proofs.lemmas.List.{length_push}
use Rattle.std.proofs.Math.Seq.{take-append_seam}
use Rattle.lk_base.specs.Words.{block, is_data, word_at, as_sent}
use Rattle.lk_base.specs.Fields.{burst_field, eop_field, channel_number, has_burst, has_end, is_control_word}
use Rattle.lk_base.specs.Checksum.{control_crc}
use Rattle.lk_base.specs.declared.position.Pos.{Pos}
use Rattle.lk_base.specs.declared.word.Word.{Word}
use Rattle.lk_base.specs.declared.word.Word.TheVariants.{Data, Control}
use Rattle.lk_base.specs.declared.word.RxWord.TheVariants as received
use Rattle.stream_model.specs.BurstStream.{Source, is_burst, packets_of, chunks_of, data_words, StandsInBurst, IsRightControl}
use Rattle.stream_model.proofs.Blocks.{bit_cases, data_since_block, end_format_block}
use Rattle.stream_model.proofs.Bursts.{Open, Closed, run_cases, IsCarried, at_seam}
use Rattle.receive_model.specs.Lists.{neighbours}
use Rattle.receive_model.specs.Positions.{Placed, placed_at, numbered}
use Rattle.receive_model.specs.Stretches.{between, passes, is_no_control, any_bad, data_among, has_some, fault_from, fault_of, last_word, verified}
use Rattle.receive_model.specs.Pieces.{packets}
use Rattle.receive_model.specs.Events.{Setting, is_listed, delivered, word_events, words_epoch}
use Rattle.receive_model.proofs.Cuts.{same}
use Rattle.delivery_laws.specs.Law.{sent_stretches, word_items}
use Rattle.delivery_laws.specs.LawOnWords.{EachIsPacket, NumbersFit}
use Rattle.delivery_laws.specs.SentPackets.{sent_packets}
use Rattle.delivery_laws.proofs.Clean.{AllPass, all_kept, accepted, no_bad, no_fault, last_word_at, some_words, some-chunks, some-get}
use Rattle.delivery_laws.proofs.InAFile.{numbered_rise}
use Rattle.delivery_laws.proofs.Links.{heads_at, head_at, heads-data, heads-control, next_head, data_between}
use Rattle.delivery_laws.proofs.ManyEpochs.{all-verified}
use Rattle.delivery_laws.proofs.Outputs.{word_events-packets}
use Rattle.duplex_model.specs.OpenStream.{IsOpenStream}
use Rattle.duplex_model.proofs.Fronts.{right_behind}
use Rattle.duplex_model.proofs.OpenCarried.{closed, no_heads, shows_the_sent}

-- data stand after a burst word alone
behind_burst : (source : Source) (p : List Word) (x d : ℕ) (q : List Word) → IsOpenStream source (p ++ Control x ∷ Data d ∷ q) → burst_field x ≡ 1
behind_burst source p x d q stream =
    let front : List Word = p ++ Control x ∷ [] in
    let whole : front ++ Data d ∷ q ≡ p ++ Control x ∷ Data d ∷ q = append_assoc p (Control x ∷ []) (Data d ∷ q) in
    let same_stream : IsOpenStream source (front ++ Data d ∷ q) = subst (λ (v : List Word). IsOpenStream source v) (sym whole) stream in
    let stands : StandsInBurst front = subst (λ (v : List Word). StandsInBurst v) (take-append_seam front (Data d ∷ q)) (same_stream.data_in_bursts (length front) d (at_seam front (Data d) q)) in
    let long : length front ≡ length p + 1 = length_push p (Control x) in
    elim (cases_lt stands.0 (length p)) [
      | inl h ↦ (let e : is_data (word_at front (length p)) ≡ true = stands.3 (length p) h (omega (arith, long)) in
          let f : is_data (Control x) ≡ true = ap is_data (sym (last_word_at p x)) ∙ e in cc)
      | inr h ↦ (let below : stands.0 < length front = stands.1 in
          let at : stands.0 ≡ length p = omega (arith, below, long, h) in
          let e : is_burst (Control x) ≡ true = ap is_burst (sym (last_word_at p x)) ∙ ap (λ n. is_burst (word_at front n)) (sym at) ∙ stands.2 in
          eqb-true (burst_field x) 1 e)
    ]

module _ (place : ℕ → Pos) (source : Source) (m : ℕ) (each : EachIsPacket m source) where
  right_end : (p : List Word) (x : ℕ) (ds : List ℕ) (y : ℕ) (rest : List Word) → IsOpenStream source (p ++ Control x ∷ (map Data ds ++ Control y ∷ rest)) → IsRightControl source (p ++ block x ds) y
  right_end p x ds y rest stream = right_behind source (p ++ block x ds) y rest (subst (λ (v : List Word). IsOpenStream source v) (sym (append_assoc p (block x ds) (Control y ∷ rest))) stream)

  not_empty : (x : ℕ) (rest : List Word) (y : ℕ) (ds : List ℕ) → has_some ds ≡ true → (z : ℕ) (later : List Word) → Control y ∷ rest ≡ map Data ds ++ Control z ∷ later → ⊥
  not_empty x rest y [] h z later e = cc
  not_empty x rest y (d ∷ ds) h z later e = cc

  -- an end comes after data alone
  end_behind : (p : List Word) (x : ℕ) (ds : List ℕ) (y : ℕ) (rest : List Word) → IsOpenStream source (p ++ Control x ∷ (map Data ds ++ Control y ∷ rest)) → (has_end y && not (has_some ds)) ≡ false
  end_behind p x (d ∷ ds) y rest stream = elim (has_end y) as (λ b. (b && false) ≡ false) [ true ↦ refl | false ↦ refl ]
  end_behind p x [] y rest stream = elim (bit_cases x) [
    | inl idle ↦ (let right = right_end p x [] y rest stream in
        let none : eop_field y ≡ 0 = right.end ∙ end_format_block source p x [] ∙ rw idle refl in
        rw none refl)
    | inr burst ↦ (let c : IsCarried source p x (Control y ∷ rest) = closed source p x [] y rest stream burst in
        let some : 0 < length c.chunk.bytes = some-get (chunks_of source (channel_number true x)) _ c.chunk (some-chunks source.shape (packets_of source (channel_number true x))) c.next in
        absurd (not_empty x rest y (data_words c.chunk.bytes) (some_words c.chunk.bytes some) c.end_word c.rest c.words))
  ]

  data_behind : (p : List Word) (x : ℕ) (ds : List ℕ) (q : List Word) → IsOpenStream source (p ++ Control x ∷ (map Data ds ++ q)) → (has_some ds && not (is_control_word x && has_burst x)) ≡ false
  data_behind p x [] q stream = refl
  data_behind p x (d ∷ ds) q stream =
      rw (accepted source p x (right_behind source p x (Data d ∷ (map Data ds ++ q)) stream), eq-eqb (burst_field x) 1 (behind_burst source p x d (map Data ds ++ q) stream)) refl

  stretch_right : (p : List Word) (x : ℕ) (ds : List ℕ) (y : ℕ) (rest : List Word) → IsOpenStream source (p ++ Control x ∷ (map Data ds ++ Control y ∷ rest)) → fault_from false x ds y ≡ None
  stretch_right p x ds y rest stream =
      let right = right_end p x ds y rest stream in
      no_fault x y ds (right.checksum ∙ ap (λ r. control_crc r y) (data_since_block p x ds))
      (rw (accepted source (p ++ block x ds) y right, data_behind p x ds (Control y ∷ rest) stream, end_behind p x ds y rest stream) refl)

  one_passes : (p : List Word) (x : ℕ) (q : List Word) (ds : List ℕ) (y : ℕ) (later : List Word) → q ≡ map Data ds ++ Control y ∷ later → IsOpenStream source (p ++ Control x ∷ q)
      → AllPass (map between (neighbours (heads_at place (length p + 1) q))) → AllPass (map between (neighbours (head_at place (length p) x q ∷ heads_at place (length p + 1) q)))
  one_passes p x q ds y later e stream rest =
      let n : ℕ = length p in
      let at : Placed = record { at = place n; word = received.Control x } in
      let same_stream : IsOpenStream source (p ++ Control x ∷ (map Data ds ++ Control y ∷ later)) = subst (λ (v : List Word). IsOpenStream source (p ++ Control x ∷ v)) e stream in
      let h = next_head place (n + 1) y ds later in
      let heads : heads_at place (n + 1) q ≡ h.0 ∷ h.1 = ap (heads_at place (n + 1)) e ∙ h.2 in
      let words : data_among (head_at place n x q).following ≡ ds = ap (λ r. data_among (same is_no_control at (placed_at place (n + 1) (map as_sent r)))) e ∙ data_between place at (n + 1) y ds later in
      let clean : any_bad (head_at place n x q).following ≡ false = ap (λ r. any_bad (same is_no_control at (placed_at place (n + 1) (map as_sent r)))) e ∙ no_bad place at (n + 1) y ds later in
      let fault : fault_of (between (head_at place n x q, h.0)) ≡ None = rw (clean, words, h.3) (stretch_right p x ds y later same_stream) in
      rw heads (ap is_none fault, rw heads at rest)

  behind_word : (p : List Word) (x : ℕ) (q : List Word) → IsOpenStream source (p ++ Control x ∷ q)
      → AllPass (map between (neighbours (heads_at place (length p + 1) q))) → AllPass (map between (neighbours (head_at place (length p) x q ∷ heads_at place (length p + 1) q)))
  behind_word p x q stream rest = elim (run_cases q) [
    | Open ds e ↦ rw (ap (heads_at place (length p + 1)) e ∙ no_heads place (length p + 1) ds) tt
    | Closed ds y later e ↦ one_passes p x q ds y later e stream rest
  ]

  all_pass : (p q : List Word) → IsOpenStream source (p ++ q) → AllPass (map between (neighbours (heads_at place (length p) q)))
  all_pass p [] stream = tt
  all_pass p (Data x ∷ q) stream =
      let rest = rw (length_push p (Data x)) at (all_pass (p ++ Data x ∷ []) q (rw (append_assoc p (Data x ∷ []) q) stream)) in
      rw (heads-data place (length p) x q) rest
  all_pass p (Control x ∷ q) stream =
      let rest = rw (length_push p (Control x)) at (all_pass (p ++ Control x ∷ []) q (rw (append_assoc p (Control x ∷ []) q) stream)) in
      rw (heads-control place (length p) x q) (behind_word p x q stream rest)

-- the verified words of an open stream that comes as it was sent are those after all its stretches
all_verified : (source : Source) (m : ℕ) (w : List Word) → EachIsPacket m source → IsOpenStream source w → verified (word_items (map as_sent w)) ≡ map last_word (sent_stretches w)
all_verified source m w each stream =
    all-verified (words_epoch (map as_sent w) ∷ [])
    ∙ append-nil (map last_word (filter passes (sent_stretches w)))
    ∙ ap (map last_word) (all_kept (sent_stretches w) (all_pass numbered source m each [] w stream))

pub open_words_deliver : (source : Source) (setting : Setting) (channel : ℕ) (w : List Word) → is_listed setting channel ≡ true → NumbersFit setting.wide source → IsOpenStream source w → EachIsPacket setting.max_packet source →
    delivered channel (word_events setting (map as_sent w)) ≡ sent_packets source channel w
open_words_deliver source setting channel w listed numbers stream each =
    word_events-packets setting channel (map as_sent w) listed
    ∙ ap (packets setting.wide setting.max_packet channel) (all_verified source setting.max_packet w each stream)
    ∙ shows_the_sent numbered source setting.wide setting.max_packet channel w numbered_rise numbers stream each
