-- The first words are coded, and one more in each turn; then the last three bytes follow.
use Rattle.std.proofs.Common.{ℕ, ◌≡◌, ◌+◌, ◌*◌, ◌++◌, ◌<◌, ◌^◌, ◌∙◌, All, Bool, List, [], take, length, sym, ap, subst, append_assoc, arith}
use Rattle.std.proofs.lemmas.Grind.{flat_map-append}
use Rattle.std.proofs.lemmas.List.{take_all}
use Rattle.std.proofs.lemmas.List.Elements.{All-from_get_or, All-take}
use Rattle.lk_base.specs.Checksum.{bits_of, bits_of_bytes}
use Rattle.lk_base.specs.declared.word.Word.{Word}
use Rattle.metaframe.specs.Progress.{passed_payloads}
use Rattle.tx_end.specs.Lanes.{Carries}
use Rattle.tx_end.proofs.LaneSteps.{after_first, bytes_before, none_put, one_put, rest_given}
use Rattle.tx_end.proofs.lane_writer.LaneWriter.put_eight.Goals as goal

-- the bits of these bytes behind others
behind : (before old new : List ℕ) (codes : List Bool) → bits_of_bytes new ≡ bits_of_bytes old ++ codes → bits_of_bytes (before ++ new) ≡ bits_of_bytes (before ++ old) ++ codes
behind before old new codes e =
    flat_map-append (bits_of 8) before new
    ∙ ap (λ (b : List Bool). bits_of_bytes before ++ b) e
    ∙ sym (append_assoc (bits_of_bytes before) (bits_of_bytes old) codes)
    ∙ ap (λ (b : List Bool). b ++ codes) (sym (flat_map-append (bits_of 8) before old))

pub loop-place-init : goal.loop-place-init
loop-place-init c =
    let at = c.args.at in
    let z : at + 0 ≡ at = omega arith in
    record {
      carries = λ s lane given made before k.
          rw z (none_put c.args.self.now s lane made c.key-key.result given c.args.words.now (before ++ take at c.args.bytes.now) c.new-bits.result (sym c.key-key.ensures) (c.requires.empty ∙ sym c.new-bits.ensures) k);
      count = ap length c.new-bits.ensures;
    }

pub loop-place-preserved : goal.loop-place-preserved
loop-place-preserved c =
    let at = c.args.at in
    let n = c.loop-place.place in
    let words = c.args.words.now in
    let i = c.loop-place.invariant in
    let here = c.loop-place-test.true in
    let long = c.told-words in
    let more = c.push.ensures.count in
    let less = c.take_64.ensures.count in
    let e : at + 8 * (n + 1) ≡ at + 8 * n + 8 = omega arith in
    record {
      carries = λ s lane given made before k.
          rw e
          (one_put c.args.self.now s lane made c.loop-place.key c.under_key.new.key c.loop-place.encoder c.encode.new.self given words n _ c.under_key.result (take (at + 8 * n) c.loop-place.bytes) (take (at + 8 * n + 8) c.put_number.new.bytes) c.loop-place.bits c.push.new.self
          c.take_64.new.self c.encode.result c.take_64.result c.requires.wants here (omega (arith, here, long)) c.under_key.ensures.writes c.encode.ensures.codes c.push.ensures.bits c.take_64.ensures.bits c.put_number.ensures before (i.carries s lane given made before k));
      count = omega (arith, i.count, more, less);
    }

pub returns-clause-carries : goal.returns-clause-carries
returns-clause-carries c s lane given made before k =
    let l = c.args.self.now in
    let at = c.args.at in
    let n = c.loop-place.place in
    let words = c.args.words.now in
    let key = c.loop-place.key in
    let encoder = c.loop-place.encoder in
    let bits = c.loop-place.bits in
    let over = c.loop-place-test.false in
    let end = c.loop-place.auto.place-end in
    let eight : n ≡ 8 = omega (arith, over, end) in
    let old : List ℕ = take (at + 64) c.loop-place.bytes in
    let new : List ℕ = take (at + 67) c.put_rest.new.bytes in
    let small : All (λ (b : ℕ). b < 2 ^ 8) c.put_rest.new.bytes = All-from_get_or (λ (b : ℕ). b < 2 ^ 8) c.put_rest.new.bytes 0 (λ m lt. (c.type_inv.bytes m).fits) in
    let coded = subst (λ (m : ℕ). Carries (after_first l key encoder bits words m) s lane (given ++ take m words) (made + m) (before ++ take (at + 8 * m) c.loop-place.bytes)) eight (c.loop-place.invariant.carries s lane given made before k) in
    let e : at + 67 ≡ at + 64 + 3 = omega arith in
    let rest : bits_of_bytes new ≡ bits_of_bytes old ++ bits = ap (λ (m : ℕ). bits_of_bytes (take m c.put_rest.new.bytes)) e ∙ c.put_rest.ensures in
    let whole = rest_given (after_first l key encoder bits words 8) s lane (made + 8) (given ++ take 8 words) (before ++ old) (before ++ new) (behind before old new bits rest)
    (bytes_before before old new coded.each (All-take (λ (b : ℕ). b < 2 ^ 8) (at + 67) c.put_rest.new.bytes small)) coded in
    rw (c.pass_eight.ensures, c.requires.empty)
    (subst (λ (ws : List Word). Carries (record { framing = passed_payloads l.framing key ws; encoder = encoder; bits = [] }) s lane (given ++ ws) (made + 8) (before ++ new)) (take_all 8 words (omega (arith, c.told-words))) whole)
