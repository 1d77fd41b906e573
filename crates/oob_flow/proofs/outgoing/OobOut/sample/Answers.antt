use Rattle.std.proofs.Common.{◌≢◌, ◌≤◌, ℕ, Bool, List, false, length, map, get_or, refl, ap, ap₂, ◌∙◌, arith}
use Rattle.oob_flow.specs.Frames.{frame_bits, samples_of_bits}
use Rattle.oob_flow.specs.declared.outgoing.OobOut.{OobOut}
use Rattle.oob_flow.proofs.Showing.{IsReady, begins, goes_on, long, value, more_left, at_end}
use Rattle.oob_flow.proofs.outgoing.OobOut.sample.Goals as goal
use Rattle.oob_flow.proofs.outgoing.OobOut.sample.Goals.{then-self-eq0, else-self-eq0, then-given-len, else-given-len}

pub sample_at-sample-requires : goal.sample_at-sample-requires
sample_at-sample-requires c =
    let s = c.requires.stands.4 in
    let r : IsReady c.args.self.now c.if-self-eq0.self c.requires.stands.0 c.requires.stands.1 c.requires.stands.2 c.requires.stands.3 =
    elim c.if-self-eq0.branch [
      | then-self-eq0 w ↦ begins c.args.self.now c.if-self-eq0.self c.requires.stands.0 c.requires.stands.1 c.requires.stands.2 c.requires.stands.3 s w.if-self-eq0.true (ap (λ (o : OobOut). o.entries) w.self-is) (ap (λ (o : OobOut). o.on) w.self-is) (ap (λ (o : OobOut). o.given) w.self-is)
          (ap (λ (o : OobOut). o.frame.items) w.self-is ∙ w.fill.ensures ∙ ap₂ (λ (on : List Bool) (es : List ℕ). frame_bits (map (λ (channel : ℕ). get_or on channel false) es)) w.as_slice-then-self-eq0.ensures.value w.as_slice.ensures.value)
      | else-self-eq0 w ↦ goes_on c.args.self.now c.if-self-eq0.self c.requires.stands.0 c.requires.stands.1 c.requires.stands.2 c.requires.stands.3 s (let some : c.args.self.now.given ≢ 0 = w.if-self-eq0.false in omega arith) w.self-is
    ] in
    let l = long c.args.self.now c.if-self-eq0.self c.requires.stands.0 c.requires.stands.1 c.requires.stands.2 c.requires.stands.3 s r in
    omega (arith, ap length c.as_slice-2.ensures.value, r.given_same, s.within)

pub overflow_add-given : goal.overflow_add-given
overflow_add-given c =
    let s = c.requires.stands.4 in
    let r : IsReady c.args.self.now c.if-self-eq0.self c.requires.stands.0 c.requires.stands.1 c.requires.stands.2 c.requires.stands.3 =
    elim c.if-self-eq0.branch [
      | then-self-eq0 w ↦ begins c.args.self.now c.if-self-eq0.self c.requires.stands.0 c.requires.stands.1 c.requires.stands.2 c.requires.stands.3 s w.if-self-eq0.true (ap (λ (o : OobOut). o.entries) w.self-is) (ap (λ (o : OobOut). o.on) w.self-is) (ap (λ (o : OobOut). o.given) w.self-is)
          (ap (λ (o : OobOut). o.frame.items) w.self-is ∙ w.fill.ensures ∙ ap₂ (λ (on : List Bool) (es : List ℕ). frame_bits (map (λ (channel : ℕ). get_or on channel false) es)) w.as_slice-then-self-eq0.ensures.value w.as_slice.ensures.value)
      | else-self-eq0 w ↦ goes_on c.args.self.now c.if-self-eq0.self c.requires.stands.0 c.requires.stands.1 c.requires.stands.2 c.requires.stands.3 s (let some : c.args.self.now.given ≢ 0 = w.if-self-eq0.false in omega arith) w.self-is
    ] in
    let l = long c.args.self.now c.if-self-eq0.self c.requires.stands.0 c.requires.stands.1 c.requires.stands.2 c.requires.stands.3 s r in
    let few : length c.as_slice-2.result.now ≤ 1088 = c.as_slice-2.ensures.fits in
    omega (arith, ap length c.as_slice-2.ensures.value, r.given_same, s.within)

pub returns-clause-value : goal.returns-clause-value
returns-clause-value c entries states shown given s =
    let r : IsReady c.args.self.now c.if-self-eq0.self entries states shown given =
    elim c.if-self-eq0.branch [
      | then-self-eq0 w ↦ begins c.args.self.now c.if-self-eq0.self entries states shown given s w.if-self-eq0.true (ap (λ (o : OobOut). o.entries) w.self-is) (ap (λ (o : OobOut). o.on) w.self-is) (ap (λ (o : OobOut). o.given) w.self-is)
          (ap (λ (o : OobOut). o.frame.items) w.self-is ∙ w.fill.ensures ∙ ap₂ (λ (on : List Bool) (es : List ℕ). frame_bits (map (λ (channel : ℕ). get_or on channel false) es)) w.as_slice-then-self-eq0.ensures.value w.as_slice.ensures.value)
      | else-self-eq0 w ↦ goes_on c.args.self.now c.if-self-eq0.self entries states shown given s (let some : c.args.self.now.given ≢ 0 = w.if-self-eq0.false in omega arith) w.self-is
    ] in
    value c.args.self.now c.if-self-eq0.self entries states shown given s c.sample_at-sample.result r
    (c.sample_at-sample.ensures ∙ ap (λ (bits : List Bool). get_or (samples_of_bits bits) c.if-self-eq0.self.given 0) c.as_slice-2.ensures.value)

pub returns-clause-stands : goal.returns-clause-stands
returns-clause-stands c entries states shown given s =
    let r : IsReady c.args.self.now c.if-self-eq0.self entries states shown given =
    elim c.if-self-eq0.branch [
      | then-self-eq0 w ↦ begins c.args.self.now c.if-self-eq0.self entries states shown given s w.if-self-eq0.true (ap (λ (o : OobOut). o.entries) w.self-is) (ap (λ (o : OobOut). o.on) w.self-is) (ap (λ (o : OobOut). o.given) w.self-is)
          (ap (λ (o : OobOut). o.frame.items) w.self-is ∙ w.fill.ensures ∙ ap₂ (λ (on : List Bool) (es : List ℕ). frame_bits (map (λ (channel : ℕ). get_or on channel false) es)) w.as_slice-then-self-eq0.ensures.value w.as_slice.ensures.value)
      | else-self-eq0 w ↦ goes_on c.args.self.now c.if-self-eq0.self entries states shown given s (let some : c.args.self.now.given ≢ 0 = w.if-self-eq0.false in omega arith) w.self-is
    ] in
    let new : OobOut = record { entries = c.if-self-eq0.self.entries; on = c.if-self-eq0.self.on; frame = c.if-self-eq0.self.frame; given = c.if-given-len.self } in
    elim c.if-given-len.branch [
      | then-given-len w ↦ more_left c.args.self.now c.if-self-eq0.self entries states shown given s new r refl refl refl w.self-is (omega (arith, w.if-given-len.true, c.len.ensures.value))
      | else-given-len w ↦ at_end c.args.self.now c.if-self-eq0.self entries states shown given s new r refl refl refl w.self-is (omega (arith, w.if-given-len.false, c.len.ensures.value))
    ]
