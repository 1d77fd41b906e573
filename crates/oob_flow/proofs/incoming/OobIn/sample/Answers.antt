use Rattle.std.proofs.Common.{◌≡◌, ◌==◌, ◌%◌, ◌++◌, ◌&&◌, not, false, ℕ, List, length, refl, sym, ap, ◌∙◌, subst, append-nil}
use Rattle.oob_flow.specs.Samples.{clock_of, data_of, sync_of}
use Rattle.oob_flow.specs.Taken.{Taken, taken}
use Rattle.oob_flow.specs.Reading.{rows_at, rows_of_bits, rows_of_samples}
use Rattle.oob_flow.specs.Receiving.{HasTaken}
use Rattle.oob_flow.specs.declared.incoming.OobIn.{OobIn}
use Rattle.oob_flow.proofs.OneBit.{same_taken}
use Rattle.oob_flow.proofs.OneSample.{clock_is, clock_push, taken_one, taken_none, rises_on, rises_off}
use Rattle.oob_flow.proofs.incoming.OobIn.sample.Goals as goal
use Rattle.oob_flow.proofs.incoming.OobIn.sample.Goals.{then-clock, else-clock}

pub take-requires-clause-stands : goal.take-requires-clause-stands
take-requires-clause-stands c =
    let s = c.requires.stands.2 in
    (c.requires.stands.0, taken c.requires.stands.1, same_taken c.args.self.now (record { entries = c.args.self.now.entries; clock = c.args.byte % 2 == 1; left = c.args.self.now.left; block = c.args.self.now.block }) c.requires.stands.0 (taken c.requires.stands.1) refl refl refl s.bits)

pub returns-then-rises-clause-stands : goal.returns-then-rises-clause-stands
returns-then-rises-clause-stands c entries samples s =
    let before : OobIn = record { entries = c.args.self.now.entries; clock = c.args.byte % 2 == 1; left = c.args.self.now.left; block = c.args.self.now.block } in
    let rises : (clock_of c.args.byte && not c.args.self.now.clock) ≡ c.if-clock.rises = elim c.if-clock.branch [
      | then-clock w ↦ rises_on c.args.byte c.args.self.now.clock c.if-clock.rises w.if-clock.true w.rises-is
      | else-clock w ↦ rises_off c.args.byte c.args.self.now.clock c.if-clock.rises w.if-clock.false w.rises-is
    ] in
    let b : Taken = record { number = length samples; state = data_of c.args.byte; sync = sync_of c.args.byte } in
    record {
      clock = c.take.ensures.clock ∙ clock_is c.args.byte ∙ sym (clock_push false samples c.args.byte);
      bits = subst (HasTaken c.take.new.self entries) (sym (taken_one c.args.self.now entries samples c.args.byte s (rises ∙ c.if-rises.true))) (c.take.ensures.stands entries (taken samples) b refl refl (same_taken c.args.self.now before entries (taken samples) refl refl refl s.bits));
    }

pub returns-then-rises-clause-rows : goal.returns-then-rises-clause-rows
unfolding rows_of_samples
returns-then-rises-clause-rows c entries samples s =
    let before : OobIn = record { entries = c.args.self.now.entries; clock = c.args.byte % 2 == 1; left = c.args.self.now.left; block = c.args.self.now.block } in
    let rises : (clock_of c.args.byte && not c.args.self.now.clock) ≡ c.if-clock.rises = elim c.if-clock.branch [
      | then-clock w ↦ rises_on c.args.byte c.args.self.now.clock c.if-clock.rises w.if-clock.true w.rises-is
      | else-clock w ↦ rises_off c.args.byte c.args.self.now.clock c.if-clock.rises w.if-clock.false w.rises-is
    ] in
    let b : Taken = record { number = length samples; state = data_of c.args.byte; sync = sync_of c.args.byte } in
    ap (rows_of_bits entries) (taken_one c.args.self.now entries samples c.args.byte s (rises ∙ c.if-rises.true)) ∙ c.take.ensures.rows entries (taken samples) b refl refl (same_taken c.args.self.now before entries (taken samples) refl refl refl s.bits)

pub returns-else-rises-clause-stands : goal.returns-else-rises-clause-stands
returns-else-rises-clause-stands c entries samples s =
    let before : OobIn = record { entries = c.args.self.now.entries; clock = c.args.byte % 2 == 1; left = c.args.self.now.left; block = c.args.self.now.block } in
    let rises : (clock_of c.args.byte && not c.args.self.now.clock) ≡ c.if-clock.rises = elim c.if-clock.branch [
      | then-clock w ↦ rises_on c.args.byte c.args.self.now.clock c.if-clock.rises w.if-clock.true w.rises-is
      | else-clock w ↦ rises_off c.args.byte c.args.self.now.clock c.if-clock.rises w.if-clock.false w.rises-is
    ] in
    record {
      clock = clock_is c.args.byte ∙ sym (clock_push false samples c.args.byte);
      bits = subst (HasTaken before entries) (sym (taken_none c.args.self.now entries samples c.args.byte s (rises ∙ c.if-rises.false))) (same_taken c.args.self.now before entries (taken samples) refl refl refl s.bits);
    }

pub returns-else-rises-clause-rows : goal.returns-else-rises-clause-rows
unfolding rows_of_samples
returns-else-rises-clause-rows c entries samples s =
    let rises : (clock_of c.args.byte && not c.args.self.now.clock) ≡ c.if-clock.rises = elim c.if-clock.branch [
      | then-clock w ↦ rises_on c.args.byte c.args.self.now.clock c.if-clock.rises w.if-clock.true w.rises-is
      | else-clock w ↦ rises_off c.args.byte c.args.self.now.clock c.if-clock.rises w.if-clock.false w.rises-is
    ] in
    ap (rows_of_bits entries) (taken_none c.args.self.now entries samples c.args.byte s (rises ∙ c.if-rises.false))
    ∙ sym (ap (λ (words : List ℕ). rows_of_bits entries (taken samples) ++ rows_at (length samples) words) c.requires.empty ∙ append-nil (rows_of_bits entries (taken samples)))
