-- The two works: what they come to is lawful.
use Rattle.std.proofs.Common.{◌≡◌, ℕ, zero, suc, ◌≤◌, true, List, [], ◌∷◌, nat_le, refl, sym, ap, ◌∙◌, arith, All, inr}
use Rattle.std.specs.List.{list_all}
use Rattle.std.proofs.lemmas.Bool.{and_parts, leb-true}
use Rattle.stream_model.specs.declared.rows.LocalRow.{LocalRow}
use Rattle.link_plan.specs.Listing.{is_listed}
use Rattle.link_plan.specs.Timed.{is_local}
use Rattle.run_shell.specs.Meaning.{IsMeaning}
use Rattle.run_shell.specs.Outcome.{Outcome}
use Rattle.run_shell.specs.Work.{IsWork}
use Rattle.run_shell.proofs.Works.{is_meaning}
use Rattle.oob_flow.specs.Written.{AreWritten}
use Rattle.oob_flow.proofs.Writings.{one, written}
use Rattle.oob_commands.specs.WriteSamples.{LocalReading, IsOfSamples, samples_outcome, oob_write_work, oob_write_meaning}
use Rattle.oob_commands.specs.ReadRows.{rows_outcome, oob_read_work, oob_read_meaning}

-- ---- the works are works

pub write_work : (name : List ℕ) → IsWork (oob_write_work name)
write_work name = record {
  one_made = λ i o p h k. h.is ∙ ap (samples_outcome i.plan.out) (one i.plan.entries i.local h.samples k.samples h.written k.written) ∙ sym k.is;
  some_made = λ files bytes i is. made i (written i.plan.entries i.local);
  made_status = λ i o h. inr (ap (λ (p : Outcome). p.status) h.is, λ x. x);
}
  where
    made : (i : LocalReading) → (samples : List ℕ) × AreWritten i.plan.entries i.local samples → (o : Outcome) × IsOfSamples i o
    made i (samples, are) = (samples_outcome i.plan.out samples, record { samples = samples; written = are; is = refl })

pub write_means : (name : List ℕ) → IsMeaning (oob_write_meaning name)
write_means name = is_meaning (oob_write_work name) (write_work name)

pub read_work : (name : List ℕ) → IsWork (oob_read_work name)
read_work name = record {
  one_made = λ i o p h k. h ∙ sym k;
  some_made = λ files bytes i is. (rows_outcome i, refl);
  made_status = λ i o h. inr (ap (λ (p : Outcome). p.status) h, λ x. x);
}

pub read_means : (name : List ℕ) → IsMeaning (oob_read_meaning name)
read_means name = is_meaning (oob_read_work name) (read_work name)

-- local rows that a plan accepts are within the slots
pub slots_low : (channels : List ℕ) (rows : List LocalRow) → list_all (is_local channels) rows ≡ true → All (λ (row : LocalRow). row.slot ≤ 16777215) rows
slots_low channels [] h k d lt = absurd (omega arith)
slots_low channels (row ∷ rows) h zero d lt =
    let t = (and_parts (is_local channels row) _ h).0 in
    leb-true row.slot 16777215 (and_parts (nat_le row.slot 16777215) (is_listed channels row.channel) t).0
slots_low channels (row ∷ rows) h (suc k) d lt = slots_low channels rows (and_parts (is_local channels row) _ h).1 k d (omega arith)
