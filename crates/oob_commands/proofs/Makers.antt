-- What the makers gave begins what they make.
use Rattle.std.proofs.Common.{◌≡◌, ℕ, ◌+◌, ◌-◌, ◌<◌, ◌≤◌, false, List, [], ◌∷◌, ◌++◌, length, take, sym, ap, ◌∙◌, subst, arith}
use lib.Chars.{codes}
use Rattle.std.proofs.lemmas.List.{take_all, length-take-le}
use Rattle.link_reports.specs.Lines.{count_line}
use Rattle.stream_model.specs.declared.rows.LocalRow.{LocalRow}
use Rattle.run_shell.specs.declared.finished.Finished.{Finished}
use Rattle.run_shell.specs.Outcome.{Outcome}
use Rattle.run_shell.specs.Outputs.{more}
use Rattle.run_shell.specs.Writing.{Begin, delivered}
use Rattle.run_shell.proofs.MakersWork.{one_delivered}
use Rattle.run_shell.proofs.Rests.{more_none}
use Rattle.oob_flow.specs.declared.frame_writer.FrameWriter.{FrameWriter}
use Rattle.oob_flow.specs.declared.incoming.OobIn.{OobIn}
use Rattle.oob_flow.specs.Written.{written_frame, frame_begin, BeginsAfterRows}
use Rattle.oob_flow.specs.WritingFrames.{StandsAt}
use Rattle.oob_flow.specs.Reading.{rows_at, rows_of_samples}
use Rattle.oob_flow.specs.Receiving.{StandsIn}
use Rattle.oob_commands.specs.FlowFile.{flow_file}
use Rattle.oob_commands.specs.Frames.{frames_before}
use Rattle.oob_commands.specs.Making.{GaveFrames, GaveRows}
use Rattle.oob_commands.specs.ReadRows.{SamplesReading, rows_outcome, flow_name}
use Rattle.oob_commands.specs.Values.{local_value, samples_value}
use Rattle.oob_commands.specs.WriteSamples.{LocalReading, IsOfSamples, samples_name}
use Rattle.oob_commands.specs.declared.reading.PlanLocal.{PlanLocal}
use Rattle.oob_commands.specs.declared.reading.PlanSamples.{PlanSamples}
use Rattle.oob_commands.proofs.Frames.{frames_begin, frame_put, frames_length, frame_further, begins_next, all_frames, no_more}
use Rattle.oob_commands.proofs.RowTexts.{rows_begin, rows_put, rows_count, file_none}
use Rattle.oob_commands.proofs.Works.{write_work}

-- ---- samples

pub one_samples : (i : LocalReading) (o p : Outcome) → IsOfSamples i o → IsOfSamples i p → o ≡ p
one_samples i o p h k = (write_work []).one_made i o p h k

pub frames_begin_one : (r : PlanLocal) (frames : FrameWriter) (given : List (List ℕ)) (o : Outcome) → GaveFrames r frames given → IsOfSamples (local_value r) o → Begin (samples_name (local_value r).plan.out ∷ []) given o.files
frames_begin_one r frames given o g w =
    subst (λ (gs : List (List ℕ)). Begin (samples_name (local_value r).plan.out ∷ []) gs o.files) (sym g.is)
    (w.samples ∷ [], ap (λ (p : Outcome). p.files) w.is, (frames_begin r.plan.entries.items r.local.items g.k g.k g.early (omega arith) w.samples w.written, tt))

module _ (r : PlanLocal) (frames : FrameWriter) (given : List (List ℕ)) (g : GaveFrames r frames given) where
  abbrev entries : List ℕ
  entries = r.plan.entries.items

  abbrev local : List LocalRow
  local = r.local.items

  given_more : (bytes : List ℕ) → bytes ≡ written_frame entries local g.k → more given 0 bytes ≡ frames_before entries local (g.k + 1) ∷ []
  given_more bytes is = ap (λ (gs : List (List ℕ)). more gs 0 bytes) g.is ∙ frame_put entries local g.k bytes is

  -- one frame more, after which there are others
  pub frame_gave : (next : FrameWriter) (bytes : List ℕ) → StandsAt next entries local (g.k + 1) → (BeginsAfterRows entries local g.k → ⊥) → bytes ≡ written_frame entries local g.k → GaveFrames r next (more given 0 bytes)
  frame_gave next bytes stands on is =
      let early = no_more entries local g.k g.early on in
      record {
        order = g.order;
        slots = g.slots;
        k = g.k + 1;
        stands = stands;
        early = early;
        begins = begins_next entries local g.k r.plan.some_entries r.plan.few_entries g.slots early;
        is = given_more bytes is;
      }

  pub frame_less : (next : FrameWriter) → StandsAt next entries local (g.k + 1) → 16779392 - next.begin < 16779392 - frames.begin
  frame_less next stands =
      let further = frame_further entries g.k r.plan.some_entries in
      let a = g.begins in
      omega (arith, g.stands.begin, stands.begin, further, a)

  -- the last frame
  pub frames_done : (bytes : List ℕ) (count : ℕ) (f : Finished) → BeginsAfterRows entries local g.k → bytes ≡ written_frame entries local g.k → count ≡ frame_begin entries (g.k + 1) → f.held ≡ false → f.text.items ≡ count_line (codes "samples") count
      → IsOfSamples (local_value r) (delivered (samples_name (local_value r).plan.out ∷ []) (more given 0 bytes) f)
  frames_done bytes count f behind is many free text =
      let whole = frames_before entries local (g.k + 1) in
      let same = many ∙ sym (frames_length entries local (g.k + 1) r.plan.some_entries) in
      record {
        samples = whole;
        written = all_frames entries local g.k g.early behind;
        is = one_delivered (samples_name (local_value r).plan.out) (more given 0 bytes) whole (count_line (codes "samples") (length whole)) f (given_more bytes is) free (text ∙ ap (count_line (codes "samples")) same);
      }

-- ---- rows

pub one_rows : (i : SamplesReading) (o p : Outcome) → o ≡ rows_outcome i → p ≡ rows_outcome i → o ≡ p
one_rows i o p h k = h ∙ sym k

pub rows_begin_one : (r : PlanSamples) (taker : OobIn) (slot count : ℕ) (given : List (List ℕ)) (o : Outcome) → GaveRows r taker slot count given → o ≡ rows_outcome (samples_value r) → Begin (flow_name (samples_value r).plan.out ∷ []) given o.files
rows_begin_one r taker slot count given o g w =
    let entries = length r.plan.entries.items in
    let samples = r.samples.items in
    subst (λ (gs : List (List ℕ)). Begin (flow_name (samples_value r).plan.out ∷ []) gs o.files) (sym g.is)
    (flow_file (rows_of_samples entries samples) ∷ [], ap (λ (p : Outcome). p.files) w, (rows_begin entries samples slot r.plan.some_entries, tt))

module _ (r : PlanSamples) (taker : OobIn) (slot count : ℕ) (given : List (List ℕ)) (g : GaveRows r taker slot count given) where
  abbrev width : ℕ
  width = length r.plan.entries.items

  abbrev samples : List ℕ
  samples = r.samples.items

  -- one sample more, which gives the rows of these words
  pub row_gave : (next : OobIn) (x : ℕ) (words bytes : List ℕ) (n : ℕ) → slot < length samples → take (slot + 1) samples ≡ take slot samples ++ x ∷ [] → StandsIn next width (take slot samples ++ x ∷ []) → rows_of_samples width (take slot samples ++ x ∷ []) ≡ rows_of_samples width (take slot samples) ++ rows_at (length (take slot samples)) words
      → n ≡ length words → n ≤ 4 → bytes ≡ flow_file (rows_at slot words) → GaveRows r next (slot + 1) (count + n) (more given 0 bytes)
  row_gave next x words bytes n lt further stands rows many small text =
      let done : List ℕ = take slot samples in
      let long : length done ≡ slot = length-take-le slot samples g.within in
      let few = g.few in
      let before = rows_of_samples width done in
      let now = rows_of_samples width (done ++ x ∷ []) in
      let counted = rows_count before now (length done) words n rows many in
      let c = g.counted in
      let e = ap (λ (xs : List ℕ). length (rows_of_samples width xs)) further in
      record {
        samples = g.samples;
        short = g.short;
        within = omega arith;
        stands = subst (StandsIn next width) (sym further) stands;
        counted = omega (arith, counted, c, e);
        few = omega (arith, few, small);
        is = ap (λ (gs : List (List ℕ)). more gs 0 bytes) g.is ∙ rows_put before (rows_at (length done) words) now bytes rows (text ∙ ap (λ (m : ℕ). flow_file (rows_at m words)) (sym long)) ∙ ap (λ (xs : List ℕ). flow_file (rows_of_samples width xs) ∷ []) (sym further);
      }

  -- one sample more, which gives no row
  pub row_none : (next : OobIn) (x : ℕ) (words : List ℕ) → slot < length samples → take (slot + 1) samples ≡ take slot samples ++ x ∷ [] → StandsIn next width (take slot samples ++ x ∷ []) → rows_of_samples width (take slot samples ++ x ∷ []) ≡ rows_of_samples width (take slot samples) ++ rows_at (length (take slot samples)) words
      → words ≡ [] → GaveRows r next (slot + 1) count given
  row_none next x words lt is stands rows none =
      let same : count + 0 ≡ count = omega arith in
      subst (λ (gs : List (List ℕ)). GaveRows r next (slot + 1) count gs) (more_none given 0)
      (subst (λ (m : ℕ). GaveRows r next (slot + 1) m (more given 0 [])) same
      (row_gave next x words [] 0 lt is stands rows (sym (ap length none)) (omega arith) (sym file_none ∙ ap (λ (ws : List ℕ). flow_file (rows_at slot ws)) (sym none))))

  -- all samples were taken
  pub rows_done : (f : Finished) → slot ≡ length samples → f.held ≡ false → f.text.items ≡ count_line (codes "rows") count → delivered (flow_name (samples_value r).plan.out ∷ []) given f ≡ rows_outcome (samples_value r)
  rows_done f end free text =
      let whole : take slot samples ≡ samples = take_all slot samples (omega (arith, end)) in
      let file = flow_file (rows_of_samples width samples) in
      one_delivered (flow_name (samples_value r).plan.out) given file (count_line (codes "rows") (length (rows_of_samples width samples))) f
      (g.is ∙ ap (λ (xs : List ℕ). flow_file (rows_of_samples width xs) ∷ []) whole) free
      (text ∙ ap (count_line (codes "rows")) (g.counted ∙ ap (λ (xs : List ℕ). length (rows_of_samples width xs)) whole))
