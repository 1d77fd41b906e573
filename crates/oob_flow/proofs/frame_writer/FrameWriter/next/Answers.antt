use Rattle.std.proofs.Common.{◌≡◌, ◌+◌, ◌*◌, ◌<◌, ◌≤◌, ◌++◌, ℕ, suc, Bool, true, List, length, map, take, get_or, eq-eqb, eqb-true, ap, ◌∙◌, subst, inl, inr, arith}
use Rattle.std.proofs.lemmas.Bool.{cases_lt}
use Rattle.std.proofs.Math.Nat.{mul-suc}
use Rattle.stream_model.specs.declared.rows.LocalRow.{LocalRow}
use Rattle.calendar.specs.Outgoing.{last_local}
use Rattle.oob_flow.specs.Frames.{frame_length, frame_samples}
use Rattle.oob_flow.specs.Written.{frame_begin, written_frame}
use Rattle.oob_flow.proofs.Framing.{states_by}
use Rattle.oob_flow.proofs.frame_writer.FrameWriter.next.Goals as goal

-- the rows that are set are those of slot at most the frame's first sample
pub returns-clause-samples : goal.returns-clause-samples
unfolding written_frame
returns-clause-samples c entries k s =
    let n : ℕ = c.set_rows-self.result in
    let out = c.set_rows-self.ensures.stands entries s.shown s.out in
    let t : ℕ = frame_begin entries k in
    let early : (i : ℕ) (d : LocalRow) → i < c.set_rows-self.result → (get_or c.args.local.now i d).slot ≤ frame_begin entries k = (λ i d l. elim (cases_lt i c.args.self.now.taken) [
      | inl f ↦ s.early i d f
      | inr g ↦ subst (λ (m : ℕ). (get_or c.args.local.now i d).slot ≤ m) s.begin (c.set_rows-self.ensures.early i d (omega arith) l)
    ]) in
    let late : c.set_rows-self.result < length c.args.local.now → (d : LocalRow) → frame_begin entries k < (get_or c.args.local.now c.set_rows-self.result d).slot = (λ l d. subst (λ (m : ℕ). m < (get_or c.args.local.now c.set_rows-self.result d).slot) s.begin (c.set_rows-self.ensures.late l d)) in
    c.append_frame.ensures.samples entries (last_local (take c.set_rows-self.result c.args.local.now)) s.shown out s.size
    ∙ ap (λ (before : List ℕ). before ++ frame_samples (map (last_local (take c.set_rows-self.result c.args.local.now)) entries)) c.reserve.ensures.items
    ∙ ap (λ (states : List Bool). c.args.samples.now.items ++ frame_samples states) (states_by c.args.local.now c.set_rows-self.result (frame_begin entries k) c.set_rows-self.ensures.within c.requires.order early late entries)

pub returns-clause-stands : goal.returns-clause-stands
returns-clause-stands c entries k s =
    let out = c.set_rows-self.ensures.stands entries s.shown s.out in
    let next : frame_begin entries (k + 1) ≡ frame_begin entries k + frame_length (length entries) = (let e : k + 1 ≡ suc k = omega arith in ap (λ (m : ℕ). frame_length (length entries) * m) e ∙ mul-suc (frame_length (length entries)) k) in
    record {
      shown = map (last_local (take c.set_rows-self.result c.args.local.now)) entries;
      out = c.append_frame.ensures.stands entries (last_local (take c.set_rows-self.result c.args.local.now)) s.shown out s.size;
      begin = omega (arith, s.begin, s.size, next);
      size = s.size;
      within = c.set_rows-self.ensures.within;
      early = λ i d l. elim (cases_lt i c.args.self.now.taken) [
        | inl f ↦ (let b = s.early i d f in omega (arith, b, next))
        | inr g ↦ (let b = c.set_rows-self.ensures.early i d (omega arith) l in omega (arith, b, s.begin, next))
      ];
    }

pub returns-clause-last : goal.returns-clause-last
returns-clause-last c entries k s = (
  λ last i d l. (let all : c.set_rows-self.result ≡ length c.args.local.now = eqb-true c.set_rows-self.result (length c.args.local.now) last in
      elim (cases_lt i c.args.self.now.taken) [
        | inl f ↦ s.early i d f
        | inr g ↦ (let b = c.set_rows-self.ensures.early i d (omega arith) (omega arith) in omega (arith, b, s.begin))
      ]),
  λ behind. eq-eqb c.set_rows-self.result (length c.args.local.now) (elim (cases_lt c.set_rows-self.result (length c.args.local.now)) [
    | inl more ↦ (let d : LocalRow = record { slot = 0; channel = 0; on = true } in let a = c.set_rows-self.ensures.late more d in let b = behind c.set_rows-self.result d more in absurd (omega (arith, a, b, s.begin)))
    | inr none ↦ (let w = c.set_rows-self.ensures.within in omega arith)
  ]),
)
