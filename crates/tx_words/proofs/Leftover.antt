-- The rows that were not passed may still come.
use Rattle.std.proofs.Common.{◌≡◌, ℕ, ◌-◌, ◌≤◌, List, length, take, drop, sym, ap₂, subst, arith}
use Rattle.std.proofs.lemmas.List.{drop_all, length-drop, take-append-drop}
use Rattle.lk_base.specs.declared.word.Word.{Word}
use Rattle.stream_model.specs.BurstStream.{Source, IsBurstStream}
use Rattle.stream_model.specs.declared.rows.FlowRow.{FlowRow}
use Rattle.stream_model.specs.declared.rows.LocalRow.{LocalRow}
use Rattle.burst_scheduler.specs.Asked.{Asked, with_rows, MayCome, GivesAll}
use Rattle.burst_scheduler.specs.declared.scheduler.Scheduler.{Scheduler}
use Rattle.burst_scheduler.proofs.Prefix.{gives_prefix}
use Rattle.tx_words.specs.Driving.{Drives, driven, having_rows}
use Rattle.tx_words.proofs.Steps.{rest_all}

module _ (sch : Scheduler) (source : Source) (words : List Word) (f l : ℕ) (d : Drives sch source words f l) where
  abbrev pub asked : Asked
  asked = driven source words f l d.opened d.waits d.closed

  pub rows_left : MayCome asked (drop f source.flow) (drop l source.local)
  rows_left =
      let rest : length (drop f source.flow) ≡ length source.flow - f = length-drop f source.flow in
      record {
        flow_later = rest_all (λ (row : FlowRow). length words ≤ row.slot) source.flow f d.flow_later;
        local_later = rest_all (λ (row : LocalRow). length words ≤ row.slot) source.local l d.local_later;
        some = λ e. let lt = d.waiting e in omega (arith, rest, lt);
        none = λ e. drop_all f source.flow (d.calls e);
      }

  pub source_again : with_rows asked.source (drop f source.flow) (drop l source.local) ≡ source
  source_again = ap₂ (having_rows source) (take-append-drop f source.flow) (take-append-drop l source.local)

  pub all_given : GivesAll asked → IsBurstStream source words
  all_given all = subst (λ (q : Source). IsBurstStream q words) source_again (all (drop f source.flow) (drop l source.local) rows_left)

  -- the words are the first of any stream of the source
  pub first_given : (w : List Word) → IsBurstStream source w → take (length words) w ≡ words
  first_given w stream =
      gives_prefix sch asked d.gives.runs (drop f source.flow) (drop l source.local) w rows_left
      (subst (λ (q : Source). IsBurstStream q w) (sym source_again) stream)
