use Rattle.std.proofs.Common.{refl, sym, subst, List, [], ◌-◌}
use Rattle.lk_base.specs.declared.word.Word.{Word}
use Rattle.duplex.specs.Inboxes.{Gave}
use Rattle.duplex.proofs.Starts.{nothing_sent}
use Rattle.duplex_model.specs.DuplexRun.{AreSettings}
use Rattle.duplex.specs.Duplexes.{settings_of, empty_ends}
use Rattle.duplex.proofs.duplex.Duplex.new.Goals as goal

pub returns-clause-waits : goal.returns-clause-waits
returns-clause-waits c =
    let given = c.args.settings in
    let keeps : AreSettings (settings_of given) = record { delay_low = given.delay_low; mark_low = given.mark_low; drain_low = given.drain_low } in
    let ends = empty_ends c.args.ends.now.shape c.args.ends.now.channels.now c.args.ends.now.entries.now in
    record {
      keeps = keeps;
      mark = refl;
      drain = refl;
      slot = refl;
      a = c.in_ok-a.ensures (settings_of given) ends keeps refl refl refl refl;
      b = c.in_ok-b.ensures (settings_of given) ends keeps refl refl refl refl;
    }

pub returns-clause-given : goal.returns-clause-given
returns-clause-given c = (c.in_ok-inbox_a.ensures.0, c.in_ok-inbox_b.ensures.0)

pub returns-clause-got : goal.returns-clause-got
returns-clause-got c setting is =
    let none = nothing_sent (0 - c.args.settings.delay) in
    record {
      at_a = subst (λ (w : List Word). Gave c.in_ok-inbox_a.inbox_a setting w []) (sym none) (c.in_ok-inbox_a.ensures.1 setting is);
      at_b = subst (λ (w : List Word). Gave c.in_ok-inbox_b.inbox_b setting w []) (sym none) (c.in_ok-inbox_b.ensures.1 setting is);
    }
