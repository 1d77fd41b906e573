use Rattle.std.proofs.Common.{ℕ, ◌^◌, ◌∙◌, refl, ap, sym, subst, Option, IfSome, ◌<◌, ◌+◌, length, arith}
use Rattle.std.specs.Option.{option_map}
use Rattle.word_rules.proofs.Befores.{size_le, since_below}
use Rattle.word_rules.proofs.Runs.{length_run, size_run, register_run, burst_run, bad_run, last_run, since_run, any_run}
use Rattle.word_rules.proofs.before.Before.after_run.Goals as goal

pub overflow_add-result-2 : goal.overflow_add-result-2
overflow_add-result-2 c = let h = size_le c.requires.0 in omega (arith, c.requires.1.size, c.requires.2)

pub more-requires-clause-first : goal.more-requires-clause-first
more-requires-clause-first c = subst (λ (o : Option ℕ). IfSome o (λ n. n < 2 ^ 61)) (sym c.requires.1.since_burst) (since_below c.requires.0 (let h = c.requires.2 in omega arith))

pub returns : goal.returns
returns c e s =
    let run = c.args.run.now in
    record {
      number = (let h = length_run e run in omega (arith, s.number));
      register = c.crc24_words.ensures ∙ register_run c.args.self.register e run s.register;
      burst = s.burst ∙ sym (burst_run e run);
      after_bad = s.after_bad ∙ sym (bad_run e run);
      size = (let h = size_run e run in omega (arith, s.size));
      last = c.last_or.ensures ∙ last_run c.args.self.last e run s.last;
      since_burst = c.more.ensures ∙ ap (option_map (λ (n : ℕ). n + length run)) s.since_burst ∙ since_run e run;
      any_bad = s.any_bad ∙ sym (any_run e run);
    }
