use Rattle.std.proofs.Common.{ℕ, ◌^◌, ◌∙◌, refl, ap, sym, subst, Option, IfSome, ◌<◌, arith, suc}
use Rattle.std.specs.Option.{option_map}
use Rattle.word_rules.proofs.Befores.{size_le, since_below, register_more}
use Rattle.word_rules.proofs.before.Before.after_data.Goals as goal

pub one_more-requires : goal.one_more-requires
one_more-requires c = subst (λ (o : Option ℕ). IfSome o (λ n. n < 2 ^ 61)) (sym c.requires.1.since_burst) (since_below c.requires.0 c.requires.2)

pub overflow_add-result-2 : goal.overflow_add-result-2
overflow_add-result-2 c = let h = size_le c.requires.0 in omega (arith, c.requires.1.size, c.requires.2)

pub returns : goal.returns
returns c e s = record {
  number = omega (arith, s.number);
  register = c.crc24_word.ensures ∙ register_more c.args.self.register c.args.word e s.register;
  burst = s.burst;
  after_bad = s.after_bad;
  size = omega (arith, s.size);
  last = refl;
  since_burst = c.one_more.ensures ∙ ap (option_map suc) s.since_burst;
  any_bad = s.any_bad;
}
