use Rattle.std.proofs.Common.{ℕ, ◌^◌, ◌∙◌, refl, ap, sym, subst, Option, IfSome, ◌<◌, arith, suc, cond, Some}
use Rattle.std.specs.Option.{option_map}
use Rattle.lk_base.specs.Checksum.{register_after}
use Rattle.word_rules.specs.Places.{is_burst_word}
use Rattle.word_rules.proofs.Befores.{since_below}
use Rattle.word_rules.proofs.before.Before.after_control.Goals as goal

pub since_after-requires : goal.since_after-requires
since_after-requires c = subst (λ (o : Option ℕ). IfSome o (λ n. n < 2 ^ 61)) (sym c.requires.1.since_burst) (since_below c.requires.0 c.requires.2)

pub returns : goal.returns
unfolding register_after
returns c e s = record {
  number = omega (arith, s.number);
  register = c.crc24_start.ensures;
  burst = c.burst_number.ensures;
  after_bad = refl;
  size = refl;
  last = refl;
  since_burst = c.since_after.ensures ∙ ap (λ (o : Option ℕ). cond (is_burst_word c.args.word.0) (Some 0) (option_map suc o)) s.since_burst;
  any_bad = s.any_bad;
}
