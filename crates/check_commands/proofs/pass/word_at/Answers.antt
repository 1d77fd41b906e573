use Rattle.std.proofs.Common.{◌≡◌, ◌∙◌, Option, Some, None, sym, ap, get_or}
use Rattle.std.specs.Option.{unwrap_or}
use Rattle.std.proofs.lemmas.Option.{slice_get-get_or}
use Rattle.lk_base.specs.declared.word.RxWord.{RxWord}
use Rattle.lk_base.specs.declared.word.RxWord.TheVariants.{Bad}
use Rattle.check_commands.proofs.pass.word_at.Goals as goal

pub unreachable-requires : goal.unreachable-requires
unreachable-requires c =
    let words = c.args.words.now in
    let none : None ≡ Some (get_or words c.args.number Bad) = sym c.in_default.is ∙ c.get.ensures ∙ slice_get-get_or words c.args.number Bad c.requires in
    absurd (cc none)

pub returns : goal.returns
returns c =
    ap (λ (o : Option RxWord). unwrap_or o Bad) (sym c.in-Some.is ∙ c.get.ensures ∙ slice_get-get_or c.args.words.now c.args.number Bad c.requires)
