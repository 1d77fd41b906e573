use Rattle.std.proofs.Common.{◌++◌, ◌∙◌, ℕ, List, length, ap, append_assoc}
use lib.Chars.{codes}
use Rattle.link_reports.specs.Lines.{count_line}
use Rattle.lane_words.specs.Gathered.{gathered_words}
use Rattle.gather_commands.proofs.gathered.Gathered.text.Goals as goal

pub returns : goal.returns
returns c out items was now h =
    let words = c.args.self.now.files.words in
    c.in_ok-count_line-2.ensures.ok ∙ ap (λ (t : List ℕ). t ++ count_line (codes "epochs") c.args.self.now.epochs) c.in_ok-count_line.ensures.ok
    ∙ append_assoc c.args.before.items (count_line (codes "words") words) (count_line (codes "epochs") c.args.self.now.epochs)
    ∙ ap (λ (n : ℕ). c.args.before.items ++ (count_line (codes "words") n ++ count_line (codes "epochs") c.args.self.now.epochs)) h.files.count
    ∙ ap (λ (n : ℕ). c.args.before.items ++ (count_line (codes "words") (length (gathered_words items)) ++ count_line (codes "epochs") n)) h.epochs
