-- The line of a stop is what is said of it and a line end.
use Rattle.std.proofs.Common.{◌≡◌, ◌++◌, ◌∙◌, ℕ, List, refl, ap, append_assoc, string_bytes}
use lib.Chars.{codes}
use Rattle.plan_errors.specs.Texts.{refusal_text as rows_text}
use Rattle.run_stops.specs.Lines.{why_text}
use Rattle.run_stops.specs.Stops.{stop_words, stop_text}
use Rattle.run_stops.specs.declared.stop.Stop.{Stop}
use Rattle.run_stops.specs.declared.stop.Stop.TheVariants as stop

pub words_line : (s : Stop) → stop_words s ++ codes "\n" ≡ stop_text s
words_line (stop.Plan why) = append_assoc (codes "plan refused: ") (rows_text why) (codes "\n")
words_line (stop.Input name why) =
    append_assoc (codes "input refused: ") (string_bytes name ++ (codes ": " ++ why_text why)) (codes "\n")
    ∙ ap (λ (rest : List ℕ). codes "input refused: " ++ rest) (append_assoc (string_bytes name) (codes ": " ++ why_text why) (codes "\n")
    ∙ ap (λ (rest : List ℕ). string_bytes name ++ rest) (append_assoc (codes ": ") (why_text why) (codes "\n")))
words_line (stop.Store name) = append_assoc (codes "store fault: ") (string_bytes name) (codes "\n")
words_line stop.StoreNoMemory = refl
words_line stop.OutOfMemory = refl
