-- A lane of one byte, listed and assembled again, and a text that is refused.
use Rattle.std.specs.Prelude.{◌≡◌, ℕ, List, [], ◌∷◌, ◌++◌, Some}
use lib.Chars.{codes}
use Rattle.lk_outside.specs.Files.{Files, file}
use Rattle.link_reports.specs.Lines.{line_end}
use Rattle.run_shell.specs.declared.status.Status.TheVariants.{InputRefused}
use Rattle.word_text.specs.Lines.{ended}
use Rattle.listing_commands.specs.Assembling.{assemble_meaning}
use Rattle.listing_commands.specs.Undoing.{Lists, Assembles}

abbrev pub lane_text : List ℕ
lane_text = ended (codes "lane") ++ ended (codes "rest 10100101")

-- a Sync word written as any code
abbrev pub second_text : List ℕ
second_text = ended (codes "lane") ++ ended (codes "code 0 10 78F678F678F678F6")

abbrev pub OneByteListed : Type 0
OneByteListed = (files : Files) → file files (codes "a") ≡ Some (0xA5 ∷ []) → (lines : ℕ) × Lists files (codes "a") lane_text lines

abbrev pub OneByteAssembled : Type 0
OneByteAssembled = (files : Files) → file files (codes "a.txt") ≡ Some lane_text → Assembles files (codes "a.txt") (0xA5 ∷ []) 1

abbrev pub SecondSpellingRefused : Type 0
SecondSpellingRefused = (files : Files) → file files (codes "t") ≡ Some second_text →
    (assemble_meaning (codes "t")).IsOutcome files (record { status = InputRefused; files = []; text = codes "input refused: t: line 2" ++ line_end })
