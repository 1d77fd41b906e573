-- The commands of the program: the word of each, and the rule of its arguments.
use Rattle.std.specs.Prelude.{ℕ, List, [], ◌∷◌, Option, Some, None, if◌then◌else◌}
use Rattle.std.specs.Str.{bytes_eq}
use lib.Chars.{codes}
use Rattle.command_words.specs.declared.table.Row.{Row}
use Rattle.command_words.specs.declared.table.Rule.{Rule}
use Rattle.command_words.specs.declared.table.Rule.TheVariants.{File, NumberAndPrefix}
use Rattle.command_words.specs.declared.table.Name.{Name}
use Rattle.command_words.specs.declared.table.Name.TheVariants.{Burst, Join, Send, Receive, Link, Generate, Duplex, OobWrite, OobRead, Resend, Stripe, Gather, Damage, Inspect, Check, Assemble}
use Rattle.command_words.specs.declared.table.Name.TheVariants as names

pub record Kind : Type 0 where
  pub word : List ℕ
  pub command : Name
  pub rule : Rule

abbrev pub shown : Row → Kind
shown row = record { word = row.word.now; command = row.command; rule = row.rule }

-- one row for each command that is built
unfoldable pub rows : List Kind
rows =
    record { word = codes "burst"; command = Burst; rule = File } ∷
    record { word = codes "join"; command = Join; rule = File } ∷
    record { word = codes "send"; command = Send; rule = File } ∷
    record { word = codes "receive"; command = Receive; rule = File } ∷
    record { word = codes "link"; command = Link; rule = File } ∷
    record { word = codes "generate"; command = Generate; rule = NumberAndPrefix } ∷
    record { word = codes "duplex"; command = Duplex; rule = File } ∷
    record { word = codes "oobwrite"; command = OobWrite; rule = File } ∷
    record { word = codes "oobread"; command = OobRead; rule = File } ∷
    record { word = codes "resend"; command = Resend; rule = File } ∷
    record { word = codes "stripe"; command = Stripe; rule = File } ∷
    record { word = codes "gather"; command = Gather; rule = File } ∷
    record { word = codes "damage"; command = Damage; rule = File } ∷
    record { word = codes "inspect"; command = Inspect; rule = File } ∷
    record { word = codes "check"; command = Check; rule = File } ∷
    record { word = codes "list"; command = names.List; rule = File } ∷
    record { word = codes "assemble"; command = Assemble; rule = File } ∷
    []

-- the row of a word
abbrev pub row_in : List Kind → List ℕ → Option Kind
row_in [] word = None
row_in (row ∷ more) word = if bytes_eq word row.word then Some row else row_in more word
