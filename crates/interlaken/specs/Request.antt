-- What words ask for.
use Rattle.std.specs.Prelude.{ℕ, ◌≤◌, length, Bool, nat_eq, List, [], ◌∷◌, Option, None, option_map, option_and_then, if◌then◌else◌}
use Rattle.std.specs.List.{ends_with}
use lib.Chars.{codes}
use Rattle.case_commands.specs.Asked.{asked}
use Rattle.command_words.specs.declared.table.Name.{Name}
use Rattle.command_words.specs.declared.table.Name.TheVariants as names
use Rattle.interlaken.specs.declared.request.Request.{Request}
use Rattle.interlaken.specs.declared.request.Request.TheVariants.{BurstCapture, BurstPlan, JoinWords, JoinPlan, SendPlan, Receive, Link, Generate, Duplex, OobWrite, OobRead, Resend, Stripe, Gather, Damage, Inspect, Check, ListFile, AssembleText}
use Rattle.command_words.specs.Given.{Given}
use Rattle.command_words.specs.Arguments.{arguments_of}
use Rattle.command_words.specs.Table.{Kind, rows, row_in}

-- the name of a plan
abbrev pub is_plan_name : List ℕ → Bool
is_plan_name word = ends_with nat_eq word (codes ".plan")

-- a file by its name: a plan, or a capture
abbrev pub burst_of : List ℕ → Request
burst_of file = if is_plan_name file then BurstPlan file else BurstCapture file

-- a file by its name: a plan, or a words file
abbrev pub join_of : List ℕ → Request
join_of file = if is_plan_name file then JoinPlan file else JoinWords file

-- a command with its arguments; `send` takes any file as a plan
abbrev pub request_for : Name → Given → Request
request_for names.Burst a = burst_of a.file
request_for names.Join a = join_of a.file
request_for names.Send a = SendPlan a.file
request_for names.Receive a = Receive a.file
request_for names.Link a = Link a.file
request_for names.Generate a = Generate (asked a.number a.file)
request_for names.Duplex a = Duplex a.file
request_for names.OobWrite a = OobWrite a.file
request_for names.OobRead a = OobRead a.file
request_for names.Resend a = Resend a.file
request_for names.Stripe a = Stripe a.file
request_for names.Gather a = Gather a.file
request_for names.Damage a = Damage a.file
request_for names.Inspect a = Inspect a.file
request_for names.Check a = Check a.file
request_for names.List a = ListFile a.file
request_for names.Assemble a = AssembleText a.file

-- what the arguments of a command keep by its rule: a prefix has 1 to 180 bytes
abbrev pub IsGivenTo : Name → Given → Type 0
IsGivenTo names.Burst a = Unit {0}
IsGivenTo names.Join a = Unit {0}
IsGivenTo names.Send a = Unit {0}
IsGivenTo names.Receive a = Unit {0}
IsGivenTo names.Link a = Unit {0}
IsGivenTo names.Duplex a = Unit {0}
IsGivenTo names.OobWrite a = Unit {0}
IsGivenTo names.OobRead a = Unit {0}
IsGivenTo names.Resend a = Unit {0}
IsGivenTo names.Stripe a = Unit {0}
IsGivenTo names.Gather a = Unit {0}
IsGivenTo names.Damage a = Unit {0}
IsGivenTo names.Inspect a = Unit {0}
IsGivenTo names.Check a = Unit {0}
IsGivenTo names.List a = Unit {0}
IsGivenTo names.Assemble a = Unit {0}
IsGivenTo names.Generate a = (1 ≤ length a.file) × (length a.file ≤ 180)

abbrev pub request_by : Kind → List (List ℕ) → Option Request
request_by row words = option_map (request_for row.command) (arguments_of row.rule words)

-- what accepted words ask for: the first names a command, and the others are its arguments
abbrev pub request_of : List (List ℕ) → Option Request
request_of [] = None
request_of (first ∷ rest) = option_and_then (λ row. request_by row rest) (row_in rows first)
