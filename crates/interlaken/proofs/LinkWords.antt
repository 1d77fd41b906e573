-- The words of `link`.
use Rattle.std.proofs.Common.{◌≡◌, ◌∙◌, sym, ap, refl, subst, ◌⊎◌, inl, inr, ℕ, Bool, true, false, List, [], ◌∷◌, Option, Some, None, codes, option_map}
use Rattle.std.specs.Prelude.{if◌then◌else◌, option_and_then}
use Rattle.std.specs.Str.{bytes_eq}
use Rattle.lk_outside.specs.Files.{Files}
use Rattle.run_shell.specs.declared.status.Status.{Status}
use Rattle.run_shell.specs.declared.status.Status.TheVariants.{Done, Held}
use Rattle.run_shell.specs.Outcome.{Outcome, IsAnswer}
use Rattle.run_shell.specs.Ending.{misused}
use Rattle.run_shell.proofs.Fills.{name_cases, other, same}
use Rattle.command_words.specs.declared.table.Name.{Name}
use Rattle.command_words.specs.declared.table.Name.TheVariants as names
use Rattle.command_words.specs.declared.table.Rule.{Rule}
use Rattle.command_words.specs.declared.table.Rule.TheVariants.{File, NumberAndPrefix}
use Rattle.command_words.specs.Given.{Given}
use Rattle.command_words.specs.Arguments.{arguments_of, is_name}
use Rattle.command_words.specs.Table.{Kind, rows, row_in}
use Rattle.interlaken.specs.declared.request.Request.{Request}
use Rattle.interlaken.specs.declared.request.Request.TheVariants.{BurstCapture, BurstPlan, JoinPlan, JoinWords, Link}
use Rattle.interlaken.specs.Request.{is_plan_name, request_by, request_for, request_of}
use Rattle.interlaken.specs.Meanings.{meaning_by as meaning_for}
use Rattle.interlaken.specs.Run.{OutcomeOf}

-- ---- what the words ask for

by_test : (b : Bool) (name : List ℕ) → let asked : Option Request = option_map (request_for names.Link) (if b then Some (record { number = 0; file = name }) else None) in
    (asked ≡ Some (Link name)) ⊎ (asked ≡ None)
by_test true name = inl refl
by_test false name = inr refl

pub asks_or_not : (name : List ℕ) → (request_of (codes "link" ∷ name ∷ []) ≡ Some (Link name)) ⊎ (request_of (codes "link" ∷ name ∷ []) ≡ None)
unfolding rows
asks_or_not name = by_test (is_name 255 name) name

-- where such words come to an outcome that is done or held, they are accepted
pub asks_link : (words : List (List ℕ)) (name : List ℕ) (u : Files) (o : Outcome) (status : Status) → words ≡ codes "link" ∷ name ∷ [] → (status ≡ Done) ⊎ (status ≡ Held) →
    OutcomeOf words u o → status ≡ o.status → request_of words ≡ Some (Link name)
asks_link words name u o status are answer of same = elim (asks_or_not name) [
  | inl asks ↦ ap request_of are ∙ asks
  | inr none ↦ absurd (
      let none_here : request_of words ≡ None = ap request_of are ∙ none in
      let is : o ≡ misused = subst (λ (a : Option Request). (meaning_for a).IsOutcome u o) none_here of in
      let usage : status ≡ misused.status = same ∙ ap (λ (p : Outcome). p.status) is in
      elim answer [ inl e ↦ cc | inr e ↦ cc ])
]

pub answers : (status : Status) → (status ≡ Done) ⊎ (status ≡ Held) → IsAnswer status
answers status (inl e) = subst IsAnswer (sym e) (λ fault. fault)
answers status (inr e) = subst IsAnswer (sym e) (λ fault. fault)

-- ---- only these words ask for it

abbrev AsksForNone : Name → Type 0
AsksForNone n = (g : Given) (name : List ℕ) → request_for n g ≡ Link name → ⊥

-- the request that a row makes of words, if it is `link`
abbrev OnlyLink : Kind → Type 0
OnlyLink row = (rest : List (List ℕ)) (name : List ℕ) → request_by row rest ≡ Some (Link name) → (row.word ≡ codes "link") × (rest ≡ name ∷ [])

burst_for_none : AsksForNone names.Burst
burst_for_none g name e = by (is_plan_name g.file) g.file e
  where
    by : (b : Bool) (file : List ℕ) → (if b then BurstPlan file else BurstCapture file) ≡ Link name → ⊥
    by true file e = cc
    by false file e = cc

join_for_none : AsksForNone names.Join
join_for_none g name e = by (is_plan_name g.file) g.file e
  where
    by : (b : Bool) (file : List ℕ) → (if b then JoinPlan file else JoinWords file) ≡ Link name → ⊥
    by true file e = cc
    by false file e = cc

-- the row of another command
other_row : (word : List ℕ) (command : Name) (rule : Rule) → AsksForNone command → OnlyLink (record { word = word; command = command; rule = rule })
other_row word command rule none rest name e = by (arguments_of rule rest) e
  where
    by : (o : Option Given) → option_map (request_for command) o ≡ Some (Link name) → (word ≡ codes "link") × (rest ≡ name ∷ [])
    by None h = absurd cc
    by (Some g) h = absurd (none g name cc)

given_file : (b : Bool) (file name : List ℕ) → option_map (request_for names.Link) (if b then Some (record { number = 0; file = file }) else None) ≡ Some (Link name) → file ≡ name
given_file true file name e = cc
given_file false file name e = absurd cc

-- that of `link`
own_row : OnlyLink (record { word = codes "link"; command = names.Link; rule = File })
own_row [] name e = absurd cc
own_row (file ∷ []) name e = (refl, ap (λ (f : List ℕ). f ∷ []) (given_file (is_name 255 file) file name e))
own_row (file ∷ more ∷ rest) name e = absurd cc

abbrev AllOnly : List Kind → Type 0
AllOnly [] = Unit {0}
AllOnly (row ∷ more) = OnlyLink row × AllOnly more

all_only : AllOnly rows
unfolding rows
all_only = (other_row _ names.Burst File burst_for_none, (other_row _ names.Join File join_for_none, (other_row _ names.Send File (λ g name e. cc), (other_row _ names.Receive File (λ g name e. cc), (own_row, (other_row _ names.Generate NumberAndPrefix (λ g name e. cc), (other_row _ names.Duplex File (λ g name e. cc), (other_row _ names.OobWrite File (λ g name e. cc), (other_row _ names.OobRead File (λ g name e. cc), (other_row _ names.Resend File (λ g name e. cc), (other_row _ names.Stripe File (λ g name e. cc), (other_row _ names.Gather File (λ g name e. cc), (other_row _ names.Damage File (λ g name e. cc), (other_row _ names.Inspect File (λ g name e. cc), (other_row _ names.Check File (λ g name e. cc), (other_row _ names.List File (λ g name e. cc), (other_row _ names.Assemble File (λ g name e. cc), tt)))))))))))))))))

only_in : (table : List Kind) → AllOnly table → (first : List ℕ) (rest : List (List ℕ)) (name : List ℕ) → option_and_then (λ row. request_by row rest) (row_in table first) ≡ Some (Link name) →
    first ∷ rest ≡ codes "link" ∷ name ∷ []
only_in [] all first rest name e = absurd cc
only_in (row ∷ more) all first rest name e = name_cases first row.word
    (λ one. let (word, args) = all.0 rest name (here (bytes_eq first row.word) (same_name first row.word one) e) in let at : first ≡ codes "link" = one ∙ word in cc)
    (λ ne. only_in more all.1 first rest name (behind (bytes_eq first row.word) (other first row.word ne) e))
  where
    here : (b : Bool) → b ≡ true → option_and_then (λ r. request_by r rest) (if b then Some row else row_in more first) ≡ Some (Link name) → request_by row rest ≡ Some (Link name)
    here true t h = h
    here false t h = absurd cc

    behind : (b : Bool) → b ≡ false → option_and_then (λ r. request_by r rest) (if b then Some row else row_in more first) ≡ Some (Link name) → option_and_then (λ r. request_by r rest) (row_in more first) ≡ Some (Link name)
    behind true f h = absurd cc
    behind false f h = h

    same_name : (a q : List ℕ) → a ≡ q → bytes_eq a q ≡ true
    same_name a q one = subst (λ (x : List ℕ). bytes_eq a x ≡ true) one (same a)

pub only_these : (words : List (List ℕ)) (name : List ℕ) → request_of words ≡ Some (Link name) → words ≡ codes "link" ∷ name ∷ []
only_these [] name e = absurd cc
only_these (first ∷ rest) name e = only_in rows all_only first rest name e
