-- What the arguments of a command keep by its rule.
use Rattle.std.proofs.Common.{◌≡◌, ℕ, ◌≤◌, length, Bool, true, false, List, [], ◌∷◌, Option, Some, None, refl, subst, arith, nat_lt, nat_le}
use Rattle.std.proofs.lemmas.Bool.{and_parts}
use Rattle.std.proofs.lemmas.Bool.Decides.{nat_tests}
use Rattle.std.specs.Prelude.{if◌then◌else◌}
use Rattle.std.specs.Str.{bytes_eq}
use Rattle.command_words.specs.declared.table.Rule.TheVariants.{NumberAndPrefix}
use Rattle.command_words.specs.Table.{Kind, rows, row_in}
use Rattle.command_words.specs.Given.{Given}
use Rattle.command_words.specs.Arguments.{arguments_of, is_name, number_and_prefix_in, number_of_word}
use Rattle.interlaken.specs.Request.{IsGivenTo}

abbrev IsShort : List ℕ → Type 0
IsShort prefix = (1 ≤ length prefix) × (length prefix ≤ 180)

short_name : (prefix : List ℕ) → is_name 180 prefix ≡ true → IsShort prefix
short_name prefix e =
    let some : nat_lt 0 (length prefix) ≡ true = (and_parts _ _ (and_parts _ _ e).0).0 in
    let few : nat_le (length prefix) 180 ≡ true = (and_parts _ _ e).1 in
    (least (length prefix) some, most (length prefix) few)
  where
    least : (n : ℕ) → nat_lt 0 n ≡ true → 1 ≤ n
    least n h = grind (arith, nat_tests)

    most : (n : ℕ) → nat_le n 180 ≡ true → n ≤ 180
    most n h = grind (arith, nat_tests)

kept_if : (b : Bool) (g h : Given) → (b ≡ true → IsShort g.file) → (if b then Some g else None) ≡ Some h → IsShort h.file
kept_if true g h short e = let same : g ≡ h = cc in subst (λ (x : Given). IsShort x.file) same (short refl)
kept_if false g h short e = absurd cc

short_prefix : (o : Option ℕ) (prefix : List ℕ) (g : Given) → number_and_prefix_in o prefix ≡ Some g → IsShort g.file
short_prefix None prefix g e = absurd cc
short_prefix (Some n) prefix g e = kept_if (is_name 180 prefix) (record { number = n; file = prefix }) g (short_name prefix) e

short_by_rule : (words : List (List ℕ)) (g : Given) → arguments_of NumberAndPrefix words ≡ Some g → IsShort g.file
short_by_rule [] g e = absurd cc
short_by_rule (number ∷ []) g e = absurd cc
short_by_rule (number ∷ prefix ∷ []) g e = short_prefix (number_of_word number) prefix g e
short_by_rule (number ∷ prefix ∷ more ∷ rest) g e = absurd cc

-- the rule of a row keeps it
abbrev Keeps : Kind → Type 0
Keeps row = (words : List (List ℕ)) (g : Given) → arguments_of row.rule words ≡ Some g → IsGivenTo row.command g

abbrev AllKeep : List Kind → Type 0
AllKeep [] = Unit {0}
AllKeep (row ∷ more) = Keeps row × AllKeep more

all_keep : AllKeep rows
unfolding rows
all_keep = ((λ words g e. tt), ((λ words g e. tt), ((λ words g e. tt), ((λ words g e. tt), ((λ words g e. tt), (short_by_rule, ((λ words g e. tt), ((λ words g e. tt), ((λ words g e. tt), ((λ words g e. tt), ((λ words g e. tt), ((λ words g e. tt), ((λ words g e. tt), ((λ words g e. tt), ((λ words g e. tt), ((λ words g e. tt), ((λ words g e. tt), tt)))))))))))))))))

keeps_if : (b : Bool) (row : Kind) (next : Option Kind) (found : Kind) → Keeps row → (next ≡ Some found → Keeps found) → (if b then Some row else next) ≡ Some found → Keeps found
keeps_if true row next found this more e = let same : row ≡ found = cc in subst Keeps same this
keeps_if false row next found this more e = more e

keeps_in : (table : List Kind) → AllKeep table → (word : List ℕ) (found : Kind) → row_in table word ≡ Some found → Keeps found
keeps_in [] all word found e = absurd cc
keeps_in (row ∷ more) all word found e = keeps_if (bytes_eq word row.word) row (row_in more word) found all.0 (keeps_in more all.1 word found) e

pub given_to : (word : List ℕ) (found : Kind) (words : List (List ℕ)) (g : Given) → row_in rows word ≡ Some found → arguments_of found.rule words ≡ Some g → IsGivenTo found.command g
given_to word found words g is e = keeps_in rows all_keep word found is words g e
