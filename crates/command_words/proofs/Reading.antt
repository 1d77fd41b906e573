-- What the parser of command lines makes of accepted words.
use Rattle.std.proofs.Common.{arith, ◌≤◌, ◌≡◌, ◌∙◌, ℕ, ◌+◌, ◌<◌, length, get_or, drop, map, add-one, Bool, true, false, List, [], ◌∷◌, Option, Some, None, is_some, refl, sym, ap, subst, codes, nat_eq}
use Rattle.std.proofs.lemmas.Bool.Decides.{nat_tests}
use Rattle.std.specs.Str.{bytes_eq}
use Rattle.std.specs.Char.{is_ascii_digit}
use Rattle.std.specs.List.{list_all}
use Rattle.std.specs.Prelude.{if◌then◌else◌, Box, IsSome, option_map, option_and_then}
use Rattle.std.specs.Box.{box_value}
use Rattle.std.specs.Borrow.{Bor}
use Rattle.std.proofs.lemmas.Slice.Eq.{bytes_eq-Decides}
use Rattle.std.proofs.Math.Seq.{drop-cons}
use Rattle.std.proofs.lemmas.Bool.{not-true}
use Rattle.clap.specs.Words.{App, Row, Text, with_subcommand, first_of, first_value, found_of, is_simple, rows_of, subcommand_name_of, subcommand_of, subcommand_rows, subcommand_rows_of, takes}
use Rattle.clap.specs.declared.parser.matches.ArgMatches.{ArgMatches}
use Rattle.clap.specs.declared.parser.matches.ArgMatches.TheViews.{out-ArgMatches, out-SubCommand}
use Rattle.clap.specs.declared.parser.matches.SubCommand.{SubCommand}
use Rattle.clap.proofs.OnLiterals.{clap_on_literals}
use Rattle.clap.proofs.WalkLemmas.{both, first_value-rows}
use Rattle.csv_rows.specs.Fields.{decimal_from}
use Rattle.csv_rows.proofs.Digits.{digit-byte}
use Rattle.command_words.specs.declared.table.Row.{Row as TableRow}
use Rattle.command_words.specs.declared.table.Rule.TheVariants.{File, NumberAndPrefix}
use Rattle.command_words.specs.Table.{Kind, shown, rows, row_in}
use Rattle.command_words.specs.Arguments.{arguments_of, is_name, is_number, number_of_word, number_and_prefix_in}
use Rattle.command_words.specs.Accepted.{given_in}
use Rattle.command_words.specs.CommandLine.{before}
use Rattle.command_words.specs.Parser.{IsReadAs, bare_app, program_app, row_app, words_in}

-- the words are taken, and found again
pub record AreRead (words : List Text) : Type 0 where
  pub simple : is_simple (program_app bare_app rows) ≡ true
  pub taken : takes (program_app bare_app rows) words ≡ true
  pub found : words_in (subcommand_of (program_app bare_app rows) words) ≡ Some words

-- a file whose name does not begin with a dash (45): one lemma for each command
module _ (x : ℕ) (xs : Text) (e : nat_eq x 45 ≡ false) where
  burst_read : AreRead (codes "burst" ∷ (x ∷ xs) ∷ [])
  unfolding clap_on_literals rows
  burst_read = record { simple = refl; taken = simp e; found = simp e }

  join_read : AreRead (codes "join" ∷ (x ∷ xs) ∷ [])
  unfolding clap_on_literals rows
  join_read = record { simple = refl; taken = simp e; found = simp e }

  send_read : AreRead (codes "send" ∷ (x ∷ xs) ∷ [])
  unfolding clap_on_literals rows
  send_read = record { simple = refl; taken = simp e; found = simp e }

  receive_read : AreRead (codes "receive" ∷ (x ∷ xs) ∷ [])
  unfolding clap_on_literals rows
  receive_read = record { simple = refl; taken = simp e; found = simp e }

  link_read : AreRead (codes "link" ∷ (x ∷ xs) ∷ [])
  unfolding clap_on_literals rows
  link_read = record { simple = refl; taken = simp e; found = simp e }

  duplex_read : AreRead (codes "duplex" ∷ (x ∷ xs) ∷ [])
  unfolding clap_on_literals rows
  duplex_read = record { simple = refl; taken = simp e; found = simp e }

  oobwrite_read : AreRead (codes "oobwrite" ∷ (x ∷ xs) ∷ [])
  unfolding clap_on_literals rows
  oobwrite_read = record { simple = refl; taken = simp e; found = simp e }

  oobread_read : AreRead (codes "oobread" ∷ (x ∷ xs) ∷ [])
  unfolding clap_on_literals rows
  oobread_read = record { simple = refl; taken = simp e; found = simp e }

  resend_read : AreRead (codes "resend" ∷ (x ∷ xs) ∷ [])
  unfolding clap_on_literals rows
  resend_read = record { simple = refl; taken = simp e; found = simp e }

  stripe_read : AreRead (codes "stripe" ∷ (x ∷ xs) ∷ [])
  unfolding clap_on_literals rows
  stripe_read = record { simple = refl; taken = simp e; found = simp e }

  gather_read : AreRead (codes "gather" ∷ (x ∷ xs) ∷ [])
  unfolding clap_on_literals rows
  gather_read = record { simple = refl; taken = simp e; found = simp e }

  damage_read : AreRead (codes "damage" ∷ (x ∷ xs) ∷ [])
  unfolding clap_on_literals rows
  damage_read = record { simple = refl; taken = simp e; found = simp e }

  inspect_read : AreRead (codes "inspect" ∷ (x ∷ xs) ∷ [])
  unfolding clap_on_literals rows
  inspect_read = record { simple = refl; taken = simp e; found = simp e }

  check_read : AreRead (codes "check" ∷ (x ∷ xs) ∷ [])
  unfolding clap_on_literals rows
  check_read = record { simple = refl; taken = simp e; found = simp e }

  list_read : AreRead (codes "list" ∷ (x ∷ xs) ∷ [])
  unfolding clap_on_literals rows
  list_read = record { simple = refl; taken = simp e; found = simp e }

  assemble_read : AreRead (codes "assemble" ∷ (x ∷ xs) ∷ [])
  unfolding clap_on_literals rows
  assemble_read = record { simple = refl; taken = simp e; found = simp e }

-- a number and a prefix that do not begin with a dash
generate_read : (y : ℕ) (ys : Text) (x : ℕ) (xs : Text) → nat_eq y 45 ≡ false → nat_eq x 45 ≡ false → AreRead (codes "generate" ∷ (y ∷ ys) ∷ (x ∷ xs) ∷ [])
unfolding clap_on_literals rows
generate_read y ys x xs d e = record { simple = refl; taken = simp (d, e); found = simp (d, e) }

some_where : {X : Type 0} (b : Bool) (x : X) → is_some (if b then Some x else None) ≡ true → b ≡ true
some_where true x e = refl
some_where false x e = absurd (cc)

-- the arguments that the rule of a row accepts are read
abbrev Reads : Kind → Type 0
Reads row = (args : List Text) → is_some (arguments_of row.rule args) ≡ true → AreRead (row.word ∷ args)

file_reads : (word : Text) → ((x : ℕ) (xs : Text) → nat_eq x 45 ≡ false → AreRead (word ∷ (x ∷ xs) ∷ [])) → (args : List Text) → is_some (arguments_of File args) ≡ true → AreRead (word ∷ args)
file_reads word read [] e = absurd (cc)
file_reads word read ([] ∷ []) e = absurd (cc)
file_reads word read ((x ∷ xs) ∷ []) e =
    let named : is_name 255 (x ∷ xs) ≡ true = some_where (is_name 255 (x ∷ xs)) _ e in
    read x xs (not-true (nat_eq x 45) (both _ _ (both _ _ named).0).1)
file_reads word read (file ∷ more ∷ rest) e = absurd (cc)

-- a number begins with a digit
no_dash : (y : ℕ) → 48 ≤ y → nat_eq y 45 ≡ false
no_dash y low = grind (arith, nat_tests)

number_some : (number prefix : Text) → (o : Option ℕ) → number_of_word number ≡ o → is_some (number_and_prefix_in o prefix) ≡ true → (is_number number ≡ true) × (is_name 180 prefix ≡ true)
number_some number prefix None is e = absurd (cc)
number_some number prefix (Some n) is e = (some_where (is_number number) (decimal_from 0 number) (ap is_some is), some_where (is_name 180 prefix) _ e)

number_reads : (word : Text) → ((y : ℕ) (ys : Text) (x : ℕ) (xs : Text) → nat_eq y 45 ≡ false → nat_eq x 45 ≡ false → AreRead (word ∷ (y ∷ ys) ∷ (x ∷ xs) ∷ [])) → (args : List Text) → is_some (arguments_of NumberAndPrefix args) ≡ true → AreRead (word ∷ args)
number_reads word read [] e = absurd (cc)
number_reads word read (number ∷ []) e = absurd (cc)
number_reads word read ([] ∷ prefix ∷ []) e = absurd (cc)
number_reads word read ((y ∷ ys) ∷ [] ∷ []) e = let h = number_some (y ∷ ys) [] (number_of_word (y ∷ ys)) refl e in absurd (no_prefix h.1)
  where
    no_prefix : is_name 180 [] ≡ true → ⊥
    no_prefix f = cc
number_reads word read ((y ∷ ys) ∷ (x ∷ xs) ∷ []) e =
    let h = number_some (y ∷ ys) (x ∷ xs) (number_of_word (y ∷ ys)) refl e in
    let digits : list_all is_ascii_digit (y ∷ ys) ≡ true = (both _ _ (both _ _ h.0).0).1 in
    read y ys x xs (no_dash y (digit-byte 0 (y ∷ ys) (omega arith) digits).0) (not-true (nat_eq x 45) (both _ _ (both _ _ h.1).0).1)
number_reads word read (number ∷ prefix ∷ more ∷ rest) e = absurd (cc)

abbrev AllRead : List Kind → Type 0
AllRead [] = Unit {0}
AllRead (row ∷ more) = Reads row × AllRead more

all_read : AllRead rows
unfolding rows
all_read = (file_reads (codes "burst") burst_read, (file_reads (codes "join") join_read, (file_reads (codes "send") send_read, (file_reads (codes "receive") receive_read, (file_reads (codes "link") link_read, (number_reads (codes "generate") generate_read, (file_reads (codes "duplex") duplex_read, (file_reads (codes "oobwrite") oobwrite_read, (file_reads (codes "oobread") oobread_read, (file_reads (codes "resend") resend_read, (file_reads (codes "stripe") stripe_read, (file_reads (codes "gather") gather_read, (file_reads (codes "damage") damage_read, (file_reads (codes "inspect") inspect_read, (file_reads (codes "check") check_read, (file_reads (codes "list") list_read, (file_reads (codes "assemble") assemble_read, tt)))))))))))))))))

read_by : (row : Kind) (more : List Kind) (first : Text) (args : List Text) → Reads row → (is_some (option_and_then (λ k. arguments_of k.rule args) (row_in more first)) ≡ true → AreRead (first ∷ args))
    → (b : Bool) → bytes_eq first row.word ≡ b → is_some (option_and_then (λ k. arguments_of k.rule args) (if b then Some row else row_in more first)) ≡ true → AreRead (first ∷ args)
read_by row more first args this next true same h = subst (λ w. AreRead (w ∷ args)) (sym ((bytes_eq-Decides first row.word).0 same)) (this args h)
read_by row more first args this next false same h = next h

-- the arguments of the row of a word
found_read : (table : List Kind) → AllRead table → (first : Text) (args : List Text) → is_some (option_and_then (λ row. arguments_of row.rule args) (row_in table first)) ≡ true → AreRead (first ∷ args)
found_read [] all first args e = absurd (cc)
found_read (row ∷ more) all first args e = read_by row more first args all.0 (found_read more all.1 first args) (bytes_eq first row.word) refl e

pub are_read : (words : List Text) → is_some (given_in words) ≡ true → AreRead words
are_read [] e = absurd (cc)
are_read (first ∷ args) e = found_read rows all_read first args e

-- ---- from the matches back to the words

pair_found : {Z : Type 0} (s : Option (Box SubCommand Z)) (n : Text) (rs : List Row) → Some n ≡ option_map (λ b. (out-SubCommand (box_value b)).name.now) s
    → Some rs ≡ option_map (λ p. p.1) (subcommand_rows s) → subcommand_rows s ≡ Some (n, rs)
pair_found None n rs a e = absurd (cc)
pair_found (Some b) n rs a e = cc

some_back : {A B C : Type 0} (f : A → B) (g : B → C) (o : Option A) (w : C) → option_map g (option_map f o) ≡ Some w → IsSome o
some_back f g None w e = absurd (cc)
some_back f g (Some x) w e = refl

-- what the getters give of matches that are read as some words
pub record IsFound (m : ArgMatches) (command : Text) (number file : Option (Bor Text)) : Type 0 where
  pub there : IsSome file
  pub read : (f : Bor Text) → file ≡ Some f → IsReadAs (command ∷ before (option_map (λ s. s.now) number) f.now) m

pub are_found : (m : ArgMatches) (sub : Option (Bor Text × Bor ArgMatches)) (p : Bor Text × Bor ArgMatches) (number file : Option (Bor Text)) (words : List Text) → IsReadAs words m → sub ≡ Some p
    → option_map (λ q. q.0.now) sub ≡ subcommand_name_of m
    → option_map (λ q. rows_of (found_of q.1.now)) sub ≡ option_map (λ q. q.1) (subcommand_rows_of m)
    → option_map (λ s. s.now) number ≡ first_value (found_of p.1.now) (codes "number")
    → option_map (λ s. s.now) file ≡ first_value (found_of p.1.now) (codes "file") → IsFound m p.0.now number file
are_found m sub p number file words read is name rows counted got =
    let rs = rows_of (found_of p.1.now) in
    let pair = pair_found (out-ArgMatches m).subcommand p.0.now rs (ap (option_map (λ q. q.0.now)) (sym is) ∙ name) (ap (option_map (λ q. rows_of (found_of q.1.now))) (sym is) ∙ rows) in
    let first : option_map (λ s. s.now) file ≡ first_of (codes "file") rs = got ∙ first_value-rows (found_of p.1.now) (codes "file") in
    let count : option_map (λ s. s.now) number ≡ first_of (codes "number") rs = counted ∙ first_value-rows (found_of p.1.now) (codes "number") in
    let found : words_in (subcommand_rows_of m) ≡ option_map (λ f. p.0.now ∷ before (option_map (λ s. s.now) number) f) (option_map (λ s. s.now) file) =
    ap words_in pair ∙ ap (option_map (λ f. p.0.now ∷ before (first_of (codes "number") rs) f)) (sym first)
    ∙ ap (λ c. option_map (λ f. p.0.now ∷ before c f) (option_map (λ s. s.now) file)) (sym count) in
    record {
      there = some_back (λ s. s.now) (λ f. p.0.now ∷ before (option_map (λ s. s.now) number) f) file words (sym found ∙ read);
      read = λ f e. found ∙ ap (λ o. option_map (λ g. p.0.now ∷ before (option_map (λ s. s.now) number) g) (option_map (λ s. s.now) o)) e;
    }

-- ---- the program of a table

pub next_program : (table : List TableRow) (i : ℕ) (d : TableRow) (a b : App) → i < length table → b ≡ with_subcommand a (row_app (shown (get_or table i d))).top → program_app b (map shown (drop (i + 1) table)) ≡ program_app a (map shown (drop i table))
next_program table i d a b lt e = rw (drop-cons table i d lt, add-one i, e) refl
