-- `gather` after `stripe` gives the words from the fourth group on.
use Rattle.std.proofs.Common.{◌≡◌, ◌+◌, ◌/◌, ◌<◌, ◌^◌, ℕ, zero, suc, List, length, take, drop, map, slice_index, replicate, All, sym, ap, subst, arith, lit≤, Option, Some, None, Result, Ok, Err, inl, inr}
use Rattle.std.proofs.Math.ListN.{get_or-eq_default}
use Rattle.std.proofs.lemmas.Bool.{cases_lt}
use Rattle.std.proofs.lemmas.List.Elements.{All-append, All-cons, All-drop, All-nil, All-replicate, All-take}
use Rattle.lk_base.specs.Limits.{words_limit}
use Rattle.lk_base.specs.Words.{payload}
use Rattle.lk_base.specs.declared.word.Word.{Word}
use Rattle.lk_base.specs.declared.word.Word.TheVariants.{Data, Control}
use Rattle.lk_outside.specs.Files.{Files, AreBytes, file}
use Rattle.words_files.specs.FileWord.{file_number, sent_of}
use Rattle.words_files.specs.WordsOfFile.{file_word_in, given_by, sent_word_in, sent_words_of_file, words_cut}
use Rattle.words_files.specs.declared.error.WordsError.{WordsError}
use Rattle.words_files.specs.declared.file_word.FileWord.{FileWord}
use Rattle.words_files.specs.declared.file_word.FileWord.TheVariants as tagged
use Rattle.words_files.proofs.Nine.{number_sized}
use Rattle.lane_words.specs.GatheredLaws.{CleanLanesGiveStream}
use Rattle.link_plan.specs.Plan.{PlanValue}
use Rattle.plan_inputs.specs.Inputs.{plan_in}
use Rattle.run_stops.specs.Reading.{Refusal, bytes_in}
use Rattle.run_stops.specs.WordsInputs.{words_by}
use Rattle.run_stops.proofs.Readings.{behind_ok, bytes_by_ok}
use Rattle.run_shell.specs.Names.{words_name}
use Rattle.lane_commands.specs.SentWords.{sent_words_in}
use Rattle.lane_commands.specs.Stripe.{StripeInputs, Stripes, filler, plan_words_in, with_words}
use Rattle.gathered_laws.specs.AfterStripe.{GatherAfterStripe}
use Rattle.gathered_laws.proofs.AfterSend.{lanes_gathered}
use Rattle.gathered_laws.proofs.CleanLanes.{AreSized}

-- ---- words of bytes have 64 bits

abbrev AreLow : List ℕ → Type 0
AreLow bytes = All (λ b. b < 256) bytes

low_at : (bytes : List ℕ) → AreLow bytes → (k : ℕ) → slice_index bytes k < 256
low_at bytes low k = elim (cases_lt k (length bytes)) [
  | inl lt ↦ low k 0 lt
  | inr le ↦ subst (λ b. b < 256) (sym (get_or-eq_default bytes 0 le)) (omega arith)
]

sent_sized : (word : FileWord) → file_number word < 2 ^ 64 → payload (sent_of word) < 2 ^ 64
sent_sized (tagged.Data x) lt = lt
sent_sized (tagged.Control x) lt = lt
sent_sized (tagged.Bad x) lt = lt

word_low : (word : List ℕ) → AreLow word → payload (sent_word_in word) < 2 ^ 64
word_low word low = sent_sized (file_word_in word) (number_sized word (low_at word low))

cut_sized : (n : ℕ) (bytes : List ℕ) → AreLow bytes → AreSized (map sent_word_in (words_cut n bytes))
cut_sized zero bytes low = All-nil (λ v. payload v < 2 ^ 64)
cut_sized (suc n) bytes low =
    All-cons (λ v. payload v < 2 ^ 64) (sent_word_in (take 9 bytes)) (map sent_word_in (words_cut n (drop 9 bytes)))
    (word_low (take 9 bytes) (All-take (λ b. b < 256) 9 bytes low)) (cut_sized n (drop 9 bytes) (All-drop (λ b. b < 256) 9 bytes low))

-- ---- the words that `stripe` reads

given_ok : (r : Option WordsError) (given words : List Word) → given_by r given ≡ Ok words → given ≡ words
given_ok None given words e = cc
given_ok (Some why) given words e = absurd cc

words_ok : (name : List ℕ) (r : Result (List Word) WordsError) (words : List Word) → words_by name r ≡ Ok words → r ≡ Ok words
words_ok name (Ok given) words e = cc
words_ok name (Err why) words e = absurd cc

file_sized : (bytes : List ℕ) (words : List Word) → AreLow bytes → sent_words_of_file bytes ≡ Ok words → AreSized words
file_sized bytes words low e = subst AreSized (given_ok _ _ words e) (cut_sized ((length bytes + 8) / 9) bytes low)

read_sized : (files : Files) (name : List ℕ) (words : List Word) → AreBytes files → sent_words_in files name ≡ Ok words → AreSized words
read_sized files name words are e =
    let (bytes, had, more) = behind_ok (bytes_in files name words_limit) (λ bytes. words_by name (sent_words_of_file bytes)) words e in
    file_sized bytes words (are name bytes (bytes_by_ok name words_limit (file files name) bytes had)) (words_ok name (sent_words_of_file bytes) words more)

same_words : (plan : PlanValue) (words : List Word) (i : StripeInputs) → ◌≡◌ {A = Result StripeInputs Refusal} (Ok (record { plan = plan; words = words })) (Ok i) → words ≡ i.words
same_words plan words i e =
    let is : ◌≡◌ {A = StripeInputs} (record { plan = plan; words = words }) i = cc in
    ap (λ (x : StripeInputs). x.words) is

inputs_sized : (files : Files) (name : List ℕ) (i : StripeInputs) → AreBytes files → plan_words_in files name ≡ Ok i → AreSized i.words
inputs_sized files name i are e =
    let (plan, is_plan, more) = behind_ok (plan_in files name) (with_words files) i e in
    let (words, are_words, all) = behind_ok (sent_words_in files (words_name plan.out)) (λ ws. Ok (record { plan = plan; words = ws })) i more in
    subst AreSized (same_words plan words i all) (read_sized files (words_name plan.out) words are are_words)

-- ---- and those that it sends

filler_sized : payload filler < 2 ^ 64
filler_sized = lit≤ tt

stripes_sized : (i : StripeInputs) (stream : List Word) → Stripes i.plan.settings i.words stream → AreSized i.words → AreSized stream
stripes_sized i stream h sized =
    subst AreSized (sym h.is) (All-append (λ v. payload v < 2 ^ 64) i.words (replicate h.fillers filler) sized (All-replicate (λ v. payload v < 2 ^ 64) h.fillers filler filler_sized))

pub gather_after_stripe : CleanLanesGiveStream → GatherAfterStripe
gather_after_stripe law name i stripe gathered before files read are inputs h r gathers = record {
  stream = h.stream;
  stripes = h.stripes;
  lanes = h.files;
  words = lanes_gathered law name i.plan stripe gathered files read h.stream h.files (stripes_sized i h.stream h.stripes (inputs_sized before name i are inputs)) h.stripes.whole r gathers;
}
