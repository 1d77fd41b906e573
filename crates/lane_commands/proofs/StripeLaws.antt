-- `stripe` after `burst` sends what `send` sends; and no words make no bytes.
use Rattle.std.proofs.Common.{◌≡◌, ℕ, ◌<◌, ◌≤◌, ◌^◌, false, List, [], ◌∷◌, length, get_or, All, refl, sym, ap, ◌∙◌, subst, arith, nat_lt, cond, Some, None, Ok, MatchResult}
use Rattle.std.proofs.lemmas.Bool.{false_from_ne_true, ltb-true}
use Rattle.std.proofs.lemmas.Option.{slice_get-get_or}
use Rattle.lk_base.specs.Limits.{words_limit}
use Rattle.lk_base.specs.Link.{group_of}
use Rattle.lk_base.specs.Words.{payload}
use Rattle.lk_base.specs.declared.word.Word.{Word}
use Rattle.lk_outside.specs.Files.{Files, file}
use Rattle.stream_model.specs.BurstStream.{Source, IsBurstStream}
use Rattle.stream_model.proofs.OneStream.{one_stream}
use Rattle.words_files.specs.WordsFile.{words_file}
use Rattle.words_files.specs.WordsOfFile.{sent_words_of_file}
use Rattle.words_files.proofs.Again.{sent_again}
use Rattle.tx_end.proofs.Shapes.{whole_groups}
use Rattle.plan_inputs.proofs.SameSource.{same_source}
use Rattle.run_stops.specs.Reading.{behind, bytes_by, bytes_in}
use Rattle.run_stops.specs.WordsInputs.{words_by}
use Rattle.run_shell.specs.Names.{words_name}
use Rattle.run_shell.specs.Outcome.{Output, content_of}
use Rattle.run_shell.specs.Work.{refused_outcome}
use Rattle.run_shell.proofs.Fills.{same}
use Rattle.stream_commands.specs.Outputs.{AreLaneOutputs}
use Rattle.stream_commands.proofs.LaneContents.{one_list}
use Rattle.lane_commands.specs.SentWords.{sent_words_in}
use Rattle.lane_commands.specs.Stripe.{IsStriped, Stripes, plan_words_in, with_words}
use Rattle.lane_commands.specs.StripeLaws.{StripeSendsBurst}
use Rattle.lane_commands.proofs.Filling.{stripe_once, stripes_whole}

-- a file within the limit is read whole
read_within : (name : List ℕ) (limit : ℕ) (bytes : List ℕ) → length bytes ≤ limit → bytes_by name limit (Some bytes) ≡ Ok bytes
read_within name limit bytes le =
    let e : nat_lt limit (length bytes) ≡ false = false_from_ne_true (nat_lt limit (length bytes)) (λ t. let lt = ltb-true limit (length bytes) t in omega arith) in
    rw e refl

each_sized : (source : Source) (w : List Word) → IsBurstStream source w → All (λ word. payload word < 2 ^ 64) w
each_sized source w stream = λ k d lt. stream.sized k (get_or w k d) (slice_get-get_or w k d lt)

-- the words of a words file are read
words_there : (files : Files) (name : List ℕ) (w : List Word) → All (λ word. payload word < 2 ^ 64) w → file files name ≡ Some (words_file w) → length (words_file w) ≤ words_limit → sent_words_in files name ≡ Ok w
words_there files name w sized there fits =
    let had : bytes_in files name words_limit ≡ Ok (words_file w) = ap (bytes_by name words_limit) there ∙ read_within name words_limit (words_file w) fits in
    ap (λ r. behind r (λ bytes. words_by name (sent_words_of_file bytes))) had ∙ ap (words_by name) (sent_again w sized)

-- the content of the one output
one_content : (name given content : List ℕ) (files : List Output) → files ≡ record { name = name; content = given } ∷ [] → content_of files name ≡ Some content → given ≡ content
one_content name given content files is e =
    let here : content_of (record { name = name; content = given } ∷ []) name ≡ Some given = ap (λ b. cond b (Some given) None) (same name) in
    let all : Some given ≡ Some content = sym here ∙ ap (λ (os : List Output). content_of os name) (sym is) ∙ e in
    cc

pub stripe_sends_burst : StripeSendsBurst
stripe_sends_burst name i burst send stripe files content (w, h) (v, k) plan given there fits striped =
    let out = i.plan.out in
    let s = i.plan.settings in
    let one : h.source ≡ k.source = same_source i.plan i.inputs h.source k.source h.is_source k.is_source in
    let stream : IsBurstStream k.source w = subst (λ (x : Source). IsBurstStream x w) one h.of_stream.stream in
    let same_words : v ≡ w = one_stream k.source v w k.of_stream.stream stream in
    let written : words_file w ≡ content = one_content (words_name out) (words_file w) content burst.files h.of_stream.files given in
    let stands : file files (words_name out) ≡ Some (words_file w) = there ∙ ap Some (sym written) in
    let within : length (words_file w) ≤ words_limit = subst (λ (c : List ℕ). length c ≤ words_limit) (sym written) fits in
    let words : sent_words_in files (words_name out) ≡ Ok w = words_there files (words_name out) w (each_sized k.source w stream) stands within in
    let inputs : plan_words_in files name ≡ Ok (record { plan = i.plan; words = w }) = ap (λ r. behind r (with_words files)) plan ∙ ap (λ r. behind r (λ ws. Ok (record { plan = i.plan; words = ws }))) words in
    let made : IsStriped (record { plan = i.plan; words = w }) stripe = subst (λ r. MatchResult r (λ j. IsStriped j stripe) (λ e. stripe ≡ refused_outcome e)) inputs striped in
    let group = k.is_source.shape.group in
    let low = k.source.shape.group_low in
    let whole : Stripes s w w = stripes_whole s w (omega (arith, group, low)) (whole_groups k.source w (group_of s) stream group) in
    let filled : made.stream ≡ v = stripe_once s w made.stream w made.stripes whole ∙ sym same_words in
    one_list s out v stripe.files send.files (subst (λ (x : List Word). AreLaneOutputs s out x stripe.files) filled made.files) k.of_stream.files
