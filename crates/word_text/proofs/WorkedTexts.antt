-- Small listings, and texts that are none.
use Rattle.std.proofs.Common.{inl, inr, ◌⊎◌, ◌≡◌, ℕ, ◌+◌, ◌*◌, ◌<◌, ◌^◌, true, false, List, [], ◌∷◌, ◌++◌, refl, sym, ap, ◌∙◌, arith, subst}
use lib.Chars.{codes}
use Rattle.std.proofs.lemmas.List.Elements.{All-nil, All-cons}
use Rattle.lk_base.specs.Checksum.{bits_of}
use Rattle.lane_model.specs.LaneBits.{bits_of_codes}
use Rattle.words_files.specs.declared.text_error.TextError.TheVariants.{Head, Line, Length}
use Rattle.words_files.specs.declared.file_word.FileWord.TheVariants as file
use Rattle.lk_base.specs.Hex.{hex}
use Rattle.word_text.specs.Lines.{ended}
use Rattle.word_text.specs.WordLines.{IsSized, IsWordLine}
use Rattle.word_text.specs.CodeLines.{IsSync, IsCodeLine}
use Rattle.word_text.specs.Listings.{words_head, lane_head, IsWordsListing, IsLaneListing}
use Rattle.word_text.specs.Refusals.{IsRefusedFor, IsCodeLineOfAny, IsRestLine}
use Rattle.word_text.specs.Read.{number_after, byte_at}
use Rattle.word_text.proofs.Spelled.{lacks}
use Rattle.word_text.proofs.CodeText.{is-sync, read-other, code-lacks}
use Rattle.word_text.proofs.Pieces.{cut-once}
use Rattle.word_text.proofs.Rests.{rest-of-line, rest-lacks}
use Rattle.word_text.proofs.Cuts.{nothing-ended}

data_line : IsWordLine (file.Data 0x0123456789ABCDEF) (codes "data 0123456789ABCDEF")
unfolding hex
data_line = refl

pub one-data-word : IsWordsListing (ended words_head ++ ended (codes "data 0123456789ABCDEF")) (1 ∷ 0x01 ∷ 0x23 ∷ 0x45 ∷ 0x67 ∷ 0x89 ∷ 0xAB ∷ 0xCD ∷ 0xEF ∷ [])
one-data-word = record {
  words = file.Data 0x0123456789ABCDEF ∷ [];
  lines = codes "data 0123456789ABCDEF" ∷ [];
  sized = All-cons IsSized (file.Data 0x0123456789ABCDEF) [] (omega arith) (All-nil IsSized);
  file = refl;
  each = (data_line, tt);
  whole = refl;
}

pub one-byte : IsLaneListing (ended lane_head ++ ended (codes "rest 10100101")) (0xA5 ∷ [])
unfolding bits_of bits_of_codes
one-byte = record {
  coded = [];
  rest = true ∷ false ∷ true ∷ false ∷ false ∷ true ∷ false ∷ true ∷ [];
  lines = [];
  sized = All-nil (λ (c : ℕ). c < 2 ^ 67);
  short = omega arith;
  bits = refl;
  octets = All-cons (λ (b : ℕ). b < 2 ^ 8) 0xA5 [] (omega arith) (All-nil (λ (b : ℕ). b < 2 ^ 8));
  each = tt;
  whole = refl;
}

pub nothing : IsRefusedFor [] Head
nothing = record { words = nothing-ended words_head; lane = nothing-ended lane_head }

-- the code of a Sync word that is not inverted
abbrev plain_sync : ℕ
plain_sync = 2 * 2 ^ 64 + 0x78F678F678F678F6

sync : IsSync plain_sync
sync = (refl, refl)

pub one-sync : IsRefusedFor (ended lane_head ++ ended (codes "sync 0")) Length
one-sync = record {
  lines = codes "sync 0" ∷ [];
  rest = [];
  short = omega arith;
  each = All-cons IsCodeLineOfAny (codes "sync 0") [] (plain_sync, omega arith, is-sync plain_sync (codes "sync 0") sync refl) (All-nil IsCodeLineOfAny);
  whole = refl;
  bits = λ e. omega (arith, e);
}

-- a Sync word written as any code
abbrev other_spelling : List ℕ
other_spelling = codes "code 0 10 78F678F678F678F6"

number : number_after 16 0 (codes "78F678F678F678F6") ≡ 0x78F678F678F678F6
unfolding number_after
number = refl

no-code : (code : ℕ) → code < 2 ^ 67 → IsCodeLine code other_spelling → ⊥
no-code code h is =
    let same : plain_sync ≡ code = read-other plain_sync code other_spelling (omega arith) h is (λ e. omega (arith, e)) (λ e. omega (arith, e)) refl refl (sym number) in
    let line = is.sync (subst IsSync same sync) in
    let second : 111 ≡ 121 = ap (λ (l : List ℕ). byte_at l 1) line in
    omega (arith, second)

no-rest : IsRestLine other_spelling → ⊥
no-rest r = let rest = rest-of-line other_spelling r in let first : 99 ≡ 114 = ap (λ (l : List ℕ). byte_at l 0) rest.is in omega (arith, first)

no-line : (line more : List ℕ) → ended other_spelling ≡ ended line ++ more → IsCodeLineOfAny line ⊎ IsRestLine line → ⊥
no-line line more e (inl (code, sized, is)) =
    let (same, behind) = cut-once line other_spelling more [] (code-lacks code line is) refl (sym e) in
    no-code code sized (subst (IsCodeLine code) same is)
no-line line more e (inr r) =
    let rest = rest-of-line line r in
    let (same, behind) = cut-once line other_spelling more [] (ap (lacks 10) rest.is ∙ rest-lacks rest.bits) refl (sym e) in
    no-rest (subst IsRestLine same r)

pub second-spelling : IsRefusedFor (ended lane_head ++ ended (codes "code 0 10 78F678F678F678F6")) (Line 2)
second-spelling = inr (record {
  lines = [];
  rest = [];
  short = omega arith;
  wrong = ended other_spelling;
  each = All-nil IsCodeLineOfAny;
  count = refl;
  whole = refl;
  some = omega arith;
  refused = λ z. no-line;
})
