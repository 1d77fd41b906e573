-- A listing of a lane and its bits grow by one code.
use Rattle.std.proofs.Common.{◌≡◌, ◌≢◌, ℕ, ◌+◌, ◌<◌, ◌^◌, Bool, List, [], ◌∷◌, ◌++◌, All, length, refl, sym, ap, ◌∙◌, append_assoc, append-nil, arith, subst, length-append, get_or}
use Rattle.std.proofs.lemmas.List.{get_or_default}
use Rattle.std.proofs.lemmas.List.Elements.{All-push}
use Rattle.std.proofs.lemmas.Grind.{flat_map-append}
use Rattle.lk_base.specs.Checksum.{bits_of, bits_of_bytes}
use Rattle.coding_67b.proofs.Runs.{code_more}
use Rattle.lane_model.specs.LaneBits.{bits_of_codes}
use Rattle.word_text.specs.Lines.{ended, text_of}
use Rattle.word_text.specs.CodeLines.{IsCodeLine, rest_line, rest_lines}
use Rattle.word_text.specs.Listings.{lane_head, IsLaneListing}
use Rattle.word_text.specs.Bytes.{IsKept, TakesBytes, CodesTold, CodesPut, BeginsWithNoCode}
use Rattle.word_text.specs.Answers.{ListsLane}
use Rattle.word_text.proofs.Spelled.{lacks}
use Rattle.word_text.proofs.CodeText.{code-lacks}
use Rattle.word_text.proofs.Kept.{kept-by}
use Rattle.word_text.proofs.Taking.{takes-then, takes-none}
use Rattle.word_text.proofs.Rests.{one-rest}
use Rattle.word_text.proofs.Pieces.{lines-push, flat-push, cut-once, has-end, lacks-all}

pub octets-of : (xs : List ℕ) → ((i : ℕ) → get_or xs i 0 < 256) → All (λ b. b < 2 ^ 8) xs
octets-of xs f k d l = let e = get_or_default xs k 0 d l in let h = f k in omega (arith, e, h)

codes-none : bits_of_codes [] ≡ []
unfolding bits_of_codes
codes-none = refl

pub none-told : (text : List ℕ) → CodesTold (ended lane_head ++ text) text 2 []
none-told text = record {
  coded = [];
  lines = [];
  sized = λ k d l. absurd (omega arith);
  each = tt;
  theirs = sym codes-none;
  whole = refl;
  count = refl;
}

-- one code more: its line stands after those before
told-push : (text left new behind line : List ℕ) (number code : ℕ) (bits : List Bool) (t : CodesTold text left number bits) → code < 2 ^ 67 → IsCodeLine code line → new ≡ text_of (lane_head ∷ t.lines) ++ ended line ++ behind → CodesTold new behind (number + 1) (bits ++ bits_of 67 code)
told-push text left new behind line number code bits t h is e = record {
  coded = t.coded ++ code ∷ [];
  lines = t.lines ++ line ∷ [];
  sized = All-push (λ (c : ℕ). c < 2 ^ 67) t.coded code t.sized h;
  each = lines-push IsCodeLine t.coded t.lines code line t.each is;
  theirs = ap (λ (l : List Bool). l ++ bits_of 67 code) t.theirs ∙ sym (code_more t.coded code);
  whole = e ∙ ap (λ (l : List ℕ). l ++ behind) (sym (flat-push ended (lane_head ∷ t.lines) line));
  count = let size = length-append t.lines (line ∷ []) in let c = t.count in omega (arith, c, size);
}

-- where its line is appended to the text
pub more-told : (text line : List ℕ) (number code : ℕ) (bits : List Bool) → code < 2 ^ 67 → IsCodeLine code line → CodesTold text [] number bits → CodesTold (text ++ ended line) [] (number + 1) (bits ++ bits_of 67 code)
more-told text line number code bits h is t =
    told-push text [] (text ++ ended line) [] line number code bits t h is
    (ap (λ (l : List ℕ). l ++ ended line) (t.whole ∙ append-nil (text_of (lane_head ∷ t.lines))) ∙ sym (append-nil (text_of (lane_head ∷ t.lines) ++ ended line)))

-- where its line is the first of those that are left
pub more-read : (text left behind line : List ℕ) (number code : ℕ) (bits : List Bool) → code < 2 ^ 67 → IsCodeLine code line → left ≡ ended line ++ behind → CodesTold text left number bits → CodesTold text behind (number + 1) (bits ++ bits_of 67 code)
more-read text left behind line number code bits h is e t =
    told-push text left text behind line number code bits t h is
    (t.whole ∙ ap (λ (l : List ℕ). text_of (lane_head ∷ t.lines) ++ l) e ∙ sym (append_assoc (text_of (lane_head ∷ t.lines)) (ended line) behind))

-- ---- listing

-- the lines of the first codes were put after a text
pub record LinesBehind (old new : List ℕ) (bits left : List Bool) (count : ℕ) : Type 0 where
  pub text : List ℕ
  pub before : List Bool
  pub told : CodesTold text [] (count + 1) before
  pub put : new ≡ old ++ text
  pub cut : bits ≡ before ++ left

pub no-lines : (old new : List ℕ) (bits left : List Bool) → new ≡ old ++ ended lane_head → bits ≡ left → LinesBehind old new bits left 1
no-lines old new bits left e f = record { text = ended lane_head ++ []; before = []; told = none-told []; put = e; cut = f }

pub one-line : (old mid new line : List ℕ) (bits left : List Bool) (code count : ℕ) → code < 2 ^ 67 → IsCodeLine code line → new ≡ mid ++ ended line → (rest : List Bool) → left ≡ bits_of 67 code ++ rest → LinesBehind old mid bits left count → LinesBehind old new bits rest (count + 1)
one-line old mid new line bits left code count h is e rest f b = record {
  text = b.text ++ ended line;
  before = b.before ++ bits_of 67 code;
  told = more-told b.text line (count + 1) code b.before h is b.told;
  put = e ∙ ap (λ (l : List ℕ). l ++ ended line) b.put ∙ append_assoc old b.text (ended line);
  cut = b.cut ∙ ap (λ (l : List Bool). b.before ++ l) f ∙ sym (append_assoc b.before (bits_of 67 code) rest);
}

pub lines-kept : (old mid new : List ℕ) (bits left : List Bool) (count : ℕ) → new ≡ mid → LinesBehind old mid bits left count → IsKept old new
lines-kept old mid new bits left count e b = kept-by old b.text mid new b.put e

pub text-rest : (lines : List (List ℕ)) (rest : List Bool) → text_of (lane_head ∷ lines ++ rest_lines rest) ≡ text_of (lane_head ∷ lines) ++ text_of (rest_lines rest)
text-rest lines rest = flat_map-append ended (lane_head ∷ lines) (rest_lines rest)

abbrev pub lane-listing : (text left new bytes : List ℕ) (number : ℕ) (bits rest : List Bool) (t : CodesTold text left number bits) → length rest < 67 → All (λ b. b < 2 ^ 8) bytes → bits_of_bytes bytes ≡ bits ++ rest → new ≡ text_of (lane_head ∷ t.lines) ++ text_of (rest_lines rest) → IsLaneListing new bytes
lane-listing text left new bytes number bits rest t h o e f = record {
  coded = t.coded;
  rest = rest;
  lines = t.lines;
  sized = t.sized;
  short = h;
  bits = e ∙ ap (λ (l : List Bool). l ++ rest) t.theirs;
  octets = o;
  each = t.each;
  whole = f ∙ sym (text-rest t.lines rest);
}

-- after the lines of the codes comes that of the rest
told-behind : (text tail : List ℕ) (number : ℕ) (bits : List Bool) (t : CodesTold text [] number bits) → text ++ tail ≡ text_of (lane_head ∷ t.lines) ++ tail
told-behind text tail number bits t = ap (λ (l : List ℕ). l ++ tail) (t.whole ∙ append-nil (text_of (lane_head ∷ t.lines)))

pub lists-whole : (bytes old new : List ℕ) (left : List Bool) (count : ℕ) → All (λ b. b < 2 ^ 8) bytes → left ≡ [] → LinesBehind old new (bits_of_bytes bytes) left count → ListsLane bytes old new count
lists-whole bytes old new left count o e b = record {
  text = b.text;
  listing = lane-listing b.text [] b.text bytes (count + 1) b.before [] b.told (omega arith) o (b.cut ∙ ap (λ (l : List Bool). b.before ++ l) e) b.told.whole;
  counted = let size = length-append b.told.lines [] in let c = b.told.count in omega (arith, c, size);
  put = b.put;
}

pub lists-rest : (bytes old mid new : List ℕ) (left rest : List Bool) (count : ℕ) → All (λ b. b < 2 ^ 8) bytes → left ≡ rest → 0 < length rest → length rest < 67 → new ≡ mid ++ ended (rest_line rest) → LinesBehind old mid (bits_of_bytes bytes) left count → ListsLane bytes old new (count + 1)
lists-rest bytes old mid new left rest count o e some few f b =
    let lines = one-rest rest some in
    let last : text_of (rest_lines rest) ≡ ended (rest_line rest) = ap text_of lines ∙ append-nil (ended (rest_line rest)) in
    record {
      text = b.text ++ text_of (rest_lines rest);
      listing = lane-listing b.text [] (b.text ++ text_of (rest_lines rest)) bytes (count + 1) b.before rest b.told few o (b.cut ∙ ap (λ (l : List Bool). b.before ++ l) e) (told-behind b.text (text_of (rest_lines rest)) (count + 1) b.before b.told);
      counted = let size = length-append b.told.lines (rest_lines rest) in let one = ap length lines in let c = b.told.count in omega (arith, c, size, one);
      put = f ∙ ap (λ (l : List ℕ). l ++ ended (rest_line rest)) b.put ∙ append_assoc old b.text (ended (rest_line rest)) ∙ ap (λ (l : List ℕ). old ++ (b.text ++ l)) (sym last);
    }

-- ---- assembling

-- the lines of codes so far are read, and their bits put as bytes
pub record CodesRead (text left : List ℕ) (number : ℕ) (waiting : List Bool) (old new : List ℕ) : Type 0 where
  pub bits : List Bool
  pub told : CodesTold text left number bits
  pub taken : TakesBytes bits waiting old new

pub none-read : (lines bytes : List ℕ) (waiting : List Bool) → waiting ≡ [] → CodesRead (ended lane_head ++ lines) lines 2 waiting bytes bytes
none-read lines bytes waiting e = record {
  bits = [];
  told = none-told lines;
  taken = subst (λ (w : List Bool). TakesBytes [] w bytes bytes) (sym e) (takes-none [] bytes);
}

pub one-read : (text left behind line : List ℕ) (number code : ℕ) (waiting pushed next : List Bool) (old mid new : List ℕ) → code < 2 ^ 67 → IsCodeLine code line → left ≡ ended line ++ behind → pushed ≡ waiting ++ bits_of 67 code → TakesBytes pushed next mid new →
    CodesRead text left number waiting old mid → CodesRead text behind (number + 1) next old new
one-read text left behind line number code waiting pushed next old mid new h is e f t r = record {
  bits = r.bits ++ bits_of 67 code;
  told = more-read text left behind line number code r.bits h is e r.told;
  taken = takes-then r.bits waiting (bits_of 67 code) pushed next old mid new f r.taken t;
}

pub read-kept : (text left : List ℕ) (number : ℕ) (waiting : List Bool) (old mid new : List ℕ) → new ≡ mid → CodesRead text left number waiting old mid → IsKept old new
read-kept text left number waiting old mid new e r = kept-by old r.taken.more mid new r.taken.put e

pub all-read : (text left : List ℕ) (number : ℕ) (waiting : List Bool) (old new : List ℕ) → BeginsWithNoCode left → CodesRead text left number waiting old new → CodesPut text left number waiting old new
all-read text left number waiting old new h r = record { bits = r.bits; told = r.told; taken = r.taken; stops = h }

-- no line is there that ends
pub no-end-there : (left : List ℕ) → All (λ b. b ≢ 10) left → (line more : List ℕ) → left ≡ ended line ++ more → ⊥
no-end-there left h line more e = has-end line more (ap (lacks 10) (sym e) ∙ lacks-all left h)

-- the line in front is no code's
pub no-code : (left front behind : List ℕ) → left ≡ ended front ++ behind → All (λ b. b ≢ 10) front → ((code : ℕ) → code < 2 ^ 67 → IsCodeLine code front → ⊥) → BeginsWithNoCode left
no-code left front behind e h f line more g (code, s, k) =
    let (same, rest) = cut-once line front more behind (code-lacks code line k) (lacks-all front h) (sym g ∙ e) in
    f code s (subst (IsCodeLine code) same k)
