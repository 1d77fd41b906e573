-- One more fault counts one more at the place of its rule.
use Rattle.std.proofs.Common.{◌≡◌, ◌≢◌, ℕ, zero, suc, ◌+◌, ◌-◌, ◌^◌, ◌≤◌, ◌<◌, ◌==◌, Bool, List, [], ◌∷◌, ◌++◌, cond, count_by, length, map, refl, sym, ap, ap₂, ◌∙◌, subst, arith, slice_index, slice_set, add-zero, ne_eqb, eq-eqb, get_or, take, append-nil, append_assoc}
use Rattle.std.specs.List.{flat_map}
use Rattle.std.proofs.lemmas.List.{length-append, length-take-le, take_more}
use Rattle.std.proofs.lemmas.List.Concat.{flat_map-append}
use Rattle.std.proofs.lemmas.List.Sums.{sum_by_push, count_by-le-length}
use Rattle.word_rules.specs.declared.fault.Fault.{Fault}
use Rattle.word_rules.specs.declared.rule.WordRule.{WordRule}
use Rattle.word_rules.specs.declared.rule.WordRule.TheVariants as rules
use lib.Chars.{codes}
use Rattle.link_reports.specs.Lines.{count_line}
use Rattle.run_shell.proofs.OutputNames.{from_zero}
use Rattle.word_rules.specs.Names.{all_rules, rule_place}
use Rattle.check_commands.specs.Table.{check_text, faults_of, rule_line, rule_line_of}
use Rattle.check_commands.specs.Tally.{counts_of}

-- how many of these faults have the rule at this place
abbrev at : List Fault → ℕ → ℕ
at told k = count_by (λ (f : Fault). rule_place f.rule == k) told

-- so many places, from this one on
abbrev places : ℕ → ℕ → List ℕ
places a zero = []
places a (suc n) = a ∷ places (a + 1) n

place_low : (rule : WordRule) → rule_place rule < 19
place_low rules.Bad = omega arith
place_low rules.Control = omega arith
place_low rules.Crc = omega arith
place_low rules.Data = omega arith
place_low rules.Max = omega arith
place_low rules.Empty = omega arith
place_low rules.Short = omega arith
place_low rules.End = omega arith
place_low rules.Fill = omega arith
place_low rules.Part = omega arith
place_low rules.Min = omega arith
place_low rules.Sop = omega arith
place_low rules.Open = omega arith
place_low rules.Channel = omega arith
place_low rules.Long = omega arith
place_low rules.Idle = omega arith
place_low rules.Multi = omega arith
place_low rules.Calendar = omega arith
place_low rules.Off = omega arith

alike : (g h : ℕ → ℕ) (a n : ℕ) → ((k : ℕ) → a ≤ k → h k ≡ g k) → map h (places a n) ≡ map g (places a n)
alike g h a zero e = refl
alike g h a (suc n) e = ap₂ (λ (x : ℕ) (xs : List ℕ). x ∷ xs) (e a (omega arith)) (alike g h (a + 1) n (λ k le. e k (omega arith)))

set_more : (g h : ℕ → ℕ) (a n i : ℕ) → i < n → h (a + i) ≡ g (a + i) + 1 → ((k : ℕ) → k ≢ a + i → h k ≡ g k) → map h (places a n) ≡ slice_set (map g (places a n)) i (slice_index (map g (places a n)) i + 1)
set_more g h a zero i lt one others = absurd (omega arith)
set_more g h a (suc n) zero lt one others =
    let here : a + 0 ≡ a = add-zero a in
    ap₂ (λ (x : ℕ) (xs : List ℕ). x ∷ xs) (subst (λ (k : ℕ). h k ≡ g k + 1) here one) (alike g h (a + 1) n (λ k le. others k (λ e. omega arith)))
set_more g h a (suc n) (suc i) lt one others =
    let there : a + suc i ≡ (a + 1) + i = omega arith in
    ap₂ (λ (x : ℕ) (xs : List ℕ). x ∷ xs) (others a (λ e. omega arith))
    (set_more g h (a + 1) n i (omega arith) (subst (λ (k : ℕ). h k ≡ g k + 1) there one) (λ k ne. others k (λ e. ne (e ∙ there))))

index_at : (g : ℕ → ℕ) (a n i : ℕ) → i < n → slice_index (map g (places a n)) i ≡ g (a + i)
index_at g a zero i lt = absurd (omega arith)
index_at g a (suc n) zero lt = ap g (sym (add-zero a))
index_at g a (suc n) (suc i) lt = let there : (a + 1) + i ≡ a + suc i = omega arith in index_at g (a + 1) n i (omega arith) ∙ ap g there

by_places : (told : List Fault) → counts_of told ≡ map (at told) (places 0 19)
by_places told = refl

counted : (told : List Fault) (f : Fault) (k : ℕ) → at (told ++ f ∷ []) k ≡ at told k + cond (rule_place f.rule == k) 1 0
counted told f k = sum_by_push (λ (x : Fault). cond (rule_place x.rule == k) 1 0) told f

pub one-more : (told : List Fault) (f : Fault) → counts_of (told ++ f ∷ []) ≡ slice_set (counts_of told) (rule_place f.rule) (slice_index (counts_of told) (rule_place f.rule) + 1)
one-more told f =
    set_more (at told) (at (told ++ f ∷ [])) 0 19 (rule_place f.rule) (place_low f.rule) (same (0 + rule_place f.rule) (from_zero (rule_place f.rule)))
    (λ k ne. counted told f k ∙ ap (λ (b : Bool). at told k + cond b 1 0) (ne_eqb (rule_place f.rule) k (λ e. ne (sym e ∙ sym (from_zero (rule_place f.rule))))) ∙ add-zero (at told k))
  where
    same : (k : ℕ) → k ≡ rule_place f.rule → at (told ++ f ∷ []) k ≡ at told k + 1
    same k e = counted told f k ∙ ap (λ (b : Bool). at told k + cond b 1 0) (eq-eqb (rule_place f.rule) k (sym e))

-- the count at the place of a rule is of its faults
count_at : (told : List Fault) (rule : WordRule) → slice_index (counts_of told) (rule_place rule) ≡ faults_of told rule
count_at told rule = index_at (at told) 0 19 (rule_place rule) (place_low rule) ∙ ap (at told) (from_zero (rule_place rule))

-- no rule has more faults than there are
pub count_low : (told : List Fault) (rule : WordRule) → slice_index (counts_of told) (rule_place rule) ≤ length told
count_low told rule =
    let e : slice_index (counts_of told) (rule_place rule) ≡ faults_of told rule = count_at told rule in
    let le : faults_of told rule ≤ length told = count_by-le-length (λ (f : Fault). rule_place f.rule == rule_place rule) told in
    omega (arith, e, le)

-- the line of one more rule
pub line_more : (told : List Fault) (rs : List WordRule) (counts : List ℕ) (i : ℕ) (d : WordRule) (place : ℕ) (first old new : List ℕ) → i < length rs → counts ≡ counts_of told →
    place ≡ rule_place (get_or rs i d) →
    old ≡ first ++ flat_map (rule_line_of told) (take i rs) →
    new ≡ old ++ cond (slice_index counts place == 0) [] (rule_line (get_or rs i d) (slice_index counts place)) →
    new ≡ first ++ flat_map (rule_line_of told) (take (i + 1) rs)
line_more told rs counts i d place first old new lt are is h more =
    let rule : WordRule = get_or rs i d in
    let count : slice_index counts place ≡ faults_of told rule = ap (λ (l : List ℕ). slice_index l place) are ∙ ap (λ (p : ℕ). slice_index (counts_of told) p) is ∙ count_at told rule in
    let before : List ℕ = flat_map (rule_line_of told) (take i rs) in
    more ∙ ap (λ (n : ℕ). old ++ cond (n == 0) [] (rule_line rule n)) count ∙ ap (λ (l : List ℕ). l ++ rule_line_of told rule) h
    ∙ append_assoc first before (rule_line_of told rule)
    ∙ ap (λ (l : List ℕ). first ++ (before ++ l)) (sym (append-nil (rule_line_of told rule)))
    ∙ ap (λ (l : List ℕ). first ++ l) (sym (flat_map-append (rule_line_of told) (take i rs) (rule ∷ [])))
    ∙ ap (λ (l : List WordRule). first ++ flat_map (rule_line_of told) l) (sym (take_more rs i d lt))

-- the next of these faults is counted, too
pub fault_more : (told faults : List Fault) (i : ℕ) (d : Fault) (old new : List ℕ) → i < length faults → old ≡ counts_of (told ++ take i faults) →
    new ≡ slice_set old (rule_place (get_or faults i d).rule) (slice_index old (rule_place (get_or faults i d).rule) + 1) → new ≡ counts_of (told ++ take (i + 1) faults)
fault_more told faults i d old new lt are more =
    let f : Fault = get_or faults i d in
    more ∙ ap (λ (l : List ℕ). slice_set l (rule_place f.rule) (slice_index l (rule_place f.rule) + 1)) are
    ∙ sym (one-more (told ++ take i faults) f)
    ∙ ap counts_of (append_assoc told (take i faults) (f ∷ []) ∙ ap (λ (l : List Fault). told ++ l) (sym (take_more faults i d lt)))

-- there is room for its count
pub room : (told faults : List Fault) (i : ℕ) (d : Fault) (counts : List ℕ) → i < length faults → counts ≡ counts_of (told ++ take i faults) → length told + length faults < 2 ^ 64 →
    slice_index counts (rule_place (get_or faults i d).rule) < 2 ^ 64 - 1
room told faults i d counts lt are few =
    let f : Fault = get_or faults i d in
    let low : slice_index (counts_of (told ++ take i faults)) (rule_place f.rule) ≤ length (told ++ take i faults) = count_low (told ++ take i faults) f.rule in
    let long = length-append told (take i faults) in
    let le : i ≤ length faults = omega arith in
    let part : length (take i faults) ≡ i = length-take-le i faults le in
    subst (λ (l : List ℕ). slice_index l (rule_place f.rule) < 2 ^ 64 - 1) (sym are) (omega (arith, low, long, part, lt, few))

-- the text is that of the faults
pub text_told : (told : List Fault) (words total : ℕ) (none one two all : List ℕ) → none ≡ [] → one ≡ none ++ count_line (codes "words") words → two ≡ one ++ count_line (codes "faults") total → total ≡ length told →
    all ≡ two ++ flat_map (rule_line_of told) all_rules → all ≡ check_text words told
text_told told words total none one two all z a b e d =
    let w : List ℕ = count_line (codes "words") words in
    let lines : List ℕ = flat_map (rule_line_of told) all_rules in
    let first : one ≡ w = a ∙ ap (λ (l : List ℕ). l ++ w) z in
    let second : two ≡ w ++ count_line (codes "faults") (length told) = b ∙ ap (λ (l : List ℕ). l ++ count_line (codes "faults") total) first ∙ ap (λ (n : ℕ). w ++ count_line (codes "faults") n) e in
    d ∙ ap (λ (l : List ℕ). l ++ lines) second ∙ append_assoc w (count_line (codes "faults") (length told)) lines
