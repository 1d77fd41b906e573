-- Many words, given one after another.
use Rattle.std.proofs.Common.{ℕ, zero, suc, ◌+◌, ◌==◌, ◌≡◌, ◌≤◌, ◌<◌, refl, sym, ap, ap₂, ◌∙◌, Bool, true, false, cond, is_some, List, [], ◌∷◌, ◌++◌, length, map, take, drop, get_or, slice_set, Option, Some, None, eqb-true, arith}
use Rattle.std.proofs.lemmas.List.{drop-drop, drop_all, length-drop, length-map, map-append, take-append-drop, take_more, take_more_set, get_or-drop}
use Rattle.lk_base.specs.declared.word.RxWord.{RxWord}
use Rattle.lk_base.specs.declared.word.RxWord.TheVariants.{Data}
use Rattle.live_checker.specs.declared.misuse.Misuse.{Misuse}
use Rattle.live_checker.specs.Calls.{AreTaken, word_refusal}
use Rattle.live_checker.specs.Standing.{Checked, with_word, with_words}
use Rattle.c_parts.specs.Codes.{done, out_of_range}
use Rattle.c_checker.specs.Codes.{word_of}
use Rattle.c_checker.specs.Many.{IsStuck, LeadsTo, after_taken, asked, count_taken, words_code}
use Rattle.c_checker.specs.declared.many.CWord.{CWord}

abbrev pub datas : List ℕ → List (Option RxWord)
datas run = map (λ (n : ℕ). Some (Data n)) run

-- ---- the words of a list

-- the word at a place, and those after it
pub asked_at : (words : List CWord) (at : ℕ) (d : CWord) → at < length words →
    drop at (asked words) ≡ word_of (get_or words at d).kind (get_or words at d).number ∷ drop (at + 1) (asked words)
asked_at [] at d lt = absurd (omega (arith, lt))
asked_at (w ∷ words) zero d lt = refl
asked_at (w ∷ words) (suc at) d lt = (let on : suc at + 1 ≡ suc (at + 1) = omega arith in asked_at words at d (omega (arith, lt)) ∙ ap (λ (n : ℕ). word_of (get_or words at d).kind (get_or words at d).number ∷ drop n (asked (w ∷ words))) (sym on))

pub asked_past : (words : List CWord) (at : ℕ) → length words ≤ at → drop at (asked words) ≡ []
asked_past words at le = drop_all at (asked words) (let n = length-map words (λ (w : CWord). word_of w.kind w.number) in omega arith)

-- a word of kind 1 is a Data word
pub data_kind : (w : CWord) → w.kind ≡ 1 → word_of w.kind w.number ≡ Some (Data w.number)
data_kind w e = ap (λ (k : ℕ). word_of k w.number) e

asked_get : (words : List CWord) (k : ℕ) (d : CWord) → k < length words → get_or (asked words) k None ≡ word_of (get_or words k d).kind (get_or words k d).number
asked_get [] k d lt = absurd (omega (arith, lt))
asked_get (w ∷ words) zero d lt = refl
asked_get (w ∷ words) (suc k) d lt = asked_get words k d (omega (arith, lt))

-- one number of a run more
pub run_more : (words : List CWord) (at i : ℕ) (room : List ℕ) (d w : CWord) → at + i < length words → i < length room → w ≡ get_or words (at + i) d → w.kind ≡ 1 →
    datas (take i room) ≡ take i (drop at (asked words)) → datas (take (i + 1) (slice_set room i w.number)) ≡ take (i + 1) (drop at (asked words))
run_more words at i room d w lt fits is kind h =
    let left : i < length (drop at (asked words)) =
    (let n = length-drop at (asked words) in let m = length-map words (λ (v : CWord). word_of v.kind v.number) in omega (arith, lt, n, m)) in
    let word : get_or (drop at (asked words)) i None ≡ Some (Data w.number) =
    get_or-drop at (asked words) i None ∙ asked_get words (at + i) d lt ∙ ap (λ (v : CWord). word_of v.kind v.number) (sym is) ∙ data_kind w kind in
    ap datas (take_more_set room i w.number fits)
    ∙ map-append (λ (n : ℕ). Some (Data n)) (take i room) (w.number ∷ [])
    ∙ ap₂ (λ (l : List (Option RxWord)) (o : Option RxWord). l ++ o ∷ []) h (sym word)
    ∙ sym (take_more (drop at (asked words)) i None left)

-- ---- what is taken

free_some : (x : Checked) → word_refusal x ≡ None → is_some (word_refusal x) ≡ false
free_some x e = ap (λ (o : Option Misuse). is_some o) e

-- a word that is not refused is taken
count_word : (w : RxWord) (rest : List (Option RxWord)) (x : Checked) → word_refusal x ≡ None → count_taken (Some w ∷ rest) x ≡ suc (count_taken rest (with_word w x))
count_word w rest x e = ap (λ (b : Bool). cond b 0 (suc (count_taken rest (with_word w x)))) (free_some x e)

after_word : (w : RxWord) (rest : List (Option RxWord)) (x : Checked) → word_refusal x ≡ None → after_taken (Some w ∷ rest) x ≡ after_taken rest (with_word w x)
after_word w rest x e = ap (λ (b : Bool). cond b x (after_taken rest (with_word w x))) (free_some x e)

count_run : (run : List ℕ) (rest : List (Option RxWord)) (x : Checked) → AreTaken (map (λ (n : ℕ). Data n) run) x →
    count_taken (datas run ++ rest) x ≡ length run + count_taken rest (with_words (map (λ (n : ℕ). Data n) run) x)
count_run [] rest x taken = omega arith
count_run (n ∷ run) rest x taken =
    let h = count_run run rest (with_word (Data n) x) taken.1 in
    let one = count_word (Data n) (datas run ++ rest) x taken.0 in
    omega (arith, one, h)

after_run : (run : List ℕ) (rest : List (Option RxWord)) (x : Checked) → AreTaken (map (λ (n : ℕ). Data n) run) x →
    after_taken (datas run ++ rest) x ≡ after_taken rest (with_words (map (λ (n : ℕ). Data n) run) x)
after_run [] rest x taken = refl
after_run (n ∷ run) rest x taken = after_word (Data n) (datas run ++ rest) x taken.0 ∙ after_run run rest (with_word (Data n) x) taken.1

-- ---- from place to place

pub leads_word : (words : List (Option RxWord)) (at : ℕ) (w : RxWord) (x : Checked) → drop at words ≡ Some w ∷ drop (at + 1) words → word_refusal x ≡ None → LeadsTo words at x (at + 1) (with_word w x)
leads_word words at w x is free = record {
  count = (let h = ap (λ (l : List (Option RxWord)). count_taken l x) is ∙ count_word w (drop (at + 1) words) x free in omega (arith, h));
  after = ap (λ (l : List (Option RxWord)). after_taken l x) is ∙ after_word w (drop (at + 1) words) x free;
}

pub leads_run : (words : List (Option RxWord)) (at : ℕ) (run : List ℕ) (x : Checked) → datas run ≡ take (length run) (drop at words) → AreTaken (map (λ (n : ℕ). Data n) run) x →
    LeadsTo words at x (at + length run) (with_words (map (λ (n : ℕ). Data n) run) x)
leads_run words at run x is taken =
    let whole : drop at words ≡ datas run ++ drop (at + length run) words =
    sym (take-append-drop (length run) (drop at words)) ∙ ap₂ (λ (a b : List (Option RxWord)). a ++ b) (sym is) (drop-drop (length run) at words) in
    record {
      count = (let h = ap (λ (l : List (Option RxWord)). count_taken l x) whole ∙ count_run run (drop (at + length run) words) x taken in omega (arith, h));
      after = ap (λ (l : List (Option RxWord)). after_taken l x) whole ∙ after_run run (drop (at + length run) words) x taken;
    }

-- a word of no kind is not taken
pub stuck_kind : (words : List (Option RxWord)) (at : ℕ) (x : Checked) → drop at words ≡ None ∷ drop (at + 1) words → IsStuck words at x
stuck_kind words at x is = record { count = ap (λ (l : List (Option RxWord)). count_taken l x) is; after = ap (λ (l : List (Option RxWord)). after_taken l x) is }

-- nor one that is refused
pub stuck_word : (words : List (Option RxWord)) (at : ℕ) (w : RxWord) (x : Checked) → drop at words ≡ Some w ∷ drop (at + 1) words → is_some (word_refusal x) ≡ true → IsStuck words at x
stuck_word words at w x is e = record {
  count = ap (λ (l : List (Option RxWord)). count_taken l x) is ∙ ap (λ (t : Bool). cond t 0 (suc (count_taken (drop (at + 1) words) (with_word w x)))) e;
  after = ap (λ (l : List (Option RxWord)). after_taken l x) is ∙ ap (λ (t : Bool). cond t x (after_taken (drop (at + 1) words) (with_word w x))) e;
}

pub stuck_end : (words : List (Option RxWord)) (at : ℕ) (x : Checked) → drop at words ≡ [] → IsStuck words at x
stuck_end words at x is = record { count = ap (λ (l : List (Option RxWord)). count_taken l x) is; after = ap (λ (l : List (Option RxWord)). after_taken l x) is }

-- what leads to a place from which none is taken is all
pub all_taken : (words : List (Option RxWord)) (x y : Checked) (at : ℕ) → LeadsTo words 0 x at y → IsStuck words at y → (at ≡ count_taken words x) × (after_taken words x ≡ y)
all_taken words x y at leads stuck = ((let a = leads.count in let b = stuck.count in omega (arith, a, b)), leads.after ∙ stuck.after)

pub leads_on : (words : List (Option RxWord)) (a b c : ℕ) (x y z : Checked) → LeadsTo words a x b y → LeadsTo words b y c z → LeadsTo words a x c z
leads_on words a b c x y z one other = record { count = one.count ∙ other.count; after = one.after ∙ other.after }

pub leads_none : (words : List (Option RxWord)) (at : ℕ) (x : Checked) → LeadsTo words at x at x
leads_none words at x = record { count = refl; after = refl }

pub take_long : (n : ℕ) (xs : List ℕ) → n ≤ length xs → length (take n xs) ≡ n
take_long zero xs le = refl
take_long (suc n) [] le = absurd (omega (arith, le))
take_long (suc n) (x ∷ xs) le = ap suc (take_long n xs (omega (arith, le)))

-- ---- the result

-- none is taken where any would be refused
pub count_refused : (words : List (Option RxWord)) (x : Checked) (why : Misuse) → word_refusal x ≡ Some why → count_taken words x ≡ 0
count_refused [] x why e = refl
count_refused (None ∷ words) x why e = refl
count_refused (Some w ∷ words) x why e = ap (λ (o : Option Misuse). cond (is_some o) 0 (suc (count_taken words (with_word w x)))) e

pub after_refused : (words : List (Option RxWord)) (x : Checked) (why : Misuse) → word_refusal x ≡ Some why → after_taken words x ≡ x
after_refused [] x why e = refl
after_refused (None ∷ words) x why e = refl
after_refused (Some w ∷ words) x why e = ap (λ (o : Option Misuse). cond (is_some o) x (after_taken words (with_word w x))) e

pub code_some : (words : List (Option RxWord)) (x : Checked) (n : ℕ) → n ≡ count_taken words x → 0 < n → done ≡ words_code words None
code_some [] x n e lt = absurd (omega (arith, e, lt))
code_some (None ∷ words) x n e lt = absurd (omega (arith, e, lt))
code_some (Some w ∷ words) x n e lt = refl

pub code_empty : (words : List CWord) → true ≡ (length words == 0) → done ≡ words_code (asked words) None
code_empty [] e = refl
code_empty (w ∷ words) e = (let z = eqb-true (length (w ∷ words)) 0 (sym e) in absurd (omega (arith, z)))

pub some_left : (words : List CWord) → false ≡ (length words == 0) → 0 < length words
some_left [] e = absurd (cc e)
some_left (w ∷ words) e = omega arith

pub code_stuck : (words : List CWord) (x : Checked) (n : ℕ) → n ≡ count_taken (asked words) x → word_refusal x ≡ None → n ≡ 0 → 0 < length words → out_of_range ≡ words_code (asked words) None
code_stuck [] x n e free none lt = absurd (omega (arith, lt))
code_stuck (w ∷ words) x n e free none lt = go (word_of w.kind w.number) e where
  go : (o : Option RxWord) → n ≡ count_taken (o ∷ asked words) x → out_of_range ≡ words_code (o ∷ asked words) None
  go None h = refl
  go (Some v) h = (let one = count_word v (asked words) x free in absurd (omega (arith, h, one, none)))
