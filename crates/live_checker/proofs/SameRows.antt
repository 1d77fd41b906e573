-- The rows that words show as they come are their faults.
use Rattle.std.proofs.Common.{ℕ, ◌≡◌, refl, sym, subst, ap, ap₂, ◌∙◌, Bool, true, false, ◌&&◌, not, List, [], ◌∷◌, ◌++◌, length, Option, Some, None, append_assoc, append-nil}
use Rattle.std.proofs.lemmas.List.Elements.{filter-append}
use Rattle.lk_base.specs.declared.word.RxWord.{RxWord}
use Rattle.lk_base.specs.declared.word.RxWord.TheVariants.{Data, Control, Bad}
use Rattle.lk_base.specs.Fields.{channel_number}
use Rattle.receive_model.specs.Lists.{first_of}
use Rattle.word_rules.specs.declared.fault.Fault.{Fault}
use Rattle.word_rules.specs.declared.limits.WordLimits.{WordLimits}
use Rattle.word_rules.specs.declared.rule.WordRule.{WordRule}
use Rattle.word_rules.specs.declared.rule.WordRule.TheVariants as rules
use Rattle.word_rules.specs.Places.{is_burst_word}
use Rattle.word_rules.specs.Rules.{breaks_control, breaks_crc, breaks_empty, breaks_end, breaks_short}
use Rattle.word_rules.specs.Faults.{Plan, burst_rows, data_rows, empty_rows, faults, faults_at, faults_from, field_rows, packet_rows, row}
use Rattle.live_checker.specs.Live.{live_faults, live_from}
use Rattle.live_checker.specs.Laws.{AreSameRows, LiveRowsAreInOrder, empties, empty_before, is_empty_rule, others, rows_in_order}

-- none is of `empty`
HasNone : List Fault → Type 0
HasNone [] = Unit {0}
HasNone (f ∷ rows) = (is_empty_rule f.rule ≡ false) × HasNone rows

both_none : (xs ys : List Fault) → HasNone xs → HasNone ys → HasNone (xs ++ ys)
unfolding HasNone
both_none [] ys h k = k
both_none (f ∷ xs) ys h k = (h.0, both_none xs ys h.1 k)

row_none : (n : ℕ) (rule : WordRule) (channel : Option ℕ) (broken : Bool) → is_empty_rule rule ≡ false → HasNone (row n rule channel broken)
unfolding HasNone
row_none n rule channel true h = (h, tt)
row_none n rule channel false h = tt

no_empties : (rows : List Fault) → HasNone rows → empties rows ≡ []
unfolding HasNone
no_empties [] h = refl
no_empties (f ∷ rows) h = rw h.0 (no_empties rows h.1)

empty_kept : (n : ℕ) (channel : Option ℕ) (broken : Bool) → empties (row n rules.Empty channel broken) ≡ row n rules.Empty channel broken
empty_kept n channel true = refl
empty_kept n channel false = refl

empty_left : (n : ℕ) (channel : Option ℕ) (broken : Bool) → others (row n rules.Empty channel broken) ≡ []
empty_left n channel true = refl
empty_left n channel false = refl

apart_empties : (xs ys : List Fault) → empties (xs ++ ys) ≡ empties xs ++ empties ys
apart_empties xs ys = filter-append (λ (f : Fault). is_empty_rule f.rule) xs ys

apart_others : (xs ys : List Fault) → others (xs ++ ys) ≡ others xs ++ others ys
apart_others xs ys = filter-append (λ (f : Fault). not (is_empty_rule f.rule)) xs ys

-- ---- the rows of a Control word: before that of `empty`, it, and after it

first_rows : WordLimits → List RxWord → ℕ → List Fault
first_rows s e x = row (length e) rules.Control None (breaks_control x) ++ row (length e) rules.Crc None (breaks_crc e x)

empty_row : WordLimits → List RxWord → ℕ → Option RxWord → List Fault
empty_row s e x next = row (length e) rules.Empty (Some (channel_number s.wide x)) (breaks_empty x next)

last_rows : Plan → List RxWord → ℕ → List Fault
last_rows p e x =
    (row (length e) rules.Short (Some (channel_number p.limits.wide x)) (breaks_short p.limits e x) ++ row (length e) rules.End None (breaks_end e x))
    ++ (burst_rows p.limits e x ++ (packet_rows p.limits p.channels e x ++ field_rows p e x))

parted : (a b m c d k : List Fault) → (a ++ (b ++ (m ++ (c ++ d)))) ++ k ≡ (a ++ b) ++ (m ++ ((c ++ d) ++ k))
parted a b m c d k = simp append_assoc

in_parts : (p : Plan) (e : List RxWord) (x : ℕ) (next : Option RxWord) → faults_at p e (Control x) next ≡ first_rows p.limits e x ++ (empty_row p.limits e x next ++ last_rows p e x)
unfolding first_rows empty_row last_rows
in_parts p e x next =
    parted
    (row (length e) rules.Control None (breaks_control x))
    (row (length e) rules.Crc None (breaks_crc e x))
    (empty_row p.limits e x next)
    (row (length e) rules.Short (Some (channel_number p.limits.wide x)) (breaks_short p.limits e x))
    (row (length e) rules.End None (breaks_end e x))
    (burst_rows p.limits e x ++ (packet_rows p.limits p.channels e x ++ field_rows p e x))

first_none : (s : WordLimits) (e : List RxWord) (x : ℕ) → HasNone (first_rows s e x)
unfolding first_rows
first_none s e x = both_none _ _ (row_none (length e) rules.Control None (breaks_control x) refl) (row_none (length e) rules.Crc None (breaks_crc e x) refl)

burst_none : (p : Plan) (e : List RxWord) (x : ℕ) → HasNone (burst_rows p.limits e x)
burst_none p e x = search (both_none, row_none)

packet_none : (p : Plan) (e : List RxWord) (x : ℕ) → HasNone (packet_rows p.limits p.channels e x)
packet_none p e x = search (both_none, row_none)

field_none : (p : Plan) (e : List RxWord) (x : ℕ) → HasNone (field_rows p e x)
field_none p e x = search (both_none, row_none)

data_none : (p : Plan) (e : List RxWord) → HasNone (data_rows p.limits e)
data_none p e = search (both_none, row_none)

two_none : (p : Plan) (e : List RxWord) (x : ℕ) → HasNone (row (length e) rules.Short (Some (channel_number p.limits.wide x)) (breaks_short p.limits e x) ++ row (length e) rules.End None (breaks_end e x))
two_none p e x = search (both_none, row_none)

last_none : (p : Plan) (e : List RxWord) (x : ℕ) → HasNone (last_rows p e x)
unfolding last_rows
last_none p e x = both_none _ _ (two_none p e x) (both_none _ _ (burst_none p e x) (both_none _ _ (packet_none p e x) (field_none p e x)))

-- ---- the rows of one word

of_control : (p : Plan) (e : List RxWord) (x : ℕ) (next : Option RxWord) → empties (faults_at p e (Control x) next) ≡ empty_row p.limits e x next
unfolding empty_row
of_control p e x next =
    ap empties (in_parts p e x next)
    ∙ apart_empties (first_rows p.limits e x) (empty_row p.limits e x next ++ last_rows p e x)
    ∙ ap₂ (λ (l r : List Fault). l ++ r) (no_empties _ (first_none p.limits e x))
    (apart_empties (empty_row p.limits e x next) (last_rows p e x)
    ∙ ap₂ (λ (l r : List Fault). l ++ r) (empty_kept (length e) (Some (channel_number p.limits.wide x)) (breaks_empty x next)) (no_empties _ (last_none p e x))
    ∙ append-nil (empty_row p.limits e x next))

and_false : (b : Bool) → (b && false) ≡ false
and_false true = refl
and_false false = refl

-- the row of `empty` of the word before a place, by the word at the place, if there is one
behind : WordLimits → List RxWord → Option RxWord → List Fault
behind s e None = []
behind s e (Some word) = empty_rows s e word

empties_at : (p : Plan) (e : List RxWord) (word : RxWord) (next : Option RxWord) → empties (faults_at p e word next) ≡ behind p.limits (word ∷ e) next
unfolding behind empty_row
empties_at p e (Data x) None = no_empties (data_rows p.limits e) (data_none p e)
empties_at p e (Data x) (Some word) = no_empties (data_rows p.limits e) (data_none p e)
empties_at p e (Control x) None =
    let none : breaks_empty x None ≡ false = and_false (is_burst_word x) in
    of_control p e x None
    ∙ ap (λ (b : Bool). row (length e) rules.Empty (Some (channel_number p.limits.wide x)) b) none
empties_at p e (Control x) (Some word) = of_control p e x (Some word)
empties_at p e Bad None = refl
empties_at p e Bad (Some word) = refl

-- the rows of a Control word but that of `empty`
rest_of : Plan → List RxWord → ℕ → List Fault
rest_of p e x = others (first_rows p.limits e x) ++ others (last_rows p e x)

others_of_control : (p : Plan) (e : List RxWord) (x : ℕ) (next : Option RxWord) → others (faults_at p e (Control x) next) ≡ rest_of p e x
unfolding rest_of empty_row
others_of_control p e x next =
    ap others (in_parts p e x next)
    ∙ apart_others (first_rows p.limits e x) (empty_row p.limits e x next ++ last_rows p e x)
    ∙ ap (λ (l : List Fault). others (first_rows p.limits e x) ++ l)
    (apart_others (empty_row p.limits e x next) (last_rows p e x)
    ∙ ap (λ (l : List Fault). l ++ others (last_rows p e x)) (empty_left (length e) (Some (channel_number p.limits.wide x)) (breaks_empty x next)))

others_at : (p : Plan) (e : List RxWord) (word : RxWord) (next : Option RxWord) → others (faults_at p e word None) ≡ others (faults_at p e word next)
others_at p e (Data x) next = refl
others_at p e (Control x) next = others_of_control p e x None ∙ sym (others_of_control p e x next)
others_at p e Bad next = refl

shown_kept : (s : WordLimits) (e : List RxWord) (word : RxWord) → empties (empty_rows s e word) ≡ empty_rows s e word
shown_kept s [] word = refl
shown_kept s (Data x ∷ e) word = refl
shown_kept s (Control x ∷ e) word = empty_kept (length e) (Some (channel_number s.wide x)) (breaks_empty x (Some word))
shown_kept s (Bad ∷ e) word = refl

shown_left : (s : WordLimits) (e : List RxWord) (word : RxWord) → others (empty_rows s e word) ≡ []
shown_left s [] word = refl
shown_left s (Data x ∷ e) word = refl
shown_left s (Control x ∷ e) word = empty_left (length e) (Some (channel_number s.wide x)) (breaks_empty x (Some word))
shown_left s (Bad ∷ e) word = refl

-- ---- the rows of all words

empties_from : (p : Plan) (e words : List RxWord) → empties (live_from p e words) ≡ behind p.limits e (first_of words) ++ empties (faults_from p e words)
unfolding behind
empties_from p e [] = refl
empties_from p e (w ∷ words) =
    let next = first_of words in
    let more : List Fault = empties (faults_from p (w ∷ e) words) in
    apart_empties (empty_rows p.limits e w ++ faults_at p e w None) (live_from p (w ∷ e) words)
    ∙ ap₂ (λ (l r : List Fault). l ++ r)
    (apart_empties (empty_rows p.limits e w) (faults_at p e w None)
    ∙ ap₂ (λ (l r : List Fault). l ++ r) (shown_kept p.limits e w) (empties_at p e w None)
    ∙ append-nil (empty_rows p.limits e w))
    (empties_from p (w ∷ e) words
    ∙ ap (λ (l : List Fault). l ++ more) (sym (empties_at p e w next))
    ∙ sym (apart_empties (faults_at p e w next) (faults_from p (w ∷ e) words)))

others_from : (p : Plan) (e words : List RxWord) → others (live_from p e words) ≡ others (faults_from p e words)
others_from p e [] = refl
others_from p e (w ∷ words) =
    apart_others (empty_rows p.limits e w ++ faults_at p e w None) (live_from p (w ∷ e) words)
    ∙ ap₂ (λ (l r : List Fault). l ++ r)
    (apart_others (empty_rows p.limits e w) (faults_at p e w None)
    ∙ ap₂ (λ (l r : List Fault). l ++ r) (shown_left p.limits e w) (others_at p e w (first_of words)))
    (others_from p (w ∷ e) words)
    ∙ sym (apart_others (faults_at p e w (first_of words)) (faults_from p (w ∷ e) words))

none_at_start : (s : WordLimits) (next : Option RxWord) → behind s [] next ≡ []
unfolding behind
none_at_start s None = refl
none_at_start s (Some word) = refl

pub same_rows : (p : Plan) (words : List RxWord) → AreSameRows (live_faults p words) (faults p words)
same_rows p words = record {
  same_empties = empties_from p [] words ∙ ap (λ (l : List Fault). l ++ empties (faults p words)) (none_at_start p.limits (first_of words));
  same_others = others_from p [] words;
}

-- ---- their order

all_others : (rows : List Fault) → HasNone rows → others rows ≡ rows
unfolding HasNone
all_others [] h = refl
all_others (f ∷ rows) h = rw h.0 (ap (λ (l : List Fault). f ∷ l) (all_others rows h.1))

empty_none : (p : Plan) (e : List RxWord) (x : ℕ) → HasNone (empty_row p.limits e x None)
unfolding HasNone empty_row
empty_none p e x = subst (λ (b : Bool). HasNone (row (length e) rules.Empty (Some (channel_number p.limits.wide x)) b)) (sym (and_false (is_burst_word x))) tt

-- without the word after it a word shows no row of `empty` of its own
own_none : (p : Plan) (e : List RxWord) (word : RxWord) → HasNone (faults_at p e word None)
own_none p e (Data x) = data_none p e
own_none p e (Control x) = subst HasNone (sym (in_parts p e x None)) (both_none _ _ (first_none p.limits e x) (both_none _ _ (empty_none p e x) (last_none p e x)))
own_none p e Bad = row_none (length e) rules.Bad None true refl

own_rows : (p : Plan) (e : List RxWord) (word : RxWord) (next : Option RxWord) → faults_at p e word None ≡ others (faults_at p e word next)
own_rows p e word next = sym (all_others (faults_at p e word None) (own_none p e word)) ∙ others_at p e word next

before_is : (p : Plan) (e : List RxWord) (word : RxWord) → empty_rows p.limits e word ≡ empty_before p e word
unfolding behind
before_is p [] word = refl
before_is p (before ∷ e) word = sym (empties_at p e before (Some word))

order_from : (p : Plan) (e words : List RxWord) → live_from p e words ≡ rows_in_order p e words
order_from p e [] = refl
order_from p e (w ∷ words) =
    ap₂ (λ (l r : List Fault). l ++ r)
    (ap₂ (λ (l r : List Fault). l ++ r) (before_is p e w) (own_rows p e w (first_of words)))
    (order_from p (w ∷ e) words)

pub rows_are_in_order : LiveRowsAreInOrder
rows_are_in_order p words = order_from p [] words
