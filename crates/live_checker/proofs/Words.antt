-- One word more, and one word of flow control more.
use Rattle.std.proofs.Common.{ℕ, zero, suc, ◌+◌, ◌≡◌, ◌≤◌, ◌<◌, refl, sym, ap, ap₂, ◌∙◌, List, [], ◌∷◌, ◌++◌, length, reverse, get_or, None, append_assoc, append-nil, arith}
use Rattle.std.proofs.lemmas.List.{reverse-append}
use Rattle.std.proofs.lemmas.List.Elements.{All-append}
use Rattle.lk_base.specs.declared.word.RxWord.{RxWord}
use Rattle.stream_model.specs.declared.rows.FlowRow.{FlowRow}
use Rattle.word_rules.specs.declared.fault.Fault.{Fault}
use Rattle.word_rules.specs.Faults.{Plan, empty_rows, with_flow}
use Rattle.word_rules.specs.Flows.{InOrder, NoneLater, no_row, with_row}
use Rattle.word_rules.proofs.LaterRows.{later_row}
use Rattle.live_checker.specs.Live.{live_faults, live_from, shown_at}

pub reverse_push : (words : List RxWord) (word : RxWord) → reverse (words ++ word ∷ []) ≡ word ∷ reverse words
reverse_push words word = reverse-append words (word ∷ [])

live_push_from : (p : Plan) (e words : List RxWord) (word : RxWord) → live_from p e (words ++ word ∷ []) ≡ live_from p e words ++ shown_at p (reverse words ++ e) word
live_push_from p e [] word = append-nil (shown_at p e word)
live_push_from p e (w ∷ words) word =
    let e' : reverse (w ∷ words) ++ e ≡ reverse words ++ w ∷ e = ap (λ (l : List RxWord). l ++ e) (reverse-append (w ∷ []) words) ∙ append_assoc (reverse words) (w ∷ []) e in
    ap (λ (rows : List Fault). shown_at p e w ++ rows) (live_push_from p (w ∷ e) words word)
    ∙ sym (append_assoc (shown_at p e w) (live_from p (w ∷ e) words) (shown_at p (reverse words ++ w ∷ e) word))
    ∙ ap (λ (l : List RxWord). (shown_at p e w ++ live_from p (w ∷ e) words) ++ shown_at p l word) (sym e')

-- a word more shows its rows after those of the words before it
pub live_push : (p : Plan) (words : List RxWord) (word : RxWord) → live_faults p (words ++ word ∷ []) ≡ live_faults p words ++ shown_at p (reverse words) word
live_push p words word = live_push_from p [] words word ∙ ap (λ (l : List RxWord). live_faults p words ++ shown_at p l word) (append-nil (reverse words))

live_later_from : (p : Plan) (slot heard : ℕ) (e words : List RxWord) → length e + length words ≤ slot → live_from (with_flow p (with_row p.flow slot heard)) e words ≡ live_from p e words
live_later_from p slot heard e [] le = refl
live_later_from p slot heard e (w ∷ words) le =
    ap₂ (λ (rows more : List Fault). (empty_rows p.limits e w ++ rows) ++ more)
    (later_row p e w None slot heard (omega arith))
    (live_later_from p slot heard (w ∷ e) words (omega arith))

-- a word of flow control changes no row of the words so far
pub live_later : (p : Plan) (words : List RxWord) (heard : ℕ) → live_faults (with_flow p (with_row p.flow (length words) heard)) words ≡ live_faults p words
live_later p words heard = live_later_from p (length words) heard [] words (omega arith)

least_push : (rows : List FlowRow) (t word i : ℕ) → NoneLater rows t → i ≤ length rows → (get_or (with_row rows t word) i no_row).slot ≤ t
least_push [] t word zero none le = omega arith
least_push [] t word (suc i) none le = omega arith
least_push (row ∷ rows) t word zero none le = none 0 no_row (omega arith)
least_push (row ∷ rows) t word (suc i) none le = least_push rows t word i (λ k d lt. none (suc k) d (omega arith)) (omega arith)

in_order_rest : (row : FlowRow) (rows : List FlowRow) → InOrder (row ∷ rows) → InOrder rows
in_order_rest row rows ord i j le lt = ord (suc i) (suc j) (omega arith) (omega arith)

first_push : (row : FlowRow) (rows : List FlowRow) (t word j : ℕ) → InOrder (row ∷ rows) → NoneLater (row ∷ rows) t → j < length (with_row rows t word) → row.slot ≤ (get_or (with_row rows t word) j no_row).slot
first_push row [] t word zero ord none lt = none 0 no_row (omega arith)
first_push row [] t word (suc j) ord none lt = omega arith
first_push row (r ∷ rows) t word zero ord none lt = ord 0 1 (omega arith) (omega arith)
first_push row (r ∷ rows) t word (suc j) ord none lt =
    first_push row rows t word j skip skip_none (omega arith) where
      skip : InOrder (row ∷ rows)
      skip zero zero le below = omega arith
      skip zero (suc b) le below = ord 0 (suc (suc b)) (omega arith) (omega arith)
      skip (suc a) zero le below = omega arith
      skip (suc a) (suc b) le below = ord (suc (suc a)) (suc (suc b)) (omega arith) (omega arith)

      skip_none : NoneLater (row ∷ rows) t
      skip_none zero d lt = none 0 d (omega arith)
      skip_none (suc k) d lt = none (suc (suc k)) d (omega arith)

-- a word of flow control more stands after the rows
pub in_order_push : (rows : List FlowRow) (t word : ℕ) → InOrder rows → NoneLater rows t → InOrder (with_row rows t word)
in_order_push [] t word ord none zero zero le lt = omega arith
in_order_push [] t word ord none zero (suc j) le lt = omega arith
in_order_push [] t word ord none (suc i) j le lt = omega arith
in_order_push (row ∷ rows) t word ord none zero zero le lt = omega arith
in_order_push (row ∷ rows) t word ord none zero (suc j) le lt = first_push row rows t word j ord none (omega arith)
in_order_push (row ∷ rows) t word ord none (suc i) zero le lt = omega arith
in_order_push (row ∷ rows) t word ord none (suc i) (suc j) le lt =
    in_order_push rows t word (in_order_rest row rows ord) (λ k d lt. none (suc k) d (omega arith)) i j (omega arith) (omega arith)

-- none of the rows is later than the word after
pub none_later_more : (rows : List FlowRow) (t u : ℕ) → t ≤ u → NoneLater rows t → NoneLater rows u
none_later_more rows t u le h i d lt = (let k = h i d lt in omega arith)

pub none_later_push : (rows : List FlowRow) (t word : ℕ) → NoneLater rows t → NoneLater (with_row rows t word) t
none_later_push rows t word h = All-append (λ (row : FlowRow). row.slot ≤ t) rows (record { slot = t; word = word } ∷ []) h one where
  one : NoneLater (record { slot = t; word = word } ∷ []) t
  one zero d lt = omega arith
  one (suc i) d lt = omega arith
