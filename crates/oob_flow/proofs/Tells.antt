-- What the words of a frame tell: the state of each entry.
use Rattle.std.proofs.Common.{◌≡◌, ℕ, zero, suc, ◌+◌, ◌-◌, ◌*◌, ◌/◌, ◌%◌, ◌^◌, ◌<◌, ◌≤◌, ◌==◌, min, Bool, true, false, List, [], ◌∷◌, ◌++◌, length, map, take, drop, replicate, get_or, Some, All, refl, sym, ap, ◌∙◌, subst, append_assoc, inl, inr, arith}
use Rattle.std.specs.Int.{bit_at}
use Rattle.std.specs.List.{range_with_len}
use Rattle.std.specs.Option.{option_map}
use Rattle.std.proofs.lemmas.Bool.{cases_lt}
use Rattle.std.proofs.lemmas.List.{length-append, length-map, get_or-map, length-take-le, length-drop, get_or-take, get_or-drop, get_or_append_left, get_or-append-add}
use Rattle.std.proofs.lemmas.List.FromFn.{length-map-range_with_len, get_or-map-range_with_len}
use Rattle.std.proofs.lemmas.List.Elements.{All-nil, All-append}
use Rattle.stream_model.specs.Calendar.{Told, word_number, told_by_word, told_by_row, told_from}
use Rattle.stream_model.specs.declared.rows.FlowRow.{FlowRow}
use Rattle.calendar.proofs.Rows.{number_reset, number_next}
use Rattle.calendar.proofs.Stands.{told_some}
use Rattle.oob_flow.specs.Frames.{block_sizes}
use Rattle.oob_flow.specs.Taken.{Taken}
use Rattle.oob_flow.specs.Words.{flow_bits, idle_word, words_from, block_words}
use Rattle.oob_flow.specs.Reading.{number_at, rows_at}
use Rattle.oob_flow.proofs.Idle.{idle_valid, idle_reset, idle_tells, flow_small}
use Rattle.oob_flow.proofs.Rightly.{right_rows}

-- each entry that was told has its channel's state, and each entry from one number up to another was told
pub record Tells (entries : List ℕ) (st : ℕ → Bool) (from to : ℕ) (told : List Told) : Type 0 where
  pub on : All (λ (e : Told). e.on ≡ st e.channel) told
  pub covers : (j : ℕ) → from ≤ j → j < to → j < length entries → (k : ℕ) × (k < length told) × ((d : Told) → (get_or told k d).channel ≡ get_or entries j 0)

-- a word with this number may come after these: with the reset bit it is number 0, and else the next number
abbrev Follows : Bool → ℕ → List ℕ → Type 0
Follows true d earlier = d ≡ 0
Follows false d earlier = (p : ℕ) × (d ≡ suc p) × (word_number earlier ≡ Some p)

numbered : (reset : Bool) (d : ℕ) (earlier : List ℕ) (flow : ℕ) → flow < 2 ^ 16 → Follows reset d earlier → word_number (idle_word reset flow ∷ earlier) ≡ Some d
numbered true d earlier flow small h = number_reset (idle_word true flow) earlier (idle_valid true flow small) (idle_reset true flow small) ∙ ap Some (sym h)
numbered false d earlier flow small h = number_next (idle_word false flow) earlier (idle_valid false flow small) (idle_reset false flow small) ∙ ap (option_map suc) h.2 ∙ ap Some (sym h.1)

module _ (entries : List ℕ) (st : ℕ → Bool) where
  none_told : (from to : ℕ) → to ≤ from → Tells entries st from to []
  none_told from to h = record { on = All-nil (λ (e : Told). e.on ≡ st e.channel); covers = λ j a b c. absurd (omega arith) }

  both_told : (from mid to : ℕ) (xs ys : List Told) → Tells entries st from mid xs → Tells entries st mid to ys → Tells entries st from to (xs ++ ys)
  both_told from mid to xs ys a b = record {
    on = All-append (λ (e : Told). e.on ≡ st e.channel) xs ys a.on b.on;
    covers = λ j low high within. elim (cases_lt j mid) [
      | inl l ↦ (let c = a.covers j low l within in (c.0, omega (arith, length-append xs ys, c.1), λ d. ap (λ (e : Told). e.channel) (get_or_append_left xs ys d c.0 c.1) ∙ c.2 d))
      | inr g ↦ (let c = b.covers j g high within in (length xs + c.0, omega (arith, length-append xs ys, c.1), λ d. ap (λ (e : Told). e.channel) (get_or-append-add xs ys c.0 d) ∙ c.2 d))
    ];
  }

  fewer_told : (from to less : ℕ) (xs : List Told) → less ≤ to → Tells entries st from to xs → Tells entries st from less xs
  fewer_told from to less xs h t = record { on = t.on; covers = λ j low high within. t.covers j low (omega arith) within }

  -- ---- one word

  -- from entry number n on, this many states are those of the entries
  abbrev Shows : ℕ → ℕ → List Bool → Type 0
  Shows n count states = (i : ℕ) → i < count → n + i < length entries → (i < length states) × (get_or states i false ≡ st (get_or entries (n + i) 0))

  word_tells : (slot r d : ℕ) (reset : Bool) (states : List Bool) → Shows (16 * d) 16 states → Tells entries st (16 * d) (16 * d + 16) (told_by_word entries slot r (idle_word reset (flow_bits states)) d)
  word_tells slot r d reset states shows =
      let n : ℕ = min 16 (length entries - 16 * d) in
      let f : ℕ → Told = λ i. record { slot = slot; row = r; place = i; channel = get_or entries (16 * d + i) 0; on = bit_at (idle_word reset (flow_bits states)) (55 - i) == 1 } in
      let len : length (map f (range_with_len 0 (min 16 (length entries - 16 * d)))) ≡ min 16 (length entries - 16 * d) = length-map-range_with_len f 0 (min 16 (length entries - 16 * d)) in
      let at : (i : ℕ) (e : Told) → i < min 16 (length entries - 16 * d) → get_or (map f (range_with_len 0 (min 16 (length entries - 16 * d)))) i e ≡ f i = (λ i e h. get_or-map-range_with_len f 0 (min 16 (length entries - 16 * d)) i i e h (omega arith)) in
      let own : (i : ℕ) → i < min 16 (length entries - 16 * d) → (f i).on ≡ st (f i).channel = (λ i h. (let s = shows i (omega arith) (omega arith) in idle_tells reset states i (omega arith) s.0 ∙ s.1)) in
      record {
        on = λ i e h. (let l : i < min 16 (length entries - 16 * d) = omega (arith, len) in subst (λ (t : Told). t.on ≡ st t.channel) (sym (at i e l)) (own i l));
        covers = λ j low high within. (let l : j - 16 * d < min 16 (length entries - 16 * d) = omega arith in let back : 16 * d + (j - 16 * d) ≡ j = omega arith in (j - 16 * d, omega (arith, len), λ e. ap (λ (t : Told). t.channel) (at (j - 16 * d) e l) ∙ ap (λ (m : ℕ). get_or entries m 0) back));
      }

  -- ---- words that follow one another

  words_tell : (m slot r d : ℕ) (reset : Bool) (states : List Bool) (earlier : List ℕ) → (1 ≤ m → Follows reset d earlier) → Shows (16 * d) (16 * m) states
      → Tells entries st (16 * d) (16 * d + 16 * m) (told_from entries r earlier (rows_at slot (words_from m reset states)))
  words_tell zero slot r d reset states earlier follows shows = none_told (16 * d) (16 * d + 16 * zero) (omega arith)
  words_tell (suc m) slot r d reset states earlier follows shows =
      let w : ℕ = idle_word reset (flow_bits states) in
      let number : word_number (idle_word reset (flow_bits states) ∷ earlier) ≡ Some d = numbered reset d earlier (flow_bits states) (flow_small states) (follows (omega arith)) in
      let row : FlowRow = record { slot = slot; word = idle_word reset (flow_bits states) } in
      let here : Tells entries st (16 * d) (16 * d + 16) (told_by_row entries r earlier row) =
      subst (Tells entries st (16 * d) (16 * d + 16)) (sym (told_some entries r earlier row d number)) (word_tells slot r d reset states (λ i l k. shows i (omega arith) k)) in
      let up : 16 * suc d ≡ 16 * d + 16 = omega arith in
      let end : 16 * suc d + 16 * m ≡ 16 * d + 16 * suc m = omega arith in
      let rest : Tells entries st (16 * suc d) (16 * suc d + 16 * m) (told_from entries (r + 1) (idle_word reset (flow_bits states) ∷ earlier) (rows_at slot (words_from m false (drop 16 states)))) =
      words_tell m slot (r + 1) (suc d) false (drop 16 states) (idle_word reset (flow_bits states) ∷ earlier) (λ some. (d, refl, number))
      (λ i l k. (let place : 16 * d + (16 + i) ≡ 16 * suc d + i = omega arith in let s = shows (16 + i) (omega arith) (omega arith) in let len = length-drop 16 states in
      (omega (arith, s.0, len), get_or-drop 16 states i false ∙ s.1 ∙ ap (λ (n : ℕ). st (get_or entries n 0)) place))) in
      both_told (16 * d) (16 * d + 16) (16 * d + 16 * suc m) (told_by_row entries r earlier row) (told_from entries (r + 1) (idle_word reset (flow_bits states) ∷ earlier) (rows_at slot (words_from m false (drop 16 states)))) here
      (subst (λ (n : ℕ). Tells entries st (16 * d + 16) n (told_from entries (r + 1) (idle_word reset (flow_bits states) ∷ earlier) (rows_at slot (words_from m false (drop 16 states))))) end
      (subst (λ (n : ℕ). Tells entries st n (16 * suc d + 16 * m) (told_from entries (r + 1) (idle_word reset (flow_bits states) ∷ earlier) (rows_at slot (words_from m false (drop 16 states))))) up rest))

-- the words of rows after these, the latest first
abbrev pub behind_rows : List FlowRow → List ℕ → List ℕ
behind_rows [] earlier = earlier
behind_rows (row ∷ rows) earlier = behind_rows rows (row.word ∷ earlier)

pub told_append : (entries : List ℕ) (r : ℕ) (earlier : List ℕ) (xs ys : List FlowRow) → told_from entries r earlier (xs ++ ys) ≡ told_from entries r earlier xs ++ told_from entries (r + length xs) (behind_rows xs earlier) ys
told_append entries r earlier [] ys = let e : r ≡ r + 0 = omega arith in ap (λ (n : ℕ). told_from entries n earlier ys) e
told_append entries r earlier (row ∷ xs) ys =
    let e : r + 1 + length xs ≡ r + suc (length xs) = omega arith in
    ap (λ (told : List Told). told_by_row entries r earlier row ++ told) (told_append entries (r + 1) (row.word ∷ earlier) xs ys ∙ ap (λ (n : ℕ). told_from entries (r + 1) (row.word ∷ earlier) xs ++ told_from entries n (behind_rows xs (row.word ∷ earlier)) ys) e)
    ∙ sym (append_assoc (told_by_row entries r earlier row) (told_from entries (r + 1) (row.word ∷ earlier) xs) (told_from entries (r + suc (length xs)) (behind_rows (row ∷ xs) earlier) ys))

-- the number of the last of these words
last_numbered : (m slot d : ℕ) (reset : Bool) (states : List Bool) (earlier : List ℕ) → Follows reset d earlier → word_number (behind_rows (rows_at slot (words_from (suc m) reset states)) earlier) ≡ Some (d + m)
last_numbered zero slot d reset states earlier h = let e : d ≡ d + 0 = omega arith in numbered reset d earlier (flow_bits states) (flow_small states) h ∙ ap Some e
last_numbered (suc m) slot d reset states earlier h =
    let e : suc d + m ≡ d + suc m = omega arith in
    last_numbered m slot (suc d) false (drop 16 states) (idle_word reset (flow_bits states) ∷ earlier) (d, refl, numbered reset d earlier (flow_bits states) (flow_small states) h) ∙ ap Some e

-- n words, and then one that goes on
goes_on : (n slot d : ℕ) (reset : Bool) (states : List Bool) (earlier : List ℕ) → 1 ≤ n → Follows reset d earlier → Follows false (d + n) (behind_rows (rows_at slot (words_from n reset states)) earlier)
goes_on zero slot d reset states earlier some h = absurd (omega arith)
goes_on (suc m) slot d reset states earlier some h = let e : d + suc m ≡ suc (d + m) = omega arith in (d + m, e, last_numbered m slot d reset states earlier h)

-- ---- blocks

-- these are the sizes of the blocks of this many entries
abbrev pub IsCut : List ℕ → ℕ → Type 0
IsCut [] left = left ≡ 0
IsCut (size ∷ sizes) left = (size ≡ min 64 left) × (1 ≤ left) × IsCut sizes (left - size)

cut : (q r : ℕ) → 1 ≤ r → r ≤ 64 → IsCut (replicate q 64 ++ r ∷ []) (64 * q + r)
cut zero r h k = (omega arith, omega arith, omega arith)
cut (suc q) r h k =
    let e : 64 * q + r ≡ 64 * suc q + r - 64 = omega arith in
    (omega arith, omega arith, subst (IsCut (replicate q 64 ++ r ∷ [])) e (cut q r h k))

pub sizes_cut : (n : ℕ) → 1 ≤ n → IsCut (block_sizes n) n
unfolding block_sizes
sizes_cut n h =
    let e : 64 * ((n - 1) / 64) + ((n - 1) % 64 + 1) ≡ n = omega arith in
    subst (IsCut (replicate ((n - 1) / 64) 64 ++ ((n - 1) % 64 + 1) ∷ [])) e (cut ((n - 1) / 64) ((n - 1) % 64 + 1) (omega arith) (omega arith))

module _ (entries : List ℕ) (st : ℕ → Bool) where
  blocks_tell : (sizes : List ℕ) (left d r : ℕ) (is_first : Bool) (bits : List Taken) (states : List Bool) (earlier : List ℕ) → IsCut sizes left → (1 ≤ left → length entries ≡ 16 * d + left) → (1 ≤ left → Follows is_first d earlier)
      → ((i : ℕ) → i < left → (i < length states) × (get_or states i false ≡ st (get_or entries (16 * d + i) 0)))
      → Tells entries st (16 * d) (16 * d + left) (told_from entries r earlier (right_rows is_first sizes bits states))
  unfolding block_words
  blocks_tell [] left d r is_first bits states earlier c len follows shows = none_told entries st (16 * d) (16 * d + left) (omega (arith, c))
  blocks_tell (size ∷ sizes) left d r is_first bits states earlier c len follows shows =
      let own : size ≡ min 64 left = c.0 in
      let some : 1 ≤ left = c.1 in
      let whole : length entries ≡ 16 * d + left = len c.1 in
      let last = shows (size - 1) (omega arith) in
      let block : List Bool = take size states in
      let long : length (take size states) ≡ size = length-take-le size states (omega (arith, last.0)) in
      let n : ℕ = (length (take size states) + 15) / 16 in
      let slot : ℕ = number_at bits (size + 3) in
      let rows : List FlowRow = rows_at (number_at bits (size + 3)) (words_from ((length (take size states) + 15) / 16) is_first (take size states)) in
      let later : List FlowRow = right_rows false sizes (drop (size + 4) bits) (drop size states) in
      let here : Tells entries st (16 * d) (16 * d + 16 * ((length (take size states) + 15) / 16)) (told_from entries r earlier (rows_at (number_at bits (size + 3)) (words_from ((length (take size states) + 15) / 16) is_first (take size states)))) =
      words_tell entries st ((length (take size states) + 15) / 16) (number_at bits (size + 3)) r d is_first (take size states) earlier (λ m. follows c.1)
      (λ i l k. (let within : i < size = omega arith in let s = shows i (omega arith) in (omega (arith, long), get_or-take size states i false within ∙ s.1))) in
      let up : 16 * (d + (length (take size states) + 15) / 16) ≡ 16 * d + 16 * ((length (take size states) + 15) / 16) = omega arith in
      let rest : Tells entries st (16 * (d + (length (take size states) + 15) / 16)) (16 * (d + (length (take size states) + 15) / 16) + (left - size)) (told_from entries (r + length rows) (behind_rows rows earlier) (right_rows false sizes (drop (size + 4) bits) (drop size states))) =
      blocks_tell sizes (left - size) (d + (length (take size states) + 15) / 16) (r + length rows) false (drop (size + 4) bits) (drop size states) (behind_rows rows earlier) c.2
      (λ more. omega arith)
      (λ more. goes_on ((length (take size states) + 15) / 16) (number_at bits (size + 3)) d is_first (take size states) earlier (omega arith) (follows c.1))
      (λ i l. (let s = shows (size + i) (omega arith) in let dropped = length-drop size states in let place : 16 * d + (size + i) ≡ 16 * (d + (length (take size states) + 15) / 16) + i = omega arith in
      (omega (arith, s.0, dropped), get_or-drop size states i false ∙ s.1 ∙ ap (λ (m : ℕ). st (get_or entries m 0)) place))) in
      fewer_told entries st (16 * d) (16 * (d + (length (take size states) + 15) / 16) + (left - size)) (16 * d + left) (told_from entries r earlier (right_rows is_first (size ∷ sizes) bits states)) (omega arith)
      (subst (Tells entries st (16 * d) (16 * (d + (length (take size states) + 15) / 16) + (left - size))) (sym (told_append entries r earlier rows later))
      (both_told entries st (16 * d) (16 * d + 16 * ((length (take size states) + 15) / 16)) (16 * (d + (length (take size states) + 15) / 16) + (left - size)) (told_from entries r earlier rows) (told_from entries (r + length rows) (behind_rows rows earlier) later) here
      (subst (λ (m : ℕ). Tells entries st m (16 * (d + (length (take size states) + 15) / 16) + (left - size)) (told_from entries (r + length rows) (behind_rows rows earlier) later)) up rest)))

  -- the rows of a frame tell the state of each entry
  pub frame_tells : (r : ℕ) (bits : List Taken) (earlier : List ℕ) → 1 ≤ length entries → Tells entries st 0 (length entries) (told_from entries r earlier (right_rows true (block_sizes (length entries)) bits (map st entries)))
  frame_tells r bits earlier some =
      let z : 0 + length entries ≡ length entries = omega arith in
      subst (λ (n : ℕ). Tells entries st 0 n (told_from entries r earlier (right_rows true (block_sizes (length entries)) bits (map st entries)))) z
      (blocks_tell (block_sizes (length entries)) (length entries) 0 r true bits (map st entries) earlier (sizes_cut (length entries) some) (λ h. omega arith) (λ h. refl)
      (λ i l. (let len = length-map entries st in (omega (arith, len), get_or-map st entries i 0 false l ∙ (let z : i ≡ 16 * 0 + i = omega arith in ap (λ (m : ℕ). st (get_or entries m 0)) z)))))
