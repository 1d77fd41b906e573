-- One more word in a list of sent packets that has room.
use Rattle.std.proofs.Common.{◌≡◌, ℕ, ◌+◌, ◌<◌, ◌≤◌, ◌==◌, ◌&&◌, refl, sym, ap, ◌∙◌, subst, cond, true, false, Bool, List, [], ◌∷◌, ◌++◌, map, length, take, get_or, count_by, Some, None, arith}
use Rattle.std.proofs.Math.ListN.{set}
use Rattle.std.proofs.Math.Seq.{take-set-lt}
use Rattle.std.proofs.lemmas.List.{get_or_default, get_or-take, length-take-le, length-map}
use Rattle.std.proofs.lemmas.List.Sums.{sum_by-cons, sum_by-take-le}
use Rattle.burst_scheduler.proofs.Lists.{take_set}
use Rattle.lk_base.specs.Fields.{channel_number, has_burst, has_sop}
use Rattle.lk_base.specs.declared.word.Word.{Word}
use Rattle.lk_base.specs.declared.word.Word.TheVariants.{Data, Control}
use Rattle.receive_model.proofs.Cuts.{split}
use Rattle.tx_words.specs.declared.sent.Sent.{Sent}
use Rattle.tx_words.specs.declared.sent.Place.{Place}
use Rattle.tx_words.specs.Sent.{ends, last_channel, slots_where, starts, starts_on}
use Rattle.tx_words.specs.Places.{start_channel, Half, Stands}
use Rattle.tx_words.proofs.Opening.{half-end, stands-some, with_last, idle_place, count-push, has_number}

-- the open packet of a channel is listed
pub number_there : (p : List Word) (channel k count : ℕ) (list : List Sent) (places : List Place) (d : Place) (s : Sent) → Stands p (take count list) places → count ≤ length list → channel < 65536 → (get_or places channel d).current ≡ Some k → k < count
number_there p channel k count list places d s h within low is =
    let r = h.named.current_is channel k d s low is in
    let l : length (take count list) ≡ count = length-take-le count list within in
    omega (arith, r.0, l)

pub end_at : (p : List Word) (word : Word) (channel k count slot : ℕ) (list : List Sent) (places : List Place) (d : Place) (s : Sent) → Stands p (take count list) places → count ≤ length list → slot ≡ length p
    → last_channel p ≡ Some channel → ends word ≡ true → channel < 65536 → (get_or places channel d).current ≡ Some k
    → Half p word (take count (set list k (with_last (get_or list k s) slot))) (set places channel (idle_place (get_or places channel d)))
end_at p word channel k count slot list places d s h within at last ended low is =
    let e : Place = get_or places channel d in
    let y : Sent = get_or list k s in
    let there : channel < length places = omega (arith, h.len, low) in
    let below = number_there p channel k count list places d s h within low is in
    let inside : k < length list = omega (arith, below, within) in
    let read : y ≡ get_or (take count list) k y = get_or_default list k s y inside ∙ sym (get_or-take count list k y below) in
    let half = half-end p word channel k (take count list) places e y h ended last low (get_or_default places channel d e there) is read in
    subst (λ (xs : List Sent). Half p word xs (set places channel (idle_place e))) (sym (take-set-lt count list k (with_last y slot) below))
    (subst (λ z. Half p word (set (take count list) k (with_last y z)) (set places channel (idle_place e))) (sym at) half)

abbrev pub new_packet : ℕ → Place → ℕ → Sent
new_packet channel e slot = record { channel = channel; number = e.started; first = slot; last = None }

abbrev pub started_at : Place → ℕ → Place
started_at e count = record { started = e.started + 1; current = Some count }

pub start_at : (p : List Word) (word : Word) (channel count slot : ℕ) (list : List Sent) (places : List Place) (d : Place) → Half p word (take count list) places → count < length list → slot ≡ length p
    → start_channel word ≡ Some channel → channel < 65536
    → Stands (p ++ word ∷ []) (take (count + 1) (set list count (new_packet channel (get_or places channel d) slot))) (set places channel (started_at (get_or places channel d) count))
start_at p word channel count slot list places d h within at is low =
    let e : Place = get_or places channel d in
    let there : channel < length places = omega (arith, h.len, low) in
    let l : length (take count list) ≡ count = length-take-le count list (omega arith) in
    let stands = stands-some p word channel (take count list) places e h is low (get_or_default places channel d e there) in
    subst (λ (xs : List Sent). Stands (p ++ word ∷ []) xs (set places channel (started_at e count))) (sym (take_set list count (new_packet channel e slot) within))
    (subst (λ z. Stands (p ++ word ∷ []) (take count list ++ new_packet channel e z ∷ []) (set places channel (started_at e count))) (sym at)
    (subst (λ n. Stands (p ++ word ∷ []) (take count list ++ new_packet channel e (length p) ∷ []) (set places channel (started_at e n))) l stands))

-- ---- room

slots_count : (n : ℕ) (p : List Word) → length (slots_where starts n p) ≡ count_by starts p
slots_count n [] = refl
slots_count n (word ∷ p) =
    let rest = slots_count (n + 1) p in
    let more = sum_by-cons (λ (v : Word). cond (starts v) 1 0) word p in
    split (starts word)
    (λ h. rw h (let m = rw h at more in omega (arith, rest, m)))
    (λ h. rw h (let m = rw h at more in omega (arith, rest, m)))

-- this many are listed
pub count_is : (p : List Word) (count : ℕ) (list : List Sent) → map (λ (s : Sent). s.first) (take count list) ≡ slots_where starts 0 p → count ≤ length list → count ≡ count_by starts p
count_is p count list firsts within =
    sym (length-take-le count list within) ∙ sym (length-map (take count list) (λ (s : Sent). s.first)) ∙ ap length firsts ∙ slots_count 0 p

on_less : (channel : ℕ) (word : Word) → cond (starts_on channel word) 1 0 ≤ cond (starts word) 1 0
on_less channel (Data x) = omega arith
on_less channel (Control x) = by (has_burst x) (has_sop x) (channel_number true x == channel)
  where
    by : (a b c : Bool) → cond (a && (b && c)) 1 0 ≤ cond (a && b) 1 0
    by true true true = omega arith
    by true true false = omega arith
    by true false c = omega arith
    by false b c = omega arith

pub on_few : (channel : ℕ) (p : List Word) → count_by (starts_on channel) p ≤ count_by starts p
on_few channel [] = omega arith
on_few channel (word ∷ p) =
    let a = sum_by-cons (λ (v : Word). cond (starts_on channel v) 1 0) word p in
    let b = sum_by-cons (λ (v : Word). cond (starts v) 1 0) word p in
    let c = on_few channel p in
    let d = on_less channel word in
    omega (arith, a, b, c, d)

pub starts_too : (word : Word) (channel : ℕ) → start_channel word ≡ Some channel → starts word ≡ true
starts_too (Data x) channel h = cc
starts_too (Control x) channel h = split (has_burst x && has_sop x) (λ e. e) (λ e. let n : None ≡ Some channel = sym (rw e refl) ∙ h in cc)

-- the word starts a packet, so there is room for it, and its number is low
pub has_room : (p : List Word) (word : Word) (channel count total : ℕ) (list : List Sent) → map (λ (s : Sent). s.first) (take count list) ≡ slots_where starts 0 p → count ≤ length list → start_channel word ≡ Some channel
    → count_by starts (p ++ word ∷ []) ≤ total → count < total
has_room p word channel count total list firsts within is few =
    let a = count_is p count list firsts within in
    let b : count_by starts (p ++ word ∷ []) ≡ count_by starts p + 1 = count-push starts p word ∙ rw (starts_too word channel is) refl in
    omega (arith, a, b, few)

pub low_number : (p : List Word) (word : Word) (channel total m : ℕ) → start_channel word ≡ Some channel → count_by starts (p ++ word ∷ []) ≤ total → total < m → count_by (starts_on channel) p + 1 < m
low_number p word channel total m is few low =
    let a = on_few channel (p ++ word ∷ []) in
    has_number p word channel m is (omega (arith, a, few, low))

pub starts_none : (word : Word) → start_channel word ≡ None → starts word ≡ false
starts_none (Data x) h = refl
starts_none (Control x) h = split (has_burst x && has_sop x) (λ e. let n : Some (channel_number true x) ≡ None = sym (rw e refl) ∙ h in cc) (λ e. e)

-- the first words start no more than all
pub starts_in_first : (k : ℕ) (w : List Word) → count_by starts (take k w) ≤ count_by starts w
starts_in_first k w = sum_by-take-le (λ (v : Word). cond (starts v) 1 0) w k
