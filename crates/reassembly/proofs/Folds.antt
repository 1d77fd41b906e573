-- What data words do one after another is what they do at once.
use Rattle.std.proofs.Common.{ℕ, ◌≡◌, ◌+◌, ◌-◌, ◌/◌, ◌%◌, ◌<◌, ◌≤◌, refl, sym, ap, ◌∙◌, Bool, true, false, cond, ◌||◌, ◌&&◌, not, ◌==◌, nat_lt, List, [], ◌∷◌, ◌++◌, append_assoc, append-nil, length, set, flat_map, Option, Some, None, is_some, arith, length-append}
use Rattle.std.proofs.Math.Bool.{and-true}
use Rattle.std.specs.Int.{w64, to_be_bytes}
use Rattle.std.proofs.lemmas.Bool.{false≢true, lt-ltb, ne_eqb}
use Rattle.std.proofs.lemmas.List.{set-get_or}
use Rattle.lk_base.specs.Checksum.{bits_of, bits_of_words, register_after}
use Rattle.lk_base.specs.declared.position.Pos.{Pos}
use Rattle.std.proofs.Math.Bool.{and_assoc}
use Rattle.lk_crc.proofs.Registers.{register_after-append}
use Rattle.cell_pool.specs.Stored.{bytes_at}
use Rattle.reassembly.specs.declared.channel.Channel.{Channel}
use Rattle.reassembly.specs.declared.piece.Piece.{Piece}
use Rattle.reassembly.specs.declared.piece.Piece.TheVariants as kinds
use Rattle.reassembly.specs.declared.stretch.Stretch.{Stretch}
use Rattle.reassembly.specs.declared.word_at.WordAt.{WordAt}
use Rattle.reassembly.specs.Folds.{are_kept, grown_by, with_all_data, with_data_at_once, with_data_words, with_words}
use Rattle.reassembly.specs.Packets.{grown}
use Rattle.reassembly.specs.Parts.{open_burst}
use Rattle.reassembly.specs.States.{Row, State, row_at, unlisted_row, with_stretch, with_table}
use Rattle.reassembly.specs.Steps.{change, with_data, with_data_word, with_word}
use Rattle.reassembly.specs.Tables.{channel_as, channel_row}
use Rattle.reassembly.proofs.Tables.{change-both, change-none}

-- ---- the bytes

-- where the words all fit, all are kept
pub all_fit : (greatest : ℕ) (xs bytes : List ℕ) → length bytes % 8 ≡ 0 → length xs ≤ (greatest - length bytes + 7) / 8 →
    (are_kept greatest bytes xs ≡ true) × (grown_by greatest bytes xs ≡ bytes ++ flat_map (to_be_bytes w64) xs)
all_fit greatest [] bytes whole fit = (refl, sym (append-nil bytes))
all_fit greatest (x ∷ xs) bytes whole fit =
    let short : length bytes < greatest = omega arith in
    let kept : nat_lt (length bytes) greatest ≡ true = lt-ltb (length bytes) greatest short in
    let long : length (bytes ++ to_be_bytes w64 x) ≡ length bytes + 8 = length-append bytes (to_be_bytes w64 x) in
    let whole_then : length (bytes ++ to_be_bytes w64 x) % 8 ≡ 0 = omega arith in
    let fit_then : length xs ≤ (greatest - length (bytes ++ to_be_bytes w64 x) + 7) / 8 = omega arith in
    let rest = all_fit greatest xs (bytes ++ to_be_bytes w64 x) whole_then fit_then in
    (rw kept rest.0, rw kept (rest.1 ∙ append_assoc bytes (to_be_bytes w64 x) (flat_map (to_be_bytes w64) xs)))

-- the words up to one, and that one
pub grown-more : (greatest : ℕ) (xs bytes : List ℕ) (x : ℕ) → grown_by greatest bytes (xs ++ x ∷ []) ≡ grown greatest (grown_by greatest bytes xs) x
grown-more greatest [] bytes x = refl
grown-more greatest (y ∷ ys) bytes x = grown-more greatest ys (grown greatest bytes y) x

pub kept-more : (greatest : ℕ) (xs bytes : List ℕ) (x : ℕ) → are_kept greatest bytes (xs ++ x ∷ []) ≡ (are_kept greatest bytes xs && nat_lt (length (grown_by greatest bytes xs)) greatest)
kept-more greatest [] bytes x = and-true (nat_lt (length bytes) greatest)
kept-more greatest (y ∷ ys) bytes x =
    ap (λ (b : Bool). nat_lt (length bytes) greatest && b) (kept-more greatest ys (grown greatest bytes y) x)
    ∙ sym (and_assoc (nat_lt (length bytes) greatest) (are_kept greatest (grown greatest bytes y) ys) (nat_lt (length (grown_by greatest (grown greatest bytes y) ys)) greatest))

-- ---- a channel

abbrev pub row_as : Bool → Piece → List ℕ → Bool → Row
row_as listed piece bytes over = record { listed = listed; piece = piece; bytes = bytes; over = over }

or_false : (a : Bool) → (a || not true) ≡ a
or_false true = refl
or_false false = refl

or_both : (a b c : Bool) → ((a || not b) || not c) ≡ (a || not (b && c))
or_both true b c = refl
or_both false true c = refl
or_both false false c = refl

pub open-words : (greatest : ℕ) (xs : List ℕ) (listed : Bool) (first : Pos) (bytes : List ℕ) (over : Bool) →
    with_words greatest xs (row_as listed (kinds.Open first) bytes over) ≡ row_as listed (kinds.Open first) (grown_by greatest bytes xs) (over || not (are_kept greatest bytes xs))
open-words greatest [] listed first bytes over = ap (row_as listed (kinds.Open first) bytes) (sym (or_false over))
open-words greatest (x ∷ xs) listed first bytes over =
    open-words greatest xs listed first (grown greatest bytes x) (over || not (nat_lt (length bytes) greatest))
    ∙ ap (row_as listed (kinds.Open first) (grown_by greatest (grown greatest bytes x) xs)) (or_both over (nat_lt (length bytes) greatest) (are_kept greatest (grown greatest bytes x) xs))

-- the piece is not open
abbrev pub IsClosed : Piece → Type 0
IsClosed kinds.Nothing = Unit {0}
IsClosed (kinds.Open first) = ⊥
IsClosed kinds.Bare = Unit {0}
IsClosed kinds.Ended = Unit {0}

closed-word : (greatest x : ℕ) (listed : Bool) (piece : Piece) (bytes : List ℕ) (over : Bool) → IsClosed piece → with_word greatest x (row_as listed piece bytes over) ≡ row_as listed piece bytes over
closed-word greatest x listed kinds.Nothing bytes over h = refl
closed-word greatest x listed (kinds.Open first) bytes over h = absurd h
closed-word greatest x listed kinds.Bare bytes over h = refl
closed-word greatest x listed kinds.Ended bytes over h = refl

pub closed-words : (greatest : ℕ) (xs : List ℕ) (r : Row) → IsClosed r.piece → with_words greatest xs r ≡ r
closed-words greatest [] r h = refl
closed-words greatest (x ∷ xs) r h = ap (λ (s : Row). with_words greatest xs s) (closed-word greatest x r.listed r.piece r.bytes r.over h) ∙ closed-words greatest xs r h

listed-one : (greatest x : ℕ) (listed : Bool) (piece : Piece) (bytes : List ℕ) (over : Bool) → (with_word greatest x (row_as listed piece bytes over)).listed ≡ listed
listed-one greatest x listed kinds.Nothing bytes over = refl
listed-one greatest x listed (kinds.Open first) bytes over = refl
listed-one greatest x listed kinds.Bare bytes over = refl
listed-one greatest x listed kinds.Ended bytes over = refl

pub listed-words : (greatest : ℕ) (xs : List ℕ) (r : Row) → (with_words greatest xs r).listed ≡ r.listed
listed-words greatest [] r = refl
listed-words greatest (x ∷ xs) r = listed-words greatest xs (with_word greatest x r) ∙ listed-one greatest x r.listed r.piece r.bytes r.over

-- ---- the state

abbrev pub state_with : State → Stretch → List Row → State
state_with r stretch table = with_table table (with_stretch stretch r)

table-none : (o : Bool) (b : Option ℕ) (t : List Row) → t ≡ cond o (change b (λ r. r) t) t
table-none true b t = sym (change-none b t)
table-none false b t = refl

table-both : (o : Bool) (b : Option ℕ) (f g : Row → Row) (t : List Row) → cond o (change b f (cond o (change b g t) t)) (cond o (change b g t) t) ≡ cond o (change b (λ r. f (g r)) t) t
table-both true b f g t = change-both b f g t
table-both false b f g t = refl

pub at_once : (xs : List ℕ) (r : State) →
    with_data_words r xs ≡ with_data_at_once r xs
at_once [] r = ap (state_with r r.stretch) (table-none (is_some r.stretch.opened) (open_burst r.wide r.run) r.table)
at_once (x ∷ xs) r =
    at_once xs (with_data_word r x)
    ∙ ap (state_with r (with_all_data xs (with_data x r.stretch)))
    (table-both (is_some r.stretch.opened) (open_burst r.wide r.run) (with_words r.max_packet xs) (with_word r.max_packet x) r.table)

-- ---- the stretch

abbrev stretch_as : Option WordAt → ℕ → Bool → Bool → Stretch
stretch_as opened register some bad = record { opened = opened; register = register; some = some; bad = bad }

or_again : (a b : Bool) → ((a || true) || b) ≡ (a || true)
or_again true b = refl
or_again false b = refl

-- where no stretch goes on, words change nothing
pub data-off : (words : List ℕ) (s : Stretch) → is_some s.opened ≡ false → s ≡ with_all_data words s
data-off [] s h = refl
data-off (x ∷ xs) s h =
    let one : s ≡ with_data x s = rw h (ap (λ (b : Bool). stretch_as s.opened s.register b s.bad) (sym (or_false s.some))) in
    data-off xs s h ∙ ap (with_all_data xs) one

-- a stretch goes on with the bits of the words
pub data-on : (words : List ℕ) (opened : Option WordAt) (register : ℕ) (some bad : Bool) → is_some opened ≡ true →
    stretch_as opened (register_after 24 0x328B63 register (bits_of_words words)) (some || not (length words == 0)) bad ≡ with_all_data words (stretch_as opened register some bad)
unfolding register_after
data-on words None register some bad h = absurd (false≢true h)
data-on [] (Some at) register some bad h = ap (λ (b : Bool). stretch_as (Some at) register b bad) (or_false some)
data-on (x ∷ xs) (Some at) register some bad h =
    let more : (length (x ∷ xs) == 0) ≡ false = ne_eqb (length (x ∷ xs)) 0 (λ e. omega (arith, e)) in
    ap (λ (q : ℕ). stretch_as (Some at) q (some || not (length (x ∷ xs) == 0)) bad) (register_after-append 24 0x328B63 register (bits_of 64 x) (bits_of_words xs))
    ∙ ap (λ (b : Bool). stretch_as (Some at) (register_after 24 0x328B63 (register_after 24 0x328B63 register (bits_of 64 x)) (bits_of_words xs)) b bad)
    (ap (λ (b : Bool). some || not b) more ∙ sym (or_again some (not (length xs == 0))))
    ∙ data-on xs (Some at) (register_after 24 0x328B63 register (bits_of 64 x)) (some || true) bad refl

-- ---- what a channel shows

or_true : (a : Bool) → (a || not false) ≡ true
or_true true = refl
or_true false = refl

pub open-row : (greatest : ℕ) (xs : List ℕ) (kept : List (List ℕ)) (c : Channel) (first : Pos) → c.piece ≡ kinds.Open first →
    with_words greatest xs (channel_row kept c) ≡ row_as true (kinds.Open first) (grown_by greatest (bytes_at kept c.place) xs) (c.over || not (are_kept greatest (bytes_at kept c.place) xs))
open-row greatest xs kept c first is = ap (λ (p : Piece). with_words greatest xs (row_as true p (bytes_at kept c.place) c.over)) is ∙ open-words greatest xs true first (bytes_at kept c.place) c.over

abbrev channel_of : ℕ → Piece → Bool → Channel
channel_of place piece over = record { place = place; piece = piece; over = over }

-- the words came: the channel is over where one is not kept
pub open-channel : (greatest : ℕ) (xs : List ℕ) (kept : List (List ℕ)) (c : Channel) (first : Pos) (all : Bool) → c.piece ≡ kinds.Open first → all ≡ are_kept greatest (bytes_at kept c.place) xs →
    channel_of c.place c.piece (c.over || not all) ≡ channel_as c.place (with_words greatest xs (channel_row kept c))
open-channel greatest xs kept c first all is e =
    ap (λ (p : Piece). channel_of c.place p (c.over || not all)) is
    ∙ ap (λ (b : Bool). channel_of c.place (kinds.Open first) (c.over || not b)) e
    ∙ sym (ap (λ (r : Row). channel_as c.place r) (open-row greatest xs kept c first is))

pub over-channel : (c : Channel) (all : Bool) → all ≡ false → channel_of c.place c.piece true ≡ channel_of c.place c.piece (c.over || not all)
over-channel c all e = sym (ap (λ (b : Bool). channel_of c.place c.piece (c.over || not b)) e ∙ ap (λ (b : Bool). channel_of c.place c.piece b) (or_true c.over))

pub same-channel : (c : Channel) (all : Bool) → all ≡ true → c ≡ channel_of c.place c.piece (c.over || not all)
same-channel c all e = sym (ap (λ (b : Bool). channel_of c.place c.piece (c.over || not b)) e ∙ ap (λ (b : Bool). channel_of c.place c.piece b) (or_false c.over))

pub open-bytes : (greatest : ℕ) (xs : List ℕ) (kept : List (List ℕ)) (c : Channel) (first : Pos) → c.piece ≡ kinds.Open first →
    grown_by greatest (bytes_at kept c.place) xs ≡ (with_words greatest xs (channel_row kept c)).bytes
open-bytes greatest xs kept c first is = sym (ap (λ (r : Row). r.bytes) (open-row greatest xs kept c first is))

closed_of : (p : Piece) → ((first : Pos) → p ≡ kinds.Open first → ⊥) → IsClosed p
closed_of kinds.Nothing h = tt
closed_of (kinds.Open first) h = h first refl
closed_of kinds.Bare h = tt
closed_of kinds.Ended h = tt

pub closed-row : (greatest : ℕ) (xs : List ℕ) (kept : List (List ℕ)) (c : Channel) → ((first : Pos) → c.piece ≡ kinds.Open first → ⊥) → with_words greatest xs (channel_row kept c) ≡ channel_row kept c
closed-row greatest xs kept c h = closed-words greatest xs (channel_row kept c) (closed_of c.piece h)

-- a number that is not listed shows nothing, and does so after the words
pub unlisted-same : (greatest : ℕ) (xs : List ℕ) (rows : List Row) (n : ℕ) → row_at rows n ≡ unlisted_row → set rows n (with_words greatest xs (row_at rows n)) ≡ rows
unlisted-same greatest xs rows n h =
    ap (λ (r : Row). set rows n (with_words greatest xs r)) h
    ∙ ap (λ (r : Row). set rows n r) (closed-words greatest xs unlisted_row tt ∙ sym h)
    ∙ set-get_or rows n unlisted_row
