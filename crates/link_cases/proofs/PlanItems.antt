-- What each row of a generated plan says.
use Rattle.std.proofs.Common.{◌≡◌, ◌++◌, ◌∷◌, ◌%◌, ◌≤◌, [], ℕ, List, true, Option, Some, None, Ok, refl, length, arith, codes}
use Rattle.std.proofs.lemmas.List.{length-append}
use Rattle.std.proofs.lemmas.Bool.{le-leb, eq-eqb}
use Rattle.std.proofs.lemmas.Str.{IsUtf8-append, is_utf8-from_IsUtf8, IsUtf8-from_is_utf8}
use lib.Utf8.{encode}
use Rattle.std.specs.Str.{IsUtf8, is_utf8, chars}
use Rattle.std.specs.Fmt.{decimal}
use Rattle.csv_rows.specs.Tables.{key_rule, place_in, rule_at}
use Rattle.csv_rows.specs.Items.{item_of}
use Rattle.csv_rows.specs.declared.table.Form.TheVariants.{Number, Text, NumberAndText}
use Rattle.csv_rows.specs.declared.table.Times.{Times}
use Rattle.csv_rows.specs.declared.table.Times.TheVariants.{Distinct}
use Rattle.link_plan.specs.Keys.{keys}
use Rattle.link_cases.specs.Texts.{number_row, text_row, channel_row}
use Rattle.pcap_files.specs.Names.{capture_name}
use Rattle.link_cases.specs.Accepted.{IsPrefix}
use Rattle.csv_rows.proofs.Decimals.{IsShort, decimal-read, decimal-text, decimal-short}

-- ---- names are text

abbrev pub IsText : List ℕ → Type 0
IsText text = is_utf8 text ≡ true

pub text-of : (text : List ℕ) → IsUtf8 text → IsText text
text-of text h = is_utf8-from_IsUtf8 text h

pub end-text : (prefix end : List ℕ) → IsUtf8 prefix → IsText end → IsUtf8 (prefix ++ end)
end-text prefix end h k = IsUtf8-append prefix end h (IsUtf8-from_is_utf8 end k)

dot-text : IsText (codes ".")
unfolding is_utf8 chars encode
dot-text = refl

pcap-text : IsText (codes ".pcap")
unfolding is_utf8 chars encode
pcap-text = refl

pub schedule-end : IsText (codes ".schedule")
unfolding is_utf8 chars encode
schedule-end = refl

pub out-end : IsText (codes ".out")
unfolding is_utf8 chars encode
out-end = refl

capture-text : (prefix : List ℕ) (channel : ℕ) → IsUtf8 prefix → IsShort channel → IsUtf8 (capture_name prefix channel)
capture-text prefix channel h k =
    IsUtf8-append prefix (codes "." ++ (decimal channel ++ codes ".pcap")) h
    (IsUtf8-append (codes ".") (decimal channel ++ codes ".pcap") (IsUtf8-from_is_utf8 (codes ".") dot-text)
    (IsUtf8-append (decimal channel) (codes ".pcap") (decimal-text channel k) (IsUtf8-from_is_utf8 (codes ".pcap") pcap-text)))

-- ---- rows

-- a row of a number
pub number-item : (key : List ℕ) (n least most step : ℕ) (times : Times) (default : Option ℕ) → IsText key → IsShort n
    → rule_at keys (place_in keys key) ≡ Some (key_rule key (Number least most step) times default) → least ≤ n → n ≤ most → n % step ≡ 0
    → item_of keys (number_row key n) ≡ Ok (record { key = place_in keys key; number = n })
unfolding item_of
number-item key n least most step times default text short rule low high whole =
    rw (text, text-of (decimal n) (decimal-text n short), rule, decimal-read n short, le-leb least n low, le-leb n most high, eq-eqb (n % step) 0 whole) refl

-- a row of a text
pub text-item : (key value : List ℕ) (most : ℕ) (times : Times) (default : Option ℕ) → IsText key → IsUtf8 value
    → rule_at keys (place_in keys key) ≡ Some (key_rule key (Text most) times default) → 1 ≤ length value → length value ≤ most
    → item_of keys (text_row key value) ≡ Ok (record { key = place_in keys key; number = 0 })
unfolding item_of
text-item key value most times default text utf8 rule some few =
    rw (text, text-of value utf8, rule, le-leb 1 (length value) some, le-leb (length value) most few) refl

channel-key : IsText (codes "channel")
unfolding is_utf8 chars encode
channel-key = refl

-- a row of a channel
item-by : (key name : List ℕ) (n least most longest : ℕ) (times : Times) (default : Option ℕ) → IsText key → IsShort n → IsUtf8 name
    → rule_at keys (place_in keys key) ≡ Some (key_rule key (NumberAndText least most longest) times default) → least ≤ n → n ≤ most → 1 ≤ length name → length name ≤ longest
    → item_of keys (key ∷ decimal n ∷ name ∷ []) ≡ Ok (record { key = place_in keys key; number = n })
unfolding item_of
item-by key name n least most longest times default text short utf8 rule low high some few =
    rw (text, text-of (decimal n) (decimal-text n short), text-of name utf8, rule, decimal-read n short, le-leb least n low, le-leb n most high, le-leb 1 (length name) some, le-leb (length name) longest few) refl

capture-long : (prefix : List ℕ) (n : ℕ) → IsPrefix prefix → IsShort n → (1 ≤ length (capture_name prefix n)) × (length (capture_name prefix n) ≤ 255)
capture-long prefix n h k =
    let short = decimal-short n k in
    let a = length-append prefix (codes "." ++ (decimal n ++ codes ".pcap")) in
    let b = length-append (decimal n) (codes ".pcap") in
    let some = h.some in
    let few = h.few in
    (omega arith, omega arith)

pub channel-item : (prefix : List ℕ) (n : ℕ) → IsPrefix prefix → n ≤ 255 → item_of keys (channel_row prefix n) ≡ Ok (record { key = 9; number = n })
unfolding keys place_in
channel-item prefix n h k =
    let short : IsShort n = omega arith in
    let long = capture-long prefix n h short in
    item-by (codes "channel") (capture_name prefix n) n 0 65535 255 (Distinct 1024) None channel-key short (capture-text prefix n h.text short) refl (omega arith) (omega arith) long.0 long.1
