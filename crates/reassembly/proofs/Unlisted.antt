-- A channel that is not listed stays as it is when data words come.
use Rattle.std.proofs.Common.{ℕ, ◌≡◌, sym, ap, ◌∙◌, List, set, get_or, Option, None}
use Rattle.std.proofs.lemmas.List.{set-get_or}
use Rattle.reassembly.specs.declared.channel.Channel.{Channel}
use Rattle.reassembly.specs.Folds.{with_words}
use Rattle.reassembly.specs.Packets.{Packets}
use Rattle.reassembly.specs.States.{Row, row_at, unlisted_row}
use Rattle.reassembly.specs.Tables.{Table, kept_at, kept_row, with_rows}
use Rattle.reassembly.proofs.Folds.{unlisted-same}
use Rattle.reassembly.proofs.Placed.{rows-at, table_shown}

pub unlisted-stays : (now : Table) (numbers : List ℕ) (cs : List (Option Channel)) (packets : Packets) (n : ℕ) (o : Option Channel) (xs : List ℕ) → table_shown numbers cs packets ≡ now → o ≡ get_or cs n o → kept_at cs n ≡ None →
    table_shown numbers (set cs n o) packets ≡ with_rows now (set now.rows n (with_words now.greatest xs (row_at now.rows n)))
unlisted-stays now numbers cs packets n o xs shows e there =
    let was : Table = table_shown numbers cs packets in
    let row : row_at was.rows n ≡ unlisted_row = rows-at packets.kept cs n ∙ ap (kept_row packets.kept) there in
    let same : set cs n o ≡ cs = ap (λ (p : Option Channel). set cs n p) e ∙ set-get_or cs n o in
    ap (λ (ds : List (Option Channel)). table_shown numbers ds packets) same
    ∙ sym (ap (λ (rows : List Row). with_rows was rows) (unlisted-same was.greatest xs was.rows n row))
    ∙ ap (λ (t : Table). with_rows t (set t.rows n (with_words t.greatest xs (row_at t.rows n)))) shows
