-- The source at a slot, where all was given before it, and where more is given after it.
use Rattle.std.proofs.Common.{◌≡◌, ℕ, ◌<◌, ◌≤◌, false, true, List, [], ◌∷◌, ◌++◌, map, filter, nat_le, get_or, All, refl, ap, ◌∙◌, arith, append-nil}
use Rattle.std.proofs.lemmas.Bool.Decides.{nat_tests}
use Rattle.std.proofs.lemmas.List.Elements.{filter-append}
use Rattle.stream_model.specs.BurstStream.{Source}
use Rattle.stream_model.specs.declared.rows.FlowRow.{FlowRow}
use Rattle.stream_model.specs.declared.rows.LocalRow.{LocalRow}
use Rattle.calendar.proofs.States.{first, rest}
use Rattle.burst_scheduler.specs.Asked.{with_rows}
use Rattle.live_stream.specs.LiveStream.{LivePacket, Given, as_sent, packets_until, source_at, with_more}
use Rattle.live_stream.specs.Gives.{source_of, AreGivenBy}

none_yet : (more : List LivePacket) (t : ℕ) → All (λ (p : LivePacket). t < p.slot) more → filter (λ (p : LivePacket). nat_le p.slot t) more ≡ []
none_yet [] t h = refl
none_yet (p ∷ more) t h =
    let high : t < p.slot = first (λ (q : LivePacket). t < q.slot) p more h in
    let test : nat_le p.slot t ≡ false = grind (arith, nat_tests) in
    rw test (none_yet more t (rest (λ (q : LivePacket). t < q.slot) p more h))

all_here : (packets : List LivePacket) (t : ℕ) → All (λ (p : LivePacket). p.slot ≤ t) packets → filter (λ (p : LivePacket). nat_le p.slot t) packets ≡ packets
all_here [] t h = refl
all_here (p ∷ packets) t h =
    let low : p.slot ≤ t = first (λ (q : LivePacket). q.slot ≤ t) p packets h in
    let test : nat_le p.slot t ≡ true = grind (arith, nat_tests) in
    rw test (ap (λ ps. p ∷ ps) (all_here packets t (rest (λ (q : LivePacket). q.slot ≤ t) p packets h)))

pub packets_all : (packets : List LivePacket) (t : ℕ) → All (λ (p : LivePacket). p.slot ≤ t) packets → packets_until packets t ≡ map as_sent packets
packets_all packets t h = ap (map as_sent) (all_here packets t h)

packets_later : (packets more : List LivePacket) (t : ℕ) → All (λ (p : LivePacket). t < p.slot) more → packets_until (packets ++ more) t ≡ packets_until packets t
packets_later packets more t h =
    let test = λ (p : LivePacket). nat_le p.slot t in
    ap (map as_sent) (filter-append test packets more ∙ ap (λ ps. filter test packets ++ ps) (none_yet more t h) ∙ append-nil (filter test packets))

abbrev pub having : Given → List (ℕ × List ℕ) → Source
having g packets = record { shape = g.shape; channels = g.channels; entries = g.entries; packets = packets; flow = g.flow; local = g.local }

-- from the last gift on the source is that of all
pub source_all : (g : Given) (t : ℕ) → All (λ (p : LivePacket). p.slot ≤ t) g.packets → source_at g t ≡ source_of g
source_all g t h = ap (having g) (packets_all g.packets t h)

-- what is given after a slot adds only rows there
pub source_later : (g : Given) (packets : List LivePacket) (flow : List FlowRow) (local : List LocalRow) (t : ℕ) → All (λ (p : LivePacket). t < p.slot) packets → source_at (with_more g packets flow local) t ≡ with_rows (source_at g t) flow local
source_later g packets flow local t h = ap (λ ps. having (with_more g packets flow local) ps) (packets_later g.packets packets t h)

pub is_given : (g : Given) (n t : ℕ) → AreGivenBy g n → n ≤ t → source_at g t ≡ source_of g
is_given g n t by h = source_all g t (λ i d l. let low : (get_or g.packets i d).slot ≤ n = by.packets i d l in omega arith)
