-- The received lanes of a link are its first outputs.
use Rattle.std.proofs.Common.{ℕ, zero, suc, ◌≡◌, ◌≢◌, ◌∙◌, ◌<◌, ◌^◌, sym, ap, cond, List, [], ◌∷◌, ◌++◌, length, get_or, Some, arith}
use Rattle.std.proofs.lemmas.List.FromFn.{length-map-range_with_len, get_or-map-range_with_len}
use Rattle.lk_base.specs.declared.word.Word.{Word}
use Rattle.run_shell.specs.Names.{lane_name}
use Rattle.run_shell.specs.Outcome.{Outcome, Output, content_of}
use Rattle.run_shell.specs.Outputs.{Differ, outs}
use Rattle.run_shell.proofs.Fills.{other, same}
use Rattle.run_shell.proofs.OutputNames.{from_zero, lanes_differ}
use Rattle.lane_receipts.specs.LaneReports.{names_of_lanes}
use Rattle.receipts.specs.Received.{received_files}
use Rattle.link_commands.specs.Inputs.{LinkReading}
use Rattle.link_commands.specs.Linked.{IsLinkedBy}
use Rattle.interlaken.specs.Delivery.{AreWritten}

-- the content of an output, if all names differ
out_at : (names contents : List (List ℕ)) (rest : List Output) (k : ℕ) → Differ names → length contents ≡ length names → k < length names →
    content_of (outs names contents ++ rest) (get_or names k []) ≡ Some (get_or contents k [])
out_at [] contents rest k differ many lt = absurd (omega (arith, lt))
out_at (n ∷ names) [] rest k differ many lt = absurd (omega (arith, many))
out_at (n ∷ names) (c ∷ contents) rest zero differ many lt = ap (λ b. cond b (Some c) (content_of (outs names contents ++ rest) n)) (same n)
out_at (n ∷ names) (c ∷ contents) rest (suc k) differ many lt =
    let q : List ℕ = get_or names k [] in
    let ne : n ≢ q = differ 0 (suc k) [] (omega arith) lt in
    ap (λ b. cond b (Some c) (content_of (outs names contents ++ rest) q)) (other n q ne)
    ∙ out_at names contents rest k (λ i j d a b. differ (suc i) (suc j) d (omega (arith, a)) (omega (arith, b))) (omega (arith, many)) (omega (arith, lt))

pub written : (i : LinkReading) (stream : List Word) (o : Outcome) (h : IsLinkedBy i stream o) → AreWritten i h.over.lanes (content_of o.files)
written i stream o h k lt =
    let plan = i.reading.plan in
    let count : ℕ = plan.settings.lanes in
    let names = names_of_lanes plan in
    let rest = received_files h.setting plan.link_type plan.out h.events in
    let many : length names ≡ count = length-map-range_with_len (lane_name plan.out) 0 count in
    let at : get_or names k [] ≡ lane_name plan.out k = get_or-map-range_with_len (lane_name plan.out) 0 count k k [] lt (from_zero k) in
    let few : count < 2 ^ 64 = (let most = h.link.lanes.1 in omega (arith, most)) in
    ap (λ (fs : List Output). content_of fs (lane_name plan.out k)) h.files
    ∙ ap (content_of (outs names h.over.lanes ++ rest)) (sym at)
    ∙ out_at names h.over.lanes rest k (lanes_differ plan.out count few) (h.over.are_lanes.one_each ∙ sym many) (omega (arith, lt, many))
