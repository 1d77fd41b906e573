use Rattle.std.proofs.Common.{sym, subst, List, ℕ, Bor, Ok, Err, [], ◌∷◌, map}
use Rattle.std.proofs.lemmas.Result.{err_from_is_err_and}
use Rattle.run_shell.specs.Writing.{Writes}
use Rattle.run_stops.specs.Stops.{StopCount}
use Rattle.run_shell.proofs.Writing.{writes_comes, writes_leaves}
use Rattle.stream_commands.specs.Default.{default_source}
use Rattle.stream_commands.specs.Stream.{HasStream}
use Rattle.run_shell.specs.Names.{words_name}
use Rattle.stream_commands.specs.Outputs.{IsWordsFile}
use Rattle.stream_commands.specs.Capture.{burst_capture_work}
use Rattle.run_shell.proofs.OutputNames.{one_name}
use Rattle.stream_commands.proofs.CaptureWork.{capture_means, no_bytes, not_accepted, capture_reads}
use Rattle.stream_commands.proofs.capture.BurstCaptureFileCommand.obey.Goals as goal

pub returns-in_err-bytes-clause-lawful : goal.returns-in_err-bytes-clause-lawful
returns-in_err-bytes-clause-lawful g c = capture_means c.args.file.now

pub returns-in_err-packets-clause-lawful : goal.returns-in_err-packets-clause-lawful
returns-in_err-packets-clause-lawful g c = capture_means c.args.file.now

pub returns-clause-lawful : goal.returns-clause-lawful
returns-clause-lawful g c = capture_means c.args.file.now

pub returns-in_err-bytes-clause-comes : goal.returns-in_err-bytes-clause-comes
returns-in_err-bytes-clause-comes g c =
    let p = err_from_is_err_and c.from_residual.result c.from_residual.ensures.1 in
    rw (p.1, p.2) (no_bytes _ c.in_err-bytes.field-0.0 _ _ c.in_err-bytes.ensures.unchanged c.in_err-bytes.ensures.reads)

pub returns-in_err-packets-clause-comes : goal.returns-in_err-packets-clause-comes
returns-in_err-packets-clause-comes g c =
    let r = c.from_residual-in_err-packets in
    let p = err_from_is_err_and r.result r.ensures.1 in
    rw (p.1, p.2) (not_accepted _ c.in_ok-bytes.bytes.items _ c.in_err-packets.field-0.0 _ _ c.in_ok-bytes.ensures.unchanged c.deref.ensures.value c.in_ok-bytes.ensures.reads c.in_err-packets.ensures.reads)

pub returns-clause-comes : goal.returns-clause-comes
returns-clause-comes g c =
    let name = c.args.file.now in
    let packets = map (λ (p : Bor (List ℕ)). p.now) c.in_ok-packets.packets.items in
    writes_comes (burst_capture_work name) packets (words_name name ∷ []) (λ q h. one_name (words_name name) q h) c.burst_packets.result _ _ _ c.in_ok-bytes.ensures.unchanged
    (capture_reads name c.in_ok-bytes.bytes.items _ (Ok c.in_ok-packets.packets) _ c.deref.ensures.value c.in_ok-bytes.ensures.reads c.in_ok-packets.ensures.reads)
    (subst (λ (xs : List (Bor (List ℕ))). Writes (HasStream (IsWordsFile name) (default_source (map (λ (p : Bor (List ℕ)). p.now) xs))) (words_name name ∷ []) c.burst_packets.result (g.S.Store.files c.read_input.new.store) (g.S.Store.files c.burst_packets.new.store)) c.deref-2.ensures.value c.burst_packets.ensures.writes)

pub returns-clause-others : goal.returns-clause-others
returns-clause-others g c =
    let name = c.args.file.now in
    let packets = map (λ (p : Bor (List ℕ)). p.now) c.in_ok-packets.packets.items in
    writes_leaves (burst_capture_work name) packets (words_name name ∷ []) (λ q h. one_name (words_name name) q h) c.burst_packets.result _ _ _ c.in_ok-bytes.ensures.unchanged
    (capture_reads name c.in_ok-bytes.bytes.items _ (Ok c.in_ok-packets.packets) _ c.deref.ensures.value c.in_ok-bytes.ensures.reads c.in_ok-packets.ensures.reads)
    (subst (λ (xs : List (Bor (List ℕ))). Writes (HasStream (IsWordsFile name) (default_source (map (λ (p : Bor (List ℕ)). p.now) xs))) (words_name name ∷ []) c.burst_packets.result (g.S.Store.files c.read_input.new.store) (g.S.Store.files c.burst_packets.new.store)) c.deref-2.ensures.value c.burst_packets.ensures.writes)

pub returns-in_err-packets-clause-cause : goal.returns-in_err-packets-clause-cause
returns-in_err-packets-clause-cause g c =
    let r = c.from_residual-in_err-packets in
    let p = err_from_is_err_and r.result r.ensures.1 in
    rw (p.1, p.2) (subst (λ (n : ℕ). StopCount {T = Unit {0}} (Err c.in_err-packets.field-0.0) (g.S.Store.faults c.args.store.now) n) (sym c.in_ok-bytes.ensures.cause) (c.in_err-packets.ensures.calm (g.S.Store.faults c.args.store.now)))
