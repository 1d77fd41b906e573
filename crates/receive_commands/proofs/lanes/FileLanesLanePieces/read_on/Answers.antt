use Rattle.std.proofs.Common.{◌≡◌, ◌∙◌, ◌<◌, ◌++◌, List, ℕ, [], length, map, take, drop, get_or, sym, ap, subst, arith, string_bytes}
use Rattle.std.proofs.lemmas.List.{length-map, take_at}
use Rattle.run_shell.proofs.Creating.{named}
use Rattle.lane_receipts.specs.Taking.{ReadsOn}
use Rattle.receive_commands.specs.declared.lane_buffer.LaneBuffer.{LaneBuffer}
use Rattle.receive_commands.specs.ReadLanes.{AreFileLanes, AreBuffers, piece_in}
use Rattle.receive_commands.proofs.OpenFiles.{reads_on}
use Rattle.receive_commands.proofs.lanes.FileLanesLanePieces.read_on.Goals as goal

pub returns-clause-reads : goal.returns-clause-reads
returns-clause-reads g c was lanes are before =
    let names = map string_bytes c.args.self.now.names.now in
    let lane = c.args.lane in
    let many = c.requires.limits.many in
    let count = length-map c.args.self.now.names.now (string_bytes {Z = _}) in
    let place = c.requires.place in
    let lt : lane < length c.args.self.now.names.now = omega (arith, many, count, place) in
    let at = named string_bytes c.args.self.now.names.now lane (get_or c.args.self.now.names.now lane c.index-self-lane.result) c.as_str-name.result.now lt (ap (get_or c.args.self.now.names.now lane) c.index-self-lane.is) c.as_str-name.ensures.value in
    let whole : length c.read_lane.new.buffers ≡ c.args.self.now.buffers.len = c.read_lane.ensures.many ∙ c.deref_mut.ensures.len in
    subst (λ (bs : List LaneBuffer). ReadsOn names (AreFileLanes names bs was lanes) c.args.offset (piece_in bs lane c.args.offset) (get_or lanes lane []) c.read_lane.result)
    (sym (take_at c.read_lane.new.buffers (drop (length c.read_lane.new.buffers) c.args.self.now.buffers.items) c.args.self.now.buffers.len whole))
    (reads_on names lane c.args.offset c.as_str-name.result.now c.deref_mut.result.now c.read_lane.new.buffers c.read_lane.result was _ lanes at.0 at.1
    (subst (λ (bs : List LaneBuffer). AreFileLanes names bs was lanes) (sym c.deref_mut.ensures.value) are) before c.read_lane.ensures.reads)
