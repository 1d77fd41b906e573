-- The words are in the cell after those that were there.
use Rattle.std.proofs.Common.{◌<◌, ◌≤◌, ◌∙◌, sym, length, subst, arith}
use Rattle.std.proofs.lemmas.List.{get_or_read}
use Rattle.cell_pool.proofs.Whole.{lengths_whole}
use Rattle.cell_pool.proofs.Shown.{place_in, chain_in, not_last, left_is, room_is, whole_is, wanted_is, chain_place, chain_some, cell_in, took_small, took_packed, took_shown}
use Rattle.cell_pool.proofs.pool.Pool.fill_cell.Goals as goal

pub index-length-requires : goal.index-length-requires
index-length-requires c = let h : c.args.place < length c.self.inside.lengths.items = place_in c.self.inside.chains c.self.inside.words c.self.inside.lengths.items c.self.inside.free c.self.invariant c.args.self.now c.self.view_is c.args.place c.requires.place in omega arith

pub make_room-requires-clause-place : goal.make_room-requires-clause-place
make_room-requires-clause-place c = chain_in c.self.inside.chains c.self.inside.words c.self.inside.lengths.items c.self.inside.free c.self.invariant c.args.self.now c.self.view_is c.args.place c.requires.place

pub make_room-requires-clause-apart : goal.make_room-requires-clause-apart
make_room-requires-clause-apart c = not_last c.self.inside.chains c.self.inside.words c.self.inside.lengths.items c.self.inside.free c.self.invariant c.args.self.now c.self.view_is c.args.place c.index-length.result.now c.len.result c.requires.place (get_or_read c.self.inside.lengths.items c.args.place c.index-length.result.now (place_in c.self.inside.chains c.self.inside.words c.self.inside.lengths.items c.self.inside.free c.self.invariant c.args.self.now c.self.view_is c.args.place c.requires.place) c.index-length.ensures 0) (c.len.ensures ∙ sym (lengths_whole c.self.inside.lengths))

pub make_room-requires-clause-room : goal.make_room-requires-clause-room
make_room-requires-clause-room c = λ z. subst (λ k. 0 < k) (sym (left_is c.self.inside.chains c.self.inside.words c.self.inside.lengths.items c.self.inside.free c.self.invariant c.args.self.now c.self.view_is c.args.place c.index-length.result.now c.len.result c.requires.place (get_or_read c.self.inside.lengths.items c.args.place c.index-length.result.now (place_in c.self.inside.chains c.self.inside.words c.self.inside.lengths.items c.self.inside.free c.self.invariant c.args.self.now c.self.view_is c.args.place c.requires.place) c.index-length.ensures 0) (c.len.ensures ∙ sym (lengths_whole c.self.inside.lengths)))) (room_is c.self.inside.chains c.self.inside.words c.self.inside.lengths.items c.self.inside.free c.self.invariant c.args.self.now c.self.view_is c.args.place c.index-length.result.now c.len.result c.requires.place (get_or_read c.self.inside.lengths.items c.args.place c.index-length.result.now (place_in c.self.inside.chains c.self.inside.words c.self.inside.lengths.items c.self.inside.free c.self.invariant c.args.self.now c.self.view_is c.args.place c.requires.place) c.index-length.ensures 0) (c.len.ensures ∙ sym (lengths_whole c.self.inside.lengths)) c.requires.room z)

pub overflow_sub-self : goal.overflow_sub-self
overflow_sub-self c = subst (λ k. k ≤ c.self.inside.free) (sym c.make_room.ensures.taken) (wanted_is c.self.inside.chains c.self.inside.words c.self.inside.lengths.items c.self.inside.free c.self.invariant c.args.self.now c.self.view_is c.args.place c.index-length.result.now c.len.result c.requires.place (get_or_read c.self.inside.lengths.items c.args.place c.index-length.result.now (place_in c.self.inside.chains c.self.inside.words c.self.inside.lengths.items c.self.inside.free c.self.invariant c.args.self.now c.self.view_is c.args.place c.requires.place) c.index-length.ensures 0) (c.len.ensures ∙ sym (lengths_whole c.self.inside.lengths)) (whole_is c.self.inside.chains c.self.inside.words c.self.inside.lengths.items c.self.inside.free c.self.invariant c.args.self.now c.self.view_is c.args.place c.index-length.result.now c.len.result c.requires.place (get_or_read c.self.inside.lengths.items c.args.place c.index-length.result.now (place_in c.self.inside.chains c.self.inside.words c.self.inside.lengths.items c.self.inside.free c.self.invariant c.args.self.now c.self.view_is c.args.place c.requires.place) c.index-length.ensures 0) (c.len.ensures ∙ sym (lengths_whole c.self.inside.lengths)) c.requires.whole) (room_is c.self.inside.chains c.self.inside.words c.self.inside.lengths.items c.self.inside.free c.self.invariant c.args.self.now c.self.view_is c.args.place c.index-length.result.now c.len.result c.requires.place (get_or_read c.self.inside.lengths.items c.args.place c.index-length.result.now (place_in c.self.inside.chains c.self.inside.words c.self.inside.lengths.items c.self.inside.free c.self.invariant c.args.self.now c.self.view_is c.args.place c.requires.place) c.index-length.ensures 0) (c.len.ensures ∙ sym (lengths_whole c.self.inside.lengths)) c.requires.room) c.make_room.new.chains c.make_room.ensures.moved)

pub last_cell-cell-requires-clause-place : goal.last_cell-cell-requires-clause-place
last_cell-cell-requires-clause-place c = chain_place c.self.inside.chains c.self.inside.words c.self.inside.lengths.items c.self.inside.free c.self.invariant c.args.self.now c.self.view_is c.args.place c.index-length.result.now c.len.result c.requires.place (get_or_read c.self.inside.lengths.items c.args.place c.index-length.result.now (place_in c.self.inside.chains c.self.inside.words c.self.inside.lengths.items c.self.inside.free c.self.invariant c.args.self.now c.self.view_is c.args.place c.requires.place) c.index-length.ensures 0) (c.len.ensures ∙ sym (lengths_whole c.self.inside.lengths)) (whole_is c.self.inside.chains c.self.inside.words c.self.inside.lengths.items c.self.inside.free c.self.invariant c.args.self.now c.self.view_is c.args.place c.index-length.result.now c.len.result c.requires.place (get_or_read c.self.inside.lengths.items c.args.place c.index-length.result.now (place_in c.self.inside.chains c.self.inside.words c.self.inside.lengths.items c.self.inside.free c.self.invariant c.args.self.now c.self.view_is c.args.place c.requires.place) c.index-length.ensures 0) (c.len.ensures ∙ sym (lengths_whole c.self.inside.lengths)) c.requires.whole) (room_is c.self.inside.chains c.self.inside.words c.self.inside.lengths.items c.self.inside.free c.self.invariant c.args.self.now c.self.view_is c.args.place c.index-length.result.now c.len.result c.requires.place (get_or_read c.self.inside.lengths.items c.args.place c.index-length.result.now (place_in c.self.inside.chains c.self.inside.words c.self.inside.lengths.items c.self.inside.free c.self.invariant c.args.self.now c.self.view_is c.args.place c.requires.place) c.index-length.ensures 0) (c.len.ensures ∙ sym (lengths_whole c.self.inside.lengths)) c.requires.room) c.make_room.new.chains c.make_room.ensures.moved

pub last_cell-cell-requires-clause-some : goal.last_cell-cell-requires-clause-some
last_cell-cell-requires-clause-some c = chain_some c.self.inside.chains c.self.inside.words c.self.inside.lengths.items c.self.inside.free c.self.invariant c.args.self.now c.self.view_is c.args.place c.index-length.result.now c.len.result c.requires.place (get_or_read c.self.inside.lengths.items c.args.place c.index-length.result.now (place_in c.self.inside.chains c.self.inside.words c.self.inside.lengths.items c.self.inside.free c.self.invariant c.args.self.now c.self.view_is c.args.place c.requires.place) c.index-length.ensures 0) (c.len.ensures ∙ sym (lengths_whole c.self.inside.lengths)) (whole_is c.self.inside.chains c.self.inside.words c.self.inside.lengths.items c.self.inside.free c.self.invariant c.args.self.now c.self.view_is c.args.place c.index-length.result.now c.len.result c.requires.place (get_or_read c.self.inside.lengths.items c.args.place c.index-length.result.now (place_in c.self.inside.chains c.self.inside.words c.self.inside.lengths.items c.self.inside.free c.self.invariant c.args.self.now c.self.view_is c.args.place c.requires.place) c.index-length.ensures 0) (c.len.ensures ∙ sym (lengths_whole c.self.inside.lengths)) c.requires.whole) (room_is c.self.inside.chains c.self.inside.words c.self.inside.lengths.items c.self.inside.free c.self.invariant c.args.self.now c.self.view_is c.args.place c.index-length.result.now c.len.result c.requires.place (get_or_read c.self.inside.lengths.items c.args.place c.index-length.result.now (place_in c.self.inside.chains c.self.inside.words c.self.inside.lengths.items c.self.inside.free c.self.invariant c.args.self.now c.self.view_is c.args.place c.requires.place) c.index-length.ensures 0) (c.len.ensures ∙ sym (lengths_whole c.self.inside.lengths)) c.requires.room) c.make_room.new.chains c.make_room.ensures.moved

pub put-count-requires-clause-cell : goal.put-count-requires-clause-cell
put-count-requires-clause-cell c = cell_in c.self.inside.chains c.self.inside.words c.self.inside.lengths.items c.self.inside.free c.self.invariant c.args.self.now c.self.view_is c.args.place c.index-length.result.now c.len.result c.requires.place (get_or_read c.self.inside.lengths.items c.args.place c.index-length.result.now (place_in c.self.inside.chains c.self.inside.words c.self.inside.lengths.items c.self.inside.free c.self.invariant c.args.self.now c.self.view_is c.args.place c.requires.place) c.index-length.ensures 0) (c.len.ensures ∙ sym (lengths_whole c.self.inside.lengths)) (whole_is c.self.inside.chains c.self.inside.words c.self.inside.lengths.items c.self.inside.free c.self.invariant c.args.self.now c.self.view_is c.args.place c.index-length.result.now c.len.result c.requires.place (get_or_read c.self.inside.lengths.items c.args.place c.index-length.result.now (place_in c.self.inside.chains c.self.inside.words c.self.inside.lengths.items c.self.inside.free c.self.invariant c.args.self.now c.self.view_is c.args.place c.requires.place) c.index-length.ensures 0) (c.len.ensures ∙ sym (lengths_whole c.self.inside.lengths)) c.requires.whole) (room_is c.self.inside.chains c.self.inside.words c.self.inside.lengths.items c.self.inside.free c.self.invariant c.args.self.now c.self.view_is c.args.place c.index-length.result.now c.len.result c.requires.place (get_or_read c.self.inside.lengths.items c.args.place c.index-length.result.now (place_in c.self.inside.chains c.self.inside.words c.self.inside.lengths.items c.self.inside.free c.self.invariant c.args.self.now c.self.view_is c.args.place c.requires.place) c.index-length.ensures 0) (c.len.ensures ∙ sym (lengths_whole c.self.inside.lengths)) c.requires.room) c.make_room.new.chains c.make_room.ensures.moved c.last_cell-cell.result c.last_cell-cell.ensures

pub overflow_add-length : goal.overflow_add-length
overflow_add-length c = omega (arith, took_small c.self.inside.chains c.self.inside.words c.self.inside.lengths.items c.self.inside.free c.self.invariant c.args.self.now c.self.view_is c.args.place c.index-length.result.now c.len.result c.requires.place (get_or_read c.self.inside.lengths.items c.args.place c.index-length.result.now (place_in c.self.inside.chains c.self.inside.words c.self.inside.lengths.items c.self.inside.free c.self.invariant c.args.self.now c.self.view_is c.args.place c.requires.place) c.index-length.ensures 0) (c.len.ensures ∙ sym (lengths_whole c.self.inside.lengths)) (whole_is c.self.inside.chains c.self.inside.words c.self.inside.lengths.items c.self.inside.free c.self.invariant c.args.self.now c.self.view_is c.args.place c.index-length.result.now c.len.result c.requires.place (get_or_read c.self.inside.lengths.items c.args.place c.index-length.result.now (place_in c.self.inside.chains c.self.inside.words c.self.inside.lengths.items c.self.inside.free c.self.invariant c.args.self.now c.self.view_is c.args.place c.requires.place) c.index-length.ensures 0) (c.len.ensures ∙ sym (lengths_whole c.self.inside.lengths)) c.requires.whole) (room_is c.self.inside.chains c.self.inside.words c.self.inside.lengths.items c.self.inside.free c.self.invariant c.args.self.now c.self.view_is c.args.place c.index-length.result.now c.len.result c.requires.place (get_or_read c.self.inside.lengths.items c.args.place c.index-length.result.now (place_in c.self.inside.chains c.self.inside.words c.self.inside.lengths.items c.self.inside.free c.self.invariant c.args.self.now c.self.view_is c.args.place c.requires.place) c.index-length.ensures 0) (c.len.ensures ∙ sym (lengths_whole c.self.inside.lengths)) c.requires.room) c.make_room.new.chains c.make_room.ensures.moved c.last_cell-cell.result c.last_cell-cell.ensures c.args.words.now c.put-count.result c.put-count.ensures.count c.requires.some)

pub index_mut-requires : goal.index_mut-requires
index_mut-requires c = let h : c.args.place < length c.self.inside.lengths.items = place_in c.self.inside.chains c.self.inside.words c.self.inside.lengths.items c.self.inside.free c.self.invariant c.args.self.now c.self.view_is c.args.place c.requires.place in omega arith

pub invariant_of-self : goal.invariant_of-self
invariant_of-self c = took_packed c.self.inside.chains c.self.inside.words c.self.inside.lengths.items c.self.inside.free c.self.invariant c.args.self.now c.self.view_is c.args.place c.index-length.result.now c.len.result c.requires.place (get_or_read c.self.inside.lengths.items c.args.place c.index-length.result.now (place_in c.self.inside.chains c.self.inside.words c.self.inside.lengths.items c.self.inside.free c.self.invariant c.args.self.now c.self.view_is c.args.place c.requires.place) c.index-length.ensures 0) (c.len.ensures ∙ sym (lengths_whole c.self.inside.lengths)) (whole_is c.self.inside.chains c.self.inside.words c.self.inside.lengths.items c.self.inside.free c.self.invariant c.args.self.now c.self.view_is c.args.place c.index-length.result.now c.len.result c.requires.place (get_or_read c.self.inside.lengths.items c.args.place c.index-length.result.now (place_in c.self.inside.chains c.self.inside.words c.self.inside.lengths.items c.self.inside.free c.self.invariant c.args.self.now c.self.view_is c.args.place c.requires.place) c.index-length.ensures 0) (c.len.ensures ∙ sym (lengths_whole c.self.inside.lengths)) c.requires.whole) (room_is c.self.inside.chains c.self.inside.words c.self.inside.lengths.items c.self.inside.free c.self.invariant c.args.self.now c.self.view_is c.args.place c.index-length.result.now c.len.result c.requires.place (get_or_read c.self.inside.lengths.items c.args.place c.index-length.result.now (place_in c.self.inside.chains c.self.inside.words c.self.inside.lengths.items c.self.inside.free c.self.invariant c.args.self.now c.self.view_is c.args.place c.requires.place) c.index-length.ensures 0) (c.len.ensures ∙ sym (lengths_whole c.self.inside.lengths)) c.requires.room) c.make_room.new.chains c.make_room.ensures.moved c.last_cell-cell.result c.last_cell-cell.ensures c.args.words.now c.put-count.result c.put-count.ensures.count c.requires.some c.make_room.result c.make_room.ensures.taken c.put-count.new.self c.put-count.ensures.put

pub returns-clause-state : goal.returns-clause-state
returns-clause-state c = took_shown c.self.inside.chains c.self.inside.words c.self.inside.lengths.items c.self.inside.free c.self.invariant c.args.self.now c.self.view_is c.args.place c.index-length.result.now c.len.result c.requires.place (get_or_read c.self.inside.lengths.items c.args.place c.index-length.result.now (place_in c.self.inside.chains c.self.inside.words c.self.inside.lengths.items c.self.inside.free c.self.invariant c.args.self.now c.self.view_is c.args.place c.requires.place) c.index-length.ensures 0) (c.len.ensures ∙ sym (lengths_whole c.self.inside.lengths)) (whole_is c.self.inside.chains c.self.inside.words c.self.inside.lengths.items c.self.inside.free c.self.invariant c.args.self.now c.self.view_is c.args.place c.index-length.result.now c.len.result c.requires.place (get_or_read c.self.inside.lengths.items c.args.place c.index-length.result.now (place_in c.self.inside.chains c.self.inside.words c.self.inside.lengths.items c.self.inside.free c.self.invariant c.args.self.now c.self.view_is c.args.place c.requires.place) c.index-length.ensures 0) (c.len.ensures ∙ sym (lengths_whole c.self.inside.lengths)) c.requires.whole) (room_is c.self.inside.chains c.self.inside.words c.self.inside.lengths.items c.self.inside.free c.self.invariant c.args.self.now c.self.view_is c.args.place c.index-length.result.now c.len.result c.requires.place (get_or_read c.self.inside.lengths.items c.args.place c.index-length.result.now (place_in c.self.inside.chains c.self.inside.words c.self.inside.lengths.items c.self.inside.free c.self.invariant c.args.self.now c.self.view_is c.args.place c.requires.place) c.index-length.ensures 0) (c.len.ensures ∙ sym (lengths_whole c.self.inside.lengths)) c.requires.room) c.make_room.new.chains c.make_room.ensures.moved c.last_cell-cell.result c.last_cell-cell.ensures c.args.words.now c.put-count.result c.put-count.ensures.count c.requires.some c.put-count.new.self c.put-count.ensures.put
