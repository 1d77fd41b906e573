-- A stream that is carried sends packets at low slots.
use Rattle.std.proofs.Common.{◌≡◌, ℕ, ◌+◌, ◌-◌, ◌*◌, ◌/◌, ◌%◌, ◌<◌, ◌≤◌, ◌^◌, ap, ap₂, ◌∙◌, arith, Bool, true, false, All, List, [], ◌++◌, length, length-append, map, get_or, replicate, Option, Some, None, MatchOption, IfSome}
use Rattle.std.specs.List.{enumerate_from}
use Rattle.std.proofs.Math.Nat.{div-add-mod, mul-le-mul_left}
use Rattle.std.proofs.lemmas.List.{length-map, length-replicate}
use Rattle.std.proofs.lemmas.List.Elements.{All-map}
use Rattle.std.proofs.lemmas.List.FromFn.{length-enumerate_from, length-map-range_with_len}
use Rattle.std.proofs.lemmas.Nat.{mul-le}
use Rattle.lk_base.specs.Checksum.{bits_of_bytes}
use Rattle.lk_base.specs.Link.{Settings, IsLink, group_of}
use Rattle.lk_base.specs.declared.word.Word.{Word}
use Rattle.lane_model.specs.Coding.{codes_of}
use Rattle.lane_model.specs.Damage.{LaneDamage, damaged_bits, received_bit, received_bits}
use Rattle.lane_model.specs.Key.{first_state, start_of}
use Rattle.lane_model.specs.LaneBits.{bits_of_codes, lane_bits, stream_lane_bits}
use Rattle.lane_model.specs.LaneWords.{lane_words, sent_at}
use Rattle.lane_model.specs.Striping.{lane_payload}
use Rattle.lane_model.proofs.CodesOfWords.{length-codes_behind}
use Rattle.lane_model.proofs.FilesHold.{length-flat_map_bits}
use Rattle.tx_words.specs.Sent.{AreSent, IsEnd, IsSent}
use Rattle.tx_words.specs.declared.sent.Sent.{Sent}
use Rattle.tx_end.proofs.Shapes.{whole_groups}
use Rattle.link_plan.specs.Schedules.{ScheduleValue}
use Rattle.link_replay.specs.Damages.{lane_damage}
use Rattle.link_replay.specs.Missing.{HasLowSlots}
use Rattle.lane_receipts.specs.Held.{vec_bytes}
use Rattle.link_commands.specs.declared.carried.Carried.{Carried}
use Rattle.link_commands.specs.Carrying.{IsCarried}
use Rattle.link_commands.specs.Inputs.{LinkReading}
use Rattle.link_commands.specs.Linked.{AreReceivedFiles}

lane_length : (s : Settings) (stream : List Word) (lane : ℕ) → length (stream_lane_bits s stream lane) ≡ 67 * (length stream / group_of s * s.metaframe)
unfolding lane_bits lane_words bits_of_codes
lane_length s stream lane =
    let words : List Word = lane_words s (start_of (first_state lane)) (lane_payload s.lanes stream lane) (length stream / group_of s) in
    length-flat_map_bits 67 (codes_of words)
    ∙ ap (λ n. 67 * n) (length-codes_behind [] words ∙ length-map-range_with_len (sent_at s (start_of (first_state lane)) (lane_payload s.lanes stream lane)) 0 (length stream / group_of s * s.metaframe))

received_length : (d : LaneDamage) (bits : List Bool) → length (received_bits d bits) ≡ d.skew + length bits
received_length d bits =
    length-append (replicate d.skew true) (damaged_bits d bits)
    ∙ ap₂ (λ a b. a + b) (length-replicate d.skew true) (length-map (enumerate_from 0 bits) (received_bit d) ∙ length-enumerate_from 0 bits)

file_length : (bytes skew codes padding : ℕ) → 8 * bytes ≡ skew + 67 * codes + padding → bytes < 2 ^ 50 → 64 * codes < 2 ^ 54
file_length bytes skew codes padding e few = omega (arith, e, few)

group_low : (lanes metaframe skips : ℕ) → lanes ≤ 64 → lanes * (metaframe - skips - 3) ≤ 64 * metaframe
group_low lanes metaframe skips few = mul-le lanes (metaframe - skips - 3) 64 metaframe few (omega arith)

words_low : (made group metaframe words : ℕ) → group ≤ 64 * metaframe → words ≡ group * made → 64 * (made * metaframe) < 2 ^ 54 → words < 2 ^ 56
words_low made group metaframe words low e few =
    let a : made * group ≤ made * (64 * metaframe) = mul-le-mul_left made low in
    let b : group * made ≡ made * group = omega arith in
    let c : made * (64 * metaframe) ≡ 64 * (made * metaframe) = omega arith in
    omega (arith, a, b, c, e, few)

pub short_stream : (s : Settings) (schedule : ScheduleValue) (w : List Word) (lanes : List (List ℕ)) → IsLink s → AreReceivedFiles s schedule w lanes → All (λ (bytes : List ℕ). length bytes < 2 ^ 50) lanes → length w % group_of s ≡ 0 → length w < 2 ^ 56
short_stream s schedule w lanes link are few whole =
    let many = are.one_each in
    let some = link.lanes.0 in
    let file = are.each 0 (omega (arith, some)) in
    let bytes : List ℕ = get_or lanes 0 [] in
    let d : LaneDamage = lane_damage schedule 0 in
    let bits : List Bool = stream_lane_bits s w 0 in
    let all : length (bits_of_bytes bytes) ≡ 8 * length bytes = length-flat_map_bits 8 bytes in
    let holds : length (bits_of_bytes bytes) ≡ length (received_bits d bits ++ replicate file.padding false) = ap length file.holds in
    let both = length-append (received_bits d bits) (replicate file.padding false) in
    let padded = length-replicate file.padding false in
    let received = received_length d bits in
    let sent = lane_length s w 0 in
    let low : length bytes < 2 ^ 50 = few 0 [] (omega (arith, many, some)) in
    let total : 8 * length bytes ≡ d.skew + 67 * (length w / group_of s * s.metaframe) + file.padding = omega (arith, all, holds, both, padded, received, sent) in
    let parts : group_of s * (length w / group_of s) + length w % group_of s ≡ length w = div-add-mod (length w) (group_of s) in
    let groups : length w ≡ group_of s * (length w / group_of s) = omega (arith, parts, whole) in
    words_low (length w / group_of s) (group_of s) s.metaframe (length w) (group_low s.lanes s.metaframe s.skips link.lanes.1) groups
    (file_length (length bytes) d.skew (length w / group_of s * s.metaframe) file.padding total low)

pub low_slots : (w : List Word) (sent : List Sent) → AreSent w sent → length w < 2 ^ 56 → All HasLowSlots sent
low_slots w sent are short k d lt =
    let s : Sent = get_or sent k d in
    let is : IsSent w s = are.each k d lt in
    let within : s.first < length w = is.within in
    record { first = omega (arith, within, short); last = ended s.last is.last }
  where
    ended : (last : Option ℕ) → MatchOption last ((z : ℕ) → IsEnd w (get_or sent k d).channel (get_or sent k d).first z → ⊥) (λ z. IsEnd w (get_or sent k d).channel (get_or sent k d).first z) → IfSome last (λ z. z < 2 ^ 56)
    ended None none = tt
    ended (Some z) is = (let within : z < length w = is.within in omega (arith, within, short))

-- of a stream that is carried
pub carried_low : (i : LinkReading) (c : Carried) → IsCarried i c → IsLink i.reading.plan.settings → All HasLowSlots c.sent.items
carried_low i c is link =
    let s : Settings = i.reading.plan.settings in
    let whole : length is.stream % group_of s ≡ 0 = whole_groups is.source is.stream (group_of s) is.is_stream is.is_source.shape.group in
    low_slots is.stream c.sent.items is.sent
    (short_stream s i.schedule is.stream (map vec_bytes c.lanes.items) link is.lanes (All-map (λ (bytes : List ℕ). length bytes < 2 ^ 50) vec_bytes c.lanes.items is.few) whole)
