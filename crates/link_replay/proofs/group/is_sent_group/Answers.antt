-- Of the number of its name, or of none.
use Rattle.std.proofs.Common.{ap, ◌∙◌, arith}
use Rattle.std.proofs.lemmas.List.{length-map}
use Rattle.std.specs.List.{list_any, range_with_len}
use Rattle.link_laws.specs.Accidents.{Sent}
use Rattle.link_replay.specs.Groups.{starts_of}
use Rattle.link_replay.specs.Lanes.{WatchedLane}
use Rattle.link_replay.specs.Standing.{are_numbered, skews_of}
use Rattle.link_replay.proofs.SentGroups.{no-number, one-number}
use Rattle.link_replay.proofs.group.is_sent_group.Goals as goal

pub returns-in-Some : goal.returns-in-Some
returns-in-Some c =
    let t : Sent = record { settings = c.args.link.now; words = c.args.sent.now; skews = skews_of c.args.lanes.now } in
    let l = c.keeps_limits.ensures.metaframe.0 in
    let m = length-map c.args.lanes.now (λ (v : WatchedLane). v.skew) in
    let n = c.requires.count in
    let some = c.requires.some in
    c.are_numbered.ensures c.args.sent.now
    ∙ one-number t c.made.result c.args.name c.args.skew (starts_of c.args.front.now) c.requires.head c.requires.skew (omega (arith, m, some)) (omega (arith, m, n)) c.in-Some.number (omega (arith, l)) c.in-Some.ensures
    ∙ ap (λ k. list_any (are_numbered t (starts_of c.args.front.now)) (range_with_len 0 k)) c.made.ensures.value

pub returns-in-None : goal.returns-in-None
returns-in-None c =
    let t : Sent = record { settings = c.args.link.now; words = c.args.sent.now; skews = skews_of c.args.lanes.now } in
    let m = length-map c.args.lanes.now (λ (v : WatchedLane). v.skew) in
    let n = c.requires.count in
    let some = c.requires.some in
    no-number t c.made.result c.args.name c.args.skew (starts_of c.args.front.now) c.requires.head c.requires.skew (omega (arith, m, some)) (omega (arith, m, n)) c.in-None.ensures
    ∙ ap (λ k. list_any (are_numbered t (starts_of c.args.front.now)) (range_with_len 0 k)) c.made.ensures.value
