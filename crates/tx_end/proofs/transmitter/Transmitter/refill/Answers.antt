use Rattle.std.proofs.Common.{◌≡◌, ◌<◌, ◌≤◌, false, length, arith}
use Rattle.tx_end.specs.declared.transmitter.Transmitter.{Transmitter}
use Rattle.tx_end.specs.Sending.{HasTurn, IsDone, Sending, Sends, with_words}
use Rattle.tx_end.proofs.Giving.{all_ended, lanes_count}
use Rattle.tx_end.proofs.transmitter.Transmitter.refill.Goals as goal

-- all bytes that were made are given
given : (t : Transmitter) (a : Sending) → Sends t a → length t.bytes.items ≤ t.at → t.at ≡ length t.bytes.items
given t a k h = (let at = k.driven.place.at in omega (arith, at, h))

turn_of : (t : Transmitter) (a : Sending) → Sends t a → t.turn < length t.lanes.items → length t.bytes.items ≤ t.at → HasTurn t a
turn_of t a k low all = (let n = lanes_count t a k in (k, omega (arith, n, low), given t a k all))

done_of : (t : Transmitter) (a : Sending) → Sends t a → t.over ≡ false → length t.lanes.items ≤ t.turn → length t.bytes.items ≤ t.at → IsDone t a
done_of t a k going past all = (let n = lanes_count t a k in let within = k.driven.place.turn in (k, going, omega (arith, n, past, within), given t a k all))

pub returns-then-self-len : goal.returns-then-self-len
returns-then-self-len c a k = (a.words, k, λ e. absurd (omega (arith, c.if-self-len.true, c.len.ensures, c.args.self.now.bytes.ok.0, e)))

pub next_lane-requires : goal.next_lane-requires
next_lane-requires c =
    let (a, k) = c.requires in
    let t = c.args.self.now in
    (a, turn_of t a k (omega (arith, c.if-self-len-2.true, c.len-2.ensures, t.lanes.ok.0)) (omega (arith, c.if-self-len.false, c.len.ensures, t.bytes.ok.0)))

pub returns-then-self-len-2 : goal.returns-then-self-len-2
returns-then-self-len-2 c a k =
    let t = c.args.self.now in
    let q = c.next_lane.ensures a (turn_of t a k (omega (arith, c.if-self-len-2.true, c.len-2.ensures, t.lanes.ok.0)) (omega (arith, c.if-self-len.false, c.len.ensures, t.bytes.ok.0))) in
    (a.words, q.0, q.1)

pub returns-then-self : goal.returns-then-self
returns-then-self c a k =
    let t = c.args.self.now in
    let n = lanes_count t a k in
    (a.words, k, λ e. all_ended t a k c.if-self.true (omega (arith, n, c.if-self-len-2.false, c.len-2.ensures, t.lanes.ok.0)) e)

pub next_group-requires : goal.next_group-requires
next_group-requires c =
    let (a, k) = c.requires in
    let t = c.args.self.now in
    (a, done_of t a k c.if-self.false (omega (arith, c.if-self-len-2.false, c.len-2.ensures, t.lanes.ok.0)) (omega (arith, c.if-self-len.false, c.len.ensures, t.bytes.ok.0)))

pub next_lane-requires-2 : goal.next_lane-requires-2
next_lane-requires-2 c =
    let (a, k) = c.requires in
    let t = c.args.self.now in
    let r = c.next_group.ensures a (done_of t a k c.if-self.false (omega (arith, c.if-self-len-2.false, c.len-2.ensures, t.lanes.ok.0)) (omega (arith, c.if-self-len.false, c.len.ensures, t.bytes.ok.0))) in
    (with_words a r.0, r.1)

pub returns : goal.returns
returns c a k =
    let t = c.args.self.now in
    let r = c.next_group.ensures a (done_of t a k c.if-self.false (omega (arith, c.if-self-len-2.false, c.len-2.ensures, t.lanes.ok.0)) (omega (arith, c.if-self-len.false, c.len.ensures, t.bytes.ok.0))) in
    let q = c.next_lane-2.ensures (with_words a r.0) r.1 in
    (r.0, q.0, q.1)
