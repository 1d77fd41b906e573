use Rattle.std.proofs.Common.{◌≡◌, ◌∙◌, ◌<◌, inl, inr, ◌≤◌, ◌+◌, ℕ, Bool, true, false, nat_le, leb-true, List, length, get_or, Contains, Err, refl, sym, ap, subst, arith}
use Rattle.std.specs.Vec.{with_item}
use Rattle.std.proofs.lemmas.Bool.Decides.{nat_tests}
use Rattle.std.proofs.lemmas.Result.{err_from_is_err_and}
use Rattle.lk_base.specs.declared.word.Word.{Word}
use Rattle.live_stream.specs.LiveStream.{Given}
use Rattle.live_stream.specs.Waiting.{channels_of, most_bytes}
use Rattle.live_stream.specs.Gives.{refusal_of}
use Rattle.live_stream.specs.declared.refused.Refused.TheVariants as refused
use Rattle.live_stream.specs.declared.scheduler.LiveScheduler.{LiveScheduler}
use Rattle.live_stream.specs.declared.waiting.Waiting.{Waiting}
use Rattle.live_stream.proofs.Listed.{placed, unknown}
use Rattle.live_stream.proofs.More.{packet_step, packet_kept, bytes_at}
use Rattle.live_stream.proofs.Places.{channel_at}
use Rattle.live_stream.proofs.Refusals.{refused_unknown, refused_empty, refused_long, refused_much, not_refused, still_open, answered, taken, on_err}
use Rattle.live_stream.proofs.scheduler.LiveScheduler.packet.Goals as goal

named_at : (s : LiveScheduler) (g : Given) (w : List Word) (c at : ℕ) (q : Waiting) → at < length s.turns.items → q ≡ get_or s.turns.items at q → get_or (channels_of s.turns.items) at 0 ≡ c → q.channel ≡ c
named_at s g w c at q below is here = sym (channel_at s.turns.items at q below is) ∙ here

lacks : (a b most : ℕ) (r : Bool) → r ≡ nat_le a most → r ≡ false → a ≡ b → most < b
lacks a b most r is low same = let test : nat_le a most ≡ false = sym is ∙ low in let over : most < a = grind (arith, nat_tests) in omega (arith, over, same)

fits : (a b most : ℕ) (r : Bool) → r ≡ nat_le a most → r ≡ true → a ≡ b → b ≤ most
fits a b most r is high same = let test : nat_le a most ≡ true = sym is ∙ high in let under : a ≤ most = leb-true a most test in omega (arith, under, same)

pub returns-then-at-len-clause-why : goal.returns-then-at-len-clause-why
returns-then-at-len-clause-why c g w h =
    let s : LiveScheduler = c.args.self.now in
    let still = sym (c.refuses_packets.ensures g w h) ∙ c.if-refuses_packets.false in
    let long = ap length c.deref.ensures.value in
    let missing = c.place-at.ensures.missing (omega (arith, c.if-at-len.true, c.len.ensures, c.place-at.ensures.within, long, s.turns.ok.0)) in
    answered (refusal_of g c.args.channel c.args.bytes.now) refused.UnknownChannel _
    (refused_unknown g c.args.channel c.args.bytes.now still (unknown s g w c.args.channel h (subst (λ ts. Contains (channels_of ts) c.args.channel → ⊥) c.deref.ensures.value missing))) refl

pub returns-then-bytes-eq0-clause-why : goal.returns-then-bytes-eq0-clause-why
returns-then-bytes-eq0-clause-why c g w h =
    let s : LiveScheduler = c.args.self.now in
    let still = sym (c.refuses_packets.ensures g w h) ∙ c.if-refuses_packets.false in
    let known = placed s g w c.args.channel c.place-at.result c.deref.result.now h c.deref.ensures.value (omega (arith, c.if-at-len.false, c.len.ensures, s.turns.ok.0)) c.place-at.ensures.found in
    answered (refusal_of g c.args.channel c.args.bytes.now) refused.Empty _ (refused_empty g c.args.channel c.args.bytes.now still known.1 (omega (arith, c.if-bytes-eq0.true))) refl

pub returns-then-bytes-self-clause-why : goal.returns-then-bytes-self-clause-why
returns-then-bytes-self-clause-why c g w h =
    let s : LiveScheduler = c.args.self.now in
    let still = sym (c.refuses_packets.ensures g w h) ∙ c.if-refuses_packets.false in
    let known = placed s g w c.args.channel c.place-at.result c.deref.result.now h c.deref.ensures.value (omega (arith, c.if-at-len.false, c.len.ensures, s.turns.ok.0)) c.place-at.ensures.found in
    answered (refusal_of g c.args.channel c.args.bytes.now) refused.TooLong _ (refused_long g c.args.channel c.args.bytes.now still known.1 (omega (arith, c.if-bytes-eq0.false)) (omega (arith, c.if-bytes-self.true, h.longest))) refl

pub returns-then-not-has_room-clause-why : goal.returns-then-not-has_room-clause-why
returns-then-not-has_room-clause-why c g w h =
    let s : LiveScheduler = c.args.self.now in
    let still = sym (c.refuses_packets.ensures g w h) ∙ c.if-refuses_packets.false in
    let below : c.place-at.result < length s.turns.items = omega (arith, c.if-at-len.false, c.len.ensures, s.turns.ok.0) in
    let known = placed s g w c.args.channel c.place-at.result c.deref.result.now h c.deref.ensures.value below c.place-at.ensures.found in
    let bytes = bytes_at s g w h c.place-at.result c.index.result.now below c.index.ensures c.args.channel (named_at s g w c.args.channel c.place-at.result c.index.result.now below c.index.ensures known.0) in
    answered (refusal_of g c.args.channel c.args.bytes.now) refused.TooMuch _ (refused_much g c.args.channel c.args.bytes.now still known.1 (omega (arith, c.if-bytes-eq0.false)) (omega (arith, c.if-bytes-self.false, h.longest))
    (lacks _ _ most_bytes c.has_room.result c.has_room.ensures c.if-not-has_room.true (ap (λ n. n + length c.args.bytes.now) bytes))) refl

pub returns-in_err-add-clause-err : goal.returns-in_err-add-clause-err
returns-in_err-add-clause-err c = on_err c.from_residual.result _ (λ g w h.
    let s : LiveScheduler = c.args.self.now in
    let below : c.place-at.result < length s.turns.items = omega (arith, c.if-at-len.false, c.len.ensures, s.turns.ok.0) in
    packet_kept s g w h (with_item s.turns c.place-at.result c.add.new.self) c.place-at.result c.index_mut.result.now c.add.new.self refl below c.index_mut.ensures.value c.add.ensures.channel (c.in_err-add.ensures {u = tt}).err)

pub returns-in_err-add-clause-why : goal.returns-in_err-add-clause-why
returns-in_err-add-clause-why c g w h =
    let s : LiveScheduler = c.args.self.now in
    let still = sym (c.refuses_packets.ensures g w h) ∙ c.if-refuses_packets.false in
    let known = placed s g w c.args.channel c.place-at.result c.deref.result.now h c.deref.ensures.value (omega (arith, c.if-at-len.false, c.len.ensures, s.turns.ok.0)) c.place-at.ensures.found in
    let p = err_from_is_err_and c.from_residual.result c.from_residual.ensures.1 in
    taken (refusal_of g c.args.channel c.args.bytes.now) c.from_residual.result (not_refused g c.args.channel c.args.bytes.now still known.1 (omega (arith, c.if-bytes-eq0.false)) (omega (arith, c.if-bytes-self.false, h.longest)) (fits _ _ most_bytes c.has_room.result c.has_room.ensures c.if-not-has_room.false (ap (λ n. n + length c.args.bytes.now) (bytes_at s g w h c.place-at.result c.index.result.now (omega (arith, c.if-at-len.false, c.len.ensures, s.turns.ok.0)) c.index.ensures c.args.channel (named_at s g w c.args.channel c.place-at.result c.index.result.now (omega (arith, c.if-at-len.false, c.len.ensures, s.turns.ok.0)) c.index.ensures known.0))))) (inr (p.1 ∙ ap (λ e. Err e) p.2))

pub returns-clause-ok : goal.returns-clause-ok
returns-clause-ok c g w h =
    let s : LiveScheduler = c.args.self.now in
    let still = sym (c.refuses_packets.ensures g w h) ∙ c.if-refuses_packets.false in
    let below : c.place-at.result < length s.turns.items = omega (arith, c.if-at-len.false, c.len.ensures, s.turns.ok.0) in
    let known = placed s g w c.args.channel c.place-at.result c.deref.result.now h c.deref.ensures.value below c.place-at.ensures.found in
    let named = sym (channel_at s.turns.items c.place-at.result c.index_mut.result.now below c.index_mut.ensures.value) ∙ known.0 in
    packet_step s g w h (with_item s.turns c.place-at.result c.add.new.self) c.place-at.result c.index_mut.result.now c.add.new.self c.args.channel c.args.bytes.now refl below c.index_mut.ensures.value c.add.ensures.channel named (c.in_ok-add.ensures {u = tt}).ok (omega (arith, c.if-bytes-eq0.false)) (omega (arith, c.if-bytes-self.false, h.longest)) (still_open g still)

pub returns-clause-why : goal.returns-clause-why
returns-clause-why c g w h =
    let s : LiveScheduler = c.args.self.now in
    let still = sym (c.refuses_packets.ensures g w h) ∙ c.if-refuses_packets.false in
    let known = placed s g w c.args.channel c.place-at.result c.deref.result.now h c.deref.ensures.value (omega (arith, c.if-at-len.false, c.len.ensures, s.turns.ok.0)) c.place-at.ensures.found in
    taken (refusal_of g c.args.channel c.args.bytes.now) _ (not_refused g c.args.channel c.args.bytes.now still known.1 (omega (arith, c.if-bytes-eq0.false)) (omega (arith, c.if-bytes-self.false, h.longest)) (fits _ _ most_bytes c.has_room.result c.has_room.ensures c.if-not-has_room.false (ap (λ n. n + length c.args.bytes.now) (bytes_at s g w h c.place-at.result c.index.result.now (omega (arith, c.if-at-len.false, c.len.ensures, s.turns.ok.0)) c.index.ensures c.args.channel (named_at s g w c.args.channel c.place-at.result c.index.result.now (omega (arith, c.if-at-len.false, c.len.ensures, s.turns.ok.0)) c.index.ensures known.0))))) (inl refl)
