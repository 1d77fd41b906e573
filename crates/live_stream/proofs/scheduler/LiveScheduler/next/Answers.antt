use Rattle.std.proofs.Common.{Bool, subst}
use Rattle.std.specs.Bool.{MatchBool}
use Rattle.live_stream.specs.LiveStream.{IsWholeLiveStream}
use Rattle.live_stream.specs.Gives.{MayGoOn}
use Rattle.live_stream.proofs.scheduler.LiveScheduler.next.Goals as goal

pub data-requires-clause-gives : goal.data-requires-clause-gives
data-requires-clause-gives c =
    let r = c.requires in
    (r.0, r.1, r.2, (subst (λ (b : Bool). MatchBool b (IsWholeLiveStream r.0 r.1) ((IsWholeLiveStream r.0 r.1 → ⊥) × MayGoOn c.args.self.now)) c.if-ends_here.false (c.ends_here.ensures r.0 r.1 r.2)).1)

pub control-requires-clause-gives : goal.control-requires-clause-gives
control-requires-clause-gives c =
    let r = c.requires in
    (r.0, r.1, r.2, (subst (λ (b : Bool). MatchBool b (IsWholeLiveStream r.0 r.1) ((IsWholeLiveStream r.0 r.1 → ⊥) × MayGoOn c.args.self.now)) c.if-ends_here.false (c.ends_here.ensures r.0 r.1 r.2)).1)

pub returns-then-self-clause-gives : goal.returns-then-self-clause-gives
returns-then-self-clause-gives c g w h = c.data.ensures g w h (subst (λ (b : Bool). MatchBool b (IsWholeLiveStream g w) ((IsWholeLiveStream g w → ⊥) × MayGoOn c.args.self.now)) c.if-ends_here.false (c.ends_here.ensures g w h)).1

pub returns-else-self-clause-gives : goal.returns-else-self-clause-gives
returns-else-self-clause-gives c g w h = c.control.ensures g w h (subst (λ (b : Bool). MatchBool b (IsWholeLiveStream g w) ((IsWholeLiveStream g w → ⊥) × MayGoOn c.args.self.now)) c.if-ends_here.false (c.ends_here.ensures g w h)).1
