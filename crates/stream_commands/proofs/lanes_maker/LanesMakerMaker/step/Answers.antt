use Rattle.std.proofs.Common.{◌≡◌, ◌∙◌, ◌+◌, ◌^◌, ℕ, List, length, refl, sym, ap, subst, arith, Option, Some, None, IfSome, IfNone}
use Rattle.std.proofs.lemmas.List.{length-map}
use Rattle.std.proofs.lemmas.List.FromFn.{length-map-range_with_len}
use Rattle.run_shell.specs.Names.{lane_name, lane_names}
use Rattle.run_shell.specs.Open.{Open}
use Rattle.run_shell.specs.Outputs.{open_names}
use Rattle.stream_commands.proofs.LanesSent.{fewer_left, gave_few, lanes_made}
use Rattle.stream_commands.proofs.lanes_maker.LanesMakerMaker.step.Goals as goal

if_some : (P : ℕ → Type 0) (o : Option ℕ) (x : ℕ) → o ≡ Some x → IfSome o P → P x
if_some P o x e h = subst (λ (r : Option ℕ). IfSome r P) e h

if_none : (P : Type 0) (o : Option ℕ) → o ≡ None → IfNone o P → P
if_none P o e h = subst (λ (r : Option ℕ). IfNone r P) e h

-- there is an output for each lane
one_each : (opens : List Open) (prefix : List ℕ) (n : ℕ) → open_names opens ≡ lane_names prefix n → length opens ≡ n
one_each opens prefix n e = sym (length-map opens (λ (x : Open). x.name)) ∙ ap length e ∙ length-map-range_with_len (lane_name prefix) 0 n

pub give_runs-requires : goal.give_runs-requires
give_runs-requires c =
    let m = c.args.self.now in
    let (done, g) = c.requires.stands in
    (m.link, m.source.now, m.given, done, (one_each c.args.outputs.now m.prefix.now m.link.lanes c.requires.opens, g))

pub end_of-requires : goal.end_of-requires
end_of-requires c =
    let m = c.args.self.now in
    let (done, g) = c.requires.stands in
    let (count, h, all) = if_none _ c.in_ok-count.field-0 c.in_default.is (c.in_ok-count.ensures {u = tt}).none m.link m.source.now m.given done (one_each c.args.outputs.now m.prefix.now m.link.lanes c.requires.opens, g) in
    (m.link, h.words, h.outs, h.sends, all.stream)

pub returns-in_default-clause-made : goal.returns-in_default-clause-made
returns-in_default-clause-made c = λ done g.
    let m = c.args.self.now in
    let (count, h, all) = if_none _ c.in_ok-count.field-0 c.in_default.is (c.in_ok-count.ensures {u = tt}).none m.link m.source.now m.given done (one_each c.args.outputs.now m.prefix.now m.link.lanes c.requires.opens, g) in
    lanes_made c.give_runs.new.transmitter m.link m.source.now m.prefix.now _ c.in_ok-finished.finished (count, h, all)
    (c.in_ok-finished.ensures m.link h.words h.outs h.sends all.stream)

pub overflow_add-self : goal.overflow_add-self
overflow_add-self c =
    let m = c.args.self.now in
    let (done, g) = c.requires.stands in
    let (long, h) = if_some _ c.in_ok-count.field-0 c.in-Some.count c.in-Some.is (c.in_ok-count.ensures {u = tt}).some m.link m.source.now m.given done (one_each c.args.outputs.now m.prefix.now m.link.lanes c.requires.opens, g) in
    let few = gave_few c.give_runs.new.transmitter (m.given + c.in-Some.count) m.link m.source.now _ h in
    omega (arith, few)

pub returns-clause-less : goal.returns-clause-less
returns-clause-less c =
    let m = c.args.self.now in
    let (done, g) = c.requires.stands in
    let (long, h) = if_some _ c.in_ok-count.field-0 c.in-Some.count c.in-Some.is (c.in_ok-count.ensures {u = tt}).some m.link m.source.now m.given done (one_each c.args.outputs.now m.prefix.now m.link.lanes c.requires.opens, g) in
    let low = if_some _ c.in_ok-count.field-0 c.in-Some.count c.in-Some.is (c.in_ok-count.ensures {u = tt}).low in
    (fewer_left (2 ^ 60) m.given c.in-Some.count low (gave_few c.give_runs.new.transmitter (m.given + c.in-Some.count) m.link m.source.now _ h), refl)

pub returns-clause-gave : goal.returns-clause-gave
returns-clause-gave c = λ done g.
    let m = c.args.self.now in
    let (long, h) = if_some _ c.in_ok-count.field-0 c.in-Some.count c.in-Some.is (c.in_ok-count.ensures {u = tt}).some m.link m.source.now m.given done (one_each c.args.outputs.now m.prefix.now m.link.lanes c.requires.opens, g) in
    h
