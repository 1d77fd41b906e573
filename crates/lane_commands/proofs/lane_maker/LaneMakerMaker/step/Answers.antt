use Rattle.std.proofs.Common.{◌≡◌, ◌∙◌, ◌+◌, ◌*◌, ◌++◌, false, List, ℕ, length, take, drop, replicate, refl, sym, ap, subst, arith}
use Rattle.std.specs.Vec.{with_items}
use Rattle.std.proofs.lemmas.List.{with_items_is}
use Rattle.lk_base.specs.Link.{Settings, group_of}
use Rattle.lk_base.specs.declared.word.Word.{Word}
use Rattle.run_shell.specs.Rests.{join, rests_of}
use Rattle.tx_end.specs.Lanes.{AreEnded, AreFilled}
use Rattle.lane_commands.specs.Making.{GaveLanes}
use Rattle.lane_commands.specs.Stripe.{filler}
use Rattle.lane_commands.proofs.LaneMaking.{carried_length, gave_all, gave_more, group_length, lanes_count}
use Rattle.lane_commands.proofs.lane_maker.LaneMakerMaker.step.Goals as goal

-- ---- a group

pub give_group-requires-clause-count : goal.give_group-requires-clause-count
give_group-requires-clause-count c =
    let (done, g) = c.requires.stands in
    lanes_count c.args.outputs.now _ _ c.requires.opens ∙ ap (λ (s : Settings). s.lanes) (sym g.settings)

pub returns-then-self-len-clause-gave : goal.returns-then-self-len-clause-gave
returns-then-self-len-clause-gave c = λ done g.
    let m = c.args.self.now in
    let r = m.inputs.now in
    let s = r.plan.link in
    let given : List (List ℕ) = join done (rests_of c.args.outputs.now) in
    let more : List (List ℕ) = join done (rests_of c.give_group.new.outputs) in
    let read : List Word = c.read_group.new.group in
    let block : List Word = (with_items m.group read).items in
    let n : ℕ = length m.group.items in
    let is : read ≡ take n (drop m.slots r.words ++ replicate n filler) = c.read_group.ensures ∙ ap (λ (ws : List Word). take (length ws) (drop m.slots r.words ++ replicate (length ws) filler)) c.deref_mut.ensures.value in
    let long : length read ≡ n = group_length r.words read m.slots n is in
    let same : block ≡ read = with_items_is m.group read (long ∙ sym m.group.ok.0) in
    let words : List Word = take m.slots g.stream in
    let count : length words ≡ g.made * group_of m.lanes.settings = carried_length r m.lanes m.group.items m.slots given g ∙ ap (λ (t : Settings). g.made * group_of t) (sym g.settings) in
    let old : AreFilled m.lanes.settings words g.made m.lanes.lanes given = subst (λ (t : Settings). AreFilled t words g.made m.lanes.lanes given) (sym g.settings) g.filled in
    let now = c.in_ok-give_group.ensures.filled words g.made done count old in
    let filled : AreFilled s (words ++ block) (g.made + 1) c.give_group.new.lanes.lanes more =
    subst (λ (w : List Word). AreFilled s (words ++ w) (g.made + 1) c.give_group.new.lanes.lanes more) c.deref.ensures.value
    (subst (λ (t : Settings). AreFilled t (words ++ c.deref.result.now) (g.made + 1) c.give_group.new.lanes.lanes more) g.settings now) in
    subst (λ (k : ℕ). GaveLanes r c.give_group.new.lanes block (m.slots + k) more) (ap length same ∙ long ∙ sym m.group.ok.0 ∙ sym c.len-then-self-len.ensures)
    (gave_more r m.lanes m.group.items m.slots given g c.give_group.new.lanes block more (omega (arith, c.if-self-len.true, c.len.ensures.value)) (same ∙ is) c.give_group.ensures.settings filled)

-- ---- the last bytes

pub give_ends-requires-clause-count : goal.give_ends-requires-clause-count
give_ends-requires-clause-count c =
    let (done, g) = c.requires.stands in
    lanes_count c.args.outputs.now _ _ c.requires.opens ∙ ap (λ (s : Settings). s.lanes) (sym g.settings)

pub returns-clause-made : goal.returns-clause-made
returns-clause-made c = λ done g.
    let m = c.args.self.now in
    let r = m.inputs.now in
    let given : List (List ℕ) = join done (rests_of c.args.outputs.now) in
    let all : List (List ℕ) = join done (rests_of c.give_ends.new.outputs) in
    let words : List Word = take m.slots g.stream in
    let old : AreFilled m.lanes.settings words g.made m.lanes.lanes given = subst (λ (t : Settings). AreFilled t words g.made m.lanes.lanes given) (sym g.settings) g.filled in
    let ended : AreEnded r.plan.link words g.made all = subst (λ (t : Settings). AreEnded t words g.made all) g.settings (c.in_ok-give_ends.ensures.ended words g.made done old) in
    gave_all r m.lanes m.group.items m.slots given g (record { held = false; text = c.in_ok-text.text }) all (omega (arith, c.if-self-len.false, c.len.ensures.value)) ended refl c.in_ok-text.ensures
