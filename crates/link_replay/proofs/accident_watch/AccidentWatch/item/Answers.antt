-- A group, a word, or a break.
use Rattle.std.proofs.Common.{sym, subst, [], ◌∷◌, ◌++◌}
use Rattle.lk_base.specs.declared.word.Aligned.{Aligned}
use Rattle.lk_base.specs.declared.word.Aligned.TheVariants.{Break, Group}
use Rattle.link_replay.specs.Groups.{starts_of}
use Rattle.link_replay.specs.Standing.{Holds, ShowsItem, Watch, Watches}
use Rattle.link_replay.specs.Stretches.{Running}
use Rattle.link_replay.proofs.Items.{break_held, break_watched, group_held, group_watched}
use Rattle.link_replay.proofs.accident_watch.AccidentWatch.item.Goals as goal

pub returns-in-Group-clause-holds : goal.returns-in-Group-clause-holds
returns-in-Group-clause-holds c = λ locks items h. (
    let v = c.args.self.now in
    subst (λ (a : Aligned). Holds c.group.new.self c.args.sent.now locks (items ++ a ∷ [])) (sym c.in-Group.is)
    (subst (λ (x : Watch). Holds x c.args.sent.now locks (items ++ Group c.in-Group.at ∷ [])) (sym c.group.ensures)
    (group_held v c.args.sent.now locks items h c.in-Group.at (starts_of c.args.front.now))))

pub returns-in-Group-clause-watches : goal.returns-in-Group-clause-watches
returns-in-Group-clause-watches c = λ lanes locks items shown w. (
    let starts = starts_of c.args.front.now in
    let v = c.args.self.now in
    let places = subst (λ (a : Aligned). ShowsItem v.settings lanes a starts) c.in-Group.is shown in
    subst (λ (a : Aligned). Watches c.group.new.self c.args.sent.now lanes locks (items ++ a ∷ [])) (sym c.in-Group.is)
    (subst (λ (x : Watch). Watches x c.args.sent.now lanes locks (items ++ Group c.in-Group.at ∷ [])) (sym c.group.ensures)
    (group_watched v c.args.sent.now lanes locks items w c.in-Group.at starts places)))

pub returns-in-Word-clause-holds : goal.returns-in-Word-clause-holds
returns-in-Word-clause-holds c = λ locks items h.
    subst (λ (a : Aligned). Holds c.one_word.new.self c.args.sent.now locks (items ++ a ∷ [])) (sym c.in-Word.is) (c.one_word.ensures.holds locks items h)

pub returns-in-Break-clause-holds : goal.returns-in-Break-clause-holds
returns-in-Break-clause-holds c = λ locks items h. (
    let v = c.self.inside in
    let with_stretch : Running → Watch = λ u. record { settings = v.link; skew = v.skew; lanes = v.lanes.items; stretch = u; groups = v.groups; stretches = v.stretches } in
    let was = subst (λ (x : Watch). Holds x c.args.sent.now locks items) (sym c.self.view_is) h in
    subst (λ (a : Aligned). Holds (with_stretch c.begin.new.self) c.args.sent.now locks (items ++ a ∷ [])) (sym c.in-Break.is)
    (subst (λ (u : Running). Holds (with_stretch u) c.args.sent.now locks (items ++ Break c.in-Break.field-0 c.in-Break.field-1 ∷ [])) (sym c.begin.ensures)
    (break_held (with_stretch v.stretch) c.args.sent.now locks items was c.in-Break.field-0 c.in-Break.field-1)))

pub returns-in-Break-clause-watches : goal.returns-in-Break-clause-watches
returns-in-Break-clause-watches c = λ lanes locks items shown w. (
    let v = c.self.inside in
    let with_stretch : Running → Watch = λ u. record { settings = v.link; skew = v.skew; lanes = v.lanes.items; stretch = u; groups = v.groups; stretches = v.stretches } in
    let was = subst (λ (x : Watch). Watches x c.args.sent.now lanes locks items) (sym c.self.view_is) w in
    subst (λ (a : Aligned). Watches (with_stretch c.begin.new.self) c.args.sent.now lanes locks (items ++ a ∷ [])) (sym c.in-Break.is)
    (subst (λ (u : Running). Watches (with_stretch u) c.args.sent.now lanes locks (items ++ Break c.in-Break.field-0 c.in-Break.field-1 ∷ [])) (sym c.begin.ensures)
    (break_watched (with_stretch v.stretch) c.args.sent.now lanes locks items was c.in-Break.field-0 c.in-Break.field-1)))
