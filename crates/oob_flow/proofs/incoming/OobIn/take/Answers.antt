use Rattle.std.proofs.Common.{◌++◌, ◌∷◌, Bool, [], refl, sym, ap, ◌∙◌, arith}
use Rattle.oob_flow.specs.declared.incoming.OobIn.{OobIn}
use Rattle.oob_flow.proofs.OneBit.{Next, Begun, at_new, at_open, passed, pushed, given, taken_more}
use Rattle.oob_flow.proofs.incoming.OobIn.take.Goals as goal
use Rattle.oob_flow.proofs.incoming.OobIn.take.Goals.{then-sync, else-sync}

pub returns-then-self-gt0-clause-stands : goal.returns-then-self-gt0-clause-stands
returns-then-self-gt0-clause-stands c entries bits b e f t =
    let g : Begun c.if-sync.self entries c.args.self.now.left t.open_bits b =
    elim c.if-sync.branch [
      | then-sync w ↦ at_new c.args.self.now c.if-sync.self entries bits b t (f ∙ w.if-sync.true) (ap (λ (o : OobIn). o.entries) w.self-is) (ap (λ (o : OobIn). o.left) w.self-is) (ap (λ (o : OobIn). o.block.items) w.self-is ∙ w.clear.ensures)
      | else-sync w ↦ at_open c.args.self.now c.if-sync.self entries bits b t (f ∙ w.if-sync.false) w.self-is
    ] in
    let mid : OobIn = record { entries = c.if-sync.self.entries; clock = c.if-sync.self.clock; left = c.if-sync.self.left; block = c.push.new.self } in
    let n : Next c.close.new.self entries c.args.self.now.left t.open_bits b c.close.new.words.items =
    pushed c.if-sync.self mid c.close.new.self entries c.args.self.now.left t.open_bits b c.close.new.words.items g (omega (arith, c.if-self-gt0.true)) refl refl (c.push.ensures.items ∙ ap (λ (s : Bool). c.if-sync.self.block.items ++ s ∷ []) (sym e)) c.close.ensures in
    taken_more c.args.self.now c.close.new.self entries bits b c.close.new.words.items t n.new_open n.on (c.close.ensures.calendar ∙ g.calendar ∙ sym t.calendar) n.block

pub returns-then-self-gt0-clause-rows : goal.returns-then-self-gt0-clause-rows
returns-then-self-gt0-clause-rows c entries bits b e f t =
    let g : Begun c.if-sync.self entries c.args.self.now.left t.open_bits b =
    elim c.if-sync.branch [
      | then-sync w ↦ at_new c.args.self.now c.if-sync.self entries bits b t (f ∙ w.if-sync.true) (ap (λ (o : OobIn). o.entries) w.self-is) (ap (λ (o : OobIn). o.left) w.self-is) (ap (λ (o : OobIn). o.block.items) w.self-is ∙ w.clear.ensures)
      | else-sync w ↦ at_open c.args.self.now c.if-sync.self entries bits b t (f ∙ w.if-sync.false) w.self-is
    ] in
    let mid : OobIn = record { entries = c.if-sync.self.entries; clock = c.if-sync.self.clock; left = c.if-sync.self.left; block = c.push.new.self } in
    let n : Next c.close.new.self entries c.args.self.now.left t.open_bits b c.close.new.words.items =
    pushed c.if-sync.self mid c.close.new.self entries c.args.self.now.left t.open_bits b c.close.new.words.items g (omega (arith, c.if-self-gt0.true)) refl refl (c.push.ensures.items ∙ ap (λ (s : Bool). c.if-sync.self.block.items ++ s ∷ []) (sym e)) c.close.ensures in
    given c.args.self.now c.close.new.self entries bits b c.close.new.words.items t n.new_open n.on

pub returns-else-self-gt0-clause-stands : goal.returns-else-self-gt0-clause-stands
returns-else-self-gt0-clause-stands c entries bits b e f t =
    let g : Begun c.if-sync.self entries c.args.self.now.left t.open_bits b =
    elim c.if-sync.branch [
      | then-sync w ↦ at_new c.args.self.now c.if-sync.self entries bits b t (f ∙ w.if-sync.true) (ap (λ (o : OobIn). o.entries) w.self-is) (ap (λ (o : OobIn). o.left) w.self-is) (ap (λ (o : OobIn). o.block.items) w.self-is ∙ w.clear.ensures)
      | else-sync w ↦ at_open c.args.self.now c.if-sync.self entries bits b t (f ∙ w.if-sync.false) w.self-is
    ] in
    let n : Next c.if-sync.self entries c.args.self.now.left t.open_bits b c.args.words.now.items = passed c.if-sync.self entries c.args.self.now.left t.open_bits b c.args.words.now.items g c.if-self-gt0.false c.requires.empty in
    taken_more c.args.self.now c.if-sync.self entries bits b c.args.words.now.items t n.new_open n.on (g.calendar ∙ sym t.calendar) n.block

pub returns-else-self-gt0-clause-rows : goal.returns-else-self-gt0-clause-rows
returns-else-self-gt0-clause-rows c entries bits b e f t =
    let g : Begun c.if-sync.self entries c.args.self.now.left t.open_bits b =
    elim c.if-sync.branch [
      | then-sync w ↦ at_new c.args.self.now c.if-sync.self entries bits b t (f ∙ w.if-sync.true) (ap (λ (o : OobIn). o.entries) w.self-is) (ap (λ (o : OobIn). o.left) w.self-is) (ap (λ (o : OobIn). o.block.items) w.self-is ∙ w.clear.ensures)
      | else-sync w ↦ at_open c.args.self.now c.if-sync.self entries bits b t (f ∙ w.if-sync.false) w.self-is
    ] in
    let n : Next c.if-sync.self entries c.args.self.now.left t.open_bits b c.args.words.now.items = passed c.if-sync.self entries c.args.self.now.left t.open_bits b c.args.words.now.items g c.if-self-gt0.false c.requires.empty in
    given c.args.self.now c.if-sync.self entries bits b c.args.words.now.items t n.new_open n.on
