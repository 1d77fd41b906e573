-- One word more came.
use Rattle.std.proofs.Common.{◌≡◌, ◌&&◌, ◌∙◌, refl, sym, ap, Bool, slice_index}
use Rattle.reassembly.proofs.Adding.{adding-more}
use Rattle.reassembly.proofs.packets.OpenPackets.add_each.Goals.{then-all, else-all}
use Rattle.reassembly.proofs.packets.OpenPackets.add_each.Goals as goal

pub loop-word-preserved : goal.loop-word-preserved
loop-word-preserved c =
    let both : c.if-all.all ≡ (c.loop-word.all && c.add-is_kept.result) = elim c.if-all.branch [
      | then-all w ↦ w.all-is ∙ sym (ap (λ (a : Bool). a && c.add-is_kept.result) w.if-all.true)
      | else-all w ↦ w.all-is ∙ w.if-all.false ∙ sym (ap (λ (a : Bool). a && c.add-is_kept.result) w.if-all.false)
    ] in
    adding-more c.args.self.now c.loop-word.self c.args.place c.args.words.now c.loop-word.word-index c.loop-word.all c.requires.place c.loop-word.invariant
    c.add-is_kept.new.self (slice_index c.args.words.now c.loop-word.word-index) c.add-is_kept.result c.if-all.all
    c.loop-word-test.true refl c.add-is_kept.ensures.is_kept c.add-is_kept.ensures.state both
