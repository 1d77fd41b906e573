-- One word more of the lane.
use Rattle.std.proofs.Common.{ℕ, ◌≡◌, ◌+◌, ◌*◌, ◌++◌, ◌∙◌, ◌∷◌, [], List, get_or, take, refl, sym, ap, append_assoc, length-set, arith}
use Rattle.std.proofs.lemmas.Grind.{take-set_at}
use Rattle.lk_base.specs.declared.word.Word.{Word}
use Rattle.lk_base.specs.declared.word.Word.TheVariants.{Data}
use Rattle.lane_model.specs.Striping.{lane_payload}
use Rattle.tx_end.proofs.LanePlaces.{in_stream, taken_more}
use Rattle.tx_end.proofs.fill.next_eight.Goals as goal

pub bounds-group-at : goal.bounds-group-at
bounds-group-at c =
    let p = in_stream c.args.lanes c.args.group.now c.args.number (c.args.place + c.loop-k.k) c.requires.lane (omega (arith, c.requires.there, c.loop-k-test.true)) in
    omega (arith, p, c.loop-k.invariant.next)

pub loop-k-preserved : goal.loop-k-preserved
loop-k-preserved c =
    let group = c.args.group.now in
    let here = c.loop-k-test.true in
    let i = c.loop-k.invariant in
    let n = c.args.place + c.loop-k.k in
    let words = lane_payload c.args.lanes group c.args.number in
    let word = get_or group c.loop-k.at (Data 0) in
    let there = c.requires.there in
    let e : c.args.place + (c.loop-k.k + 1) ≡ n + 1 = omega arith in
    let more : take (n + 1) words ≡ take n words ++ word ∷ [] =
    taken_more c.args.lanes group c.args.number n (Data 0) c.requires.lane (omega (arith, there, here)) ∙ ap (λ (m : ℕ). take n words ++ get_or group m (Data 0) ∷ []) (sym i.next) in
    record {
      words = ap (λ (m : ℕ). take m words) e
          ∙ more
          ∙ ap (λ (ws : List Word). ws ++ word ∷ []) i.words
          ∙ append_assoc (take c.args.place words) (take c.loop-k.k c.loop-k.eight) (word ∷ [])
          ∙ ap (λ (ws : List Word). take c.args.place words ++ ws) (sym (take-set_at c.loop-k.eight c.loop-k.k (c.loop-k.k + 1) word refl (omega (arith, here, i.long))));
      long = length-set c.loop-k.eight c.loop-k.k word ∙ i.long;
      next = (let f = i.next in let g : (n + 1) * c.args.lanes ≡ n * c.args.lanes + c.args.lanes = omega arith in rw e (omega (arith, f, g)));
    }
