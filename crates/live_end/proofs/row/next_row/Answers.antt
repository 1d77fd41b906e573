-- One word more.
use Rattle.std.proofs.Common.{◌++◌, ◌∷◌, [], List, ap, sym, subst, ◌∙◌, take, arith, append_assoc}
use Rattle.std.proofs.lemmas.List.{length-set, length-take-le, take_all, take_more_set}
use Rattle.lk_base.specs.declared.word.Word.{Word}
use Rattle.live_stream.specs.Gives.{Gives}
use Rattle.live_end.proofs.row.next_row.Goals as goal

pub next_word-requires : goal.next_word-requires
next_word-requires c =
    let (g, w, gives, goes) = c.requires in
    let same = c.loop-i.invariant.0 in
    let test = c.loop-i-test.true in
    let long = length-take-le c.loop-i.i c.loop-i.row (omega (arith, same, test)) in
    (g, w ++ take c.loop-i.i c.loop-i.row, c.loop-i.invariant.1 g w gives, goes (take c.loop-i.i c.loop-i.row) (omega (arith, long, test)))

pub loop-i-preserved : goal.loop-i-preserved
loop-i-preserved c =
    let row = c.loop-i.row in
    let same = c.loop-i.invariant.0 in
    let test = c.loop-i-test.true in (
      length-set row c.loop-i.i c.next_word.result ∙ same,
      λ g w h. subst (λ (v : List Word). Gives c.next_word.new.scheduler g v)
          (append_assoc w (take c.loop-i.i row) (c.next_word.result ∷ []) ∙ ap (λ (v : List Word). w ++ v) (sym (take_more_set row c.loop-i.i c.next_word.result (omega (arith, same, test)))))
          (c.next_word.ensures g (w ++ take c.loop-i.i row) (c.loop-i.invariant.1 g w h)),
    )

pub returns-clause-gives : goal.returns-clause-gives
returns-clause-gives c g w h =
    let same = c.loop-i.invariant.0 in
    let test = c.loop-i-test.false in
    subst (λ (v : List Word). Gives c.loop-i.scheduler g (w ++ v)) (take_all c.loop-i.i c.loop-i.row (omega (arith, same, test))) (c.loop-i.invariant.1 g w h)
