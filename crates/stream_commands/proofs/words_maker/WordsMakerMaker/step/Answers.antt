use Rattle.std.proofs.Common.{◌≡◌, ◌∙◌, ℕ, List, [], ◌∷◌, length, take, refl, sym, ap, arith, Some}
use Rattle.std.proofs.lemmas.List.{length-map, length-take-le}
use Rattle.run_shell.specs.Names.{words_name}
use Rattle.run_shell.specs.Open.{Open}
use Rattle.run_shell.specs.Outputs.{more, open_names}
use Rattle.run_shell.specs.Rests.{join, rests_of}
use Rattle.run_shell.proofs.Rests.{join_given}
use Rattle.stream_commands.proofs.WordsSent.{block_gave, block_less, file_made, some_made, streams_there, taken_bytes}
use Rattle.stream_commands.proofs.words_maker.WordsMakerMaker.step.Goals as goal

one_output : (opens : List Open) (prefix : List ℕ) → open_names opens ≡ words_name prefix ∷ [] → length opens ≡ 1
one_output opens prefix e = sym (length-map opens (λ (x : Open). x.name)) ∙ ap length e

pub write_block-count-requires-clause-streams : goal.write_block-count-requires-clause-streams
write_block-count-requires-clause-streams c =
    let m = c.args.self.now in
    let (done, g) = c.requires.stands in
    (m.source.now, g.made, streams_there m.words c.in-Some.words _ m.source.now _ (c.in-Some.is) g)

pub write_block-count-requires-clause-room : goal.write_block-count-requires-clause-room
write_block-count-requires-clause-room c =
    let (done, g) = c.requires.stands in
    let room = g.room in
    let long = c.deref_mut.ensures.len in
    omega (arith, room, long)

pub finish-requires : goal.finish-requires
finish-requires c =
    let m = c.args.self.now in
    let source = m.source.now in
    let (done, g) = c.requires.stands in
    let streams = streams_there m.words c.in-Some.words _ source _ c.in-Some.is g in
    let all = c.write_block-count.ensures.whole source g.made streams c.if-count-eq0.true in
    (c.write_block-count.new.words, g.made, refl, all.0, all.1)

pub returns-then-count-eq0-clause-made : goal.returns-then-count-eq0-clause-made
returns-then-count-eq0-clause-made c = λ done g.
    let m = c.args.self.now in
    let source = m.source.now in
    let is : m.words ≡ Some c.in-Some.words = c.in-Some.is in
    let streams = streams_there m.words c.in-Some.words _ source _ is g in
    let all = c.write_block-count.ensures.whole source g.made streams c.if-count-eq0.true in
    file_made m.words c.in-Some.words _ source _ is g m.prefix.now c.in_ok-finished.finished (c.in_ok-finished.ensures c.write_block-count.new.words g.made refl all.0 all.1)

pub give-requires : goal.give-requires
give-requires c = let one = one_output c.args.outputs.now c.args.self.now.prefix.now c.requires.opens in omega (arith, one)

pub returns-clause-less : goal.returns-clause-less
returns-clause-less c =
    let m = c.args.self.now in
    let source = m.source.now in
    let (done, g) = c.requires.stands in
    let is : m.words ≡ Some c.in-Some.words = c.in-Some.is in
    let next = c.write_block-count.new.words in
    let count = c.write_block-count.result in
    let bytes = c.write_block-count.new.bytes in
    let within = c.write_block-count.ensures.within in
    let long = c.write_block-count.ensures.long in
    let some = c.if-count-eq0.false in
    let taken : length (take count bytes) ≡ count = length-take-le count bytes (omega (arith, within, long)) in
    let file = c.write_block-count.ensures.file source g.made (streams_there m.words c.in-Some.words _ source _ is g) in
    (block_less m.words c.in-Some.words _ source _ is g next file.more file.streams (some_made next source g.made (take count bytes) file (omega (arith, taken, some))), refl)

pub returns-clause-gave : goal.returns-clause-gave
returns-clause-gave c = λ done g.
    let m = c.args.self.now in
    let source = m.source.now in
    let is : m.words ≡ Some c.in-Some.words = c.in-Some.is in
    let next = c.write_block-count.new.words in
    let count = c.write_block-count.result in
    let bytes = c.write_block-count.new.bytes in
    let before = join done (rests_of c.args.outputs.now) in
    let file = c.write_block-count.ensures.file source g.made (streams_there m.words c.in-Some.words _ source _ is g) in
    let found = taken_bytes m.bytes bytes c.deref.result.now count c.deref.ensures.value (c.write_block-count.ensures.long ∙ ap length c.deref_mut.ensures.value) in
    block_gave m.words c.in-Some.words _ source _ is g next file.more _ file.streams
    (join_given done (rests_of c.args.outputs.now) _ 0 (take count c.deref.result.now) (c.in_ok-give.ensures {u = tt}).given ∙ ap (λ (bs : List ℕ). more before 0 bs) (found ∙ file.file))
