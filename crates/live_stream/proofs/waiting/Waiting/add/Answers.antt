use Rattle.std.proofs.Common.{◌∙◌, ◌++◌, ◌∷◌, [], map, refl, ap}
use Rattle.std.proofs.lemmas.List.{map-append}
use Rattle.live_stream.proofs.Left.{with_packet}
use Rattle.live_stream.proofs.waiting.Waiting.add.Goals as goal

pub returns-clause-ok : goal.returns-clause-ok
returns-clause-ok c sizes packets done h =
    with_packet sizes c.args.self.now _ packets done c.args.packet.now c.requires.some
    (ap (map (λ p. p.items)) c.in_ok-push_back.ensures.items ∙ map-append (λ p. p.items) c.args.self.now.packets.items (c.in_ok-own.own ∷ []) ∙ ap (λ x. map (λ p. p.items) c.args.self.now.packets.items ++ x ∷ []) c.in_ok-own.ensures.items)
    refl (record { packets = refl; bytes = refl; ends = refl; sent = refl }) c.requires.room h
