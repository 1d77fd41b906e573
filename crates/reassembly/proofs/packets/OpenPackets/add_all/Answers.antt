-- Cells are free for words that all are kept.
use Rattle.std.proofs.Common.{◌≡◌, ◌<◌, ◌∙◌, ◌++◌, length, sym, ap, subst, arith, true, set, flat_map}
use Rattle.std.specs.Int.{w64, to_be_bytes}
use Rattle.cell_pool.specs.Stored.{bytes_at}
use Rattle.reassembly.specs.Folds.{are_kept, grown_by}
use Rattle.reassembly.specs.Packets.{Packets, with_kept}
use Rattle.reassembly.proofs.Delivered.{open_length, shown}
use Rattle.reassembly.proofs.Many.{many_kept, many_room, many_roomy, many_shown}
use Rattle.reassembly.proofs.packets.OpenPackets.add_all.Goals as goal

pub push_all-requires-clause-room : goal.push_all-requires-clause-room
push_all-requires-clause-room c =
    many_room c.self.inside.greatest c.self.inside.pool c.self.inside.delivered c.self.invariant c.args.place (subst (λ n. c.args.place < n) (ap (λ (p : Packets). length p.kept) (sym c.self.view_is) ∙ open_length c.self.inside.delivered c.self.inside.pool.lists) c.requires.place) c.args.words.now (ap (λ (p : Packets). p.packet) c.self.view_is ∙ c.requires.none)
    (omega (arith, c.len.ensures, c.saturating_sub-left.ensures, c.div_ceil.ensures, c.if-words-div_ceil.true))

pub invariant_of-self : goal.invariant_of-self
invariant_of-self c = rw c.push_all.ensures
    (many_roomy c.self.inside.greatest c.self.inside.pool c.self.inside.delivered c.self.invariant c.args.place (subst (λ n. c.args.place < n) (ap (λ (p : Packets). length p.kept) (sym c.self.view_is) ∙ open_length c.self.inside.delivered c.self.inside.pool.lists) c.requires.place) c.args.words.now (ap (λ (p : Packets). p.packet) c.self.view_is ∙ c.requires.none)
    (omega (arith, c.len.ensures, c.saturating_sub-left.ensures, c.div_ceil.ensures, c.if-words-div_ceil.true)))

pub returns-then-words-div_ceil-clause-is_kept : goal.returns-then-words-div_ceil-clause-is_kept
returns-then-words-div_ceil-clause-is_kept c = sym (subst (λ (p : Packets). are_kept p.greatest (bytes_at p.kept c.args.place) c.args.words.now ≡ true) c.self.view_is
    (many_kept c.self.inside.greatest c.self.inside.pool c.self.inside.delivered c.self.invariant c.args.place (subst (λ n. c.args.place < n) (ap (λ (p : Packets). length p.kept) (sym c.self.view_is) ∙ open_length c.self.inside.delivered c.self.inside.pool.lists) c.requires.place) c.args.words.now (ap (λ (p : Packets). p.packet) c.self.view_is ∙ c.requires.none)
    (omega (arith, c.len.ensures, c.saturating_sub-left.ensures, c.div_ceil.ensures, c.if-words-div_ceil.true))))

pub returns-then-words-div_ceil-clause-state : goal.returns-then-words-div_ceil-clause-state
returns-then-words-div_ceil-clause-state c = rw c.push_all.ensures (subst (λ (p : Packets). shown c.self.inside.greatest c.self.inside.delivered (set c.self.inside.pool.lists c.args.place (bytes_at c.self.inside.pool.lists c.args.place ++ flat_map (to_be_bytes w64) c.args.words.now)) ≡ with_kept p c.args.place (grown_by p.greatest (bytes_at p.kept c.args.place) c.args.words.now)) c.self.view_is
    (many_shown c.self.inside.greatest c.self.inside.pool c.self.inside.delivered c.self.invariant c.args.place (subst (λ n. c.args.place < n) (ap (λ (p : Packets). length p.kept) (sym c.self.view_is) ∙ open_length c.self.inside.delivered c.self.inside.pool.lists) c.requires.place) c.args.words.now (ap (λ (p : Packets). p.packet) c.self.view_is ∙ c.requires.none)
    (omega (arith, c.len.ensures, c.saturating_sub-left.ensures, c.div_ceil.ensures, c.if-words-div_ceil.true))))
