use Rattle.std.proofs.Common.{◌≡◌, ◌∙◌, ◌<◌, ◌++◌, ◌∷◌, [], not, ◌==◌, ℕ, List, length, filter, get_or, Contains, All, sym, ap, subst, arith}
use Rattle.std.specs.List.{remove}
use Rattle.std.proofs.lemmas.List.Elements.{All-append, All-cons, All-nil, Contains-get_or}
use Rattle.stream_model.specs.BurstStream.{packets_of, bursts_in}
use Rattle.live_stream.specs.Turns.{AreInTurn}
use Rattle.live_stream.specs.Waiting.{HasLeft, channels_of}
use Rattle.live_stream.specs.declared.waiting.Waiting.{Waiting}
use Rattle.live_stream.proofs.InTurn.{turns_on, turns_unknown, apart, moved_back}
use Rattle.live_stream.proofs.Places.{at_place, as_many, channel_at, all_removed}
use Rattle.live_stream.proofs.turns.turn.Goals as goal

module _ (c : goal.After-to_back) where
  abbrev turns : List Waiting
  turns = c.args.turns.now.items

  abbrev at : ℕ
  at = c.place-at.result

  below : at < length turns
  below = omega (arith, c.if-at-len.true, c.len.ensures, c.args.turns.now.ok.0)

  abbrev q : Waiting
  q = (at_place turns at below).0

  is : q ≡ get_or turns at q
  is = sym ((at_place turns at below).1 q)

  back : c.to_back.new.turns.items ≡ remove turns at ++ q ∷ []
  back = c.to_back.ensures q ∙ ap (λ x. remove turns at ++ x ∷ []) (sym is)

  named : q.channel ≡ c.args.channel
  named =
      let found = c.place-at.ensures.found (let same = ap length c.deref.ensures.value in let b = below in omega (arith, b, same)) in
      sym (channel_at turns at q below is) ∙ ap (λ ts. get_or (channels_of ts) at 0) (sym c.deref.ensures.value) ∙ found

pub returns-then-at-len-clause-turns : goal.returns-then-at-len-clause-turns
returns-then-at-len-clause-turns c channels told w e h same on come =
    let line : List ℕ = channels_of (turns c) in
    let n = as_many (turns c) in
    let here : (q c).channel ≡ e.channel = named c ∙ sym same in
    let inside : at c < length line = (let b = below c in omega (arith, b, n)) in
    let at_line : get_or line (at c) 0 ≡ e.channel = channel_at (turns c) (at c) (q c) (below c) (is c) ∙ here in
    let order : channels_of c.to_back.new.turns.items ≡ filter (λ d. not (d == e.channel)) line ++ e.channel ∷ [] =
    subst (λ (n : ℕ). channels_of c.to_back.new.turns.items ≡ filter (λ d. not (d == n)) line ++ n ∷ []) here
    (moved_back (turns c) c.to_back.new.turns.items (at c) (q c) (apart channels told w line h) inside (sym (channel_at (turns c) (at c) (q c) (below c) (is c))) (back c)) in
    subst (AreInTurn channels (e ∷ told) w) (sym order)
    (turns_on channels told w line e come (on ∙ c.if-not-on.false) ((h.exact e.channel).0 (subst (Contains line) at_line (Contains-get_or line (at c) 0 inside))) h)

pub returns-then-at-len-clause-left : goal.returns-then-at-len-clause-left
returns-then-at-len-clause-left c sizes source w h =
    let P = λ (p : Waiting). HasLeft p sizes (packets_of source p.channel) (bursts_in w p.channel) in
    subst (All P) (sym (back c)) (All-append P (remove (turns c) (at c)) (q c ∷ [])
    (all_removed P (turns c) (at c) (below c) (λ k d l ne. h k d l))
    (All-cons P (q c) [] (subst P (sym (is c)) (h (at c) (q c) (below c))) (All-nil P)))

pub returns-else-at-len-clause-turns : goal.returns-else-at-len-clause-turns
returns-else-at-len-clause-turns c channels told w e h same on come =
    let missing = c.place-at.ensures.missing (let s = ap length c.deref.ensures.value in omega (arith, c.if-at-len.false, c.place-at.ensures.within, c.len.ensures, c.args.turns.now.ok.0, s)) in
    turns_unknown channels told w (channels_of c.args.turns.now.items) e
    (λ known. missing (subst (λ ts. Contains (channels_of ts) c.args.channel) (sym c.deref.ensures.value) (subst (Contains (channels_of c.args.turns.now.items)) same ((h.exact e.channel).1 known)))) h
