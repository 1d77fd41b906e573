-- A queue without a packet.
use Rattle.std.proofs.Common.{◌≡◌, ◌+◌, ◌<◌, ℕ, List, [], ◌∷◌, ◌++◌, length, take, get_or, sym, ap, ◌∙◌}
use Rattle.std.proofs.lemmas.List.{map-append, take_more}
use Rattle.live_stream.specs.Waiting.{channels_of}
use Rattle.live_stream.specs.declared.waiting.Waiting.{Waiting}

pub one_more : (turns now : List Waiting) (q : Waiting) (order : List ℕ) (i d : ℕ) → now ≡ turns ++ q ∷ [] → channels_of turns ≡ take i order → i < length order → q.channel ≡ get_or order i d → channels_of now ≡ take (i + 1) order
one_more turns now q order i d is same below at =
    ap channels_of is ∙ map-append (λ (p : Waiting). p.channel) turns (q ∷ []) ∙ ap (λ cs. cs ++ q.channel ∷ []) same ∙ ap (λ c. take i order ++ c ∷ []) at ∙ sym (take_more order i d below)
