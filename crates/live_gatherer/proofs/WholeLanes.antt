-- The words of whole lanes: their last item is a break.
use Rattle.std.proofs.Common.{ℕ, ◌≡◌, refl, ap, ◌∙◌, Bool, true, false, List, [], ◌∷◌, ◌++◌, append_assoc, append-nil, flat_map}
use Rattle.lk_base.specs.declared.word.Aligned.{Aligned}
use Rattle.lk_base.specs.declared.word.Aligned.TheVariants.{Group, Word, Break}
use Rattle.lk_base.specs.declared.word.RxWord.{RxWord}
use Rattle.lk_base.specs.Link.{Settings}
use Rattle.epoch_model.specs.SoFar.{EpochSoFar, break_of, items_of_epoch}
use Rattle.event_model.proofs.KnownEvents.{whole_items_end}
use Rattle.live_gatherer.specs.Laws.{AllAreGathered, begun, begun_after, words_given}
use Rattle.live_gatherer.specs.Numbers.{numbered}
use Rattle.live_gatherer.proofs.LawsHold.{numbered_are_gathered}

-- the items before a break do not matter
past_break : (s : Settings) (e : EpochSoFar) (broken group : Bool) (items more : List Aligned) → begun_after broken group (items ++ break_of s e ∷ more) ≡ begun_after true false more
past_break s e broken group [] more = refl
past_break s e broken group (Group at ∷ items) more = past_break s e broken true items more
past_break s e broken group (Word at word ∷ items) more = past_break s e false false items more
past_break s e broken group (Break at why ∷ items) more = past_break s e true false items more

none_begun : (s : Settings) (broken : Bool) (epochs : List EpochSoFar) → begun_after broken false (flat_map (λ e. items_of_epoch s e ++ break_of s e ∷ []) epochs) ≡ []
none_begun s broken [] = refl
none_begun s broken (e ∷ epochs) =
    let more : List Aligned = flat_map (λ e. items_of_epoch s e ++ break_of s e ∷ []) epochs in
    ap (begun_after broken false) (append_assoc (items_of_epoch s e) (break_of s e ∷ []) more)
    ∙ past_break s e broken false (items_of_epoch s e) more
    ∙ none_begun s true epochs

pub all_are_gathered : AllAreGathered
all_are_gathered s lanes items a =
    let ended = whole_items_end s lanes items a in
    let none : begun items ≡ [] = ap begun ended.1 ∙ none_begun s false ended.0 in
    (none, (numbered_are_gathered items).words ∙ ap (λ (ws : List RxWord). words_given false (numbered items) ++ ws) none ∙ append-nil (words_given false (numbered items)))
