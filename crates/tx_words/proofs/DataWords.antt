-- Data words start no packet, end none, and are no bursts.
use Rattle.std.proofs.Common.{◌≡◌, ℕ, ◌+◌, ◌∙◌, List, [], ◌∷◌, ◌++◌, length, map, refl, sym, ap, subst, arith, append_assoc, append-nil}
use Rattle.std.proofs.lemmas.List.{length_push}
use Rattle.lk_base.specs.declared.word.Word.{Word}
use Rattle.lk_base.specs.declared.word.Word.TheVariants.{Data}
use Rattle.stream_model.specs.BurstStream.{bursts_in}
use Rattle.delivery_laws.proofs.Links.{bursts-push}
use Rattle.tx_words.specs.SentLists.{Lists}
use Rattle.tx_words.specs.Tallies.{AreTallies, first_tally}
use Rattle.tx_words.specs.declared.counts.Tally.{Tally}
use Rattle.tx_words.specs.declared.sent_list.SentList.{SentList}
use Rattle.tx_words.proofs.Opening.{ends-none, half-none, last-push, stands-none}

-- ---- the list of sent packets

abbrev passed : SentList → ℕ → SentList
passed l n = record { list = l.list; count = l.count; places = l.places; last = l.last; slot = l.slot + n }

pub behind_data : (l : SentList) (p : List Word) (room x : ℕ) → Lists l p room → Lists (passed l 1) (p ++ Data x ∷ []) room
behind_data l p room x k = record {
  stands = stands-none p (Data x) _ l.places.items (half-none p (Data x) _ l.places.items k.stands (λ c. ends-none p (Data x) l.last c k.last refl)) refl;
  within = k.within;
  room = k.room;
  last = k.last ∙ sym (last-push p (Data x));
  low = k.low;
  slot = ap (λ n. n + 1) k.slot ∙ sym (length_push p (Data x));
}

pub behind_run : (numbers : List ℕ) (l : SentList) (p : List Word) (room n : ℕ) → Lists l p room → length numbers ≡ n → Lists (passed l n) (p ++ map Data numbers) room
behind_run [] l p room n k e =
    let none : l.slot ≡ l.slot + n = omega (arith, e) in
    subst (λ (w : List Word). Lists (passed l n) w room) (sym (append-nil p)) (subst (λ (s : ℕ). Lists (record l { slot = s }) p room) none k)
behind_run (x ∷ xs) l p room n k e =
    let all : l.slot + 1 + length xs ≡ l.slot + n = omega (arith, e) in
    let on : Lists (passed (passed l 1) (length xs)) ((p ++ Data x ∷ []) ++ map Data xs) room = behind_run xs (passed l 1) (p ++ Data x ∷ []) room (length xs) (behind_data l p room x k) refl in
    subst (λ (w : List Word). Lists (passed l n) w room) (append_assoc p (Data x ∷ []) (map Data xs)) (subst (λ (s : ℕ). Lists (record l { slot = s }) ((p ++ Data x ∷ []) ++ map Data xs) room) all on)

-- ---- the bursts of each channel

bursts_data : (words : List Word) (numbers : List ℕ) (channel : ℕ) → bursts_in (words ++ map Data numbers) channel ≡ bursts_in words channel
bursts_data words [] channel = ap (λ w. bursts_in w channel) (append-nil words)
bursts_data words (x ∷ xs) channel =
    let one : bursts_in (words ++ Data x ∷ []) channel ≡ bursts_in words channel = bursts-push words (Data x) channel ∙ omega arith in
    ap (λ w. bursts_in w channel) (sym (append_assoc words (Data x ∷ []) (map Data xs))) ∙ bursts_data (words ++ Data x ∷ []) xs channel ∙ one

pub tallies_data : (tallies : List Tally) (words : List Word) (numbers : List ℕ) → AreTallies (λ c. first_tally (bursts_in words c)) tallies → AreTallies (λ c. first_tally (bursts_in (words ++ map Data numbers) c)) tallies
tallies_data tallies words numbers k = record {
  len = k.len;
  each = λ channel d low. k.each channel d low ∙ ap first_tally (sym (bursts_data words numbers channel));
}
