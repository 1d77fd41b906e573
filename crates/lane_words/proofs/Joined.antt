-- The words of epochs, with a Bad word between each two, deliver what the epochs deliver.
use Rattle.std.proofs.Common.{ℕ, ◌≡◌, refl, sym, ap, ap₂, ◌∙◌, ◌+◌, true, false, ◌||◌, List, [], ◌∷◌, ◌++◌, append_assoc, append-nil, Option, Some, None, option_map, map}
use Rattle.std.specs.List.{cons_option}
use Rattle.std.proofs.lemmas.List.{map-append}
use Rattle.lk_base.specs.declared.fault.Why.{Why}
use Rattle.lk_base.specs.declared.position.Pos.{Pos}
use Rattle.lk_base.specs.declared.word.Aligned.{Aligned}
use Rattle.lk_base.specs.declared.word.Aligned.TheVariants.{Group, Word}
use Rattle.lk_base.specs.declared.word.Aligned.TheVariants as aligned
use Rattle.lk_base.specs.declared.word.RxWord.{RxWord}
use Rattle.lk_base.specs.declared.word.RxWord.TheVariants.{Data, Control, Bad}
use Rattle.lk_base.specs.Words.{is_bad}
use Rattle.receive_model.specs.Lists.{neighbours}
use Rattle.receive_model.specs.Positions.{Epoch, Placed, numbered, placed_at}
use Rattle.receive_model.specs.Stretches.{Break, Headed, Item, OfStretch, Verified, any_bad, between, data_among, data_number, fault_from, head_from, headed, is_control, is_no_control, items_of, items_of_epoch, passes, passing_word, stretches}
use Rattle.receive_model.specs.Events.{Setting, events, events_of_items, word_events, words_epoch}
use Rattle.receive_model.proofs.Cuts.{same, split}
use Rattle.receive_model.proofs.HeadsOn.{headed-cons}
use Rattle.reassembly.specs.SoFar.{ended_epochs, items_so_far, open_words, outputs_so_far}
use Rattle.lane_words.specs.Gathered.{gathered_words, words_after, words_of_epochs}
use Rattle.lane_words.specs.GatheredLaws.{bytes_on}
use Rattle.lane_words.proofs.Placeless.{bare, told_bare}
use Rattle.lane_words.proofs.Delivered.{at_verified, events_told, told}

-- ---- what control words tell

-- what the stretch between two control words tells
abbrev signal : Headed × Headed → Option Verified
signal pair = option_map bare (passing_word (OfStretch (between pair)))

abbrev signals : List Headed → List (Option Verified)
signals heads = map signal (neighbours heads)

-- ---- without places

abbrev erase : Placed → Placed
erase p = record { at = numbered 0; word = p.word }

abbrev bare_head : Headed → Headed
bare_head h = record { at = numbered 0; number = h.number; following = map erase h.following }

bad_erased : (words : List Placed) → any_bad (map erase words) ≡ any_bad words
bad_erased [] = refl
bad_erased (p ∷ rest) = ap (λ b. is_bad p.word || b) (bad_erased rest)

data_erased : (words : List Placed) → data_among (map erase words) ≡ data_among words
data_erased [] = refl
data_erased (p ∷ rest) = ap (λ xs. cons_option (data_number p.word) xs) (data_erased rest)

signal_bare : (a b : Headed) → signal (bare_head a, bare_head b) ≡ signal (a, b)
signal_bare a b = rw (bad_erased a.following, data_erased a.following) (split (passes (between (a, b))) (λ h. rw h refl) (λ h. rw h refl))

signals_bare : (heads : List Headed) → signals (map bare_head heads) ≡ signals heads
signals_bare [] = refl
signals_bare (a ∷ []) = refl
signals_bare (a ∷ b ∷ rest) = ap₂ (λ x xs. x ∷ xs) (signal_bare a b) (signals_bare (b ∷ rest))

same_erased : (p : Placed) (rest : List Placed) → same is_no_control (erase p) (map erase rest) ≡ map erase (same is_no_control p rest)
same_erased p [] = refl
same_erased p (x ∷ rest) = rw (same_erased x rest) (split (is_control x.word) (λ h. rw h refl) (λ h. rw h refl))

erased_first : (p : Placed) (word : RxWord) (following : List Placed) (later : List Headed) →
    cons_option (head_from (numbered 0) word (map erase following)) (map bare_head later) ≡ map bare_head (cons_option (head_from p.at word following) later)
erased_first p (Data x) following later = refl
erased_first p (Control x) following later = refl
erased_first p Bad following later = refl

headed_erased : (words : List Placed) → headed (map erase words) ≡ map bare_head (headed words)
headed_erased [] = refl
headed_erased (p ∷ rest) =
    headed-cons (erase p) (map erase rest)
    ∙ ap₂ (λ f hs. cons_option (head_from (numbered 0) p.word f) hs) (same_erased p rest) (headed_erased rest)
    ∙ erased_first p p.word (same is_no_control p rest) (headed rest)
    ∙ sym (ap (map bare_head) (headed-cons p rest))

abbrev word_of : Placed → RxWord
word_of p = p.word

-- words, all at one place
abbrev plain : List RxWord → List Placed
plain words = map (λ word. record { at = numbered 0; word = word }) words

-- what words tell
abbrev told_by : List RxWord → List (Option Verified)
told_by words = signals (headed (plain words))

erased : (words : List Placed) → map erase words ≡ plain (map word_of words)
erased [] = refl
erased (p ∷ rest) = ap (λ ps. erase p ∷ ps) (erased rest)

words_tell : (words : List Placed) → signals (headed words) ≡ told_by (map word_of words)
words_tell words = sym (signals_bare (headed words)) ∙ ap signals (sym (headed_erased words)) ∙ ap (λ ps. signals (headed ps)) (erased words)

same_words : (n : ℕ) (words : List RxWord) → map word_of (placed_at numbered n words) ≡ words
same_words n [] = refl
same_words n (word ∷ rest) = ap (λ ws. word ∷ ws) (same_words (n + 1) rest)

-- ---- words after words

-- more words after the last control word
abbrev extend_all : List Placed → List Headed → List Headed
extend_all more [] = []
extend_all more (h ∷ []) = record { at = h.at; number = h.number; following = h.following ++ more } ∷ []
extend_all more (h ∷ z ∷ rest) = h ∷ extend_all more (z ∷ rest)

-- they come right after the words in front, where no control word stands between
abbrev if_none : List Headed → List Placed → List Placed
if_none [] more = more
if_none (h ∷ rest) more = []

no_head : (at : Pos) (word : RxWord) (rest : List Placed) → is_control word ≡ false → head_from at word rest ≡ None
no_head at (Data x) rest h = refl
no_head at (Control x) rest h = absurd (cc)
no_head at Bad rest h = refl

some_head : (at : Pos) (word : RxWord) (following more : List Placed) (later : List Headed) → is_control word ≡ true → [] ≡ if_none (cons_option (head_from at word following) later) more
some_head at (Data y) following more later g = absurd (cc)
some_head at (Control y) following more later g = refl
some_head at Bad following more later g = absurd (cc)

module _ (q : Placed) (plainly : is_control q.word ≡ false) (b : List Placed) where
  abbrev more : List Placed
  more = q ∷ same is_no_control q b

  same_join : (p : Placed) (a : List Placed) → same is_no_control p (a ++ q ∷ b) ≡ same is_no_control p a ++ if_none (headed a) more
  same_join p [] = rw plainly refl
  same_join p (x ∷ rest) = split (is_control x.word)
      (λ g. rw (g, headed-cons x rest) (some_head x.at x.word (same is_no_control x rest) more (headed rest) g))
      (λ g. rw (g, headed-cons x rest, no_head x.at x.word (same is_no_control x rest) g) (ap (λ ps. x ∷ ps) (same_join x rest)))

  joined_first : (at : Pos) (word : RxWord) (following : List Placed) (later rest : List Headed) →
      cons_option (head_from at word (following ++ if_none later more)) (extend_all more later ++ rest) ≡ extend_all more (cons_option (head_from at word following) later) ++ rest
  joined_first at (Data x) following later rest = refl
  joined_first at Bad following later rest = refl
  joined_first at (Control x) following [] rest = refl
  joined_first at (Control x) following (h ∷ later) rest = rw (append-nil following) refl

  headed_join : (a : List Placed) → headed (a ++ q ∷ b) ≡ extend_all more (headed a) ++ headed b
  headed_join [] = headed-cons q b ∙ ap (λ o. cons_option o (headed b)) (no_head q.at q.word (same is_no_control q b) plainly)
  headed_join (p ∷ a) =
      headed-cons p (a ++ q ∷ b)
      ∙ ap₂ (λ f hs. cons_option (head_from p.at p.word f) hs) (same_join p a) (headed_join a)
      ∙ joined_first p.at p.word (same is_no_control p a) (headed a) (headed b)
      ∙ sym (ap (λ hs. extend_all more hs ++ headed b) (headed-cons p a))

-- ---- a Bad word among them

bad_more : (words more : List Placed) → any_bad more ≡ true → any_bad (words ++ more) ≡ true
bad_more [] more h = h
bad_more (p ∷ words) more h = rw (bad_more words more h) (elim (is_bad p.word) as (λ b. (b || true) ≡ true) [ true ↦ refl | false ↦ refl ])

bad_signal : (a b : Headed) → any_bad a.following ≡ true → signal (a, b) ≡ None
unfolding fault_from
bad_signal a b h = rw h refl

module _ (more : List Placed) (bad : any_bad more ≡ true) where
  -- the last control word opens no stretch of theirs
  signals_end : (heads : List Headed) → signals (extend_all more heads) ≡ signals heads
  signals_end [] = refl
  signals_end (h ∷ []) = refl
  signals_end (h ∷ z ∷ []) = refl
  signals_end (h ∷ z ∷ y ∷ rest) = ap (λ xs. signal (h, z) ∷ xs) (signals_end (z ∷ y ∷ rest))

  -- or one that is bad
  signals_on : (h : Headed) (heads : List Headed) (k : Headed) (later : List Headed) → signals (extend_all more (h ∷ heads) ++ k ∷ later) ≡ signals (h ∷ heads) ++ None ∷ signals (k ∷ later)
  signals_on h [] k later = ap (λ x. x ∷ signals (k ∷ later)) (bad_signal (record { at = h.at; number = h.number; following = h.following ++ more }) k (bad_more h.following more bad))
  signals_on h (z ∷ []) k later = ap (λ xs. signal (h, z) ∷ xs) (signals_on z [] k later)
  signals_on h (z ∷ y ∷ rest) k later = ap (λ xs. signal (h, z) ∷ xs) (signals_on z (y ∷ rest) k later)

-- ---- what is told

module _ (s : Setting) (channel : ℕ) where
  told_break : (run : List Verified) (xs ys : List (Option Verified)) → told s channel run (xs ++ None ∷ ys) ≡ told s channel run xs ++ told s channel [] ys
  told_break run [] ys = refl
  told_break run (None ∷ xs) ys = told_break [] xs ys
  told_break run (Some v ∷ xs) ys =
      ap (λ ps. at_verified s channel run v ++ ps) (told_break (run ++ v ∷ []) xs ys)
      ∙ sym (append_assoc (at_verified s channel run v) (told s channel (run ++ v ∷ []) xs) (told s channel [] ys))

  told_end : (xs : List (Option Verified)) → told s channel [] (xs ++ None ∷ []) ≡ told s channel [] xs
  told_end xs = told_break [] xs [] ∙ append-nil (told s channel [] xs)

  told_join : (following : List Placed) → any_bad following ≡ true → (heads later : List Headed) → told s channel [] (signals (extend_all following heads ++ later)) ≡ told s channel [] (signals heads ++ None ∷ signals later)
  told_join following bad [] later = refl
  told_join following bad (h ∷ heads) [] =
      ap (λ hs. told s channel [] (signals hs)) (append-nil (extend_all following (h ∷ heads)))
      ∙ ap (told s channel []) (signals_end following bad (h ∷ heads))
      ∙ sym (told_end (signals (h ∷ heads)))
  told_join following bad (h ∷ heads) (k ∷ later) = ap (told s channel []) (signals_on following bad h heads k later)

  -- words after a Bad word tell what they tell alone
  words_join : (a b : List RxWord) → told s channel [] (told_by (a ++ Bad ∷ b)) ≡ told s channel [] (told_by a) ++ told s channel [] (told_by b)
  words_join a b =
      ap (λ ps. told s channel [] (signals (headed ps))) (map-append (λ word. record { at = numbered 0; word = word }) a (Bad ∷ b))
      ∙ ap (λ hs. told s channel [] (signals hs)) (headed_join (record { at = numbered 0; word = Bad }) refl (plain b) (plain a))
      ∙ told_join (record { at = numbered 0; word = Bad } ∷ same is_no_control (record { at = numbered 0; word = Bad }) (plain b)) refl (headed (plain a)) (headed (plain b))
      ∙ told_break [] (told_by a) (told_by b)

  -- ---- epochs

  abbrev of_item : Item → Option Verified
  of_item x = option_map bare (passing_word x)

  item_signals : (heads : List Headed) (at : Pos) (why : Why) (rest : List Item) → map of_item (map OfStretch (map between (neighbours heads)) ++ Break at why ∷ rest) ≡ signals heads ++ None ∷ map of_item rest
  item_signals [] at why rest = refl
  item_signals (h ∷ []) at why rest = refl
  item_signals (h ∷ z ∷ heads) at why rest = ap (λ xs. signal (h, z) ∷ xs) (item_signals (z ∷ heads) at why rest)

  epoch_told : (e : Epoch) (rest : List Item) → told s channel [] (map of_item (items_of_epoch e ++ rest)) ≡ told s channel [] (told_by (map word_of e.words)) ++ told s channel [] (map of_item rest)
  epoch_told e rest =
      ap (λ is. told s channel [] (map of_item is)) (append_assoc (map OfStretch (map between (neighbours (headed e.words)))) (Break e.ended_at e.ended_by ∷ []) rest)
      ∙ ap (told s channel []) (item_signals (headed e.words) e.ended_at e.ended_by rest)
      ∙ told_break [] (signals (headed e.words)) (map of_item rest)
      ∙ ap (λ xs. told s channel [] xs ++ told s channel [] (map of_item rest)) (words_tell e.words)

  epochs_told : (epochs : List Epoch) → told s channel [] (map of_item (items_of epochs)) ≡ told s channel [] (told_by (words_of_epochs epochs))
  epochs_told [] = refl
  epochs_told (e ∷ []) = epoch_told e [] ∙ append-nil (told s channel [] (told_by (map word_of e.words)))
  epochs_told (e ∷ next ∷ rest) =
      epoch_told e (items_of (next ∷ rest))
      ∙ ap (λ ps. told s channel [] (told_by (map word_of e.words)) ++ ps) (epochs_told (next ∷ rest))
      ∙ sym (words_join (map word_of e.words) (words_of_epochs (next ∷ rest)))

  bare_items : (items : List Item) → map (option_map bare) (map passing_word items) ≡ map of_item items
  bare_items [] = refl
  bare_items (x ∷ items) = ap (λ xs. of_item x ∷ xs) (bare_items items)

  all_told : (items : List Item) → bytes_on channel (events_of_items s items) ≡ told s channel [] (map of_item items)
  all_told items = events_told s channel items ∙ sym (told_bare s channel [] (map passing_word items)) ∙ ap (told s channel []) (bare_items items)

  -- the words of a words file
  file_told : (words : List RxWord) → bytes_on channel (word_events s words) ≡ told s channel [] (told_by words)
  file_told words = all_told (items_of (words_epoch words ∷ [])) ∙ epochs_told (words_epoch words ∷ []) ∙ ap (λ ws. told s channel [] (told_by ws)) (same_words 0 words)

  pub joined_delivers : (epochs : List Epoch) → bytes_on channel (word_events s (words_of_epochs epochs)) ≡ bytes_on channel (events s epochs)
  joined_delivers epochs = file_told (words_of_epochs epochs) ∙ sym (all_told (items_of epochs) ∙ epochs_told epochs)

  -- ---- the items of lanes

  -- what these items tell, where these words stand before them in their first epoch
  abbrev rest_told : List Placed → List Aligned → List (List ℕ)
  rest_told words items = told s channel [] (map of_item (items_of (ended_epochs words items) ++ map OfStretch (stretches (open_words words items))))

  open_signals : (heads : List Headed) → map of_item (map OfStretch (map between (neighbours heads))) ≡ signals heads
  open_signals [] = refl
  open_signals (h ∷ []) = refl
  open_signals (h ∷ z ∷ heads) = ap (λ xs. signal (h, z) ∷ xs) (open_signals (z ∷ heads))

  after_break : (words : List RxWord) (items : List Aligned) → rest_told [] items ≡ told s channel [] (told_by (words_after false items)) →
      told s channel [] (told_by words) ++ rest_told [] items ≡ told s channel [] (told_by (words ++ words_after true items))
  after_break words [] h = append-nil (told s channel [] (told_by words)) ∙ ap (λ ws. told s channel [] (told_by ws)) (sym (append-nil words))
  after_break words (x ∷ items) h = ap (λ ps. told s channel [] (told_by words) ++ ps) h ∙ sym (words_join words (words_after false (x ∷ items)))

  items_told : (words : List Placed) (items : List Aligned) → rest_told words items ≡ told s channel [] (told_by (map word_of words ++ words_after false items))
  items_told words [] = ap (told s channel []) (open_signals (headed words) ∙ words_tell words) ∙ ap (λ ws. told s channel [] (told_by ws)) (sym (append-nil (map word_of words)))
  items_told words (Group at ∷ items) = items_told words items
  items_told words (Word at word ∷ items) =
      items_told (words ++ record { at = at; word = word } ∷ []) items
      ∙ ap (λ ws. told s channel [] (told_by (ws ++ words_after false items))) (map-append word_of words (record { at = at; word = word } ∷ []))
      ∙ ap (λ ws. told s channel [] (told_by ws)) (append_assoc (map word_of words) (word ∷ []) (words_after false items))
  items_told words (aligned.Break at why ∷ items) =
      ap (λ is. told s channel [] (map of_item is)) (append_assoc (items_of_epoch (record { words = words; ended_at = at; ended_by = why })) (items_of (ended_epochs [] items)) (map OfStretch (stretches (open_words [] items))))
      ∙ epoch_told (record { words = words; ended_at = at; ended_by = why }) (items_of (ended_epochs [] items) ++ map OfStretch (stretches (open_words [] items)))
      ∙ after_break (map word_of words) items (items_told [] items)

  pub gathered_delivers : (items : List Aligned) → bytes_on channel (word_events s (gathered_words items)) ≡ bytes_on channel (outputs_so_far s items true)
  gathered_delivers items = file_told (gathered_words items) ∙ sym (all_told (items_so_far items) ∙ items_told [] items)
