-- The words of a stream are made a group at a time, and its lanes of them.
use Rattle.std.proofs.Common.{ℕ, ◌≡◌, ◌+◌, ◌-◌, ◌*◌, ◌^◌, ◌<◌, ◌≤◌, ap, sym, ◌∙◌, subst, List, [], ◌++◌, length, map, replicate, get_or, Vec, Global, length-append, take, count_by, arith}
use Rattle.std.proofs.Math.Nat.{zero-mul}
use Rattle.lk_base.specs.declared.word.Word.{Word}
use Rattle.lk_base.specs.Link.{Settings, IsLink, group_of}
use Rattle.stream_model.specs.BurstStream.{Source, IsBurstStream}
use Rattle.tx_words.specs.Making.{GaveWords}
use Rattle.tx_words.specs.Sent.{starts}
use Rattle.tx_words.specs.SentLists as packets
use Rattle.tx_words.specs.declared.sent_list.SentList.{SentList}
use Rattle.tx_words.specs.declared.word_maker.WordMaker.{WordMaker}
use Rattle.tx_words.proofs.Making.{few_made, few_started}
use Rattle.tx_end.specs.declared.lane_writer.LaneWriter.{LaneWriter}
use Rattle.tx_end.specs.Lanes.{AreEnded, AreFilled, AreLaneFiles}
use Rattle.tx_end.specs.SentLanes.{HasSent, IsListed}
use Rattle.tx_end.proofs.Finishing.{file_closed}
use Rattle.tx_end.proofs.Giving.{block_whole}

module _ (s : Settings) (source : Source) (words : List Word) (made : ℕ) (m : WordMaker) (l : SentList) (lanes : List LaneWriter) (files : List (List ℕ)) (is : HasSent m l source s words made lanes files) (going : IsBurstStream source words → ⊥) where
  -- the next block of words is a whole group, which the maker gave
  pub group_gave : (next : WordMaker) (block : List Word) (n : ℕ) → length block ≡ group_of s → n ≤ length block → (n < length block → IsBurstStream source (words ++ take n block)) → GaveWords next source (words ++ take n block) → GaveWords next source (words ++ block)
  group_gave next block n long within whole given =
      let first : take n block ≡ block = block_whole source words block made (group_of s) n is.group is.count (omega (arith, within, long)) long going (λ lt. whole (omega (arith, lt, long))) in
      subst (λ (b : List Word). GaveWords next source (words ++ b)) first given

  -- there is room for the packets that start in it
  pub group_fits : (next : WordMaker) (block : List Word) → GaveWords next source (words ++ block) → (count_by starts (words ++ block) ≤ length source.packets) × (length words + length block < 2 ^ 63)
  group_fits next block gave =
      let short = few_made next source (words ++ block) gave in
      let both = length-append words block in
      (few_started next source (words ++ block) is.listed.bytes gave, omega (arith, short, both))

  -- and the lanes made a metaframe of it
  pub group_sent : (next : WordMaker) (block : List Word) (list : SentList) (now : List LaneWriter) (longer : List (List ℕ)) → length block ≡ group_of s → GaveWords next source (words ++ block) → packets.Lists list (words ++ block) (length source.packets) →
      AreFilled s (words ++ block) (made + 1) now longer → HasSent next list source s (words ++ block) (made + 1) now longer
  group_sent next block list now longer long gave lists filled = record {
    listed = record { gave = gave; bytes = is.listed.bytes; few = is.listed.few; lists = lists };
    group = is.group;
    count = length-append words block ∙ more made (group_of s) is.count long;
    filled = filled;
  }
    where
      more : (n g : ℕ) {a b : ℕ} → a ≡ n * g → b ≡ g → a + b ≡ (n + 1) * g
      more n g e f = omega (arith, e, f)

-- each group brings the number of words nearer to a bound that they keep
pub group_nearer : (old new : WordMaker) (source : Source) (words block : List Word) → GaveWords old source words → GaveWords new source (words ++ block) → 1 ≤ length block → 2 ^ 60 - new.scheduler.slot < 2 ^ 60 - old.scheduler.slot
group_nearer old new source words block k l some =
    let was = k.drives.gives.runs.words.slot in
    let is = l.drives.gives.runs.words.slot in
    rw (was, is) (nearer (2 ^ 60) (length words) (length (words ++ block)) (length block) (length-append words block) some (few_made new source (words ++ block) l))
  where
    nearer : (n a b c : ℕ) → b ≡ a + c → 1 ≤ c → b < n → n - b < n - a
    nearer n a b c e some low = omega arith

-- ---- all words

abbrev pub file_bytes : Vec ℕ Global → List ℕ
file_bytes file = file.items

-- none is made yet, by lanes that were made for these settings
pub none_sent : (s t : Settings) (source : Source) (m : WordMaker) (l : SentList) (lanes : List LaneWriter) (n : ℕ) (files lent : List (Vec ℕ Global)) → t ≡ s → n ≡ s.lanes → map file_bytes files ≡ replicate n [] → lent ≡ files → IsListed m l source [] → source.shape.group ≡ group_of s →
    AreFilled s [] 0 lanes (replicate s.lanes []) → HasSent m l source t [] 0 lanes (map file_bytes lent)
none_sent s t source m l lanes n files lent same many none is listed group filled = record {
  listed = listed;
  group = group ∙ ap group_of (sym same);
  count = sym (zero-mul (group_of t));
  filled =
      subst (λ (u : Settings). AreFilled u [] 0 lanes (map file_bytes lent)) (sym same)
      (subst (λ (fs : List (List ℕ)). AreFilled s [] 0 lanes fs) (sym (ap (map file_bytes) is ∙ none ∙ ap (λ (k : ℕ). replicate k []) many)) filled);
}

-- the files of lanes that made their last bytes are those of the lanes
pub ended_lanes : (s t : Settings) (words : List Word) (made : ℕ) (files : List (List ℕ)) → t ≡ s → IsLink s → length words ≡ made * group_of s → AreEnded t words made files → AreLaneFiles s words files
ended_lanes s t words made files same link count k =
    let own : AreEnded s words made files = subst (λ (u : Settings). AreEnded u words made files) same k in
    record { one_each = own.count; each = λ i h. file_closed s words i made (get_or files i []) link count (own.each i h) }
