-- What a maker of words that counts bursts was given and gave so far.
use Rattle.std.specs.Prelude.{◌≡◌, ℕ, List, length, take, vec_len}
use Rattle.lk_base.specs.declared.word.Word.{Word}
use Rattle.stream_model.specs.BurstStream.{Source, IsBurstStream, bursts_in}
use Rattle.tx_words.specs.Making.{GaveWords, HasMadeData, last_made}
use Rattle.tx_words.specs.Tallies.{AreTallies, first_tally}
use Rattle.tx_words.specs.declared.stream_words.StreamWords.{StreamWords}

-- its maker gave these words of the source's stream, whose bursts are counted
pub record Streams (s : StreamWords) (source : Source) (words : List Word) : Type 0 where
  pub gave : GaveWords s.maker source words
  pub long : vec_len s.tallies ≡ 65536
  pub bursts : AreTallies (λ c. first_tally (bursts_in words c)) s.tallies.items

-- the numbers of the last words made, where these are data words of one burst
abbrev pub last_streamed : StreamWords → ℕ → List ℕ
last_streamed s n = last_made s.maker n

-- the last words made, so many of them, are data words of one burst
abbrev pub HasStreamedData : StreamWords → ℕ → Type 0
HasStreamedData s n = HasMadeData s.maker n

-- the words given so far are the first of the source's stream
abbrev pub GivesFirstWords : Type 0
GivesFirstWords = (s : StreamWords) (source : Source) (words w : List Word) → Streams s source words → IsBurstStream source w → take (length words) w ≡ words
