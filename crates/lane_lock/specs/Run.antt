-- The payload words of a declared lock, one after another.
use Rattle.std.specs.Prelude.{ℕ, zero, suc, ◌≡◌, ◌+◌, ◌*◌, ◌%◌, ◌^◌, ◌<◌, ◌==◌, if◌then◌else◌, Bool, false, List, [], ◌∷◌, length, map, take}
use Rattle.lk_base.specs.declared.word.RxWord.{RxWord}
use Rattle.lk_base.specs.declared.word.RxWord.TheVariants.{Data, Control}
use Rattle.lk_base.specs.Words.{is_bad, number_of}
use Rattle.lane_model.specs.Coding.{header_in, word_of_code}
use Rattle.lane_model.specs.Key.{key_word, start_of, state_before}
use Rattle.lane_model.specs.LaneBits.{bits_of_codes}
use Rattle.lock_model.specs.Received.{unscrambled}
use Rattle.lane_lock.specs.Headers.{HeaderCount}
use Rattle.lane_lock.specs.Inside.{InsideState, passed, with_key}
use Rattle.lane_lock.specs.Lane.{LaneView}
use Rattle.lane_lock.specs.Watch.{WatchState}

-- what they change
pub record RunState : Type 0 where
  pub headers : HeaderCount
  pub inside : InsideState

abbrev pub run_of : WatchState → RunState
run_of v = record { headers = v.headers; inside = v.inside }

-- the words of a word lock after n of them
abbrev pub watch_ran : WatchState → ℕ → RunState → WatchState
watch_ran v n run = record { settings = v.settings; words = v.words + n; headers = run.headers; frames = v.frames; declared = v.declared; inside = run.inside }

-- the lane after n of them, the last of which has this code
abbrev pub lane_ran : LaneView → ℕ → ℕ → RunState → LaneView
lane_ran v n code run = record {
  window = code;
  taken = v.taken + 67 * n;
  from = v.from;
  starts = v.starts;
  marks = v.marks;
  watching = v.watching;
  at = v.at + 67 * n;
  watch = watch_ran v.watch n run;
  report = v.report;
}

-- ---- words with legal headers

abbrev pub all_legal : List RxWord → Type 0
all_legal [] = Unit {0}
all_legal (w ∷ ws) = (is_bad w ≡ false) × all_legal ws

abbrev pub are_codes : List ℕ → Type 0
are_codes [] = Unit {0}
are_codes (code ∷ codes) = (code < 2 ^ 67) × are_codes codes

-- these are the first codes of these bits, and their headers are legal
pub record AreCodesOf (codes : List ℕ) (given : List Bool) : Type 0 where
  pub below : are_codes codes
  pub bits : bits_of_codes codes ≡ take (67 * length codes) given
  pub legal : all_legal (map word_of_code codes)

-- the word of this number that is of the kind of a code with a legal header, and such words of codes
abbrev pub word_with : ℕ → ℕ → RxWord
word_with code number = if header_in code % 2 == 1 then Data number else Control number

abbrev pub words_with : List ℕ → List ℕ → List RxWord
words_with [] numbers = []
words_with (code ∷ codes) [] = []
words_with (code ∷ codes) (number ∷ numbers) = word_with code number ∷ words_with codes numbers

-- ---- a word as it is taken, and words one after another

-- the state of the key after a word, and the word under it
abbrev pub next_state : ℕ → ℕ
next_state state = state_before (start_of state) 1

abbrev pub keyed_word : ℕ → RxWord → RxWord
keyed_word state word = unscrambled (key_word (start_of state) 0) word

abbrev pub key_ran : ℕ → List RxWord → ℕ
key_ran state [] = state
key_ran state (w ∷ ws) = key_ran (next_state state) ws

abbrev pub keyed_words : ℕ → List RxWord → List RxWord
keyed_words state [] = []
keyed_words state (w ∷ ws) = keyed_word state w ∷ keyed_words (next_state state) ws

abbrev pub inside_ran : InsideState → RxWord → InsideState
inside_ran v word = passed (with_key v (next_state v.state)) (is_bad word) (number_of (keyed_word v.state word))

abbrev pub insides_ran : InsideState → List RxWord → InsideState
insides_ran v [] = v
insides_ran v (w ∷ ws) = insides_ran (inside_ran v w) ws

-- a legal header, and this many of them
abbrev pub header_ran : HeaderCount → HeaderCount
header_ran v = record { place = if v.place == 63 then 0 else v.place + 1; illegal = if v.place == 63 then 0 else v.illegal }

abbrev pub headers_ran : HeaderCount → ℕ → HeaderCount
headers_ran v zero = v
headers_ran v (suc n) = headers_ran (header_ran v) n

abbrev pub word_ran : RunState → RxWord → RunState
word_ran v word = record { headers = header_ran v.headers; inside = inside_ran v.inside word }

abbrev pub words_ran : RunState → List RxWord → RunState
words_ran v [] = v
words_ran v (w ∷ ws) = words_ran (word_ran v w) ws
