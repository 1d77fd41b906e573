-- The lanes of a link in rounds.
use Rattle.std.proofs.Common.{ℕ, ◌≡◌, ◌+◌, ◌*◌, ◌/◌, ◌<◌, ◌≤◌, refl, sym, ◌∙◌, subst, List, [], ◌++◌, length, take, get_or, set, arith}
use Rattle.std.proofs.Math.Seq.{take-append_seam}
use Rattle.std.proofs.lemmas.List.{get_or-set_other, get_or-set_same, length-set}
use Rattle.lk_base.specs.declared.word.Word.{Word}
use Rattle.lk_base.specs.Link.{Settings, IsLink, group_of}
use Rattle.lane_model.specs.Framing.{payloads}
use Rattle.lane_model.specs.LaneBits.{IsFileOf, lane_bits}
use Rattle.lane_model.specs.Striping.{lane_payload}
use Rattle.tx_end.specs.declared.lane_writer.LaneWriter.{LaneWriter}
use Rattle.tx_end.specs.Lanes.{AreEnded, AreFilled, AreLaneFiles, HasFilled, InTurn, IsEnded, IsFilled}
use Rattle.tx_end.specs.Rounds.{InLastRound, InRound, MakesEnd, MakesMetaframe, longer}
use Rattle.tx_end.proofs.Finishing.{file_closed, group_positive}
use Rattle.tx_end.proofs.FirstBytes.{groups_within, lane_first, metaframes_within}
use Rattle.tx_end.proofs.Groups.{filled_more, payload_append, regroup_words}
use Rattle.tx_end.proofs.Turns.{first_lane, one_turn}

-- one lane has its bytes after those of its file, and the others keep theirs
lane_turn : (n turn : ℕ) (lanes : List LaneWriter) (files : List (List ℕ)) (bytes : List ℕ) (before after : ℕ → LaneWriter → List ℕ → Type 0) (l : LaneWriter) → length files ≡ n → InTurn n turn lanes (λ i. get_or files i []) before after → turn < n → after turn l (get_or files turn [] ++ bytes) →
    InTurn n (turn + 1) (set lanes turn l) (λ i. get_or (longer files turn bytes) i []) before after
lane_turn n turn lanes files bytes before after l count k low now =
    let file : List ℕ = get_or files turn [] ++ bytes in
    one_turn n turn lanes (λ i. get_or files i []) (λ i. get_or (set files turn file) i []) before after l k low (λ i h other. get_or-set_other files turn i file [] other)
    (subst (λ (b : List ℕ). after turn l b) (sym (get_or-set_same files turn file [] (omega (arith, low, count)))) now)

-- ---- a group

module _ (s : Settings) (words group : List Word) (made : ℕ) where
  pub round_begins : (lanes : List LaneWriter) (files : List (List ℕ)) → length words ≡ made * group_of s → AreFilled s words made lanes files → InRound s words group made 0 lanes files
  round_begins lanes files long k = record {
    files_count = k.files_count;
    words_count = long;
    turns = record {
      count = k.lanes_count;
      had = λ i d h there. absurd (omega (arith, h));
      still = λ i d h there. k.each i d there;
    };
  }

  -- the lane whose turn it is
  round_lane : (turn : ℕ) (lanes : List LaneWriter) (files : List (List ℕ)) → turn < s.lanes → InRound s words group made turn lanes files → (d : LaneWriter) → HasFilled (get_or lanes turn d) s turn (lane_payload s.lanes words turn) made (get_or files turn [])
  round_lane turn lanes files low k d = k.turns.still turn d (omega arith) low

  pub round_ready : (t : Settings) (turn : ℕ) (lanes : List LaneWriter) (files : List (List ℕ)) → t ≡ s → turn < s.lanes → InRound s words group made turn lanes files →
      (given : List Word) × (metaframes : ℕ) × (before : List ℕ) × ((d : LaneWriter) → HasFilled (get_or lanes turn d) t turn given metaframes before)
  round_ready t turn lanes files e low k =
      let given : List Word = lane_payload s.lanes words turn in
      let before : List ℕ = get_or files turn [] in
      (given, made, before, λ d. subst (λ (u : Settings). HasFilled (get_or lanes turn d) u turn given made before) (sym e) (round_lane turn lanes files low k d))

  pub round_turn : (turn : ℕ) (lanes now : List LaneWriter) (files : List (List ℕ)) (bytes : List ℕ) → turn < s.lanes → InRound s words group made turn lanes files → MakesMetaframe s turn group lanes now bytes → InRound s words group made (turn + 1) now (longer files turn bytes)
  round_turn turn lanes now files bytes low k m =
      let d : LaneWriter = first_lane lanes (omega (arith, low, k.turns.count)) in
      let filled = filled_more s turn made words group (get_or lanes turn d) m.lane (get_or files turn []) bytes low k.words_count (round_lane turn lanes files low k d) (m.did d) in
      record {
        files_count = length-set files turn _ ∙ k.files_count;
        words_count = k.words_count;
        turns = subst (λ (ls : List LaneWriter). InTurn s.lanes (turn + 1) ls (λ i. get_or (longer files turn bytes) i []) (IsFilled s words made) (IsFilled s (words ++ group) (made + 1))) (sym m.lanes)
            (lane_turn s.lanes turn lanes files bytes (IsFilled s words made) (IsFilled s (words ++ group) (made + 1)) m.lane k.files_count k.turns low filled);
      }

  pub round_ends : (turn : ℕ) (lanes : List LaneWriter) (files : List (List ℕ)) → s.lanes ≤ turn → InRound s words group made turn lanes files → AreFilled s (words ++ group) (made + 1) lanes files
  round_ends turn lanes files over k = record {
    lanes_count = k.turns.count;
    files_count = k.files_count;
    each = λ i d h. k.turns.had i d (omega (arith, h, over)) h;
  }

-- ---- the last bytes

module _ (s : Settings) (words : List Word) (made : ℕ) where
  pub last_begins : (lanes : List LaneWriter) (files : List (List ℕ)) → AreFilled s words made lanes files → InLastRound s words made 0 lanes files
  last_begins lanes files k = record {
    files_count = k.files_count;
    turns = record {
      count = k.lanes_count;
      had = λ i d h there. absurd (omega (arith, h));
      still = λ i d h there. k.each i d there;
    };
  }

  -- fewer than eight bits of the lane whose turn it is wait
  pub last_waiting : (turn : ℕ) (lanes : List LaneWriter) (files : List (List ℕ)) → turn < s.lanes → InLastRound s words made turn lanes files → (d : LaneWriter) → length (get_or lanes turn d).bits < 8
  last_waiting turn lanes files low k d = (k.turns.still turn d (omega arith) low).waiting

  pub last_turn : (turn : ℕ) (lanes now : List LaneWriter) (files : List (List ℕ)) (bytes : List ℕ) → turn < s.lanes → InLastRound s words made turn lanes files → MakesEnd turn lanes now bytes → InLastRound s words made (turn + 1) now (longer files turn bytes)
  last_turn turn lanes now files bytes low k m =
      let d : LaneWriter = first_lane lanes (omega (arith, low, k.turns.count)) in
      let ended : IsEnded s words made turn (get_or files turn [] ++ bytes) = m.did d (get_or files turn []) s turn _ _ (k.turns.still turn d (omega arith) low).carries in
      record {
        files_count = length-set files turn _ ∙ k.files_count;
        turns = subst (λ (ls : List LaneWriter). InTurn s.lanes (turn + 1) ls (λ i. get_or (longer files turn bytes) i []) (IsFilled s words made) (λ i _. IsEnded s words made i)) (sym m.lanes)
            (lane_turn s.lanes turn lanes files bytes (IsFilled s words made) (λ i _. IsEnded s words made i) m.lane k.files_count k.turns low ended);
      }

  pub last_ends : (turn : ℕ) (lanes : List LaneWriter) (files : List (List ℕ)) → s.lanes ≤ turn → InLastRound s words made turn lanes files → AreEnded s words made files
  last_ends turn lanes files over k = record {
    count = k.files_count;
    each = λ i h. k.turns.had i (first_lane lanes (omega (arith, h, k.turns.count))) (omega (arith, h, over)) h;
  }

  -- the files of whole groups are those of the lanes that carry them
  pub ended_files : (files : List (List ℕ)) → IsLink s → length words ≡ made * group_of s → AreEnded s words made files → AreLaneFiles s words files
  ended_files files link long k = record {
    one_each = k.count;
    each = λ i h. file_closed s words i made (get_or files i []) link long (k.each i h);
  }

  -- what the files hold after some groups is the first of what they hold at last
  pub filled_first : (rest : List Word) (lanes : List LaneWriter) (files contents : List (List ℕ)) (i : ℕ) → IsLink s → length words ≡ made * group_of s → AreFilled s words made lanes files → AreLaneFiles s (words ++ rest) contents → i < s.lanes →
      take (length (get_or files i [])) (get_or contents i []) ≡ get_or files i []
  filled_first rest lanes files contents i link long k all low =
      let d : LaneWriter = first_lane lanes (omega (arith, low, k.lanes_count)) in
      let n : ℕ = length (words ++ rest) / group_of s in
      let within : made ≤ n = groups_within made (group_of s) (length (words ++ rest)) words (words ++ rest) long (group_positive s link) (take-append_seam words rest) refl in
      let more : lane_payload s.lanes (words ++ rest) i ≡ lane_payload s.lanes words i ++ lane_payload s.lanes rest i = payload_append s.lanes (made * payloads s) i words rest low (long ∙ regroup_words made s.lanes (payloads s)) in
      lane_first (get_or lanes i d) s i (made * s.metaframe) n (lane_payload s.lanes words i) (lane_payload s.lanes rest i) (get_or files i []) (get_or contents i []) (k.each i d low).carries (metaframes_within made n s.metaframe within)
      (subst (λ (g : List Word). IsFileOf (get_or contents i []) (lane_bits s i g n)) more (all.each i low))
