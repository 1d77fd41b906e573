-- The lanes of a words file as they are made, a group at a time.
use Rattle.std.proofs.Common.{◌≡◌, ℕ, suc, ◌+◌, ◌-◌, ◌*◌, ◌/◌, ◌%◌, ◌<◌, ◌≤◌, false, List, [], ◌∷◌, ◌++◌, length, take, drop, get_or, replicate, append_assoc, refl, sym, ap, ◌∙◌, subst, inl, inr, arith, length-append, mul-le-mul, zero-mul, length-drop, unwrap_or, slice_get}
use Rattle.std.proofs.Math.ListN.{set}
use Rattle.std.proofs.Math.Seq.{take-add}
use Rattle.std.proofs.lemmas.Bool.{cases_lt}
use Rattle.std.proofs.lemmas.List.{drop-append-le, get_or-append_right, get_or-drop, get_or-replicate, get_or_past, get_or_append_left, length-map, length-replicate, length-take-le, replicate-append-replicate, take_more, take_more_set, take-append-drop, take-append-le, take_all}
use Rattle.std.proofs.lemmas.List.FromFn.{length-map-range_with_len}
use Rattle.std.proofs.lemmas.Nat.{div-add-mod'}
use Rattle.std.proofs.lemmas.Option.{unwrap_or-slice_get}
use Rattle.lk_base.specs.Link.{Settings, IsLink, group_of}
use Rattle.lk_base.specs.declared.word.Word.{Word}
use Rattle.link_reports.specs.Lines.{slots_line}
use Rattle.run_shell.specs.Names.{lane_name, lane_names}
use Rattle.run_shell.specs.Ends.{held_status}
use Rattle.run_shell.specs.Outcome.{Outcome}
use Rattle.run_shell.specs.Open.{Open}
use Rattle.run_shell.specs.Outputs.{Prefixes, blank, open_names}
use Rattle.run_shell.specs.Writing.{Begin, delivered}
use Rattle.run_shell.specs.declared.finished.Finished.{Finished}
use Rattle.tx_end.specs.Lanes.{AreEnded, AreFilled, AreLaneFiles}
use Rattle.tx_end.specs.Rounds.{Filler}
use Rattle.tx_end.proofs.Finishing.{group_positive}
use Rattle.tx_end.proofs.Rounds.{ended_files, filled_first}
use Rattle.lane_commands.specs.Making.{GaveLanes}
use Rattle.lane_commands.specs.Stripe.{IsStriped, Stripes, filler}
use Rattle.lane_commands.specs.Values.{words_value}
use Rattle.lane_commands.specs.declared.plan_words.StripeInputs as code
use Rattle.lane_commands.proofs.Filling.{stripe_once, stripe_some}

-- ---- a group of words

-- the word at a place of a group, or a filler after the last word
word_by : (words : List Word) (first place g : ℕ) → first ≤ length words → place < g → unwrap_or (slice_get words (first + place)) filler ≡ get_or (drop first words ++ replicate g filler) place filler
word_by words first place g within low =
    let left = length-drop first words in
    unwrap_or-slice_get words (first + place) filler ∙ elim (cases_lt place (length (drop first words))) [
      | inl there ↦ sym (get_or-drop first words place filler) ∙ sym (get_or_append_left (drop first words) (replicate g filler) filler place there)
      | inr past ↦
          get_or_past words (first + place) filler (omega (arith, left, past, within))
          ∙ sym (get_or-replicate g (place - length (drop first words)) filler filler (omega (arith, low, past)))
          ∙ sym (get_or-append_right (drop first words) (replicate g filler) (length (drop first words)) place filler refl past)
    ]

-- the words up to a place of a group, and the one at it
pub place_read : (words block : List Word) (first place g : ℕ) (word : Word) → first ≤ length words → length block ≡ g → place < g → take place block ≡ take place (drop first words ++ replicate g filler) → word ≡ unwrap_or (slice_get words (first + place)) filler →
    take (place + 1) (set block place word) ≡ take (place + 1) (drop first words ++ replicate g filler)
place_read words block first place g word within long low so_far is =
    let all : List Word = drop first words ++ replicate g filler in
    let a = length-append (drop first words) (replicate g filler) in
    let b = length-replicate g filler in
    take_more_set block place word (omega (arith, long, low))
    ∙ ap (λ (w : List Word). w ++ word ∷ []) so_far
    ∙ ap (λ (w : Word). take place all ++ w ∷ []) (is ∙ word_by words first place g within low)
    ∙ sym (take_more all place filler (omega (arith, a, b, low)))

-- after the last place it is whole
pub group_read : (block all : List Word) (place n : ℕ) → place ≡ n → length block ≡ n → take place block ≡ take place all → block ≡ take n all
group_read block all place n e long so_far = sym (take_all n block (omega (arith, long))) ∙ ap (λ k. take k block) (sym e) ∙ so_far ∙ ap (λ k. take k all) e

-- such a group has as many words as there are places
pub group_length : (words block : List Word) (first n : ℕ) → block ≡ take n (drop first words ++ replicate n filler) → length block ≡ n
group_length words block first n e =
    let a = length-append (drop first words) (replicate n filler) in
    let b = length-replicate n filler in
    ap length e ∙ length-take-le n (drop first words ++ replicate n filler) (omega (arith, a, b))

-- ---- groups of the stream

groups_of : (n g : ℕ) → n % g ≡ 0 → n / g * g ≡ n
groups_of n g e = (let split = div-add-mod' n g in omega (arith, split, e))

-- one group more fits, if fewer words are there
fits_by : (m q g n : ℕ) → q * g ≡ n → m * g < n → m * g + g ≤ n
fits_by m q g n e lt = elim (cases_lt m q) [
  | inl less ↦
      let more : (m + 1) * g ≤ q * g = mul-le-mul (omega (arith, less)) (omega arith) in
      let one : (m + 1) * g ≡ m * g + g = omega arith in
      omega (arith, more, one, e)
  | inr ge ↦
      let le : q * g ≤ m * g = mul-le-mul ge (omega arith) in
      absurd (omega (arith, le, e, lt))
]

module _ (s : Settings) (words stream : List Word) (k : Stripes s words stream) where
  stream_length : length stream ≡ length words + k.fillers
  stream_length = ap length k.is ∙ length-append words (replicate k.fillers filler) ∙ ap (λ n. length words + n) (length-replicate k.fillers filler)

  -- a group more of the stream, if words are left
  group_fits : (m : ℕ) → m * group_of s < length words → m * group_of s + group_of s ≤ length stream
  group_fits m lt = fits_by m (length stream / group_of s) (group_of s) (length stream) (groups_of (length stream) (group_of s) k.whole) (omega (arith, lt, stream_length))

  -- the lanes carry all, if none is left
  all_carried : (m slots : ℕ) → slots ≡ m * group_of s → slots ≤ length stream → length words ≤ slots → slots ≡ length stream
  all_carried m slots e within over = elim (cases_lt slots (length stream)) [
    | inl lt ↦
        let few = k.few in
        let fits : m * group_of s + group_of s ≤ length stream = fits_by m (length stream / group_of s) (group_of s) (length stream) (groups_of (length stream) (group_of s) k.whole) (omega (arith, lt, e)) in
        absurd (omega (arith, fits, few, e, over, stream_length))
    | inr ge ↦ omega (arith, ge, within)
  ]

  next_words : (slots : ℕ) → slots ≤ length words → slots + group_of s ≤ length stream → take (slots + group_of s) stream ≡ take slots stream ++ take (group_of s) (drop slots words ++ replicate (group_of s) filler)
  next_words slots within fits =
      let g : ℕ = group_of s in
      let few = k.few in
      let left : drop slots stream ≡ drop slots words ++ replicate k.fillers filler = ap (drop slots) k.is ∙ drop-append-le slots words (replicate k.fillers filler) within in
      let long : g ≤ length (drop slots words ++ replicate k.fillers filler) = (let a = ap length left in let b = length-drop slots stream in omega (arith, a, b, fits)) in
      let count : k.fillers + (g - k.fillers) ≡ g = omega (arith, few) in
      let more : drop slots words ++ replicate g filler ≡ (drop slots words ++ replicate k.fillers filler) ++ replicate (g - k.fillers) filler =
      ap (λ n. drop slots words ++ replicate n filler) (sym count) ∙ ap (λ (w : List Word). drop slots words ++ w) (sym (replicate-append-replicate k.fillers (g - k.fillers) filler)) ∙ sym (append_assoc (drop slots words) (replicate k.fillers filler) (replicate (g - k.fillers) filler)) in
      take-add slots g stream ∙ ap (λ (w : List Word). take slots stream ++ take g w) left
      ∙ ap (λ (w : List Word). take slots stream ++ w) (sym (ap (take g) more ∙ take-append-le g (drop slots words ++ replicate k.fillers filler) (replicate (g - k.fillers) filler) long))

-- ---- what was given

-- outputs with equal names are as many
pub same_count : (opens others : List Open) → open_names opens ≡ open_names others → length opens ≡ length others
same_count opens others e = sym (length-map opens (λ (f : Open). f.name)) ∙ ap length e ∙ length-map others (λ (f : Open). f.name)

-- the outputs are as many as the lanes
pub lanes_count : (opens : List Open) (out : List ℕ) (n : ℕ) → open_names opens ≡ lane_names out n → length opens ≡ n
lanes_count opens out n e = sym (length-map opens (λ (f : Open). f.name)) ∙ ap length e ∙ length-map-range_with_len (lane_name out) 0 n

-- contents that begin with these, one by one
prefixes_by : (gs cs : List (List ℕ)) → length gs ≡ length cs → ((i : ℕ) → i < length gs → take (length (get_or gs i [])) (get_or cs i []) ≡ get_or gs i []) → Prefixes gs cs
prefixes_by [] [] e h = tt
prefixes_by [] (c ∷ cs) e h = absurd (omega (arith, e))
prefixes_by (g ∷ gs) [] e h = absurd (omega (arith, e))
prefixes_by (g ∷ gs) (c ∷ cs) e h =
    ((drop (length g) c, sym (take-append-drop (length g) c) ∙ ap (λ x. x ++ drop (length g) c) (h 0 (omega arith))), prefixes_by gs cs (omega (arith, e)) (λ i lt. h (suc i) (omega (arith, lt))))

blank_all : (names : List (List ℕ)) → blank names ≡ replicate (length names) []
blank_all [] = refl
blank_all (n ∷ names) = ap (λ (ns : List (List ℕ)). [] ∷ ns) (blank_all names)

blank_lanes : (out : List ℕ) (n : ℕ) → blank (lane_names out n) ≡ replicate n []
blank_lanes out n = blank_all (lane_names out n) ∙ ap (λ k. replicate k []) (length-map-range_with_len (lane_name out) 0 n)

module _ (r : code.StripeInputs) where
  pub none_given : (lanes : Filler) (group : List Word) → IsLink r.plan.link → lanes.settings ≡ r.plan.link → length group ≡ group_of r.plan.link → AreFilled r.plan.link [] 0 lanes.lanes (replicate r.plan.link.lanes [])
      → GaveLanes r lanes group 0 (blank (lane_names (words_value r).plan.out r.plan.link.lanes))
  none_given lanes group link same room filled =
      let (stream, stripes) = stripe_some r.plan.link r.words (group_positive r.plan.link link) in
      record {
        limits = link;
        settings = same;
        room = room;
        stream = stream;
        stripes = stripes;
        within = omega arith;
        made = 0;
        count = sym (zero-mul (group_of r.plan.link));
        filled = subst (λ (fs : List (List ℕ)). AreFilled r.plan.link [] 0 lanes.lanes fs) (sym (blank_lanes (words_value r).plan.out r.plan.link.lanes)) filled;
      }

  module _ (lanes : Filler) (group : List Word) (slots : ℕ) (given : List (List ℕ)) (g : GaveLanes r lanes group slots given) where
    -- the words that the lanes carry
    pub carried_length : length (take slots g.stream) ≡ g.made * group_of r.plan.link
    carried_length = length-take-le slots g.stream g.within ∙ g.count

    pub gave_begins : (o : Outcome) → IsStriped (words_value r) o → Begin (lane_names (words_value r).plan.out r.plan.link.lanes) given o.files
    gave_begins o h =
        let s = r.plan.link in
        let (contents, are, is) = h.files in
        let e : h.stream ≡ take slots g.stream ++ drop slots g.stream = stripe_once s r.words h.stream g.stream h.stripes g.stripes ∙ sym (take-append-drop slots g.stream) in (
          contents,
          is,
          prefixes_by given contents (g.filled.files_count ∙ sym are.one_each)
              (λ i lt. filled_first s (take slots g.stream) g.made (drop slots g.stream) lanes.lanes given contents i g.limits carried_length g.filled (subst (λ (w : List Word). AreLaneFiles s w contents) e are) (let n = g.filled.files_count in omega (arith, lt, n))),
        )

    -- a group more
    pub gave_more : (now : Filler) (block : List Word) (more : List (List ℕ)) → slots < length r.words → block ≡ take (length group) (drop slots r.words ++ replicate (length group) filler) → now.settings ≡ lanes.settings → AreFilled r.plan.link (take slots g.stream ++ block) (g.made + 1) now.lanes more
        → GaveLanes r now block (slots + length block) more
    gave_more now block more lt is same filled =
        let s = r.plan.link in
        let n : ℕ = group_of s in
        let all : List Word = drop slots r.words ++ replicate n filler in
        let own : block ≡ take n all = is ∙ ap (λ k. take k (drop slots r.words ++ replicate k filler)) g.room in
        let long : length block ≡ n = group_length r.words block slots n own in
        let fits : slots + n ≤ length g.stream = (let e = g.count in let f = group_fits s r.words g.stream g.stripes g.made (omega (arith, lt, e)) in omega (arith, e, f)) in
        let to : slots + length block ≡ slots + n = ap (λ k. slots + k) long in
        let words : take slots g.stream ++ block ≡ take (slots + length block) g.stream = ap (λ (w : List Word). take slots g.stream ++ w) own ∙ sym (next_words s r.words g.stream g.stripes slots (omega (arith, lt)) fits) ∙ ap (λ k. take k g.stream) (sym to) in
        let one : (g.made + 1) * n ≡ g.made * n + n = omega arith in
        record {
          limits = g.limits;
          settings = same ∙ g.settings;
          room = long;
          stream = g.stream;
          stripes = g.stripes;
          within = omega (arith, fits, long);
          made = g.made + 1;
          count = to ∙ ap (λ k. k + n) g.count ∙ sym one;
          filled = subst (λ (w : List Word). AreFilled s w (g.made + 1) now.lanes more) words filled;
        }

    -- the last bytes
    pub gave_all : (f : Finished) (contents : List (List ℕ)) → length r.words ≤ slots → AreEnded r.plan.link (take slots g.stream) g.made contents → f.held ≡ false → f.text.items ≡ slots_line slots → IsStriped (words_value r) (delivered (lane_names (words_value r).plan.out r.plan.link.lanes) contents f)
    gave_all f contents over ended held text =
        let s = r.plan.link in
        let all : slots ≡ length g.stream = all_carried s r.words g.stream g.stripes g.made slots g.count g.within over in
        let whole : take slots g.stream ≡ g.stream = take_all slots g.stream (omega (arith, all)) in
        record {
          stream = g.stream;
          stripes = g.stripes;
          status = ap held_status held;
          files = (contents, subst (λ (w : List Word). AreLaneFiles s w contents) whole (ended_files s (take slots g.stream) g.made contents g.limits carried_length ended), refl);
          text = text ∙ ap slots_line all;
        }
