-- What the rules see of the words before a place: the same, whether or not idles stand before these words.
use Rattle.std.proofs.Common.{ℕ, suc, ◌≡◌, Bool, not, cond, true, false, List, [], ◌∷◌, ◌++◌, Some, None, Option, refl, sym, ap}
use Rattle.std.specs.Option.{option_map}
use Rattle.std.specs.List.{list_any, list_all}
use Rattle.std.proofs.lemmas.Bool.{and_parts}
use Rattle.lk_base.specs.Fields.{is_control_word}
use Rattle.lk_base.specs.Words.{is_bad}
use Rattle.lk_base.specs.declared.word.RxWord.{RxWord}
use Rattle.lk_base.specs.declared.word.RxWord.TheVariants.{Data, Control, Bad}
use Rattle.receive_model.proofs.Cuts.{split}
use Rattle.word_rules.specs.Places.{is_burst_word, known, since_control, data_before, burst_before, follows_bad, words_since_burst}
use Rattle.word_rules.specs.Bursts.{bursts_from}
use Rattle.word_rules.specs.Rules.{breaks_data, accepted_before}
use Rattle.word_rules.specs.declared.burst.Burst.{Burst}
use Rattle.gathered_laws.specs.LaterWords.{is_idle}

-- the words g are the words e after some idles; each list has its latest word first
pub record Alike (e g : List RxWord) : Type 0 where
  pub first : breaks_data g ≡ breaks_data e
  pub data_words : data_before g ≡ data_before e
  pub burst : burst_before g ≡ burst_before e
  pub since : since_control g ≡ since_control e
  pub follows : follows_bad g ≡ follows_bad e
  pub between : words_since_burst (known g) ≡ words_since_burst (known e)
  pub bursts : (x n : ℕ) → bursts_from x n (known g) ≡ bursts_from x n (known e)
  pub bad : list_any is_bad g ≡ list_any is_bad e
  -- more accepted words stand before
  pub more : List ℕ
  pub accepted : accepted_before g ≡ accepted_before e ++ more

-- ---- idles

no_burst : (x : ℕ) → is_idle (Control x) ≡ true → is_burst_word x ≡ false
no_burst x h = by (is_burst_word x) h
  where
    by : (b : Bool) → not b ≡ true → b ≡ false
    by true h = sym h
    by false h = refl

idles_between : (f : List RxWord) → list_all is_idle f ≡ true → words_since_burst (known f) ≡ None
idles_between [] h = refl
idles_between (Data x ∷ f) h = cc
idles_between (Bad ∷ f) h = cc
idles_between (Control x ∷ f) h =
    let two = and_parts (is_idle (Control x)) (list_all is_idle f) h in
    let none = no_burst x two.0 in
    rw (none, idles_between f two.1) refl

idles_bursts : (f : List RxWord) (x n : ℕ) → list_all is_idle f ≡ true → bursts_from x n (known f) ≡ []
idles_bursts [] x n h = refl
idles_bursts (Data y ∷ f) x n h = cc
idles_bursts (Bad ∷ f) x n h = cc
idles_bursts (Control y ∷ f) x n h =
    let two = and_parts (is_idle (Control y)) (list_all is_idle f) h in
    let none = no_burst y two.0 in
    rw none (idles_bursts f y 0 two.1)

idles_good : (f : List RxWord) → list_all is_idle f ≡ true → list_any is_bad f ≡ false
idles_good [] h = refl
idles_good (Data y ∷ f) h = cc
idles_good (Bad ∷ f) h = cc
idles_good (Control y ∷ f) h = let two = and_parts (is_idle (Control y)) (list_all is_idle f) h in idles_good f two.1

idles_alone : (f : List RxWord) → list_all is_idle f ≡ true → Alike [] f
idles_alone [] h = record { first = refl; data_words = refl; burst = refl; since = refl; follows = refl; between = refl; bursts = λ x n. refl; bad = refl; more = []; accepted = refl }
idles_alone (Data x ∷ f) h = cc
idles_alone (Bad ∷ f) h = cc
idles_alone (Control y ∷ f) h =
    let two = and_parts (is_idle (Control y)) (list_all is_idle f) h in
    let none = no_burst y two.0 in
    record {
      first = two.0;
      data_words = refl;
      burst = rw none refl;
      since = refl;
      follows = refl;
      between = idles_between (Control y ∷ f) h;
      bursts = λ x n. idles_bursts (Control y ∷ f) x n h;
      bad = idles_good (Control y ∷ f) h;
      more = accepted_before (Control y ∷ f);
      accepted = refl;
    }

-- ---- a word more

data_more : (x : ℕ) (e g : List RxWord) → Alike e g → Alike (Data x ∷ e) (Data x ∷ g)
data_more x e g a = record {
  first = refl;
  data_words = ap (λ (ds : List ℕ). x ∷ ds) a.data_words;
  burst = a.burst;
  since = ap (λ (ws : List RxWord). Data x ∷ ws) a.since;
  follows = a.follows;
  between = ap (option_map suc) a.between;
  bursts = λ y n. a.bursts y (suc n);
  bad = a.bad;
  more = a.more;
  accepted = a.accepted;
}

control_more : (x : ℕ) (e g : List RxWord) → Alike e g → Alike (Control x ∷ e) (Control x ∷ g)
control_more x e g a = record {
  first = refl;
  data_words = refl;
  burst = refl;
  since = refl;
  follows = refl;
  between = ap (λ (o : Option ℕ). cond (is_burst_word x) (Some 0) (option_map suc o)) a.between;
  bursts = λ y n. ap (λ (bs : List Burst). cond (is_burst_word x) (record { word = x; size = n; closer = y } ∷ bs) bs) (a.bursts x 0);
  bad = a.bad;
  more = a.more;
  accepted = split (is_control_word x)
      (λ t. rw t (ap (λ (cs : List ℕ). x ∷ cs) a.accepted))
      (λ t. rw t a.accepted);
}

bad_more : (e g : List RxWord) → Alike e g → Alike (Bad ∷ e) (Bad ∷ g)
bad_more e g a = record {
  first = refl;
  data_words = refl;
  burst = refl;
  since = ap (λ (ws : List RxWord). Bad ∷ ws) a.since;
  follows = refl;
  between = refl;
  bursts = λ y n. refl;
  bad = refl;
  more = [];
  accepted = refl;
}

-- the words e, and before them idles
pub after_idles : (e f : List RxWord) → list_all is_idle f ≡ true → Alike e (e ++ f)
after_idles [] f h = idles_alone f h
after_idles (Data x ∷ e) f h = data_more x e (e ++ f) (after_idles e f h)
after_idles (Control x ∷ e) f h = control_more x e (e ++ f) (after_idles e f h)
after_idles (Bad ∷ e) f h = bad_more e (e ++ f) (after_idles e f h)
