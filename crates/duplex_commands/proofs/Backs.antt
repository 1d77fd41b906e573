-- The rows with captures of end b, one after the other.
use Rattle.std.proofs.Common.{◌≡◌, ℕ, zero, suc, ◌+◌, ◌<◌, ◌≤◌, cond, List, [], ◌∷◌, length, map, drop, get_or, refl, sym, ap, ◌∙◌, subst, arith, Contains, Some, None, add-one}
use Rattle.std.proofs.lemmas.List.{drop_all}
use Rattle.std.proofs.Math.Seq.{drop-cons}
use Rattle.link_plan.proofs.OrderSorted.{listed-contains}
use Rattle.receive_model.proofs.Cuts.{split}
use Rattle.link_plan.specs.Plan.{Listed}
use Rattle.link_plan.specs.Listing.{is_listed, numbers_of}
use Rattle.link_plan.specs.Views.{listed_of}
use Rattle.link_plan.specs.declared.channel.ChannelRow.{ChannelRow}
use Rattle.plan_inputs.specs.Values.{AreOn}
use Rattle.plan_inputs.proofs.InputsRead.{same_numbers}
use Rattle.duplex_plan.specs.Duplex.{BackValue}
use Rattle.duplex_plan.specs.Views.{back_value}
use Rattle.duplex_plan.specs.declared.back.BackRow.{BackRow}
use Rattle.duplex_commands.specs.Reading.{first_unlisted, backs}

pub next_row : (numbers : List ℕ) (back : List BackRow) (i : ℕ) (row : BackRow) → i < length back → row ≡ get_or back i row
    → first_unlisted numbers (map back_value (drop i back)) ≡ cond (is_listed numbers row.channel) (first_unlisted numbers (map back_value (drop (i + 1) back))) (Some row.row)
unfolding first_unlisted
next_row numbers back i row lt is =
    let d : drop i back ≡ get_or back i row ∷ drop (i + 1) back = rw (add-one, drop-cons back i row lt) refl in
    ap (λ (rows : List BackRow). first_unlisted numbers (map back_value rows)) (d ∙ ap (λ (r : BackRow). r ∷ drop (i + 1) back) (sym is))

pub no_row : (numbers : List ℕ) (back : List BackRow) (i : ℕ) → length back ≤ i → first_unlisted numbers (map back_value (drop i back)) ≡ None
unfolding first_unlisted
no_row numbers back i h = ap (λ (rows : List BackRow). first_unlisted numbers (map back_value rows)) (drop_all i back h)

-- ---- all channels of end b are listed

all_listed : (numbers : List ℕ) (back : List BackValue) → first_unlisted numbers back ≡ None → (n : ℕ) → Contains (map (λ (b : BackValue). b.channel) back) n → Contains numbers n
unfolding first_unlisted
all_listed numbers [] e n (k, lt, is) = absurd (omega arith)
all_listed numbers (b ∷ back) e n (zero, lt, is) = split (is_listed numbers b.channel)
    (λ h. subst (Contains numbers) is (listed-contains numbers b.channel h))
    (λ h. let none : Some b.row ≡ None = rw h at e in cc)
all_listed numbers (b ∷ back) e n (suc k, lt, is) = split (is_listed numbers b.channel)
    (λ h. all_listed numbers back (rw h at e) n (k, omega arith, is))
    (λ h. let none : Some b.row ≡ None = rw h at e in cc)

channels_back : (back : List BackValue) → map (λ (c : Listed). c.number) (backs back) ≡ map (λ (b : BackValue). b.channel) back
channels_back [] = refl
channels_back (b ∷ back) = ap (λ (ns : List ℕ). b.channel ∷ ns) (channels_back back)

-- so the packets of their captures are on listed channels
pub back_on : (numbers : List ℕ) (rows : List ChannelRow) (back : List BackValue) (packets : List (ℕ × List ℕ)) → map listed_of rows ≡ backs back → first_unlisted numbers back ≡ None → AreOn (numbers_of rows) packets → AreOn numbers packets
back_on numbers rows back packets are none on k d lt =
    let same : numbers_of rows ≡ map (λ (b : BackValue). b.channel) back = same_numbers rows ∙ ap (map (λ (c : Listed). c.number)) are ∙ channels_back back in
    all_listed numbers back none (get_or packets k d).0 (subst (λ (ns : List ℕ). Contains ns (get_or packets k d).0) same (on k d lt))
