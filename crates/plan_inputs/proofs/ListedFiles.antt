-- Files that are told one by one, and what is read of them: for worked examples of whole plans.
use Rattle.std.proofs.Common.{◌≡◌, ℕ, ◌-◌, ◌<◌, ap, ◌∙◌, sym, subst, Bool, true, false, cond, All, List, [], ◌∷◌, ◌++◌, length, get_or, Option, Some, Result, Ok, nat_cmp}
use Rattle.std.specs.Prelude.{nat_lt}
use Rattle.std.specs.List.{AllByRecursion, list_all}
use Rattle.std.specs.Ordering.{eq_by_cmp}
use Rattle.std.specs.Cmp.Lexicographic.{slice_cmp, nat_list_cmp_total}
use Rattle.std.specs.FinMap.{find, from_entries, get-from_entries}
use Rattle.std.proofs.lemmas.Bool.{ltb-true}
use Rattle.std.proofs.lemmas.List.Sums.{AllPass-from_list_all}
use Rattle.lk_outside.specs.Files.{AreBytes, file}
use Rattle.pcap_files.specs.Capture.{capture_of}
use Rattle.link_plan.specs.Plan.{Listed}
use Rattle.run_stops.specs.Reading.{Refusal, behind, bytes_by, bytes_in}
use Rattle.plan_inputs.specs.Inputs.{on_channel, packets_by, packets_in}

-- what goes on with what was read
pub then_at : {A B : Type 0} (r : Result A Refusal) (x : A) (next : A → Result B Refusal) → r ≡ Ok x → behind r next ≡ next x
then_at r x next e = ap (λ q. behind q next) e

-- ---- of files that are told one by one

pub file_at : (entries : List (List ℕ × List ℕ)) (q : List ℕ) → file (from_entries entries) q ≡ find (slice_cmp nat_cmp) q entries
file_at entries q = get-from_entries nat_list_cmp_total entries q

-- the bytes of a file that is told
pub bytes_at : (entries : List (List ℕ × List ℕ)) (q bytes : List ℕ) (room : ℕ) → find (slice_cmp nat_cmp) q entries ≡ Some bytes → bytes_by q room (Some bytes) ≡ Ok bytes →
    bytes_in (from_entries entries) q room ≡ Ok bytes
bytes_at entries q bytes room there small = ap (bytes_by q room) (file_at entries q ∙ there) ∙ small

-- ---- files of bytes

all_small : (bytes : List ℕ) → list_all (λ (b : ℕ). nat_lt b 256) bytes ≡ true → All (λ b. b < 256) bytes
all_small bytes t = λ k d lt. ltb-true (get_or bytes k d) 256 (AllPass-from_list_all (λ (b : ℕ). nat_lt b 256) bytes t k d lt)

-- the files have bytes
abbrev pub HaveBytes : List (List ℕ × List ℕ) → Type 0
HaveBytes = AllByRecursion (λ (e : List ℕ × List ℕ). list_all (λ (b : ℕ). nat_lt b 256) e.1 ≡ true)

entry_bytes : (es : List (List ℕ × List ℕ)) (q bytes : List ℕ) → HaveBytes es → find (slice_cmp nat_cmp) q es ≡ Some bytes → All (λ b. b < 256) bytes
entry_bytes [] q bytes all e = absurd cc
entry_bytes (x ∷ es) q bytes all e = elim (eq_by_cmp (slice_cmp nat_cmp) q x.0) as (λ t. cond t (Some x.1) (find (slice_cmp nat_cmp) q es) ≡ Some bytes → All (λ b. b < 256) bytes) [
  | true ↦ λ is. (let same : x.1 ≡ bytes = cc in subst (λ (bs : List ℕ). All (λ b. b < 256) bs) same (all_small x.1 all.0))
  | false ↦ λ is. entry_bytes es q bytes all.1 is
] e

pub files_of_bytes : (es : List (List ℕ × List ℕ)) → HaveBytes es → AreBytes (from_entries es)
files_of_bytes es all q bytes e = entry_bytes es q bytes all (sym (get-from_entries nat_list_cmp_total es q) ∙ e)

-- ---- captures

-- a capture that is told is read as its packets, on its channel, before those of the channels after it
pub packets_read : (entries : List (List ℕ × List ℕ)) (name capture : List ℕ) (most room number : ℕ) (packets : List (List ℕ)) (more : List Listed) (rest : List (ℕ × List ℕ)) →
    find (slice_cmp nat_cmp) name entries ≡ Some capture → bytes_by name room (Some capture) ≡ Ok capture → capture_of capture most ≡ Ok packets →
    packets_in (from_entries entries) most (room - length capture) more ≡ Ok rest →
    packets_in (from_entries entries) most room (record { number = number; capture = Some name } ∷ more) ≡ Ok (on_channel number packets ++ rest)
unfolding packets_in
packets_read entries name capture most room number packets more rest there small read later =
    then_at (bytes_in (from_entries entries) name room) capture
    (λ bytes. behind (packets_by name (capture_of bytes most)) (λ ps. behind (packets_in (from_entries entries) most (room - length bytes) more) (λ x. Ok (on_channel number ps ++ x))))
    (bytes_at entries name capture room there small)
    ∙ then_at (packets_by name (capture_of capture most)) packets (λ ps. behind (packets_in (from_entries entries) most (room - length capture) more) (λ x. Ok (on_channel number ps ++ x)))
    (ap (packets_by name) read)
    ∙ then_at (packets_in (from_entries entries) most (room - length capture) more) rest (λ x. Ok (on_channel number packets ++ x)) later
