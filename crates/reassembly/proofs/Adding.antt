-- Words that come one after another for an open packet.
use Rattle.std.proofs.Common.{ℕ, ◌≡◌, ◌+◌, ◌<◌, refl, sym, ap, ap₂, ◌∙◌, subst, Bool, true, ◌&&◌, nat_lt, List, [], ◌∷◌, ◌++◌, length, take, get_or, get_or-set_same, Option, None}
use Rattle.std.proofs.lemmas.List.{length-set, set-get_or, take_more}
use Rattle.cell_pool.specs.Stored.{bytes_at}
use Rattle.reassembly.specs.Folds.{are_kept, grown_by}
use Rattle.reassembly.specs.Packets.{Packets, grown, with_kept}
use Rattle.reassembly.proofs.Folds.{grown-more, kept-more}
use Rattle.reassembly.proofs.Room.{set_over}

-- this many of the words came, and whether all are kept
pub record Adding (old now : Packets) (place : ℕ) (words : List ℕ) (i : ℕ) (all : Bool) : Type 0 where
  pub state : now ≡ with_kept old place (grown_by old.greatest (bytes_at old.kept place) (take i words))
  pub kept : all ≡ are_kept old.greatest (bytes_at old.kept place) (take i words)

abbrev packets_of : ℕ → List (List ℕ) → Option (List ℕ) → Packets
packets_of greatest kept packet = record { greatest = greatest; kept = kept; packet = packet }

pub kept-same : (p : Packets) (place : ℕ) → p ≡ with_kept p place (bytes_at p.kept place)
kept-same p place = sym (ap (λ (ls : List (List ℕ)). packets_of p.greatest ls p.packet) (set-get_or p.kept place []))

pub adding-first : (old : Packets) (place : ℕ) (words : List ℕ) → Adding old old place words 0 true
adding-first old place words = record { state = sym (ap (λ (ls : List (List ℕ)). packets_of old.greatest ls old.packet) (set-get_or old.kept place [])); kept = refl }

module _ (old now : Packets) (place : ℕ) (words : List ℕ) (i : ℕ) (all : Bool) (inside : place < length old.kept) (adding : Adding old now place words i all) where
  abbrev pub so_far : List ℕ
  so_far = grown_by old.greatest (bytes_at old.kept place) (take i words)

  pub adding-place : place < length now.kept
  adding-place = subst (λ (p : Packets). place < length p.kept) (sym adding.state) (subst (λ n. place < n) (sym (length-set old.kept place so_far)) inside)

  pub adding-none : old.packet ≡ None → now.packet ≡ None
  adding-none h = ap (λ (p : Packets). p.packet) adding.state ∙ h

  bytes-now : bytes_at now.kept place ≡ so_far
  bytes-now = ap (λ (p : Packets). bytes_at p.kept place) adding.state ∙ get_or-set_same old.kept place so_far [] inside

  greatest-now : now.greatest ≡ old.greatest
  greatest-now = ap (λ (p : Packets). p.greatest) adding.state

  pub adding-more : (then : Packets) (x : ℕ) (one more : Bool) → i < length words → x ≡ get_or words i 0 →
      one ≡ nat_lt (length (bytes_at now.kept place)) now.greatest → then ≡ with_kept now place (grown now.greatest (bytes_at now.kept place) x) → more ≡ (all && one) → Adding old then place words (i + 1) more
  adding-more then x one more h read is next both =
      let words_then : take i words ++ x ∷ [] ≡ take (i + 1) words = ap (λ (y : ℕ). take i words ++ y ∷ []) read ∙ sym (take_more words i 0 h) in
      let bytes : grown now.greatest (bytes_at now.kept place) x ≡ grown_by old.greatest (bytes_at old.kept place) (take (i + 1) words) =
      ap₂ (λ (g : ℕ) (b : List ℕ). grown g b x) greatest-now bytes-now ∙ sym (grown-more old.greatest (take i words) (bytes_at old.kept place) x) ∙ ap (grown_by old.greatest (bytes_at old.kept place)) words_then in
      let short : nat_lt (length (bytes_at now.kept place)) now.greatest ≡ nat_lt (length so_far) old.greatest = ap₂ (λ (b : List ℕ) (g : ℕ). nat_lt (length b) g) bytes-now greatest-now in
      record {
        state = next
            ∙ ap (with_kept now place) bytes
            ∙ ap (λ (p : Packets). with_kept p place (grown_by old.greatest (bytes_at old.kept place) (take (i + 1) words))) adding.state
            ∙ ap (λ (ls : List (List ℕ)). packets_of old.greatest ls old.packet) (set_over old.kept place so_far (grown_by old.greatest (bytes_at old.kept place) (take (i + 1) words)));
        kept = both
            ∙ ap₂ (λ (a b : Bool). a && b) adding.kept (is ∙ short)
            ∙ sym (kept-more old.greatest (take i words) (bytes_at old.kept place) x)
            ∙ ap (are_kept old.greatest (bytes_at old.kept place)) words_then;
      }
