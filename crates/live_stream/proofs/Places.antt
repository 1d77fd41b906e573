-- Queues at their places in the order, by their channels.
use Rattle.std.proofs.Common.{◌≡◌, ◌≢◌, ℕ, zero, suc, ◌<◌, List, [], ◌∷◌, ◌++◌, length, take, drop, get_or, Contains, All, refl, sym, ap, ◌∙◌, arith}
use Rattle.std.specs.List.{remove}
use Rattle.std.proofs.Math.ListN.{set}
use Rattle.std.proofs.lemmas.List.{get_or-map, length-map, get_or_default, take-append-le, take_all}
use Rattle.std.proofs.lemmas.List.Elements.{All-cons}
use Rattle.live_stream.specs.Waiting.{channels_of}
use Rattle.live_stream.specs.declared.waiting.Waiting.{Waiting}

pub at_place : (turns : List Waiting) (k : ℕ) → k < length turns → (q : Waiting) × ((d : Waiting) → get_or turns k d ≡ q)
at_place [] k h = absurd (omega arith)
at_place (q ∷ turns) zero h = (q, λ d. refl)
at_place (p ∷ turns) (suc k) h = at_place turns k (omega arith)

pub as_many : (turns : List Waiting) → length (channels_of turns) ≡ length turns
as_many turns = length-map turns (λ q. q.channel)

-- the channel of the queue at a place
pub channel_at : (turns : List Waiting) (k : ℕ) (q : Waiting) → k < length turns → q ≡ get_or turns k q → get_or (channels_of turns) k 0 ≡ q.channel
channel_at turns k q below is = get_or-map (λ (p : Waiting). p.channel) turns k q 0 below ∙ ap (λ (p : Waiting). p.channel) (sym is)

-- a listed channel has a queue
pub queue_of : (turns : List Waiting) (c : ℕ) → Contains (channels_of turns) c → (k : ℕ) × (q : Waiting) × (k < length turns) × (q ≡ get_or turns k q) × (q.channel ≡ c)
queue_of turns c h =
    let n = as_many turns in
    let below : h.0 < length turns = omega (arith, h.1, n) in
    let there = at_place turns h.0 below in
    let is : there.0 ≡ get_or turns h.0 there.0 = sym (there.1 there.0) in
    (h.0, there.0, below, is, sym (channel_at turns h.0 there.0 below is) ∙ get_or_default (channels_of turns) h.0 0 c h.1 ∙ h.2)

pub refill : {X : Type 0} (n : ℕ) (xs ws : List X) → n ≡ length xs → length ws ≡ length xs → take n (ws ++ drop (length ws) xs) ≡ ws
refill n xs ws e f = take-append-le n ws (drop (length ws) xs) (omega arith) ∙ take_all n ws (omega arith)

-- ---- all but one

pub all_removed : {X : Type 0} (P : X → Type 0) (xs : List X) (at : ℕ) → at < length xs → ((k : ℕ) (d : X) → k < length xs → k ≢ at → P (get_or xs k d)) → All P (remove xs at)
all_removed P [] at h each = absurd (omega arith)
all_removed P (x ∷ xs) zero h each = λ k d l. each (suc k) d (omega (arith, l)) (λ e. let z : suc k ≡ 0 = e in omega arith)
all_removed P (x ∷ xs) (suc at) h each =
    All-cons P x (remove xs at) (each 0 x (omega arith) (λ e. let z : 0 ≡ suc at = e in omega arith))
    (all_removed P xs at (omega arith) (λ k d l ne. each (suc k) d (omega (arith, l)) (λ e. ne (let s : k ≡ at = omega (arith, e) in s))))

pub removed_set : {X : Type 0} (xs : List X) (at : ℕ) (y : X) → remove (set xs at y) at ≡ remove xs at
removed_set [] at y = refl
removed_set (x ∷ xs) zero y = refl
removed_set (x ∷ xs) (suc at) y = ap (λ zs. x ∷ zs) (removed_set xs at y)
