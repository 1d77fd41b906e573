-- What is delivered on a channel does not depend on places.
use Rattle.std.proofs.Common.{ℕ, ◌≡◌, refl, sym, ap, ap₂, ◌∙◌, Bool, ◌&&◌, ◌==◌, List, [], ◌∷◌, ◌++◌, filter, Option, Some, None, option_map, option_and_then, map}
use Rattle.std.proofs.lemmas.List.{map-append}
use Rattle.lk_base.specs.declared.position.Pos.{Pos}
use Rattle.lk_base.specs.Fields.{channel_number, has_burst, has_end}
use Rattle.control_words.specs.declared.fields.Eop.{Eop}
use Rattle.control_words.specs.declared.fields.Eop.TheVariants as eops
use Rattle.control_words.specs.ControlWord.{end_of}
use Rattle.std.specs.Prelude.{nat_le, length}
use Rattle.receive_model.specs.Lists.{last_of, parts_by, onto_first}
use Rattle.receive_model.specs.Positions.{numbered}
use Rattle.receive_model.specs.Stretches.{Verified}
use Rattle.receive_model.specs.Pieces.{Burst, Packet, begins, bursts, bytes_of, first_or, goes_on, is_of_channel, next_data, next_ends, next_of_last, packet_at, packet_before, packet_of, piece_words, pieces}
use Rattle.receive_model.specs.Events.{Setting, is_listed, piece_has_sop, is_ended, ended_event, ended_piece, ended_by}
use Rattle.receive_model.proofs.Cuts.{split}
use Rattle.lane_words.specs.GatheredLaws.{bytes_on}
use Rattle.lane_words.proofs.Delivered.{at_verified, told}

-- without its places
abbrev pub bare : Verified → Verified
bare v = record { at = numbered 0; number = v.number; data_before = v.data_before; opened_at = numbered 0 }

abbrev bare_burst : Burst → Burst
bare_burst b = record { at = numbered 0; number = b.number; next = option_map bare b.next }

abbrev bare_packet : Packet → Packet
bare_packet p = record { bytes = p.bytes; first = numbered 0; last = numbered 0 }

pub last_of-map : {A B : Type 0} (f : A → B) (xs : List A) → last_of (map f xs) ≡ option_map f (last_of xs)
last_of-map f [] = refl
last_of-map f (x ∷ []) = refl
last_of-map f (x ∷ y ∷ rest) = last_of-map f (y ∷ rest)

onto_first-map : {A B : Type 0} (f : A → B) (x : A) (ps : List (List A)) → onto_first (f x) (map (map f) ps) ≡ map (map f) (onto_first x ps)
onto_first-map f x [] = refl
onto_first-map f x (p ∷ ps) = refl

parts_by-map : {A B : Type 0} (f : A → B) (t : A → A → Bool) (u : B → B → Bool) → ((x y : A) → u (f x) (f y) ≡ t x y) → (xs : List A) → parts_by u (map f xs) ≡ map (map f) (parts_by t xs)
parts_by-map f t u h [] = refl
parts_by-map f t u h (x ∷ []) = refl
parts_by-map f t u h (x ∷ y ∷ rest) =
    rw (h x y, parts_by-map f t u h (y ∷ rest)) (split (t x y)
    (λ g. rw g (onto_first-map f x (parts_by t (y ∷ rest))))
    (λ g. rw g refl))

filter-map : {A B : Type 0} (f : A → B) (t : A → Bool) (u : B → Bool) → ((x : A) → u (f x) ≡ t x) → (xs : List A) → filter u (map f xs) ≡ map f (filter t xs)
filter-map f t u h [] = refl
filter-map f t u h (x ∷ rest) = rw (h x, filter-map f t u h rest) (split (t x) (λ g. rw g refl) (λ g. rw g refl))

bare_first : (run : List Verified) (behind : Option Verified) → first_or (map bare run) (option_map bare behind) ≡ option_map bare (first_or run behind)
bare_first [] behind = refl
bare_first (v ∷ run) behind = refl

bare_bursts : (run : List Verified) (behind : Option Verified) → bursts (map bare run) (option_map bare behind) ≡ map bare_burst (bursts run behind)
bare_bursts [] behind = refl
bare_bursts (v ∷ run) behind = rw (bare_first run behind, bare_bursts run behind) (split (has_burst v.number) (λ h. rw h refl) (λ h. rw h refl))

next_bare : (o : Option Verified) → next_ends (option_map bare o) ≡ next_ends o
next_bare None = refl
next_bare (Some v) = refl

data_bare : (o : Option Verified) → next_data (option_map bare o) ≡ next_data o
data_bare None = refl
data_bare (Some v) = refl

pieces_bare : (wide : Bool) (channel : ℕ) (run : List Verified) (behind : Option Verified) → pieces wide channel (map bare run) (option_map bare behind) ≡ map (map bare_burst) (pieces wide channel run behind)
pieces_bare wide channel run behind =
    ap (λ bs. parts_by goes_on (filter (is_of_channel wide channel) bs)) (bare_bursts run behind)
    ∙ ap (parts_by goes_on) (filter-map bare_burst (is_of_channel wide channel) (is_of_channel wide channel) (λ b. refl) (bursts run behind))
    ∙ parts_by-map bare_burst goes_on goes_on (λ b c. rw (next_bare b.next) refl) (filter (is_of_channel wide channel) (bursts run behind))

-- ---- a piece

last_next : (piece : List Burst) → next_of_last (map bare_burst piece) ≡ option_map bare (next_of_last piece)
last_next piece = ap (option_and_then (λ (b : Burst). b.next)) (last_of-map bare_burst piece) ∙ by (last_of piece)
  where
    by : (o : Option Burst) → option_and_then (λ (b : Burst). b.next) (option_map bare_burst o) ≡ option_map bare (option_and_then (λ (b : Burst). b.next) o)
    by None = refl
    by (Some b) = refl

words_bare : (piece : List Burst) → piece_words (map bare_burst piece) ≡ piece_words piece
words_bare [] = refl
words_bare (b ∷ piece) = ap₂ (λ xs ys. xs ++ ys) (data_bare b.next) (words_bare piece)

at_bare : (most : ℕ) (words : List ℕ) (first : Pos) (v : Verified) (end : Eop) → packet_at most words (numbered 0) (bare v) end ≡ option_map bare_packet (packet_at most words first v end)
at_bare most words first v eops.Going = refl
at_bare most words first v eops.Error = refl
at_bare most words first v (eops.End valid) = split (nat_le (length (bytes_of words valid)) most) (λ h. rw h refl) (λ h. rw h refl)

before_bare : (most : ℕ) (words : List ℕ) (first : Pos) (o : Option Verified) → packet_before most words (numbered 0) (option_map bare o) ≡ option_map bare_packet (packet_before most words first o)
before_bare most words first None = refl
before_bare most words first (Some v) = at_bare most words first v (end_of v.number)

packet_bare : (most : ℕ) (piece : List Burst) → packet_of most (map bare_burst piece) ≡ option_map bare_packet (packet_of most piece)
packet_bare most [] = refl
packet_bare most (b ∷ rest) = split (begins b)
    (λ h. rw h (ap₂ (λ ws o. packet_before most ws (numbered 0) o) (words_bare (b ∷ rest)) (last_next (b ∷ rest)) ∙ before_bare most (piece_words (b ∷ rest)) b.at (next_of_last (b ∷ rest))))
    (λ h. rw h refl)

sop_bare : (piece : List Burst) → piece_has_sop (map bare_burst piece) ≡ piece_has_sop piece
sop_bare [] = refl
sop_bare (b ∷ rest) = refl

ended_bare : (piece : List Burst) → is_ended (map bare_burst piece) ≡ is_ended piece
ended_bare piece = ap next_ends (last_next piece) ∙ next_bare (next_of_last piece)

event_bare : (channel other : ℕ) (next : Option Verified) (o : Option Packet) → bytes_on channel (ended_event other (option_map bare next) (option_map bare_packet o)) ≡ bytes_on channel (ended_event other next o)
event_bare channel other next None = refl
event_bare channel other next (Some p) = split (other == channel) (λ h. rw h refl) (λ h. rw h refl)

piece_bare : (s : Setting) (channel other : ℕ) (o : Option (List Burst)) → bytes_on channel (ended_piece s other (option_map (map bare_burst) o)) ≡ bytes_on channel (ended_piece s other o)
piece_bare s channel other None = refl
piece_bare s channel other (Some piece) =
    rw (ended_bare piece, sop_bare piece) (split (is_ended piece && piece_has_sop piece && is_listed s other)
    (λ h. rw h (ap₂ (λ n p. bytes_on channel (ended_event other n p)) (last_next piece) (packet_bare s.max_packet piece) ∙ event_bare channel other (next_of_last piece) (packet_of s.max_packet piece)))
    (λ h. rw h refl))

-- ---- a verified word, and all that is told

at_verified-bare : (s : Setting) (channel : ℕ) (run : List Verified) (v : Verified) → at_verified s channel (map bare run) (bare v) ≡ at_verified s channel run v
at_verified-bare s channel run v = ap (λ o. bytes_on channel (ended_by s (map bare run) (bare v) o)) (last_of-map bare run) ∙ by (last_of run)
  where
    by : (o : Option Verified) → bytes_on channel (ended_by s (map bare run) (bare v) (option_map bare o)) ≡ bytes_on channel (ended_by s run v o)
    by None = refl
    by (Some u) = split (has_burst u.number && has_end v.number)
        (λ h. rw h
        (ap (λ ps. bytes_on channel (ended_piece s (channel_number s.wide u.number) (last_of ps))) (pieces_bare s.wide (channel_number s.wide u.number) run (Some v))
        ∙ ap (λ o. bytes_on channel (ended_piece s (channel_number s.wide u.number) o)) (last_of-map (map bare_burst) (pieces s.wide (channel_number s.wide u.number) run (Some v)))
        ∙ piece_bare s channel (channel_number s.wide u.number) (last_of (pieces s.wide (channel_number s.wide u.number) run (Some v)))))
        (λ h. rw h refl)

pub told_bare : (s : Setting) (channel : ℕ) (run : List Verified) (signals : List (Option Verified)) → told s channel (map bare run) (map (option_map bare) signals) ≡ told s channel run signals
told_bare s channel run [] = refl
told_bare s channel run (None ∷ rest) = told_bare s channel [] rest
told_bare s channel run (Some v ∷ rest) =
    ap₂ (λ xs ys. xs ++ ys) (at_verified-bare s channel run v)
    (ap (λ r. told s channel r (map (option_map bare) rest)) (sym (map-append bare run (v ∷ []))) ∙ told_bare s channel (run ++ v ∷ []) rest)
