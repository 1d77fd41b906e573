-- Packets that were given are the first of those that came, and those that came in fewer slots are the first of those of more.
use Rattle.std.proofs.Common.{◌≡◌, ℕ, ◌-◌, ◌≤◌, false, List, [], ◌∷◌, ◌++◌, length, map, take, drop, refl, sym, ap, ◌∙◌, subst, append_assoc, append-nil, arith, Some, None, if◌then◌else◌, ◌==◌}
use Rattle.std.specs.List.{cons_option, AllByRecursion}
use Rattle.std.proofs.lemmas.List.{map-append, take-take, take-append-drop}
use Rattle.lk_base.specs.Words.{as_sent}
use Rattle.lk_base.specs.Limits.{longest_packet}
use Rattle.lk_base.specs.declared.word.Word.{Word}
use Rattle.lk_base.specs.declared.word.RxWord.{RxWord}
use Rattle.lk_base.specs.declared.word.Aligned.{Aligned}
use Rattle.lk_base.specs.declared.word.Aligned.TheVariants as aligned
use Rattle.lk_base.specs.Positions.{words_from}
use Rattle.receive_model.specs.Positions.{numbered}
use Rattle.receive_model.specs.Pieces.{Packet}
use Rattle.receive_model.specs.Events.{Event, Setting, Delivered, Dropped, FaultSpan, Flow, delivered, word_events}
use Rattle.reassembly.specs.OutputLaws.{HasSize, IsOfSize}
use Rattle.reassembly.specs.SoFar.{outputs_so_far}
use Rattle.reassembly.specs.States.{NothingWaits, event_of, waiting_events}
use Rattle.reassembly.specs.declared.out.Out.{Out}
use Rattle.reassembly.proofs.SoFarHold.{outputs_stay, words_come_in_order}
use Rattle.reassembly.proofs.PacketSizes.{packets_fit}
use Rattle.duplex_model.specs.DuplexRun.{Settings}
use Rattle.duplex_model.specs.Came.{came}
use Rattle.duplex.specs.Inboxes.{packets_in, on_channel, Gave, GaveAll}
use Rattle.duplex.specs.declared.inbox.Inbox.{Inbox}
use Rattle.receive_model.proofs.EventPackets.{delivered-append}
use Rattle.duplex.proofs.Given.{of_channel, outputs_came}
use Rattle.receipts.specs.Received.{bytes_of, packets_on}
use Rattle.duplex_commands.specs.Captures.{outputs_of}
use Rattle.duplex_commands.specs.Slots.{AreFirst}

-- ---- packets by channel

got_delivered : (channel : ℕ) (got : List (ℕ × Packet)) → delivered channel (outputs_of got) ≡ on_channel channel got
got_delivered channel [] = refl
got_delivered channel (p ∷ rest) = ap (cons_option (if p.0 == channel then Some p.1 else None)) (got_delivered channel rest)

pub got_on : (channel : ℕ) (got : List (ℕ × Packet)) → packets_on channel (outputs_of got) ≡ bytes_of (on_channel channel got)
got_on channel got = ap bytes_of (got_delivered channel got)

pub one_more : (got : List (ℕ × Packet)) (channel : ℕ) (packet : Packet) → outputs_of (got ++ (channel, packet) ∷ []) ≡ outputs_of got ++ Delivered channel packet ∷ []
one_more got channel packet = map-append (λ (p : ℕ × Packet). Delivered p.0 p.1) got ((channel, packet) ∷ [])

-- ---- those that were given

pub are_first : (i : Inbox) (settings : Settings) (setting : Setting) (sent : List Word) (slots : ℕ) (got : List (ℕ × Packet)) → Gave i setting (take (slots - settings.delay) sent) got → AreFirst settings setting sent slots got
are_first i settings setting sent slots got g channel =
    let words : List RxWord = map as_sent (take (slots - settings.delay) sent) in
    let waiting : List Event = waiting_events i.reassembly in (
      delivered channel waiting,
      sym (outputs_came setting channel words) ∙ ap (delivered channel) (sym g.stands.outputs) ∙ delivered-append channel g.given waiting
          ∙ ap (λ (ps : List Packet). ps ++ delivered channel waiting) (sym (of_channel channel g.given) ∙ ap (on_channel channel) g.got_is),
    )

-- nothing waits, so all were given
pub all_given : (i : Inbox) (setting : Setting) (arrived : List Word) (got : List (ℕ × Packet)) → NothingWaits i.reassembly → Gave i setting arrived got → GaveAll setting arrived got
all_given i setting arrived got none g =
    let all : g.given ≡ outputs_so_far setting (words_from 0 0 (map as_sent arrived)) false =
    sym (append-nil g.given) ∙ ap (λ (outs : List Out). g.given ++ map (event_of i.reassembly.packet) outs) (sym none.0) ∙ g.stands.outputs in
    sym g.got_is ∙ ap packets_in all

-- ---- their sizes

abbrev Sized : ℕ → List (ℕ × Packet) → Type 0
Sized most got = AllByRecursion (λ (p : ℕ × Packet). HasSize most p.1.bytes) got

front_sized : (most : ℕ) (xs ys : List Event) → AllByRecursion (IsOfSize most) (xs ++ ys) → AllByRecursion (IsOfSize most) xs
front_sized most [] ys h = tt
front_sized most (x ∷ xs) ys h = (h.0, front_sized most xs ys h.1)

packets_sized : (most : ℕ) (xs : List Event) → AllByRecursion (IsOfSize most) xs → Sized most (packets_in xs)
packets_sized most [] h = tt
packets_sized most (Delivered channel packet ∷ xs) h = (h.0, packets_sized most xs h.1)
packets_sized most (Dropped channel why ∷ xs) h = packets_sized most xs h.1
packets_sized most (FaultSpan span ∷ xs) h = packets_sized most xs h.1
packets_sized most (Flow at word ∷ xs) h = packets_sized most xs h.1

last_sized : (most : ℕ) (got : List (ℕ × Packet)) (p : ℕ × Packet) → Sized most (got ++ p ∷ []) → HasSize most p.1.bytes
last_sized most [] p h = h.0
last_sized most (x ∷ got) p h = last_sized most got p h.1

-- a packet that was given can be written
pub packet_fits : (i : Inbox) (setting : Setting) (arrived : List Word) (got : List (ℕ × Packet)) (p : ℕ × Packet) → setting.max_packet ≤ longest_packet → Gave i setting arrived (got ++ p ∷ []) → HasSize longest_packet p.1.bytes
packet_fits i setting arrived got p fits g =
    let most : ℕ = setting.max_packet in
    let given : AllByRecursion (IsOfSize most) g.given = front_sized most g.given (waiting_events i.reassembly)
    (subst (λ (es : List Event). AllByRecursion (IsOfSize most) es) (sym g.stands.outputs) (packets_fit setting (words_from 0 0 (map as_sent arrived)) false)) in
    let sized : HasSize most p.1.bytes = last_sized most got p (subst (λ (ps : List (ℕ × Packet)). Sized most ps) g.got_is (packets_sized most g.given given)) in
    record { some = sized.some; fits = at_most (length p.1.bytes) most longest_packet sized.fits fits }
  where
    at_most : (n m k : ℕ) → n ≤ m → m ≤ k → n ≤ k
    at_most n m k a b = omega arith

-- ---- more slots

words_grow : (words more : List RxWord) → (rest : List Aligned) × (words_from 0 0 (words ++ more) ≡ words_from 0 0 words ++ rest)
words_grow words [] = ([], ap (words_from 0 0) (append-nil words) ∙ sym (append-nil (words_from 0 0 words)))
words_grow words (word ∷ more) =
    let next = words_grow (words ++ word ∷ []) more in
    let item : Aligned = aligned.Word (numbered (length words)) word in (
      item ∷ next.0,
      ap (words_from 0 0) (sym (append_assoc words (word ∷ []) more)) ∙ next.1 ∙ ap (λ (ps : List Aligned). ps ++ next.0) ((words_come_in_order words).next word)
          ∙ append_assoc (words_from 0 0 words) (item ∷ []) next.0,
    )

words_deliver : (setting : Setting) (channel : ℕ) (words more : List RxWord) → (rest : List Packet) × (delivered channel (word_events setting (words ++ more)) ≡ delivered channel (word_events setting words) ++ rest)
words_deliver setting channel words more =
    let grown = words_grow words more in
    let later = (outputs_stay setting (words_from 0 0 words) grown.0).0 in (
      delivered channel later.0,
      sym (outputs_came setting channel (words ++ more)) ∙ ap (λ put. delivered channel (outputs_so_far setting put false)) grown.1 ∙ ap (delivered channel) later.1
          ∙ delivered-append channel (outputs_so_far setting (words_from 0 0 words) false) later.0 ∙ ap (λ (ps : List Packet). ps ++ delivered channel later.0) (outputs_came setting channel words),
    )

-- what came in the first slots of a run is the first of what came in more
pub came_more : (settings : Settings) (setting : Setting) (sent : List Word) (fewer slots channel : ℕ) → fewer ≤ slots → (rest : List Packet) × (came settings setting sent channel slots ≡ came settings setting (take fewer sent) channel fewer ++ rest)
came_more settings setting sent fewer slots channel le =
    let k : ℕ = fewer - settings.delay in
    let n : ℕ = slots - settings.delay in
    let first : List Word = take k sent in
    let behind : List Word = drop k (take n sent) in
    let front : take k (take fewer sent) ≡ first = take-take k fewer sent (omega arith) in
    let whole : take n sent ≡ first ++ behind = sym (take-append-drop k (take n sent)) ∙ ap (λ (ws : List Word). ws ++ behind) (take-take k n sent (omega (arith, le))) in
    let more = words_deliver setting channel (map as_sent first) (map as_sent behind) in (
      more.0,
      ap (λ (ws : List Word). delivered channel (word_events setting (map as_sent ws))) whole ∙ ap (λ ws. delivered channel (word_events setting ws)) (map-append as_sent first behind) ∙ more.1
          ∙ ap (λ (ws : List Word). delivered channel (word_events setting (map as_sent ws)) ++ more.0) (sym front),
    )
