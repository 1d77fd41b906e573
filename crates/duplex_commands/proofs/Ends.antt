-- What a run that was stopped, or that is whole, leaves of its outcome.
use Rattle.std.proofs.Common.{◌≡◌, ℕ, ◌≤◌, ◌<◌, false, List, [], ◌∷◌, ◌++◌, length, map, take, get_or, sum_by, refl, sym, ap, ap₂, ◌∙◌, subst, append_assoc, arith, Option, Ok, Err, All, Contains}
use Rattle.std.specs.List.{flat_map}
use Rattle.std.proofs.lemmas.Grind.{flat_map-append}
use Rattle.std.proofs.lemmas.List.{map-append, length-map, get_or-map}
use Rattle.std.proofs.lemmas.List.Elements.{Contains-get_or}
use Rattle.lk_base.specs.declared.word.Word.{Word}
use Rattle.lk_outside.specs.Files.{Files, Told}
use Rattle.receive_model.specs.Pieces.{Packet}
use Rattle.pcap_files.specs.Written.{header_bytes, record_bytes, capture_bytes}
use Rattle.link_reports.specs.Lines.{end_line, slots_line}
use Rattle.duplex_model.specs.DuplexRun.{Settings, Ends, IsRunOf, IsDuplexRun, peak}
use Rattle.duplex_model.specs.Came.{came}
use Rattle.duplex_model.proofs.OneRun.{one_run}
use Rattle.duplex_model.proofs.Prefixes.{front_run}
use Rattle.duplex.specs.Inboxes.{on_channel}
use Rattle.duplex.specs.Duplexes.{IsGiven}
use Rattle.duplex.specs.declared.duplex.Duplex.{Duplex}
use Rattle.duplex.proofs.Opens.{is_run}
use Rattle.duplex.proofs.Given.{all_came}
use Rattle.run_stops.specs.declared.stop.Stop.{Stop}
use Rattle.run_stops.specs.declared.stop.Stop.TheVariants as stop
use Rattle.run_shell.specs.declared.finished.Finished.{Finished}
use Rattle.run_shell.specs.Outcome.{Output, Outcome, Holds, HoldsPart}
use Rattle.run_stops.specs.Stops.{IsOfStore, StoreStops}
use Rattle.run_shell.specs.Ends.{held_status}
use Rattle.run_shell.specs.Outputs.{outs, open_names}
use Rattle.run_shell.specs.Writing.{Writes, Begin}
use Rattle.run_shell.proofs.Writing.{stop_writes, done_writes}
use Rattle.receipts.specs.Received.{bytes_of, packets_on}
use Rattle.pcap_files.specs.Names.{capture_name}
use Rattle.receipts.specs.Receipts.{capture_of, counts_of}
use Rattle.receipts.specs.declared.receipt.ChannelReceipt.{ChannelReceipt}
use Rattle.receipts.proofs.Putting.{open_part}
use Rattle.duplex_commands.specs.Names.{prefix_of_a, prefix_of_b}
use Rattle.duplex_commands.specs.declared.captures.Captures.{Captures}
use Rattle.duplex_commands.specs.Captures.{Beginning, names_of, outputs_of, end_given, given_of}
use Rattle.duplex_commands.specs.Slots.{IsAt, AreFirst, IsCut}
use Rattle.duplex_commands.specs.Ended as ended
use Rattle.duplex_commands.specs.Ended.{files_under, text_under, counted_line, run_text, run_outcome, IsEnded}
use Rattle.duplex_commands.proofs.Begins.{map_begins, all_begin}
use Rattle.duplex_commands.proofs.Came.{all_given, are_first, came_more, got_on}

-- ---- files by channel

files_outs : (name content : ℕ → List ℕ) (channels : List ℕ) (ns cs : List (List ℕ)) →
    map (λ channel. record { name = name channel; content = content channel }) channels ++ outs ns cs ≡ outs (map name channels ++ ns) (map content channels ++ cs)
files_outs name content [] ns cs = refl
files_outs name content (c ∷ channels) ns cs = ap (λ (os : List Output). record { name = name c; content = content c } ∷ os) (files_outs name content channels ns cs)

only_outs : (name content : ℕ → List ℕ) (channels : List ℕ) → map (λ channel. record { name = name channel; content = content channel }) channels ≡ outs (map name channels) (map content channels)
only_outs name content [] = refl
only_outs name content (c ∷ channels) = ap (λ (os : List Output). record { name = name c; content = content c } ∷ os) (only_outs name content channels)

map_same : {A : Type 0} (f g : ℕ → A) → ((channel : ℕ) → f channel ≡ g channel) → (channels : List ℕ) → map f channels ≡ map g channels
map_same f g same [] = refl
map_same f g same (c ∷ channels) = ap₂ (λ x xs. x ∷ xs) (same c) (map_same f g same channels)

flat_same : (f : ChannelReceipt → List ℕ) (counts : ℕ → ChannelReceipt) (g : ℕ → List ℕ) → ((channel : ℕ) → f (counts channel) ≡ g channel) → (channels : List ℕ) → flat_map f (map counts channels) ≡ flat_map g channels
flat_same f counts g same [] = refl
flat_same f counts g same (c ∷ channels) = ap₂ (λ (x xs : List ℕ). x ++ xs) (same c) (flat_same f counts g same channels)

capture_begins : (link_type : ℕ) (ps rest : List (List ℕ)) → capture_bytes link_type (ps ++ rest) ≡ capture_bytes link_type ps ++ flat_map record_bytes rest
capture_begins link_type ps rest =
    ap (λ (bs : List ℕ). header_bytes link_type ++ bs) (flat_map-append record_bytes ps rest) ∙ sym (append_assoc (header_bytes link_type) (flat_map record_bytes ps) (flat_map record_bytes rest))

-- ---- the outcome of a run

module _ (b : Beginning) (settings : Settings) where
  abbrev content_of : List Word → ℕ → List ℕ
  content_of sent channel = capture_bytes b.link_type (ended.packets_on b settings sent channel)

  abbrev contents : List Word → List Word → List (List ℕ)
  contents from_a from_b = map (content_of from_b) b.setting.channels ++ map (content_of from_a) b.setting.channels

  run_files : (from_a from_b : List Word) → (run_outcome b settings from_a from_b).files ≡ outs (names_of b) (contents from_a from_b)
  run_files from_a from_b =
      ap (λ (os : List Output). files_under b settings (prefix_of_a b.out) from_b ++ os) (only_outs (capture_name (prefix_of_b b.out)) (content_of from_a) b.setting.channels)
      ∙ files_outs (capture_name (prefix_of_a b.out)) (content_of from_b) b.setting.channels (map (capture_name (prefix_of_b b.out)) b.setting.channels) (map (content_of from_a) b.setting.channels)

  -- ---- a run that was stopped

  -- the captures of the first packets of fewer slots begin those of the whole run
  first_begin : (sent front : List Word) (fewer : ℕ) (got : List (ℕ × Packet)) (channel : ℕ) → fewer ≤ settings.slots → front ≡ take fewer sent → AreFirst settings b.setting front fewer got
      → (rest : List ℕ) × (content_of sent channel ≡ capture_of b.link_type (outputs_of got) channel ++ rest)
  first_begin sent front fewer got channel le is first =
      let more = came_more settings b.setting sent fewer settings.slots channel le in
      let some = first channel in
      let all : came settings b.setting sent channel settings.slots ≡ on_channel channel got ++ (some.0 ++ more.0) =
      more.1 ∙ ap (λ (ps : List Packet). ps ++ more.0) (ap (λ (ws : List Word). came settings b.setting ws channel fewer) (sym is) ∙ some.1) ∙ append_assoc (on_channel channel got) some.0 more.0 in
      let bytes : ended.packets_on b settings sent channel ≡ packets_on channel (outputs_of got) ++ bytes_of (some.0 ++ more.0) =
      ap bytes_of all ∙ map-append (λ (p : Packet). p.bytes) (on_channel channel got) (some.0 ++ more.0) ∙ ap (λ (ps : List (List ℕ)). ps ++ bytes_of (some.0 ++ more.0)) (sym (got_on channel got)) in
      (flat_map record_bytes (bytes_of (some.0 ++ more.0)), ap (capture_bytes b.link_type) bytes ∙ capture_begins b.link_type (packets_on channel (outputs_of got)) (bytes_of (some.0 ++ more.0)))

  cut_begins : (ends : Ends) (most : ℕ) (s : Stop) (now : Option Files) → most ≤ settings.slots → (h : IsCut b settings ends most s now) (o : Outcome) → IsEnded b settings ends o → Begin (names_of b) (given_of b h.got_a h.got_b) o.files
  cut_begins ends most s now le h o (from_a, from_b, run, e) =
      let low : h.slots ≤ settings.slots = (let w = h.within in omega (arith, w, le)) in
      let front : IsRunOf settings ends h.slots (take h.slots from_a) (take h.slots from_b) = front_run settings ends h.slots settings.slots from_a from_b low run in
      let same = one_run settings ends h.slots h.from_a h.from_b (take h.slots from_a) (take h.slots from_b) h.keeps h.run front in (
        contents from_a from_b,
        ap (λ (p : Outcome). p.files) e ∙ run_files from_a from_b,
        map_begins (capture_of b.link_type (outputs_of h.got_a)) (content_of from_b) (λ channel. first_begin from_b h.from_b h.slots h.got_a channel low same.1 h.first_a) b.setting.channels (end_given b h.got_b) (map (content_of from_a) b.setting.channels)
            (all_begin (capture_of b.link_type (outputs_of h.got_b)) (content_of from_a) (λ channel. first_begin from_a h.from_a h.slots h.got_b channel low same.0 h.first_b) b.setting.channels),
      )

  pub cut_writes : (ends : Ends) (most : ℕ) (s : Stop) (now : Option Files) → most ≤ settings.slots → IsCut b settings ends most s now → Writes (IsEnded b settings ends) (names_of b) (Err s) b.was now
  cut_writes ends most s now le h = stop_writes (IsEnded b settings ends) (names_of b) (Unit {0}) s (given_of b h.got_a h.got_b) b.was now (cut_begins ends most s now le h) h.by_store h.part

  -- ---- a run that is whole

  module _ (ends : Ends) (slots : ℕ) (d : Duplex) (c : Captures) (now : Option Files) (at : IsAt b settings ends slots d c now) where
    -- it was stopped here, and a part of what was given stands
    pub cut_here : (s : Stop) (later : Option Files) → IsOfStore (Contains (names_of b)) s → Told b.was later (HoldsPart (outs (names_of b) (given_of b at.got_a at.got_b))) → IsCut b settings ends slots s later
    cut_here s later store part = record {
      keeps = at.runs.keeps;
      by_store = store;
      slots = slots;
      within = omega arith;
      from_a = at.from_a;
      from_b = at.from_b;
      run = is_run d settings ends slots at.from_a at.from_b at.runs;
      got_a = at.got_a;
      got_b = at.got_b;
      first_a = are_first d.inbox_a settings b.setting at.from_b slots at.got_a at.has.at_a;
      first_b = are_first d.inbox_b settings b.setting at.from_a slots at.got_b at.has.at_b;
      part = part;
    }

    -- memory ran out
    pub memory_cut : IsCut b settings ends slots stop.OutOfMemory now
    memory_cut = cut_here stop.OutOfMemory now tt
        (subst (λ ns. Told b.was now (HoldsPart (outs ns (given_of b at.got_a at.got_b)))) at.kept.names (open_part c.outputs (given_of b at.got_a at.got_b) b.was now at.kept.given))

    -- the rests could not all be appended
    pub store_cut : (s : Stop) (later : Option Files) → StoreStops {T = Unit {0}} (Contains (open_names c.outputs)) (Err s) → Told b.was later (HoldsPart (outs (open_names c.outputs) (given_of b at.got_a at.got_b))) → IsCut b settings ends slots s later
    store_cut s later store part = cut_here s later
        (subst (λ ns. StoreStops {T = Unit {0}} (Contains ns) (Err s)) at.kept.names store)
        (subst (λ ns. Told b.was later (HoldsPart (outs ns (given_of b at.got_a at.got_b)))) at.kept.names part)

    module _ (given : IsGiven d) where
      all_a : (channel : ℕ) → packets_on channel (outputs_of at.got_a) ≡ bytes_of (came settings b.setting at.from_b channel slots)
      all_a channel = got_on channel at.got_a ∙ ap bytes_of (all_came settings b.setting at.from_b channel slots at.got_a (all_given d.inbox_a b.setting _ at.got_a given.0 at.has.at_a))

      all_b : (channel : ℕ) → packets_on channel (outputs_of at.got_b) ≡ bytes_of (came settings b.setting at.from_a channel slots)
      all_b channel = got_on channel at.got_b ∙ ap bytes_of (all_came settings b.setting at.from_a channel slots at.got_b (all_given d.inbox_b b.setting _ at.got_b given.1 at.has.at_b))

      module _ (last : settings.slots ≡ slots) where
        on_a : (channel : ℕ) → packets_on channel (outputs_of at.got_a) ≡ ended.packets_on b settings at.from_b channel
        on_a channel = all_a channel ∙ ap (λ n. bytes_of (came settings b.setting at.from_b channel n)) (sym last)

        on_b : (channel : ℕ) → packets_on channel (outputs_of at.got_b) ≡ ended.packets_on b settings at.from_a channel
        on_b channel = all_b channel ∙ ap (λ n. bytes_of (came settings b.setting at.from_a channel n)) (sym last)

        whole : given_of b at.got_a at.got_b ≡ contents at.from_a at.from_b
        whole =
            ap₂ (λ (xs ys : List (List ℕ)). xs ++ ys)
            (map_same (capture_of b.link_type (outputs_of at.got_a)) (content_of at.from_b) (λ channel. ap (capture_bytes b.link_type) (on_a channel)) b.setting.channels)
            (map_same (capture_of b.link_type (outputs_of at.got_b)) (content_of at.from_a) (λ channel. ap (capture_bytes b.link_type) (on_b channel)) b.setting.channels)

        -- all was filled
        pub run_writes : (f : Finished) (later : Option Files) → f.held ≡ false → f.text.items ≡ run_text b settings at.from_a at.from_b → Told b.was later (Holds (outs (names_of b) (given_of b at.got_a at.got_b))) → Writes (IsEnded b settings ends) (names_of b) (Ok f) b.was later
        run_writes f later held text h =
            let run : IsDuplexRun settings ends at.from_a at.from_b = subst (λ n. IsRunOf settings ends n at.from_a at.from_b) (sym last) (is_run d settings ends slots at.from_a at.from_b at.runs) in
            done_writes (IsEnded b settings ends) (names_of b) f (contents at.from_a at.from_b) (run_outcome b settings at.from_a at.from_b) b.was later (at.from_a, at.from_b, run, refl) (ap held_status held) text
            (run_files at.from_a at.from_b) (subst (λ gs. Told b.was later (Holds (outs (names_of b) gs))) whole h)

        -- the lines of an end, of what was counted
        lines_of : (letter : ℕ) (got : List (ℕ × Packet)) (sent : List Word) → ((channel : ℕ) → packets_on channel (outputs_of got) ≡ ended.packets_on b settings sent channel)
            → flat_map (counted_line letter settings sent slots) (map (counts_of (outputs_of got)) b.setting.channels) ≡ text_under b settings letter sent
        lines_of letter got sent on =
            flat_same (counted_line letter settings sent slots) (counts_of (outputs_of got)) _
            (λ channel. ap₂ (λ (ps : List (List ℕ)) n. end_line letter channel (length ps) (sum_by length ps) (peak settings sent channel n)) (on channel) (sym last)) b.setting.channels

        pub text_is : (counts_a counts_b : List ChannelReceipt) → counts_a ≡ c.a.items → counts_b ≡ c.b.items → (text : List ℕ)
            → text ≡ (([] ++ flat_map (counted_line 97 settings at.from_b slots) counts_a) ++ flat_map (counted_line 98 settings at.from_a slots) counts_b) ++ slots_line slots → text ≡ run_text b settings at.from_a at.from_b
        text_is counts_a counts_b same_a same_b text e =
            e ∙ append_assoc (flat_map (counted_line 97 settings at.from_b slots) counts_a) (flat_map (counted_line 98 settings at.from_a slots) counts_b) (slots_line slots)
            ∙ ap₂ (λ (xs ys : List ℕ). xs ++ (ys ++ slots_line slots))
            (ap (flat_map (counted_line 97 settings at.from_b slots)) (same_a ∙ at.kept.counts_a) ∙ lines_of 97 at.got_a at.from_b on_a)
            (ap (flat_map (counted_line 98 settings at.from_a slots)) (same_b ∙ at.kept.counts_b) ∙ lines_of 98 at.got_b at.from_a on_b)
            ∙ ap (λ n. text_under b settings 97 at.from_b ++ (text_under b settings 98 at.from_a ++ slots_line n)) (sym last)

-- what is counted is on the channels
pub counted_on : (got : List (ℕ × Packet)) (channels listed : List ℕ) (counts : List ChannelReceipt) → listed ≡ channels → counts ≡ map (counts_of (outputs_of got)) channels → All (λ (c : ChannelReceipt). Contains listed c.channel) counts
counted_on got channels listed counts same is =
    subst (λ (cs : List ChannelReceipt). All (λ (c : ChannelReceipt). Contains listed c.channel) cs) (sym is) (λ k d lt.
    let many = length-map channels (counts_of (outputs_of got)) in
    let below : k < length channels = omega (arith, lt, many) in
    subst (λ (c : ChannelReceipt). Contains listed c.channel) (sym (get_or-map (counts_of (outputs_of got)) channels k 0 d below))
    (subst (λ cs. Contains cs (get_or channels k 0)) (sym same) (Contains-get_or channels k 0 below)))
