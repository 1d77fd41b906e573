-- A packet more in the captures of an end.
use Rattle.std.proofs.Common.{◌≡◌, ◌≢◌, ℕ, zero, suc, ◌+◌, ◌^◌, ◌<◌, ◌≤◌, ◌==◌, false, IsTrue, List, [], ◌∷◌, ◌++◌, length, length-append, get_or, set, map, replicate, refl, sym, ap, ap₂, ◌∙◌, subst, append_assoc, append-nil, arith, slice_index, OnOk, Vec, Global, Option, Result, Ok, Err, Contains}
use Rattle.std.specs.Fmt.{decimal}
use Rattle.std.specs.List.{flat_map}
use Rattle.std.proofs.lemmas.List.{length-map, get_or-map, append_cancel_left}
use lib.Chars.{codes}
use Rattle.lk_outside.specs.Files.{Files, Told}
use Rattle.receive_model.specs.Pieces.{Packet}
use Rattle.receive_model.specs.Events.{Event, Delivered, is_rising}
use Rattle.reassembly.specs.Settings.{is_among}
use Rattle.pcap_files.specs.Written.{header_bytes, record_bytes}
use Rattle.run_stops.specs.declared.stop.Stop.{Stop}
use Rattle.run_stops.specs.declared.stop.Stop.TheVariants as stop
use Rattle.run_shell.specs.Outcome.{HoldsPart}
use Rattle.run_shell.specs.Open.{Open}
use Rattle.run_stops.specs.Stops.{StoreStops}
use Rattle.run_shell.specs.Outputs.{Differ, Grown, IsOpen, Prefixes, more, open_names, outs}
use Rattle.receipts.specs.declared.receipt.ChannelReceipt.{ChannelReceipt}
use Rattle.receipts.specs.Received.{packets_on}
use Rattle.pcap_files.specs.Names.{capture_name}
use Rattle.receipts.specs.Receipts.{capture_of, counts_of}
use Rattle.receipts.specs.Counts.{numbers_of, with_packet}
use Rattle.receipts.specs.Firsts.{first_in, IsUnfilled}
use Rattle.receipts.proofs.Captures.{all_same, more_at, more_behind, next_capture, next_counts, other_channel, same_capture, same_counts, set_at}
use Rattle.receipts.proofs.Firsts.{none_made}
use Rattle.receipts.proofs.NamesDiffer.{capture_names_differ, differ_behind}
use Rattle.receipts.proofs.Receiving.{apart_all, numbers_counted}
use Rattle.receipts.proofs.Putting.{open_part}
use Rattle.receipts.proofs.Making.{captures_begin}
use Rattle.run_shell.proofs.Fills.{part_more, same_prefixes}
use Rattle.run_stops.proofs.Moves.{told_by}
use Rattle.duplex_commands.proofs.Begins.{map_begins, all_begin}
use Rattle.duplex.specs.declared.duplex.End.{End}
use Rattle.duplex.specs.declared.duplex.End.TheVariants.{A, B}
use Rattle.duplex_commands.specs.Names.{prefix_of_a, prefix_of_b, names_by}
use Rattle.duplex_commands.specs.declared.captures.Captures.{Captures}
use Rattle.duplex_commands.specs.Captures.{Beginning, AreKept, IsBroken, Keeps, names_of, outputs_of, end_given, given_of, more_at_a, more_at_b}
use Rattle.duplex_commands.proofs.Came.{one_more}

-- ---- the names

ends_differ : (out : List ℕ) (c d : ℕ) → capture_name (prefix_of_a out) c ≢ capture_name (prefix_of_b out) d
ends_differ out c d e =
    let tails : codes ".a" ++ tail c ≡ codes ".b" ++ tail d = append_cancel_left out _ _ (sym (append_assoc out (codes ".a") (tail c)) ∙ e ∙ append_assoc out (codes ".b") (tail d)) in
    apart 97 98 (tail c) (tail d) (append_cancel_left (codes ".") _ _ tails) refl refl
  where
    tail : ℕ → List ℕ
    tail n = codes "." ++ (decimal n ++ codes ".pcap")

    apart : (m n : ℕ) (xs ys : List ℕ) → m ∷ xs ≡ n ∷ ys → m ≡ 97 → n ≡ 98 → ⊥
    apart m n xs ys e a b = let same : m ≡ n = cc in omega arith

named : (prefix : List ℕ) (channels : List ℕ) (q : List ℕ) → Contains (map (capture_name prefix) channels) q → (c : ℕ) × (q ≡ capture_name prefix c)
named prefix [] q (k, lt, e) = absurd (omega arith)
named prefix (c ∷ channels) q (zero, lt, e) = (c, sym e)
named prefix (c ∷ channels) q (suc k, lt, e) = named prefix channels q (k, omega arith, e)

pub names_differ : (out channels : List ℕ) → IsTrue (is_rising channels) → ((i : ℕ) → get_or channels i 0 < 2 ^ 64) → Differ (names_by out channels)
names_differ out channels rising small =
    differ_behind (map (capture_name (prefix_of_a out)) channels) (map (capture_name (prefix_of_b out)) channels) (capture_names_differ (prefix_of_a out) channels rising small) (capture_names_differ (prefix_of_b out) channels rising small)
    (λ q a b. let x = named (prefix_of_a out) channels q a in let y = named (prefix_of_b out) channels q b in ends_differ out x.0 y.0 (sym x.1 ∙ y.1))

-- ---- captures that are made

headers_first : (head : List ℕ) (names : List (List ℕ)) → first_in (replicate (length names) head) names ≡ map (λ (n : List ℕ). head) names
headers_first head [] = refl
headers_first head (n ∷ names) = ap (λ hs. head ∷ hs) (headers_first head names)

headers_behind : (link_type : ℕ) (name : ℕ → List ℕ) (channels : List ℕ) (names gs : List (List ℕ)) → map (λ (n : List ℕ). header_bytes link_type) names ≡ gs → map (λ (n : List ℕ). header_bytes link_type) (map name channels ++ names) ≡ map (capture_of link_type []) channels ++ gs
headers_behind link_type name [] names gs e = e
headers_behind link_type name (c ∷ channels) names gs e = ap₂ (λ h hs. h ∷ hs) (sym (append-nil (header_bytes link_type))) (headers_behind link_type name channels names gs e)

headers : (b : Beginning) → map (λ (n : List ℕ). header_bytes b.link_type) (names_of b) ≡ given_of b [] []
headers b =
    let channels : List ℕ = b.setting.channels in
    let last : map (λ (n : List ℕ). header_bytes b.link_type) (map (capture_name (prefix_of_b b.out)) channels) ≡ map (capture_of b.link_type []) channels =
    ap (map (λ (n : List ℕ). header_bytes b.link_type)) (sym (append-nil (map (capture_name (prefix_of_b b.out)) channels))) ∙ headers_behind b.link_type (capture_name (prefix_of_b b.out)) channels [] [] refl ∙ append-nil (map (capture_of b.link_type []) channels) in
    headers_behind b.link_type (capture_name (prefix_of_a b.out)) channels (map (capture_name (prefix_of_b b.out)) channels) (map (capture_of b.link_type []) channels) last

module _ (b : Beginning) (channels : List ℕ) (listed : b.setting.channels ≡ channels) (names : List (List ℕ)) (named_so : names ≡ names_by b.out channels) (many : ℕ) (as_many : many ≡ length names) where
  are_names : names ≡ names_of b
  are_names = named_so ∙ ap (names_by b.out) (sym listed)

  are_headers : first_in (replicate many (header_bytes b.link_type)) names ≡ given_of b [] []
  are_headers =
      ap (λ n. first_in (replicate n (header_bytes b.link_type)) names) as_many ∙ headers_first (header_bytes b.link_type) names
      ∙ ap (map (λ (n : List ℕ). header_bytes b.link_type)) are_names ∙ headers b

  pub opened : (c : Captures) (now : Option Files) → length channels ≤ 1024 → open_names c.outputs ≡ names → Differ names → IsOpen c.outputs (first_in (replicate many (header_bytes b.link_type)) names) b.was now
      → c.a.items ≡ map (counts_of []) channels → c.b.items ≡ map (counts_of []) channels → AreKept b [] [] c now
  opened c now few is differ firsts counts_a counts_b = record {
    few = subst (λ (cs : List ℕ). length cs ≤ 1024) (sym listed) few;
    names = is ∙ are_names;
    differ = subst Differ (sym is) differ;
    given = subst (λ gs. IsOpen c.outputs gs b.was now) are_headers firsts;
    counts_a = counts_a ∙ ap (map (counts_of [])) (sym listed);
    counts_b = counts_b ∙ ap (map (counts_of [])) (sym listed);
  }

  pub not_opened : (s : Stop) (now : Option Files) → IsUnfilled names (replicate many (header_bytes b.link_type)) s b.was now → IsBroken b [] [] s now
  not_opened s now h = record {
    by_store = subst (λ ns. StoreStops {T = Unit {0}} (Contains ns) (Err s)) are_names h.by_store;
    part = subst (λ ns. Told b.was now (HoldsPart (outs ns (given_of b [] [])))) are_names (subst (λ gs. Told b.was now (HoldsPart (outs names gs))) are_headers h.part);
  }

-- memory ran out before they were
pub none_opened : (b : Beginning) (channels : List ℕ) → b.setting.channels ≡ channels → IsBroken b [] [] stop.OutOfMemory b.was
none_opened b channels listed = not_opened b channels listed (names_by b.out channels) refl (length (names_by b.out channels)) refl stop.OutOfMemory b.was (none_made _ _ b.was)

-- ---- a packet more

numbers_are : (got : List (ℕ × Packet)) (channels : List ℕ) (counts : List ChannelReceipt) → counts ≡ map (counts_of (outputs_of got)) channels → numbers_of counts ≡ channels
numbers_are got channels counts e = ap numbers_of e ∙ numbers_counted (outputs_of got) channels

pub numbers_rise : (got : List (ℕ × Packet)) (channels : List ℕ) (counts : List ChannelReceipt) → IsTrue (is_rising channels) → counts ≡ map (counts_of (outputs_of got)) channels → IsTrue (is_rising (numbers_of counts))
numbers_rise got channels counts rising e = subst (λ ns. IsTrue (is_rising ns)) (sym (numbers_are got channels counts e)) rising

module _ (b : Beginning) (got : List (ℕ × Packet)) (channel : ℕ) (p : Packet) where
  abbrev before : List Event
  before = outputs_of got

  abbrev next : Event
  next = Delivered channel p

  abbrev now_got : List (ℕ × Packet)
  now_got = got ++ (channel, p) ∷ []

  after : before ++ next ∷ [] ≡ outputs_of now_got
  after = sym (one_more got channel p)

  same_captures : (other : ℕ) → (channel == other) ≡ false → capture_of b.link_type before other ≡ capture_of b.link_type (before ++ next ∷ []) other
  same_captures other ne = same_capture b.link_type before next other (other_channel channel other p ne)

  same_count : (other : ℕ) → (channel == other) ≡ false → counts_of before other ≡ counts_of (before ++ next ∷ []) other
  same_count other ne = same_counts before next other (other_channel channel other p ne)

  -- it is on the channel at this place
  module _ (counts : List ChannelReceipt) (is : counts ≡ map (counts_of before) b.setting.channels) (place : ℕ) (lt : place < length counts) (at : get_or (numbers_of counts) place 0 ≡ channel) where
    within : place < length b.setting.channels
    within = let e : length counts ≡ length b.setting.channels = ap (λ (cs : List ChannelReceipt). length cs) is ∙ length-map b.setting.channels (counts_of before) in omega (arith, lt, e)

    listed_at : get_or b.setting.channels place 0 ≡ channel
    listed_at = ap (λ ns. get_or ns place 0) (sym (numbers_are got b.setting.channels counts is)) ∙ at

    given_more : (rest : List (List ℕ)) → more (end_given b got ++ rest) place (record_bytes p.bytes) ≡ end_given b now_got ++ rest
    given_more rest =
        more_at (capture_of b.link_type before) (capture_of b.link_type (before ++ next ∷ [])) channel (record_bytes p.bytes) rest same_captures (next_capture b.link_type before channel p) b.setting.channels place b.setting.in_order within listed_at
        ∙ ap (λ es. map (capture_of b.link_type es) b.setting.channels ++ rest) after

    pub given_first : (other : List (ℕ × Packet)) (output : ℕ) → output ≡ place → more (given_of b got other) output (record_bytes p.bytes) ≡ given_of b now_got other
    given_first other output e = ap (λ n. more (given_of b got other) n (record_bytes p.bytes)) e ∙ given_more (end_given b other)

    pub given_second : (other : List (ℕ × Packet)) (output ahead : ℕ) → output ≡ ahead + place → ahead ≡ length b.setting.channels → more (given_of b other got) output (record_bytes p.bytes) ≡ given_of b other now_got
    given_second other output ahead e many =
        let front : List (List ℕ) = end_given b other in
        let long : length front ≡ length b.setting.channels = length-map b.setting.channels (capture_of b.link_type (outputs_of other)) in
        let there : output ≡ length front + place = omega (arith, e, many, long) in
        ap (λ n. more (front ++ end_given b got) n (record_bytes p.bytes)) there ∙ more_behind front (end_given b got) place (record_bytes p.bytes)
        ∙ ap (λ (gs : List (List ℕ)). front ++ gs) (ap (λ (gs : List (List ℕ)). more gs place (record_bytes p.bytes)) (sym (append-nil (end_given b got))) ∙ given_more [] ∙ append-nil (end_given b now_got))

    pub counts_next : (d : ChannelReceipt) → set counts place (with_packet (length p.bytes) (get_or counts place d)) ≡ map (counts_of (outputs_of now_got)) b.setting.channels
    counts_next d =
        let old : get_or counts place d ≡ counts_of before channel = ap (λ (cs : List ChannelReceipt). get_or cs place d) is ∙ get_or-map (counts_of before) b.setting.channels place 0 d within ∙ ap (counts_of before) listed_at in
        let new : with_packet (length p.bytes) (get_or counts place d) ≡ counts_of (before ++ next ∷ []) channel = ap (with_packet (length p.bytes)) old ∙ next_counts before channel p in
        ap (λ (cs : List ChannelReceipt). set cs place (with_packet (length p.bytes) (get_or counts place d))) is
        ∙ set_at (counts_of before) (counts_of (before ++ next ∷ [])) channel same_count b.setting.channels place (with_packet (length p.bytes) (get_or counts place d)) b.setting.in_order within listed_at new
        ∙ ap (λ es. map (counts_of es) b.setting.channels) after

  -- its channel is not listed
  module _ (counts : List ChannelReceipt) (is : counts ≡ map (counts_of before) b.setting.channels) (absent : is_among channel (numbers_of counts) ≡ false) where
    apart : (k : ℕ) → k < length b.setting.channels → (channel == get_or b.setting.channels k 0) ≡ false
    apart = apart_all channel b.setting.channels (subst (λ ns. is_among channel ns ≡ false) (numbers_are got b.setting.channels counts is) absent)

    pub given_same : end_given b got ≡ end_given b now_got
    given_same = all_same (capture_of b.link_type before) (capture_of b.link_type (before ++ next ∷ [])) channel same_captures b.setting.channels apart ∙ ap (λ es. map (capture_of b.link_type es) b.setting.channels) after

    pub counts_same : counts ≡ map (counts_of (outputs_of now_got)) b.setting.channels
    counts_same = is ∙ all_same (counts_of before) (counts_of (before ++ next ∷ [])) channel same_count b.setting.channels apart ∙ ap (λ es. map (counts_of es) b.setting.channels) after

-- ---- what a put comes to

no_counts : ChannelReceipt
no_counts = record { channel = 0; packets = 0; bytes = 0 }

broken : (b : Beginning) (later_a later_b : List (ℕ × Packet)) (s : Stop) (now : Option Files) (ns given : List (List ℕ)) → ns ≡ names_of b → given ≡ given_of b later_a later_b
    → StoreStops {T = Unit {0}} (Contains ns) (Err s) → Told b.was now (HoldsPart (outs ns given)) → IsBroken b later_a later_b s now
broken b later_a later_b s now ns given named all store part = record {
  by_store = subst (λ ms. StoreStops {T = Unit {0}} (Contains ms) (Err s)) named store;
  part = subst (λ gs. Told b.was now (HoldsPart (outs (names_of b) gs))) all (subst (λ ms. Told b.was now (HoldsPart (outs ms given))) named part);
}

outputs_many : (b : Beginning) (got_a got_b : List (ℕ × Packet)) (c : Captures) (now : Option Files) → AreKept b got_a got_b c now → length c.outputs ≡ length b.setting.channels + length b.setting.channels
outputs_many b got_a got_b c now is =
    let opens : length (open_names c.outputs) ≡ length c.outputs = length-map c.outputs (λ (f : Open). f.name) in
    let names : length (open_names c.outputs) ≡ length (names_of b) = ap (λ (ns : List (List ℕ)). length ns) is.names in
    let both = length-append (map (capture_name (prefix_of_a b.out)) b.setting.channels) (map (capture_name (prefix_of_b b.out)) b.setting.channels) in
    let a = length-map b.setting.channels (capture_name (prefix_of_a b.out)) in
    let z = length-map b.setting.channels (capture_name (prefix_of_b b.out)) in
    omega (arith, opens, names, both, a, z)

counts_many : (got : List (ℕ × Packet)) (channels : List ℕ) (counts : List ChannelReceipt) → counts ≡ map (counts_of (outputs_of got)) channels → length counts ≡ length channels
counts_many got channels counts e = ap (λ (cs : List ChannelReceipt). length cs) e ∙ length-map channels (counts_of (outputs_of got))

module _ (b : Beginning) (got_a got_b : List (ℕ × Packet)) (c : Captures) (now : Option Files) (is : AreKept b got_a got_b c now) where
  pub few_counts : length c.a.items < 65536
  few_counts = let a = counts_many got_a b.setting.channels c.a.items is.counts_a in let few = is.few in omega (arith, a, few)

  pub place_in_a : (place : ℕ) → place < length c.a.items → 0 + place < length c.outputs
  place_in_a place lt = let many = outputs_many b got_a got_b c now is in let a = counts_many got_a b.setting.channels c.a.items is.counts_a in omega (arith, lt, many, a)

  pub place_in_b : (place ahead : ℕ) → ahead ≡ length c.a.items → place < length c.b.items → ahead + place < length c.outputs
  place_in_b place ahead front lt =
      let many = outputs_many b got_a got_b c now is in
      let a = counts_many got_a b.setting.channels c.a.items is.counts_a in
      let z = counts_many got_b b.setting.channels c.b.items is.counts_b in
      omega (arith, lt, front, many, a, z)

  module _ (channel : ℕ) (p : Packet) (s : Captures) (later : Option Files) (r : Result (Unit {0}) Stop) (names : open_names s.outputs ≡ open_names c.outputs) (store : StoreStops (Contains (open_names c.outputs)) r) (place output : ℕ)
      (grown : Grown c.outputs s.outputs (more (given_of b got_a got_b) output (record_bytes p.bytes)) r b.was later) where
    pub puts_a : place < length c.a.items → slice_index (numbers_of c.a.items) place ≡ channel → output ≡ 0 + place → s.b ≡ c.b → OnOk r ((d : ChannelReceipt) → s.a.items ≡ set c.a.items place (with_packet (length p.bytes) (get_or c.a.items place d))) → Keeps b (got_a ++ (channel, p) ∷ []) got_b r s later
    puts_a lt at there other counted = by r store grown counted
      where
        given : more (given_of b got_a got_b) output (record_bytes p.bytes) ≡ given_of b (got_a ++ (channel, p) ∷ []) got_b
        given = given_first b got_a channel p c.a.items is.counts_a place lt at got_b output (omega (arith, there))

        by : (q : Result (Unit {0}) Stop) → StoreStops (Contains (open_names c.outputs)) q → Grown c.outputs s.outputs (more (given_of b got_a got_b) output (record_bytes p.bytes)) q b.was later
            → OnOk q ((d : ChannelReceipt) → s.a.items ≡ set c.a.items place (with_packet (length p.bytes) (get_or c.a.items place d))) → Keeps b (got_a ++ (channel, p) ∷ []) got_b q s later
        by (Ok u) st g counts = record {
          few = is.few;
          names = names ∙ is.names;
          differ = subst Differ (sym names) is.differ;
          given = subst (λ gs. IsOpen s.outputs gs b.was later) given g;
          counts_a = counts no_counts ∙ counts_next b got_a channel p c.a.items is.counts_a place lt at no_counts;
          counts_b = ap (λ (v : Vec ChannelReceipt Global). v.items) other ∙ is.counts_b;
        }
        by (Err e) st g counts = broken b (got_a ++ (channel, p) ∷ []) got_b e later (open_names c.outputs) (more (given_of b got_a got_b) output (record_bytes p.bytes)) is.names given st g

    pub puts_b : place < length c.b.items → slice_index (numbers_of c.b.items) place ≡ channel → (ahead : ℕ) → ahead ≡ length c.a.items → output ≡ ahead + place → s.a ≡ c.a → OnOk r ((d : ChannelReceipt) → s.b.items ≡ set c.b.items place (with_packet (length p.bytes) (get_or c.b.items place d))) → Keeps b got_a (got_b ++ (channel, p) ∷ []) r s later
    puts_b lt at ahead front there other counted = by r store grown counted
      where
        given : more (given_of b got_a got_b) output (record_bytes p.bytes) ≡ given_of b got_a (got_b ++ (channel, p) ∷ [])
        given = given_second b got_b channel p c.b.items is.counts_b place lt at got_a output ahead there (front ∙ counts_many got_a b.setting.channels c.a.items is.counts_a)

        by : (q : Result (Unit {0}) Stop) → StoreStops (Contains (open_names c.outputs)) q → Grown c.outputs s.outputs (more (given_of b got_a got_b) output (record_bytes p.bytes)) q b.was later
            → OnOk q ((d : ChannelReceipt) → s.b.items ≡ set c.b.items place (with_packet (length p.bytes) (get_or c.b.items place d))) → Keeps b got_a (got_b ++ (channel, p) ∷ []) q s later
        by (Ok u) st g counts = record {
          few = is.few;
          names = names ∙ is.names;
          differ = subst Differ (sym names) is.differ;
          given = subst (λ gs. IsOpen s.outputs gs b.was later) given g;
          counts_a = ap (λ (v : Vec ChannelReceipt Global). v.items) other ∙ is.counts_a;
          counts_b = counts no_counts ∙ counts_next b got_b channel p c.b.items is.counts_b place lt at no_counts;
        }
        by (Err e) st g counts = broken b got_a (got_b ++ (channel, p) ∷ []) e later (open_names c.outputs) (more (given_of b got_a got_b) output (record_bytes p.bytes)) is.names given st g

  module _ (channel : ℕ) (p : Packet) where
    pub unlisted_a : is_among channel (numbers_of c.a.items) ≡ false → AreKept b (got_a ++ (channel, p) ∷ []) got_b c now
    unlisted_a absent = record {
      few = is.few;
      names = is.names;
      differ = is.differ;
      given = subst (λ (gs : List (List ℕ)). IsOpen c.outputs (gs ++ end_given b got_b) b.was now) (given_same b got_a channel p c.a.items is.counts_a absent) is.given;
      counts_a = counts_same b got_a channel p c.a.items is.counts_a absent;
      counts_b = is.counts_b;
    }

    pub unlisted_b : is_among channel (numbers_of c.b.items) ≡ false → AreKept b got_a (got_b ++ (channel, p) ∷ []) c now
    unlisted_b absent = record {
      few = is.few;
      names = is.names;
      differ = is.differ;
      given = subst (λ (gs : List (List ℕ)). IsOpen c.outputs (end_given b got_a ++ gs) b.was now) (given_same b got_b channel p c.b.items is.counts_b absent) is.given;
      counts_a = is.counts_a;
      counts_b = counts_same b got_b channel p c.b.items is.counts_b absent;
    }

-- at either end
pub keeps_at : {T : Type 0} (b : Beginning) (end known : End) (channel : ℕ) (p : Packet) (got_a got_b : List (ℕ × Packet)) (r : Result T Stop) (c : Captures) (now : Option Files) → end ≡ known
    → Keeps b (more_at_a known channel p got_a) (more_at_b known channel p got_b) r c now → Keeps b (more_at_a end channel p got_a) (more_at_b end channel p got_b) r c now
keeps_at b end known channel p got_a got_b r c now e h = subst (λ (x : End). Keeps b (more_at_a x channel p got_a) (more_at_b x channel p got_b) r c now) (sym e) h

-- ---- memory ran out before a packet was put

begins : (b : Beginning) (got : List (ℕ × Packet)) (channel : ℕ) (p : Packet) (other : ℕ) → (rest : List ℕ) × (capture_of b.link_type (outputs_of (got ++ (channel, p) ∷ [])) other ≡ capture_of b.link_type (outputs_of got) other ++ rest)
begins b got channel p other =
    let next : List Event = Delivered channel p ∷ [] in
    (flat_map record_bytes (packets_on other next), ap (λ es. capture_of b.link_type es other) (one_more got channel p) ∙ captures_begin b.link_type (outputs_of got) next other)

stays : (b : Beginning) (got : List (ℕ × Packet)) (other : ℕ) → (rest : List ℕ) × (capture_of b.link_type (outputs_of got) other ≡ capture_of b.link_type (outputs_of got) other ++ rest)
stays b got other = ([], sym (append-nil (capture_of b.link_type (outputs_of got) other)))

part_of : (b : Beginning) (got_a got_b later_a later_b : List (ℕ × Packet)) (c : Captures) (now : Option Files) → AreKept b got_a got_b c now → Prefixes (given_of b got_a got_b) (given_of b later_a later_b) → IsBroken b later_a later_b stop.OutOfMemory now
part_of b got_a got_b later_a later_b c now is more = record {
  by_store = tt;
  part = told_by b.was now (λ u v k. part_more (names_of b) (given_of b got_a got_b) (given_of b later_a later_b) u v more k)
      (subst (λ ns. Told b.was now (HoldsPart (outs ns (given_of b got_a got_b)))) is.names (open_part c.outputs (given_of b got_a got_b) b.was now is.given));
}

pub no_memory_at : (b : Beginning) (got_a got_b : List (ℕ × Packet)) (c : Captures) (now : Option Files) → AreKept b got_a got_b c now → (end : End) (channel : ℕ) (p : Packet) → IsBroken b (more_at_a end channel p got_a) (more_at_b end channel p got_b) stop.OutOfMemory now
no_memory_at b got_a got_b c now is A channel p = part_of b got_a got_b (got_a ++ (channel, p) ∷ []) got_b c now is
    (map_begins (capture_of b.link_type (outputs_of got_a)) (capture_of b.link_type (outputs_of (got_a ++ (channel, p) ∷ []))) (begins b got_a channel p) b.setting.channels (end_given b got_b) (end_given b got_b) (same_prefixes (end_given b got_b)))
no_memory_at b got_a got_b c now is B channel p = part_of b got_a got_b got_a (got_b ++ (channel, p) ∷ []) c now is
    (map_begins (capture_of b.link_type (outputs_of got_a)) (capture_of b.link_type (outputs_of got_a)) (stays b got_a) b.setting.channels (end_given b got_b) (end_given b (got_b ++ (channel, p) ∷ []))
    (all_begin (capture_of b.link_type (outputs_of got_b)) (capture_of b.link_type (outputs_of (got_b ++ (channel, p) ∷ []))) (begins b got_b channel p) b.setting.channels))
