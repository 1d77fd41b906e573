-- What was read for `duplex`, part by part, where the files are told.
use Rattle.std.proofs.Common.{◌≡◌, ◌⊎◌, inl, inr, ℕ, ◌-◌, List, map, sym, ap, ◌∙◌, subst, Option, Some, None, IfSome, Result, Ok, Err, MatchResult}
use Rattle.lk_base.specs.Limits.{capture_limit}
use Rattle.lk_outside.specs.Files.{Files}
use Rattle.link_plan.specs.Plan.{Listed, PlanValue}
use Rattle.link_plan.specs.Views.{plan_value, listed_of, numbers_in}
use Rattle.link_plan.specs.Listing.{numbers_of}
use Rattle.link_plan.specs.declared.plan.Plan.{Plan}
use Rattle.link_plan.specs.declared.channel.ChannelRow.{ChannelRow}
use Rattle.plan_errors.specs.declared.error.PlanError.TheVariants.{Clash}
use Rattle.duplex_plan.specs.Duplex.{DuplexValue}
use Rattle.duplex_plan.specs.Views.{back_value, duplex_value}
use Rattle.duplex_plan.specs.declared.back.BackRow.{BackRow}
use Rattle.duplex_plan.specs.declared.plan.DuplexPlan.{DuplexPlan}
use Rattle.run_stops.specs.declared.stop.Stop.{Stop}
use Rattle.run_stops.specs.declared.stop.Stop.TheVariants as stop
use Rattle.run_stops.specs.Reading.{Refusal, of_plan, behind, Reads}
use Rattle.run_stops.proofs.Readings.{first_stops, second_reads}
use Rattle.plan_inputs.specs.Inputs.{packets_in, capture_sizes, IsCapture}
use Rattle.plan_inputs.specs.Values.{packet_values}
use Rattle.plan_inputs.specs.declared.captures.ReadCaptures.{ReadCaptures}
use Rattle.plan_inputs.proofs.InputsRead.{same_numbers}
use Rattle.duplex_commands.specs.Reading.{DuplexReading, settings_in, shared_plan_in, first_unlisted, backs, unless_unlisted, back_channels, room_after, with_captures, with_plan, with_settings, duplex_in, IsReadAfter, IsReadBy, IsReadFor}
use Rattle.duplex_commands.specs.Values.{duplex_reading}
use Rattle.duplex_commands.specs.declared.reading.DuplexInputs.{DuplexInputs}

abbrev Came : (List ℕ → Type 0) → Result DuplexInputs Stop → Result DuplexReading Refusal → Type 0
Came named r answer = Reads duplex_reading named r answer

-- ---- after the plan

module _ (settings : DuplexValue) (plan : PlanValue) where
  abbrev most : ℕ
  most = plan.settings.max_packet

  abbrev Behind : List ℕ → Type 0
  Behind q = IsReadAfter settings plan q

  abbrev End : List (ℕ × List ℕ) → List (ℕ × List ℕ) → Result DuplexReading Refusal
  End a b = Ok (record { settings = settings; plan = plan; packets_of_a = a; packets_of_b = b })

  abbrev OfA : Files → Result (List (ℕ × List ℕ)) Refusal
  OfA files = packets_in files most capture_limit plan.channels

  abbrev OfB : List Listed → Files → Result (List (ℕ × List ℕ)) Refusal
  OfB back files = packets_in files most (room_after files plan.channels) back

  abbrev BehindA : List Listed → Files → List (ℕ × List ℕ) → Result DuplexReading Refusal
  BehindA back files a = behind (OfB back files) (λ b. End a b)

  -- memory ran out, or the work stopped so whatever the files are
  pub memory : (x : Option Files) → IfSome x (λ files. Came Behind (Err stop.OutOfMemory) (with_plan files settings plan))
  memory None = tt
  memory (Some u) = tt

  -- a channel of end b is not listed
  pub clashes : (row : ℕ) (x : Option Files) → back_channels plan settings.back ≡ Err (of_plan (Clash row)) → IfSome x (λ files. Came Behind (Err (stop.Plan (Clash row))) (with_plan files settings plan))
  clashes row None e = tt
  clashes row (Some u) e = ap (λ r. behind r (with_captures u settings plan)) e

  module _ (back : List Listed) (listed : back_channels plan settings.back ≡ Ok back) where
    -- what is read of these
    named : (q : List ℕ) → IsCapture plan.channels q ⊎ IsCapture back q → Behind q
    named q n = subst (λ (z : Result (List Listed) Refusal). MatchResult z (λ channels. IsCapture plan.channels q ⊎ IsCapture channels q) (λ r. ⊥)) (sym listed) n

    with_back : (r : Result DuplexInputs Stop) (x : Option Files) → IfSome x (λ files. Came Behind r (with_captures files settings plan back)) → IfSome x (λ files. Came Behind r (with_plan files settings plan))
    with_back r None h = tt
    with_back r (Some u) h = subst (λ (z : Result (List Listed) Refusal). Came Behind r (behind z (with_captures u settings plan))) (sym listed) h

    -- the captures of end a could not be had
    pub no_a : (s : Stop) (x : Option Files) → IfSome x (λ files. Reads {T = ReadCaptures} (λ v. packet_values v.packets.items) (IsCapture plan.channels) (Err s) (OfA files)) → IfSome x (λ files. Came Behind (Err s) (with_plan files settings plan))
    no_a s x h =
        with_back (Err s) x
        (first_stops (List (ℕ × List ℕ)) DuplexReading ReadCaptures DuplexInputs OfA (BehindA back) (λ v. packet_values v.packets.items) duplex_reading (λ files q. IsCapture plan.channels q) (λ files q. Behind q) s x (λ u q n. named q (inl n)) h)

    module _ (x y : Option Files) (same : y ≡ x) (a : List (ℕ × List ℕ)) (had : IfSome x (λ files. OfA files ≡ Ok a)) where
      behind_a : (r : Result DuplexInputs Stop) → IfSome y (λ files. Came Behind r (BehindA back files a)) → IfSome x (λ files. Came Behind r (with_plan files settings plan))
      behind_a r h =
          with_back r x
          (second_reads (List (ℕ × List ℕ)) DuplexReading ReadCaptures DuplexInputs OfA (BehindA back) duplex_reading (λ files q. Behind q) (λ files q. Behind q) a r x y same (λ u q e n. n) had h)

      module _ (room : ℕ) (left : IfSome x (λ files. room ≡ room_after files plan.channels)) where
        in_room : (r : Result ReadCaptures Stop) → IfSome y (λ files. Reads (λ (v : ReadCaptures). packet_values v.packets.items) (IsCapture back) r (packets_in files most room back)) → IfSome y (λ files. Reads (λ (v : ReadCaptures). packet_values v.packets.items) (IsCapture back) r (OfB back files))
        in_room r h = by y (subst (λ (z : Option Files). IfSome z (λ files. room ≡ room_after files plan.channels)) (sym same) left) h
          where
            by : (z : Option Files) → IfSome z (λ files. room ≡ room_after files plan.channels) → IfSome z (λ files. Reads (λ (v : ReadCaptures). packet_values v.packets.items) (IsCapture back) r (packets_in files most room back)) → IfSome z (λ files. Reads (λ (v : ReadCaptures). packet_values v.packets.items) (IsCapture back) r (OfB back files))
            by None l k = tt
            by (Some u) l k = subst (λ (n : ℕ). Reads (λ (v : ReadCaptures). packet_values v.packets.items) (IsCapture back) r (packets_in u most n back)) l k

        -- the captures of end b could not be had
        pub no_b : (s : Stop) → IfSome y (λ files. Reads (λ (v : ReadCaptures). packet_values v.packets.items) (IsCapture back) (Err s) (packets_in files most room back)) → IfSome x (λ files. Came Behind (Err s) (with_plan files settings plan))
        no_b s h =
            behind_a (Err s)
            (first_stops (List (ℕ × List ℕ)) DuplexReading ReadCaptures DuplexInputs (OfB back) (λ files b. End a b) (λ v. packet_values v.packets.items) duplex_reading (λ files q. IsCapture back q) (λ files q. Behind q) s y (λ u q n. named q (inr n)) (in_room (Err s) h))

        -- all were had
        pub all_had : (i : DuplexInputs) (v : ReadCaptures) → duplex_reading i ≡ record { settings = settings; plan = plan; packets_of_a = a; packets_of_b = packet_values v.packets.items }
            → IfSome y (λ files. Reads (λ (v : ReadCaptures). packet_values v.packets.items) (IsCapture back) (Ok v) (packets_in files most room back)) → IfSome x (λ files. Came Behind (Ok i) (with_plan files settings plan))
        all_had i v is h = behind_a (Ok i) (by y (in_room (Ok v) h))
          where
            by : (z : Option Files) → IfSome z (λ files. OfB back files ≡ Ok (packet_values v.packets.items)) → IfSome z (λ files. Came Behind (Ok i) (BehindA back files a))
            by None k = tt
            by (Some u) k = ap (λ (r : Result (List (ℕ × List ℕ)) Refusal). behind r (λ b. End a b)) k ∙ ap Ok (sym is)

-- ---- the plan and the settings before it

module _ (name : List ℕ) where
  abbrev Whole : Result DuplexInputs Stop → Option Files → Type 0
  Whole r x = IfSome x (λ files. Came (IsReadFor name files) r (duplex_in files name))

  whole : (r : Result DuplexInputs Stop) (x : Option Files) → IfSome x (λ files. Came (IsReadFor name files) r (behind (settings_in files name) (with_settings files))) → Whole r x
  unfolding duplex_in
  whole r x h = h

  -- the settings could not be had
  pub no_settings : (s : Stop) (x : Option Files) → IfSome x (λ files. Reads duplex_value (λ n. n ≡ name) (Err s) (settings_in files name)) → Whole (Err s) x
  no_settings s x h =
      whole (Err s) x
      (first_stops DuplexValue DuplexReading DuplexPlan DuplexInputs (λ files. settings_in files name) with_settings duplex_value duplex_reading (λ files n. n ≡ name) (IsReadFor name) s x (λ u q n. inl n) h)

  named_by : (settings : DuplexValue) (u : Files) (q : List ℕ) → settings_in u name ≡ Ok settings → IsReadBy settings u q → IsReadFor name u q
  named_by settings u q e n = inr (subst (λ r. MatchResult r (λ s. IsReadBy s u q) (λ f. ⊥)) (sym e) n)

  module _ (x y : Option Files) (same : y ≡ x) (settings : DuplexValue) (had : IfSome x (λ files. settings_in files name ≡ Ok settings)) where
    behind_settings : (r : Result DuplexInputs Stop) → IfSome y (λ files. Came (IsReadBy settings files) r (with_settings files settings)) → Whole r x
    behind_settings r h =
        whole r x
        (second_reads DuplexValue DuplexReading DuplexPlan DuplexInputs (λ files. settings_in files name) with_settings duplex_reading (IsReadBy settings) (IsReadFor name) settings r x y same (λ u q e n. named_by settings u q e n) had h)

    -- the plan could not be had
    pub no_plan : (s : Stop) (file : List ℕ) → file ≡ settings.plan → IfSome y (λ files. Reads plan_value (λ n. n ≡ file) (Err s) (shared_plan_in files file)) → Whole (Err s) x
    no_plan s file is h =
        behind_settings (Err s)
        (first_stops PlanValue DuplexReading Plan DuplexInputs (λ files. shared_plan_in files settings.plan) (λ files. with_plan files settings) plan_value duplex_reading (λ files n. n ≡ settings.plan) (IsReadBy settings) s y (λ u q n. inl n)
        (subst (λ (f : List ℕ). IfSome y (λ files. Reads plan_value (λ n. n ≡ f) (Err s) (shared_plan_in files f))) is h))

    named_behind : (plan : PlanValue) (u : Files) (q : List ℕ) → shared_plan_in u settings.plan ≡ Ok plan → IsReadAfter settings plan q → IsReadBy settings u q
    named_behind plan u q e n = inr (subst (λ r. MatchResult r (λ p. IsReadAfter settings p q) (λ f. ⊥)) (sym e) n)

    -- the plan was had, and what stands after it came to this
    pub behind_plan : (z : Option Files) → z ≡ y → (plan : PlanValue) (file : List ℕ) → file ≡ settings.plan → IfSome y (λ files. shared_plan_in files file ≡ Ok plan) → (r : Result DuplexInputs Stop)
        → IfSome z (λ files. Came (IsReadAfter settings plan) r (with_plan files settings plan)) → Whole r x
    behind_plan z again plan file is planned r h =
        behind_settings r
        (second_reads PlanValue DuplexReading Plan DuplexInputs (λ files. shared_plan_in files settings.plan) (λ files. with_plan files settings) duplex_reading (λ files q. IsReadAfter settings plan q) (IsReadBy settings) plan r y z again
        (λ u q e n. named_behind plan u q e n) (subst (λ (f : List ℕ). IfSome y (λ files. shared_plan_in files f ≡ Ok plan)) is planned) h)

-- ---- as the calls report it

-- of the plan's own channels and longest packet
pub of_plan_a : (plan : Plan) (rows : List ChannelRow) (most : ℕ) (r : Result ReadCaptures Stop) (x : Option Files) → rows ≡ plan.channels.items → most ≡ (plan_value plan).settings.max_packet
    → IfSome x (λ files. Reads (λ (v : ReadCaptures). packet_values v.packets.items) (IsCapture (map listed_of rows)) r (packets_in files most capture_limit (map listed_of rows)))
    → IfSome x (λ files. Reads (λ (v : ReadCaptures). packet_values v.packets.items) (IsCapture (plan_value plan).channels) r (packets_in files (plan_value plan).settings.max_packet capture_limit (plan_value plan).channels))
of_plan_a plan rows most r x are is h =
    subst (λ m. IfSome x (λ files. Reads (λ (v : ReadCaptures). packet_values v.packets.items) (IsCapture (plan_value plan).channels) r (packets_in files m capture_limit (plan_value plan).channels))) is
    (subst (λ (cs : List ChannelRow). IfSome x (λ files. Reads (λ (v : ReadCaptures). packet_values v.packets.items) (IsCapture (map listed_of cs)) r (packets_in files most capture_limit (map listed_of cs)))) are h)

-- of the longest packet alone
pub of_most : (plan : Plan) (longest room : ℕ) (back : List Listed) (r : Result ReadCaptures Stop) (x : Option Files) → longest ≡ (plan_value plan).settings.max_packet
    → IfSome x (λ files. Reads (λ (v : ReadCaptures). packet_values v.packets.items) (IsCapture back) r (packets_in files longest room back))
    → IfSome x (λ files. Reads (λ (v : ReadCaptures). packet_values v.packets.items) (IsCapture back) r (packets_in files (plan_value plan).settings.max_packet room back))
of_most plan longest room back r x is h = subst (λ m. IfSome x (λ files. Reads (λ (v : ReadCaptures). packet_values v.packets.items) (IsCapture back) r (packets_in files m room back))) is h

-- what is left after the captures of end a
pub of_room : (plan : Plan) (rows : List ChannelRow) (room limit : ℕ) (x : Option Files) → rows ≡ plan.channels.items → limit ≡ capture_limit
    → IfSome x (λ files. room ≡ limit - capture_sizes files (map listed_of rows)) → IfSome x (λ files. room ≡ room_after files (plan_value plan).channels)
of_room plan rows room limit x are is h =
    subst (λ (n : ℕ). IfSome x (λ files. room ≡ n - capture_sizes files (plan_value plan).channels)) is
    (subst (λ (cs : List ChannelRow). IfSome x (λ files. room ≡ limit - capture_sizes files (map listed_of cs))) are h)

-- whether each channel of end b is listed, by the rows of the plan
pub by_rows : (plan : Plan) (settings : DuplexPlan) (rows : List ChannelRow) (back : List BackRow) (o : Option ℕ) → rows ≡ plan.channels.items → back ≡ settings.back.items
    → o ≡ first_unlisted (numbers_of rows) (map back_value back) → back_channels (plan_value plan) (duplex_value settings).back ≡ unless_unlisted (duplex_value settings).back o
by_rows plan settings rows back o are is e =
    let same : first_unlisted (numbers_in (plan_value plan)) (duplex_value settings).back ≡ o =
    ap (λ ns. first_unlisted ns (duplex_value settings).back) (sym (same_numbers plan.channels.items))
    ∙ ap (λ (cs : List ChannelRow). first_unlisted (numbers_of cs) (duplex_value settings).back) (sym are)
    ∙ ap (λ (bs : List BackRow). first_unlisted (numbers_of rows) (map back_value bs)) (sym is) ∙ sym e in
    ap (unless_unlisted (duplex_value settings).back) same

-- of the channels of end b as they are listed
pub of_back : (rows : List ChannelRow) (back : List Listed) (most room : ℕ) (r : Result ReadCaptures Stop) (x : Option Files) → map listed_of rows ≡ back
    → IfSome x (λ files. Reads (λ (v : ReadCaptures). packet_values v.packets.items) (IsCapture (map listed_of rows)) r (packets_in files most room (map listed_of rows)))
    → IfSome x (λ files. Reads (λ (v : ReadCaptures). packet_values v.packets.items) (IsCapture back) r (packets_in files most room back))
of_back rows back most room r x is h = subst (λ (cs : List Listed). IfSome x (λ files. Reads (λ (v : ReadCaptures). packet_values v.packets.items) (IsCapture cs) r (packets_in files most room cs))) is h
