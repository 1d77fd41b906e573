-- No peak of a channel that has a calendar entry goes beyond the bound of the plan's link.
use Rattle.std.proofs.Common.{◌≡◌, ℕ, ◌≤◌, List, length, sym, ◌∙◌, subst, arith, All, Contains}
use Rattle.std.specs.Prelude.{slice_index}
use Rattle.std.proofs.lemmas.List.{get_or_default}
use Rattle.lk_base.specs.declared.word.Word.{Word}
use Rattle.link_plan.specs.Listing.{channels_in_order}
use Rattle.link_plan.specs.Views.{numbers_in}
use Rattle.link_plan.proofs.InOrder.{entries_in_order}
use Rattle.duplex_model.specs.DuplexRun.{Settings, Ends, calendar_words, words_to_tell, peak, peak_bound}
use Rattle.duplex_model.proofs.Peaks.{peak_bounded, few_to_tell, warm_of_link}
use Rattle.duplex_commands.specs.Reading.{DuplexReading}
use Rattle.duplex_commands.specs.Run.{run_settings, IsRunFor}
use Rattle.duplex_commands.specs.Laws.{PeaksAreBounded}
use Rattle.plan_inputs.proofs.SomeSource.{Keeps}
use Rattle.duplex_commands.proofs.Parts.{plan_part}

-- the warm-up of the plan's link carries a whole calendar
one_calendar : (r : DuplexReading) (a b : List Word) → Keeps r.plan → (run : IsRunFor r a b) → words_to_tell run.ends ≡ calendar_words run.ends
one_calendar r a b plan run =
    let shape = run.are.a.shape in
    let few : length run.ends.entries ≤ 1024 = subst (λ (es : List ℕ). length es ≤ 1024) (sym run.are.a.entries) plan.calendar.few_entries in
    few_to_tell run.ends (warm_of_link r.plan.settings run.ends plan.link shape.group shape.warmup few)

-- each entry is listed
entries_listed : (r : DuplexReading) (a b : List Word) → Keeps r.plan → (run : IsRunFor r a b) → All (Contains run.ends.channels) run.ends.entries
entries_listed r a b plan run =
    subst (λ (cs : List ℕ). All (Contains cs) run.ends.entries) (sym run.are.a.channels)
    (subst (λ (es : List ℕ). All (Contains (channels_in_order (numbers_in r.plan))) es) (sym run.are.a.entries)
    (entries_in_order r.plan.wide (numbers_in r.plan) r.plan.entries plan.in_width plan.calendar.listed))

within_entry : (r : DuplexReading) (a b : List Word) (channel : ℕ) → Keeps r.plan → (run : IsRunFor r a b) → Contains run.ends.entries channel
    → (peak (run_settings r.settings) b channel r.settings.slots ≤ peak_bound (run_settings r.settings) run.ends (words_to_tell run.ends))
    × (peak (run_settings r.settings) a channel r.settings.slots ≤ peak_bound (run_settings r.settings) run.ends (words_to_tell run.ends))
within_entry r a b channel plan run (entry, within, there) =
    let settings : Settings = run_settings r.settings in
    let ends : Ends = run.ends in
    let of = run.run in
    let is : slice_index ends.entries entry ≡ channel = get_or_default ends.entries entry 0 channel within ∙ there in
    let listed : Contains ends.channels channel = subst (λ (c : ℕ). Contains ends.channels c) there (entries_listed r a b plan run entry channel within) in (
      peak_bounded settings ends ends.packets_of_a ends.packets_of_b a b r.settings.slots channel entry run.keeps of.stream_of_a of.stream_of_b of.slots_of_a of.slots_of_b listed within is r.settings.slots (omega arith),
      peak_bounded settings ends ends.packets_of_b ends.packets_of_a b a r.settings.slots channel entry run.keeps of.stream_of_b of.stream_of_a of.slots_of_b of.slots_of_a listed within is r.settings.slots (omega arith),
    )

pub peaks_are_bounded : PeaksAreBounded
peaks_are_bounded files name r a b channel run is entry =
    let plan : Keeps r.plan = plan_part files name r is in
    subst (λ (n : ℕ). (peak (run_settings r.settings) b channel r.settings.slots ≤ peak_bound (run_settings r.settings) run.ends n) × (peak (run_settings r.settings) a channel r.settings.slots ≤ peak_bound (run_settings r.settings) run.ends n))
    (one_calendar r a b plan run)
    (within_entry r a b channel plan run (subst (λ (es : List ℕ). Contains es channel) (sym run.are.a.entries) entry))
