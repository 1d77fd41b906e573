-- What is said of what `duplex` makes.
use Rattle.std.specs.Prelude.{◌≡◌, ℕ, ◌≤◌, true, List, Contains, Ok}
use Rattle.lk_base.specs.declared.word.Word.{Word}
use Rattle.lk_outside.specs.Files.{Files}
use Rattle.receive_model.specs.Events.{Setting, is_listed}
use Rattle.duplex_model.specs.DuplexRun.{peak, peak_bound, calendar_words}
use Rattle.duplex_model.specs.Came.{sent_in_time}
use Rattle.run_shell.specs.Outcome.{Outcome}
use Rattle.receipts.specs.Received.{bytes_of}
use Rattle.receipts.specs.Settings.{IsSettingOf}
use Rattle.duplex_commands.specs.Reading.{DuplexReading, duplex_in}
use Rattle.duplex_commands.specs.Run.{run_settings, came_on, IsRunFor, IsDuplexed, duplex_outcome}

-- The words that the ends sent in the run of what was read. The capture of each listed channel at an end has exactly the packets
-- of the other end whose end word was sent more than `delay` slots before the end of the run, in order; and no queue of a channel
-- that has a calendar entry was ever above the bound. That is so whatever the files hold.
pub record IsHeldBack (r : DuplexReading) (o : Outcome) : Type 0 where
  pub a : List Word
  pub b : List Word
  pub run : IsRunFor r a b
  pub setting : Setting
  pub is_setting : IsSettingOf r.plan setting
  pub outcome : o ≡ duplex_outcome r setting a b
  pub captures : (channel : ℕ) → is_listed setting channel ≡ true →
      (came_on r setting b channel ≡ bytes_of (sent_in_time (run_settings r.settings) run.ends run.ends.packets_of_b b channel r.settings.slots))
      × (came_on r setting a channel ≡ bytes_of (sent_in_time (run_settings r.settings) run.ends run.ends.packets_of_a a channel r.settings.slots))
  pub peaks : (channel : ℕ) → Contains r.plan.entries channel →
      (peak (run_settings r.settings) b channel r.settings.slots ≤ peak_bound (run_settings r.settings) run.ends (calendar_words run.ends))
      × (peak (run_settings r.settings) a channel r.settings.slots ≤ peak_bound (run_settings r.settings) run.ends (calendar_words run.ends))

abbrev pub EndsHoldBack : Type 0
EndsHoldBack = (files : Files) (name : List ℕ) (r : DuplexReading) (o : Outcome) → duplex_in files name ≡ Ok r → IsDuplexed r o → IsHeldBack r o
