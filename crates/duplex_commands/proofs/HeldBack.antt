-- What `duplex` makes is of the packets that arrived, and of queues within the bound.
use Rattle.std.proofs.Common.{◌≡◌, ℕ, List, Ok}
use Rattle.lk_outside.specs.Files.{Files}
use Rattle.run_shell.specs.Outcome.{Outcome}
use Rattle.duplex_commands.specs.Reading.{DuplexReading, duplex_in}
use Rattle.duplex_commands.specs.Run.{IsDuplexed}
use Rattle.duplex_commands.specs.HeldBack.{IsHeldBack}
use Rattle.duplex_commands.proofs.CapturesSent.{captures_are_sent}
use Rattle.duplex_commands.proofs.PeaksWithin.{peaks_are_bounded}

pub held_back : (files : Files) (name : List ℕ) (r : DuplexReading) (o : Outcome) → duplex_in files name ≡ Ok r → IsDuplexed r o → IsHeldBack r o
held_back files name r o is (a, b, run, (setting, of, e)) = record {
  a = a;
  b = b;
  run = run;
  setting = setting;
  is_setting = of;
  outcome = e;
  captures = λ channel listed. captures_are_sent files name r setting a b channel run is of listed;
  peaks = λ channel among. peaks_are_bounded files name r a b channel run is among;
}
