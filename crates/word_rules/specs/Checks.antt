-- What a checker stands for, and the rows of a Control word by what it keeps.
use Rattle.std.specs.Prelude.{◌≡◌, ◌≤◌, ◌<◌, ◌^◌, List, length}
use Rattle.lk_base.specs.declared.word.RxWord.{RxWord}
use Rattle.word_rules.specs.declared.checker.Checker.{Checker}
use Rattle.word_rules.specs.Rules.{accepted_before}
use Rattle.word_rules.specs.Faults.{Plan}
use Rattle.word_rules.specs.Stands.{IsBefore}
use Rattle.word_rules.specs.Channels.{HasBursts, HasListed, closed}
use Rattle.word_rules.specs.Due.{IsDue}
use Rattle.word_rules.specs.Flows.{IsFlow}

-- the checker keeps what the rules of this plan read of these words, the latest first
pub record Keeps (c : Checker) (p : Plan) (earlier : List RxWord) : Type 0 where
  pub limits : c.limits ≡ p.limits
  pub entries : c.entries ≡ length p.entries
  pub few : c.entries < 2 ^ 32
  pub before : IsBefore c.before earlier
  pub bads : c.bads ≤ length earlier
  pub all : length c.kept.items ≡ 65536
  pub bursts : HasBursts c.kept.items c.bads p.limits.max_packet p.limits.wide (closed earlier)
  pub listed : HasListed c.kept.items p.channels
  pub due : IsDue c.due (accepted_before earlier)
  pub flow : IsFlow c.flow p.entries p.flow (length earlier)
