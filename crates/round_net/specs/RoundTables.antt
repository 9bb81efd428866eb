-- what a table of rounds keeps
use Rattle.std.specs.Prelude.{◌≡◌, ℕ, Bool, List}
use Rattle.round_net.specs.Words.{round, history_rules, Transport}
use Rattle.round_net.specs.Ends.{AreEnds}
use Rattle.round_net.specs.Marks.{IsNoted, HasCells}
use Rattle.round_net.specs.declared.round_ends.RoundEnds.{RoundEnds}

-- the rows of its rounds are noted, and what held at their ends
pub record IsRoundTable (t : Transport) (frozen : List Bool) (openings sends : List ℕ) (ends : RoundEnds) : Type 0 where
  pub rules : t.rules ≡ history_rules
  pub noted : IsNoted t.config t.events (round t.events) frozen openings sends
  pub cells : HasCells t.config (round t.events) frozen openings sends
  pub ended : AreEnds t.config t.events ends
