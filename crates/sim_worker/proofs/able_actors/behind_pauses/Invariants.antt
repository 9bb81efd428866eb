use Rattle.std.proofs.Common.{◌≡◌, ℕ, ◌-◌, List, length}
use Rattle.sim_worker.specs.Words.{round, Event}
use Rattle.sim_worker.specs.Work.{HasDone, calls_of}
use Rattle.sim_worker.proofs.able_actors.behind_pauses.Given as goal

abbrev pub invariant-loop-round : goal.invariant-loop-round
invariant-loop-round l = record {
  done : (d : ℕ) → (events : List Event) → l.now ≡ round events → HasDone l.steps d events l.from → HasDone l.steps d events l.done;
  calls : calls_of l.steps l.done ≡ calls_of l.steps l.from;
}

abbrev pub decreases-loop-round : goal.decreases-loop-round
decreases-loop-round l = length l.steps - l.done
