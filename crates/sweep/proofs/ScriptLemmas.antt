-- a script keeps the rules with other openings
use Rattle.std.proofs.Common.{◌≡◌, ℕ, true, ◌&&◌, nat_lt, nat_le, ◌==◌, List, [], ◌∷◌, length, get_or, refl, sym, ap, ◌∙◌}
use Rattle.std.specs.List.{AllByRecursion}
use Rattle.cam_types.specs.Topology.{Topology}
use Rattle.cam_types.specs.Topology.{are_openings}
use Rattle.cam_types.specs.declared.limits.TheConstants.{MAX_PRIORITY, MAX_RETRIES}
use Rattle.event_rules.specs.Legal.{is_count}
use Rattle.event_rules.specs.declared.event.Event.TheVariants.{Submit, Send, Done, Requeue, Finish, FreezeDev, ReleaseDev, FreezeSim, ReleaseSim, Adjust, Tick}
use Rattle.trace_file.specs.Scenarios.{Scenario, IsScenario, is_ruled}
use Rattle.trace_file.specs.declared.step.Step.{Step}
use Rattle.trace_file.specs.declared.step.Step.TheVariants.{Act, Pause}
use Rattle.sweep.specs.Settings.{Change}
use Rattle.sweep.specs.Changes.{changed_adapters, changed_devices, changed_config, changed_script}
use Rattle.sweep.proofs.ChangeLemmas.{length_adapters, length_devices}

-- what a driver may ask for goes by how many devices and adapters there are
ruled_still : (c c' : Topology) (driver : ℕ) (one : Step) → length c'.devices ≡ length c.devices → length c'.adapters ≡ length c.adapters → is_ruled c driver one ≡ true → is_ruled c' driver one ≡ true
ruled_still c c' driver (Act (Submit by device priority retries flags)) ds as' is = rw ds is
ruled_still c c' driver (Act (FreezeDev device count)) ds as' is = rw ds is
ruled_still c c' driver (Act (ReleaseDev device count)) ds as' is = rw ds is
ruled_still c c' driver (Act (FreezeSim sim count)) ds as' is = rw as' is
ruled_still c c' driver (Act (ReleaseSim sim)) ds as' is = rw as' is
ruled_still c c' driver (Act (Adjust device openings)) ds as' is = rw ds is
ruled_still c c' driver (Act (Send lane ccb)) ds as' is = is
ruled_still c c' driver (Act (Done ccb outcome)) ds as' is = is
ruled_still c c' driver (Act (Requeue ccb)) ds as' is = is
ruled_still c c' driver (Act (Finish ccb)) ds as' is = is
ruled_still c c' driver (Act Tick) ds as' is = is
ruled_still c c' driver (Pause round) ds as' is = is

all_still : {X : Type 0} (P Q : X → Type 0) (xs : List X) → ((x : X) → P x → Q x) → AllByRecursion P xs → AllByRecursion Q xs
all_still P Q [] f all = all
all_still P Q (x ∷ xs) f all = (f x all.0, all_still P Q xs f all.1)

pub script_kept : (s : Scenario) (changes : List Change) → IsScenario s → IsScenario (changed_script s changes)
script_kept s changes k = record {
  eight = k.eight;
  lanes = k.lanes;
  ruled = λ driver. all_still (λ one. is_ruled s.config driver one ≡ true) (λ one. is_ruled (changed_config s.config changes) driver one ≡ true) (get_or s.drivers driver [])
      (λ one. ruled_still s.config (changed_config s.config changes) driver one (length_devices changes 0 s.config.devices) (length_adapters changes 0 s.config.adapters)) (k.ruled driver);
  answered = k.answered;
  few_steps = k.few_steps;
  few_answers = k.few_answers;
}
