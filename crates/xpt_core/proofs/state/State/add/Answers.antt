use Rattle.event_rules.proofs.LegalLemmas.{legal-none}
use Rattle.xpt_core.proofs.state.State.add.Goals as goal

pub append-requires : goal.append-requires
append-requires c = record { legal = legal-none c.args.self.now.rules c.args.self.now.config c.args.self.now.events c.args.event c.requires }
