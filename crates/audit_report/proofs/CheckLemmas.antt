-- what a check counts
use Rattle.std.proofs.Common.{◌≡◌, ℕ, List, Option, Some, None, refl, sym, ◌∙◌, length}
use Rattle.std.proofs.lemmas.List.{length-map}
use Rattle.audit_report.specs.Words.{Past, Topology, Event, commands, round, stays_begun, stay_row, net_of, instance_of, instance_of_rows, live_cost, unsent}
use Rattle.audit_report.specs.Check.{IsCounted, Counts}
use Rattle.audit_report.specs.declared.input.Input.TheVariants as input
use Rattle.audit_report.proofs.AuditLemmas.{live_known}

stays-net : (c : Topology) (es : List Event) → (instance_of c es).stays ≡ length (stays_begun es)
unfolding instance_of_rows net_of
stays-net c es = length-map (stays_begun es) (stay_row c es)

rounds-net : (c : Topology) (es : List Event) → (instance_of c es).rounds ≡ round es
unfolding instance_of_rows net_of
rounds-net c es = refl

commands-net : (c : Topology) (es : List Event) → (net_of c es).commands ≡ commands es
unfolding net_of
commands-net c es = refl

same_some : (x y : ℕ) → ◌≡◌ {A = Option ℕ} (Some x) (Some y) → x ≡ y
same_some x y e = cc

-- those of a history
pub history_counted : (past : Past) (counts : Counts) → unsent past.events ≡ None → counts.commands ≡ commands past.events → counts.stays ≡ length (stays_begun past.events) → counts.rounds ≡ round past.events
    → live_cost past.config past.events ≡ Some counts.live → IsCounted (input.Trace past) counts
history_counted past counts sent commands stays rounds live = record {
  complete = sent;
  commands = commands ∙ sym (commands-net past.config past.events);
  stays = stays ∙ sym (stays-net past.config past.events);
  rounds = rounds ∙ sym (rounds-net past.config past.events);
  live = (live, same_some _ _ (sym live ∙ live_known past.config past.events sent));
}
