use Rattle.std.proofs.Common.{◌≡◌, ◌≤◌, take, vec_capacity}
use Rattle.camxpt_c.proofs.port.with_room.Given as goal

abbrev pub invariant-loop-user : goal.invariant-loop-user
invariant-loop-user l = (l.kept.items ≡ take l.user-index l.users) × (l.room ≤ vec_capacity l.kept)
