use Rattle.std.proofs.Common.{◌≡◌}
use Rattle.std.specs.Vec.{vec_capacity}
use Rattle.recorder.proofs.KeepLemmas.{IsKept}
use Rattle.recorder.proofs.ids.Ids.keep_staying.Given as goal

-- those that stay, of those so far
abbrev pub invariant-loop-place : goal.invariant-loop-place
invariant-loop-place l = record {
  kept : IsKept l.span l.attempts l.initial.self-inside.list.items l.self-inside.list.items l.self-inside.heads.items l.self-inside.earlier.items l.place l.count;
  room : vec_capacity l.self-inside.list ≡ vec_capacity l.initial.self-inside.list;
  space : vec_capacity l.self-inside.earlier ≡ vec_capacity l.initial.self-inside.earlier;
}
