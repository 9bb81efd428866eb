-- the CCBs that wait for a decision, in the order of completion
use Rattle.std.specs.Prelude.{ℕ, ◌+◌, ◌==◌, Bool, not, List, [], ◌∷◌, ◌++◌, length, map, filter, count_by, drop, Option, Some, None, if◌then◌else◌}
use Rattle.std.specs.List.{list_any, filter_map}
use Rattle.xpt_core.specs.Words.{prefixed, concerns, is_erring, Event, Done, Requeue, Finish}

-- a completion that erred: its CCB and its place
pub record Failure : Type 0 where
  pub ccb : ℕ
  pub place : ℕ

abbrev pub failure_of : List Event × Event → Option Failure
failure_of (before, Done ccb outcome) =
    if is_erring (Done ccb outcome) then Some (record { ccb = ccb; place = length before }) else None
failure_of (before, _) = None

-- all of them, in order
unfoldable pub failures : List Event → List Failure
failures events = filter_map failure_of (prefixed events)

-- no event after it concerns its CCB
abbrev pub is_undecided : List Event → Failure → Bool
is_undecided events f = not (list_any (concerns f.ccb) (drop (f.place + 1) events))

abbrev pub failed_ccb : Failure → ℕ
failed_ccb f = f.ccb

-- the CCBs of those that are undecided, the one that completed first in front
unfoldable pub cases : List Event → List ℕ
cases events = map failed_ccb (filter (is_undecided events) (failures events))

-- how often a CCB is among these
abbrev pub times : ℕ → List ℕ → ℕ
times ccb cases = count_by (λ k. k == ccb) cases

-- these but the CCB of this number
abbrev pub other_cases : ℕ → List ℕ → List ℕ
other_cases ccb cases = filter (λ k. not (ccb == k)) cases

-- the cases after an event: a requeue and a finish decide on a CCB, and one that errs is the last
abbrev pub decided : Event → List ℕ → List ℕ
decided (Requeue ccb) cases = other_cases ccb cases
decided (Finish ccb) cases = other_cases ccb cases
decided (Done ccb outcome) cases = if is_erring (Done ccb outcome) then cases ++ ccb ∷ [] else cases
decided _ cases = cases
