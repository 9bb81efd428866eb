-- what a script's ports answer
use Rattle.std.specs.Prelude.{◌≡◌, ℕ, true, List, [], length, get_or, map}
use Rattle.std.specs.List.{AllByRecursion, range_with_len}
use Rattle.sim_worker.specs.Words.{Outcome, is_answer}
pub use Rattle.sim_worker.specs.declared.served.Served.{Served}

-- a script's port as its callers see it: the answers of its lane, what it has served, and for how many more it has room
pub record PortState : Type 0 where
  pub answers : List Outcome
  pub served : List Served
  pub room : ℕ

-- a good completion: status 01, SCSI status 00, no sense data
abbrev pub completed : Outcome
completed = record { status = 1; scsi = 0; sense = [] }

-- the outcome of the k-th command that is served, from 0: the lane's k-th answer, and a good completion after the last
abbrev pub answer_at : List Outcome → ℕ → Outcome
answer_at answers k = get_or answers k completed

-- the outcomes of the first n commands that are served
abbrev pub first_answers : List Outcome → ℕ → List Outcome
first_answers answers n = map (answer_at answers) (range_with_len 0 n)

-- the outcomes of what was served
abbrev pub outcomes : List Served → List Outcome
outcomes served = map (λ (one : Served). one.outcome) served

-- no answer has status 00, and what was served came out as the answers say
pub record IsPort (answers : List Outcome) (served : List Served) : Type 0 where
  pub answered : AllByRecursion (λ outcome. is_answer outcome ≡ true) answers
  pub given : outcomes served ≡ first_answers answers (length served)
