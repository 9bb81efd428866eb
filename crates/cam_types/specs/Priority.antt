use Rattle.std.specs.Prelude.{ℕ, ◌/◌, ◌==◌, if◌then◌else◌}

-- the run level of a priority: HOST 0, BUS 1, XPT 2, DEV 3, NORMAL 4
abbrev pub run_level : ℕ → ℕ
run_level priority = priority / 256

-- what a round of waiting costs at a run level by the standard table
abbrev pub level_weight : ℕ → ℕ
level_weight level =
    if level == 0 then 16
    else if level == 1 then 8
    else if level == 2 then 4
    else if level == 3 then 2
    else 1
