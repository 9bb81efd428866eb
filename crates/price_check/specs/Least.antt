use Rattle.std.specs.Prelude.{ℕ, nat_le, if◌then◌else◌, Option, Some, None}

-- the lesser of what there is
abbrev pub cheaper : Option ℕ → Option ℕ → Option ℕ
cheaper None offer = offer
cheaper (Some least) None = Some least
cheaper (Some least) (Some offer) = if nat_le least offer then Some least else Some offer
