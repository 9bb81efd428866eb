-- how large the numbers and the text of a report may be
use Rattle.std.specs.Prelude.{ℕ, nat_le, if◌then◌else◌}
use Rattle.report_text.specs.Words.{MAX_BYTES, MAX_PRICE, Instance}
use Rattle.report_text.specs.declared.limits.TheConstants.{MAX_REPORT_BYTES}

-- the largest cost that a report may state: 18 digits
abbrev pub max_stated : ℕ
max_stated = 999999999999999999

-- the most that a stay's line may say: 65,535 in the report of a history, and 1,048,576 in that of a recording, where prices
-- may be larger
abbrev pub max_number : Instance → ℕ
max_number net = if nat_le net.max_price MAX_PRICE then 65535 else 1048576

-- how many bytes a report may have: 16,777,216 that of a history, and 268,435,456 that of a recording
abbrev pub max_bytes : Instance → ℕ
max_bytes net = if nat_le net.max_price MAX_PRICE then MAX_BYTES else MAX_REPORT_BYTES
