-- the report on a net: a schedule, what it costs, and the prices that prove it
use Rattle.std.specs.Prelude.{ℕ, zero, suc, ◌+◌, ◌-◌, ◌==◌, nat_lt, if◌then◌else◌, List, [], ◌++◌, length, slice_get, codes, decimal}
use Rattle.std.specs.Option.{option_map_or}
use Rattle.report_text.specs.Words.{Device, address_of, spelled, Stay, rows, NetRows, instance_of_rows, live_of_rows, names_of_rows, cost, Pricing}
use Rattle.report_text.specs.Lines.{line}

-- what the waiting of a net's stays cost, in weighted rounds, as they were sent
abbrev pub live_cost_of : NetRows → ℕ
live_cost_of net = cost (instance_of_rows net) (live_of_rows net)

-- the first seven lines: what the net has, what its live schedule cost, and what is parsed of a best one's cost and of the
-- excess
unfoldable pub summary_text : NetRows → ℕ → ℕ → ℕ → List ℕ
summary_text net live best excess =
    line (codes "camaudit") 1
    ++ line (codes "commands") net.commands
    ++ line (codes "stays") (instance_of_rows net).stays
    ++ line (codes "rounds") (instance_of_rows net).rounds
    ++ line (codes "live") live
    ++ line (codes "best") best
    ++ line (codes "excess") excess

-- a number after a space
abbrev pub number_text : ℕ → List ℕ
number_text n = codes " " ++ decimal n

-- the texts of the first n numbers, one after another
abbrev pub texts_below : ℕ → (ℕ → List ℕ) → List ℕ
texts_below zero text = []
texts_below (suc n) text = texts_below n text ++ text n

-- a stay's CCB and try
unfoldable pub name_text : NetRows → ℕ → List ℕ
name_text net s = option_map_or (λ (stay : Stay). number_text stay.ccb ++ number_text stay.attempt) (slice_get (names_of_rows net) s) []

-- a stay: its CCB and try, and the rounds in which it arrived and was sent
abbrev pub stay_start : NetRows → ℕ → List ℕ
stay_start net s = codes "stay" ++ (name_text net s ++ (number_text ((instance_of_rows net).arrival s) ++ number_text (live_of_rows net s)))

-- and then the round in which it would best be sent, and its weight
unfoldable pub stay_line : NetRows → (ℕ → ℕ) → ℕ → List ℕ
stay_line net best s = stay_start net s ++ (number_text (best s) ++ (number_text ((instance_of_rows net).weight s) ++ codes "\n"))

-- a price of an opening in a round, where it isn't 0
abbrev pub price_line : List ℕ → ℕ → ℕ → List ℕ
price_line whose r price = if price == 0 then [] else whose ++ (number_text r ++ (number_text price ++ codes "\n"))

-- whose opening it is, after all devices: an adapter by its number, and after all adapters a link by its number
abbrev pub shared_text : ℕ → ℕ → List ℕ
shared_text adapters n = if nat_lt n adapters then codes "price sim" ++ number_text n else codes "price link" ++ number_text (n - adapters)

-- the same by the row: a device by its path, and after all devices an adapter or a link
unfoldable pub row_text : List Device → ℕ → ℕ → List ℕ
row_text devices adapters row =
    option_map_or (λ (device : Device). codes "price dev " ++ spelled (address_of device)) (slice_get devices row) (shared_text adapters (row - length devices))

unfoldable pub row_line : List Device → ℕ → Pricing → ℕ → ℕ → List ℕ
row_line devices adapters p row r = price_line (row_text devices adapters row) r (p row r)

-- the prices by row and round
unfoldable pub price_lines : NetRows → Pricing → List ℕ
price_lines net p =
    texts_below (rows (instance_of_rows net)) (λ row. texts_below (instance_of_rows net).rounds (λ r. row_line net.config.devices (instance_of_rows net).adapters p row (r + 1)))

-- the stays in creation order, the prices, and the last line
unfoldable pub plan_text : NetRows → (ℕ → ℕ) → Pricing → List ℕ
plan_text net best p =
    texts_below (instance_of_rows net).stays (stay_line net best)
    ++ (price_lines net p
    ++ codes "end\n")
