-- what was found at the places of a history makes its net
use Rattle.std.proofs.Common.{◌≡◌, ℕ, ◌+◌, ◌-◌, ◌<◌, ◌≤◌, Bool, true, false, cond, List, [], ◌∷◌, length, map, drop, refl, sym, ap, ◌∙◌, arith, length-drop, Option, Some, None, not, unwrap_or, take_all}
use Rattle.std.specs.Option.{option_map, option_map_or}
use Rattle.round_net.specs.Words.{commands, Topology, Adapter, Device, is_send_of, round, stays_begun, is_unsent, send_place, live_round, Event, Passage, next_stay, record_of, records}
use Rattle.round_net.specs.Rows.{NetRows, cell, StayRow}
use Rattle.round_net.specs.Caps.{resource_count, is_free, openings_in, sends_in, cap}
use Rattle.round_net.specs.Nets.{last_round, stay_row, row_of, table, net_of}
use Rattle.round_net.specs.Marks.{AreCaps, IsNoted, HasCells}
use Rattle.round_net.specs.declared.price_range.TheConstants.{MAX_PRICE}
use Rattle.round_net.proofs.FilledLemmas.{net_with-parts}
use Rattle.round_net.proofs.CellLemmas.{cell_within}
use Rattle.xpt_core.proofs.SentLemmas.{first_past, unsent_none}
use Rattle.round_net.proofs.TableLemmas.{table_by_cells}

-- a stay without a send counts as sent in the last round
live_round-unsent : (es : List Event) (p : Passage) → is_unsent es p ≡ true → live_round es p ≡ round es
unfolding send_place
live_round-unsent es p unsent =
    let past = first_past (is_send_of p.ccb) (drop (p.place + 1) es) (unsent_none es p unsent) in
    ap round (take_all (send_place es p) es (omega (arith, past, length-drop (p.place + 1) es)))

pub live_cases : (es : List Event) (p : Passage) (b : Bool) → is_unsent es p ≡ b → unwrap_or (cond b None (Some (live_round es p))) (round es) ≡ live_round es p
live_cases es p true unsent = sym (live_round-unsent es p unsent)
live_cases es p false sent = refl

last_cases : (o : Option Passage) (n : ℕ) → option_map_or (λ arrival. arrival - 1) (option_map (λ (q : Passage). q.arrival) o) n ≡ option_map_or (λ (q : Passage). q.arrival - 1) o n
last_cases None n = refl
last_cases (Some q) n = refl

row_of-record : (c : Topology) (es : List Event) (p : Passage) → row_of c (round es) (record_of es p) ≡ stay_row c es p
unfolding stay_row last_round
row_of-record c es p = rw (live_cases es p (is_unsent es p) refl, last_cases (next_stay (stays_begun es) p) (round es)) refl

map-map : {X Y Z : Type 0} (g : Y → Z) (f : X → Y) (xs : List X) → map g (map f xs) ≡ map (λ x. g (f x)) xs
map-map g f [] = refl
map-map g f (x ∷ xs) = ap (λ zs. g (f x) ∷ zs) (map-map g f xs)

pub map-same : {X Y : Type 0} (f g : X → Y) → ((x : X) → f x ≡ g x) → (xs : List X) → map f xs ≡ map g xs
map-same f g h [] = refl
map-same f g h (x ∷ xs) = rw (h x, map-same f g h xs) refl

rows_of_records : (c : Topology) (es : List Event) → map (row_of c (round es)) (records es) ≡ map (stay_row c es) (stays_begun es)
unfolding records
rows_of_records c es = map-map (row_of c (round es)) (record_of es) (stays_begun es) ∙ map-same (λ p. row_of c (round es) (record_of es p)) (stay_row c es) (row_of-record c es) (stays_begun es)

-- caps by what was noted
flipped : {X : Type 0} (b : Bool) (x y : X) → cond (not b) x y ≡ cond b y x
flipped true x y = refl
flipped false x y = refl

pub caps_found : (c : Topology) (es : List Event) (rounds : ℕ) (frozen : List Bool) (openings sends caps : List ℕ) → 1 ≤ rounds → IsNoted c es rounds frozen openings sends → HasCells c rounds frozen openings sends → AreCaps frozen sends openings caps →
    caps ≡ table (resource_count c) rounds (cap c es)
unfolding cap
caps_found c es rounds frozen openings sends caps some noted cells are =
    table_by_cells (resource_count c) rounds (cap c es) caps some (are.0 ∙ cells.marked) (λ row r within first last.
    let lt : cell rounds row r < length frozen = rw cells.marked (cell_within rounds (resource_count c) row r within first last) in
    are.1 (cell rounds row r) lt ∙ rw (noted.marked row r within first last, noted.sent row r within first last, noted.opened row r within first last) (flipped (is_free c es row r) (sends_in c es row r) (openings_in c es row r)))

-- all parts of the net
pub net_found : (c' c : Topology) (es : List Event) (commands' rounds links : ℕ) (adapter_of : List ℕ) (link_of : List (Option ℕ)) (rows : List StayRow) (caps : List ℕ) →
    c' ≡ c → commands' ≡ commands es → rounds ≡ round es → links ≡ length c.links → adapter_of ≡ map (λ (device : Device). device.bus) c.devices → link_of ≡ map (λ (adapter : Adapter). adapter.link) c.adapters → rows ≡ map (row_of c rounds) (records es) →
    caps ≡ table (resource_count c) (round es) (cap c es) → ◌≡◌ {A = NetRows} (record { config = c'; commands = commands'; rounds = rounds; links = links; adapter_of = adapter_of; link_of = link_of; stays = rows; caps = caps; max_price = MAX_PRICE }) (net_of c es)
unfolding net_of
net_found c' c es commands' rounds links adapter_of link_of rows caps k n r l a o s are =
    net_with-parts c' c commands' (commands es) rounds (round es) links adapter_of link_of rows (map (stay_row c es) (stays_begun es)) caps (cap c es) MAX_PRICE k n r l a o (s ∙ ap (λ n. map (row_of c n) (records es)) r ∙ rows_of_records c es) are
