-- rounds that are passed over
use Rattle.std.proofs.Common.{◌≡◌, ◌≢◌, ℕ, ◌+◌, ◌<◌, ◌≤◌, false, List, length, get_or, set, ap, ◌∙◌, inl, inr, arith, length-set, get_or-set_same, get_or-set_other}
use Rattle.std.proofs.lemmas.Bool.{cases_eq, cases_lt}
use Rattle.round_net.specs.Instance.{Instance, rows}
use Rattle.round_net.specs.Rows.{cell}
use Rattle.round_net.proofs.CellLemmas.{cell_in, cell-injective}
use Rattle.orders.specs.Room.{has_room, HasNoRoom, AreSkips}

-- a device without room in one round, and in the rounds from there on
pub HasNoRoom-one : (net : Instance) (loads : List ℕ) (d r : ℕ) → has_room net loads d r ≡ false → HasNoRoom net loads d r (r + 1)
HasNoRoom-one net loads d r full = λ q low high within. let same : q ≡ r = omega arith in ap (has_room net loads d) same ∙ full

pub HasNoRoom-joined : (net : Instance) (loads : List ℕ) (d from mid to : ℕ) → HasNoRoom net loads d from mid → HasNoRoom net loads d mid to → HasNoRoom net loads d from to
HasNoRoom-joined net loads d from mid to first second = λ r low high within. elim (cases_lt r mid) [
  | inl early ↦ first r low early within
  | inr late ↦ second r late high within
]

-- one number of rounds is another one
pub AreSkips-set : (net : Instance) (loads skips new : List ℕ) (d r at skip : ℕ) → d < net.devices → 1 ≤ r → r ≤ net.rounds → at ≡ cell net.rounds d r → new ≡ set skips at skip → r + skip ≤ net.rounds + 1 → HasNoRoom net loads d r (r + skip) → AreSkips net loads skips → AreSkips net loads new
AreSkips-set net loads skips new d r at skip within first last is made short full are =
    let known : at < length skips = omega (arith, is, cell_in skips net.rounds (rows net) d r are.cells (omega arith) first last) in
    let here : get_or new at 0 ≡ skip = ap (λ (xs : List ℕ). get_or xs at 0) made ∙ get_or-set_same skips at skip 0 known in
    let there : (k : ℕ) → k ≢ at → get_or new k 0 ≡ get_or skips k 0 = λ k apart. ap (λ (xs : List ℕ). get_or xs k 0) made ∙ get_or-set_other skips at k skip 0 apart in
    -- what holds of the new number and of each old one holds of each new one
    let each : (P : ℕ → ℕ → ℕ → Type 0) → P d r skip → ((e q : ℕ) → e < net.devices → 1 ≤ q → q ≤ net.rounds → P e q (get_or skips (cell net.rounds e q) 0)) → (e q : ℕ) → e < net.devices → 1 ≤ q → q ≤ net.rounds → P e q (get_or new (cell net.rounds e q) 0) = λ P own others e q inside low high.
    elim (cases_eq (cell net.rounds e q) at) [
      | inl same ↦
          let both = cell-injective net.rounds e q d r low high first last (same ∙ is) in
          let value : get_or new (cell net.rounds e q) 0 ≡ skip = ap (λ (k : ℕ). get_or new k 0) same ∙ here in
          rw (value, both.0, both.1) own
      | inr apart ↦ rw (there (cell net.rounds e q) apart) (others e q inside low high)
    ] in
    record {
      cells = ap length made ∙ length-set skips at skip ∙ are.cells;
      ends = each (λ e q v. q + v ≤ net.rounds + 1) short are.ends;
      full = each (λ e q v. HasNoRoom net loads e q (q + v)) full are.full;
    }
