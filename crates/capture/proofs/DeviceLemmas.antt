-- the rows of devices
use Rattle.std.proofs.Common.{◌≡◌, ◌≢◌, ℕ, ◌+◌, ◌<◌, ◌≤◌, ◌==◌, ◌&&◌, Bool, true, List, [], ◌∷◌, ◌++◌, length, get_or, set, refl, sym, ap, ◌∙◌, subst, arith, inl, inr, None, slice_index, count_by, replicate, Vec}
use Rattle.std.specs.Global.{Global}
use Rattle.std.proofs.lemmas.Bool.{cases_eq, eq-eqb, ne_eqb}
use Rattle.std.proofs.lemmas.Grind.{get_or-set_at}
use Rattle.std.proofs.lemmas.List.{length-set, length_push, length-replicate, get_or-replicate, get_or-set_other, get_or_append_left, get_or_push}
use Rattle.std.proofs.lemmas.List.Sums.{sum_by_push, count_by-le-length}
use Rattle.cam_types.specs.Topology.{Topology}
use Rattle.recording_file.specs.Caps.{part_count, part_of}
use Rattle.recording_file.specs.Counts.{counts_of}
use Rattle.recording_file.specs.Recorded.{load}
use Rattle.recording_file.specs.declared.part.Part.{Part}
use Rattle.recording_file.specs.declared.part.PartKind.{PartKind}
use Rattle.recording_file.specs.declared.part.PartKind.TheVariants as kind
use Rattle.recording_file.specs.declared.request.Request.{Request}
use Rattle.capture.specs.Captured.{is_measured}
use Rattle.capture.specs.Loads.{IsRow, AreRows, sends_in}
use Rattle.capture.proofs.CountLemmas.{one}

abbrev pub no_request : Request
no_request = record { driver = 0; device = 0; priority = 0; arrival = 0; last = None; sent = 0; done = None }

-- how many of a device's requests have an event in a round
abbrev pub counted : (Request → ℕ) → List Request → ℕ → ℕ → ℕ
counted event qs d r = count_by (λ (q : Request). (q.device == d) && (event q == r)) qs

counted_more : (event : Request → ℕ) (qs : List Request) (q : Request) (d r : ℕ) → counted event (qs ++ q ∷ []) d r ≡ counted event qs d r + one ((q.device == d) && (event q == r))
counted_more event qs q d r = sum_by_push (λ (p : Request). one ((p.device == d) && (event p == r))) qs q

-- one request more of the device
row_more : (event : Request → ℕ) (qs : List Request) (q : Request) (d last : ℕ) (row : List ℕ) → IsRow (counted event qs d) last row → q.device ≡ d → event q ≤ last → IsRow (counted event (qs ++ q ∷ []) d) last (set row (event q) (slice_index row (event q) + 1))
row_more event qs q d last row h same le =
    let x : ℕ = event q in
    let size = h.size in
    record {
      size = length-set row x (slice_index row x + 1) ∙ h.size;
      each = λ r few.
          let before = h.each r few in
          let more = counted_more event qs q d r in
          elim (cases_eq x r) [
            | inl here ↦
                let at : slice_index row x ≡ slice_index row r = ap (slice_index row) here in
                let counts : one ((q.device == d) && (x == r)) ≡ 1 = rw (eq-eqb q.device d same, eq-eqb x r here) refl in
                get_or-set_at row x r (slice_index row x + 1) 0 (sym here) (omega (arith, size)) ∙ omega (arith, at, before, more, counts)
            | inr other ↦
                let counts : ◌≡◌ {A = ℕ} (one ((q.device == d) && (x == r))) 0 = rw (eq-eqb q.device d same, ne_eqb x r other) refl in
                get_or-set_other row x r (slice_index row x + 1) 0 (λ e. other (sym e)) ∙ omega (arith, before, more, counts)
          ];
    }

-- and one of another
row_same : (event : Request → ℕ) (qs : List Request) (q : Request) (d last : ℕ) (row : List ℕ) → IsRow (counted event qs d) last row → q.device ≢ d → IsRow (counted event (qs ++ q ∷ []) d) last row
row_same event qs q d last row h other = record {
  size = h.size;
  each = λ r few.
      let before = h.each r few in
      let more = counted_more event qs q d r in
      let counts : ◌≡◌ {A = ℕ} (one ((q.device == d) && (event q == r))) 0 = rw (ne_eqb q.device d other) refl in
      omega (arith, before, more, counts);
}

pub rows_more : (event : Request → ℕ) (devices last : ℕ) (qs : List Request) (q : Request) (rows : List (Vec ℕ Global)) (w v : Vec ℕ Global) → AreRows (counted event qs) devices last rows → q.device < devices → event q ≤ last → w ≡ get_or rows q.device w → v.items ≡ set w.items (event q) (slice_index w.items (event q) + 1) →
    AreRows (counted event (qs ++ q ∷ [])) devices last (set rows q.device v)
rows_more event devices last qs q rows w v are lt le read is =
    let all = are.all in
    record {
      all = length-set rows q.device v ∙ are.all;
      each = λ d x inside. elim (cases_eq q.device d) [
        | inl same ↦
            let here : get_or (set rows q.device v) d x ≡ v = get_or-set_at rows q.device d v x (sym same) (omega (arith, all, lt)) in
            let was : get_or rows d w ≡ w = ap (λ k. get_or rows k w) (sym same) ∙ sym read in
            let before : IsRow (counted event qs d) last w.items = subst (λ (u : Vec ℕ Global). IsRow (counted event qs d) last u.items) was (are.each d w inside) in
            let after : IsRow (counted event (qs ++ q ∷ []) d) last v.items = subst (IsRow (counted event (qs ++ q ∷ []) d) last) (sym is) (row_more event qs q d last w.items before same le) in
            subst (λ (u : Vec ℕ Global). IsRow (counted event (qs ++ q ∷ []) d) last u.items) (sym here) after
        | inr other ↦
            let there : get_or (set rows q.device v) d x ≡ get_or rows d x = get_or-set_other rows q.device d v x (λ e. other (sym e)) in
            subst (λ (u : Vec ℕ Global). IsRow (counted event (qs ++ q ∷ []) d) last u.items) (sym there) (row_same event qs q d last (get_or rows d x).items (are.each d x inside) other)
      ];
    }

pub rows_passed : (event : Request → ℕ) (devices last : ℕ) (qs : List Request) (q : Request) (rows : List (Vec ℕ Global)) → AreRows (counted event qs) devices last rows → devices ≤ q.device → AreRows (counted event (qs ++ q ∷ [])) devices last rows
rows_passed event devices last qs q rows are ge = record {
  all = are.all;
  each = λ d x inside. row_same event qs q d last (get_or rows d x).items (are.each d x inside) (λ e. absurd (omega (arith, e, ge, inside)));
}

-- how often the request's event was counted before
pub counted_few : (event : Request → ℕ) (devices last : ℕ) (qs : List Request) (q : Request) (rows : List (Vec ℕ Global)) (w : Vec ℕ Global) → AreRows (counted event qs) devices last rows → q.device < devices → event q ≤ last → w ≡ get_or rows q.device w →
    (event q < length w.items) × (slice_index w.items (event q) ≤ length qs)
counted_few event devices last qs q rows w are lt le read =
    let row : IsRow (counted event qs q.device) last w.items = subst (λ (u : Vec ℕ Global). IsRow (counted event qs q.device) last u.items) (sym read) (are.each q.device w lt) in
    let size = row.size in
    (omega (arith, size, le), omega (arith, row.each (event q) le, count_by-le-length (λ (p : Request). (p.device == q.device) && (event p == event q)) qs))

-- the row of a device
pub row_read : (number : ℕ → ℕ → ℕ) (devices last d : ℕ) (rows : List (Vec ℕ Global)) (w : Vec ℕ Global) → AreRows number devices last rows → d < devices → w ≡ get_or rows d w → IsRow (number d) last w.items
row_read number devices last d rows w are lt read = subst (λ (u : Vec ℕ Global). IsRow (number d) last u.items) (sym read) (are.each d w lt)

-- one row more
pub rows_push : (number : ℕ → ℕ → ℕ) (n last : ℕ) (rows : List (Vec ℕ Global)) (v : Vec ℕ Global) → AreRows number n last rows → IsRow (number n) last v.items → AreRows number (n + 1) last (rows ++ v ∷ [])
rows_push number n last rows v are row =
    let all = are.all in
    record {
      all = length_push rows v ∙ ap (λ k. k + 1) are.all;
      each = λ d x inside. elim (cases_eq d n) [
        | inl same ↦ subst (λ (u : Vec ℕ Global). IsRow (number d) last u.items) (sym (get_or_push rows v x d (are.all ∙ sym same))) (subst (λ k. IsRow (number k) last v.items) (sym same) row)
        | inr other ↦
            let lt : d < n = omega (arith, inside, other) in
            subst (λ (u : Vec ℕ Global). IsRow (number d) last u.items) (sym (get_or_append_left rows (v ∷ []) x d (omega (arith, lt, all)))) (are.each d x lt)
      ];
    }

pub zeros : (last : ℕ) (row : List ℕ) → row ≡ replicate (last + 1) 0 → IsRow (λ r. 0) last row
zeros last row is = record {
  size = ap length is ∙ length-replicate (last + 1) 0;
  each = λ r few. ap (λ xs. slice_index xs r) is ∙ get_or-replicate (last + 1) r 0 0 (omega (arith, few));
}

-- ---- a part that is measured is a device

pub measured_there : (c : Topology) (rated : List Bool) (p : Part) → is_measured rated p ≡ true → p.number < part_count (counts_of c) p.kind → p.number < length c.devices
measured_there c rated p is there = by p.kind p.number is there
  where
    by : (k : PartKind) (n : ℕ) → is_measured rated (part_of k n) ≡ true → n < part_count (counts_of c) k → n < length c.devices
    by kind.Device n is there = there
    by kind.Adapter n is there = absurd (cc)
    by kind.Link n is there = absurd (cc)

pub measured_load : (c : Topology) (rated : List Bool) (qs : List Request) (p : Part) (last : ℕ) (row : List ℕ) → is_measured rated p ≡ true → IsRow (sends_in qs p.number) last row → IsRow (load c qs p) last row
measured_load c rated qs p last row is h = by p.kind p.number is h
  where
    by : (k : PartKind) (n : ℕ) → is_measured rated (part_of k n) ≡ true → IsRow (sends_in qs n) last row → IsRow (load c qs (part_of k n)) last row
    by kind.Device n is h = record { size = h.size; each = λ r few. h.each r few }
    by kind.Adapter n is h = absurd (cc)
    by kind.Link n is h = absurd (cc)
