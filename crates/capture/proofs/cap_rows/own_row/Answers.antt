use Rattle.std.proofs.Common.{◌≡◌, ◌∙◌, ap, sym, length, arith}
use Rattle.std.proofs.lemmas.List.{with_items_is}
use Rattle.capture.specs.Loads.{arrivals_in, sends_in}
use Rattle.capture.proofs.CapRowLemmas.{measured_row, steady_row}
use Rattle.capture.proofs.DeviceLemmas.{row_read, measured_there, measured_load}
use Rattle.capture.proofs.cap_rows.own_row.Goals as goal

pub index-arrivals-requires : goal.index-arrivals-requires
index-arrivals-requires c =
    let there = measured_there c.args.config.now c.args.rated.now c.args.part (sym c.is_measured.ensures ∙ c.if-is_measured.true) c.requires.there in
    omega (arith, there, c.requires.rows.arrivals.all)

pub index-sends-requires : goal.index-sends-requires
index-sends-requires c =
    let there = measured_there c.args.config.now c.args.rated.now c.args.part (sym c.is_measured.ensures ∙ c.if-is_measured.true) c.requires.there in
    omega (arith, there, c.requires.rows.sends.all)

pub room_row-requires : goal.room_row-requires
room_row-requires c =
    let a = c.args in
    let is = sym c.is_measured.ensures ∙ c.if-is_measured.true in
    rw c.deref.ensures.value (measured_load a.config.now a.rated.now a.requests.now a.part a.last c.index-sends.result.now.items is (row_read (sends_in a.requests.now) (length a.config.now.devices) a.last a.part.number a.rows.now.sends.items c.index-sends.result.now c.requires.rows.sends (measured_there a.config.now a.rated.now a.part is c.requires.there) c.index-sends.ensures))

pub waiting_row-requires-clause-arrivals : goal.waiting_row-requires-clause-arrivals
waiting_row-requires-clause-arrivals c =
    let a = c.args in
    let is = sym c.is_measured.ensures ∙ c.if-is_measured.true in
    rw c.deref-then-is_measured.ensures.value (row_read (arrivals_in a.requests.now) (length a.config.now.devices) a.last a.part.number a.rows.now.arrivals.items c.index-arrivals.result.now c.requires.rows.arrivals (measured_there a.config.now a.rated.now a.part is c.requires.there) c.index-arrivals.ensures)

pub waiting_row-requires-clause-sends : goal.waiting_row-requires-clause-sends
waiting_row-requires-clause-sends c =
    let a = c.args in
    let is = sym c.is_measured.ensures ∙ c.if-is_measured.true in
    rw c.deref-then-is_measured-2.ensures.value (row_read (sends_in a.requests.now) (length a.config.now.devices) a.last a.part.number a.rows.now.sends.items c.index-sends.result.now c.requires.rows.sends (measured_there a.config.now a.rated.now a.part is c.requires.there) c.index-sends.ensures)

pub returns-in_ok-waiting : goal.returns-in_ok-waiting
returns-in_ok-waiting c =
    let a = c.args in
    let size = c.raise_idle.auto.row in
    let many : length c.raise_idle.new.row ≡ length c.in_ok-row.row.items = size ∙ ap length c.deref_mut.ensures.value in
    rw (with_items_is c.in_ok-row.row c.raise_idle.new.row (omega (arith, many))) (measured_row a.config.now a.rated.now a.spare.now a.requests.now a.part a.last c.openings-usual.result c.in_ok-row.row.items c.in_ok-waiting.waiting.items c.raise_idle.new.row (sym c.is_measured.ensures ∙ c.if-is_measured.true) c.openings-usual.ensures c.in_ok-row.ensures c.in_ok-waiting.ensures many (rw (c.deref_mut.ensures.value, c.deref-then-is_measured-3.ensures.value) at c.raise_idle.ensures))

pub returns-in_ok-row-2 : goal.returns-in_ok-row-2
returns-in_ok-row-2 c =
    let a = c.args in
    let size = c.raise.auto.row in
    let many : length c.raise.new.row ≡ length c.in_ok-row-2.row.items = size ∙ ap length c.deref_mut-else-is_measured.ensures.value in
    rw (with_items_is c.in_ok-row-2.row c.raise.new.row (omega (arith, many))) (steady_row a.config.now a.rated.now a.spare.now a.requests.now a.part a.last c.openings-usual.result c.in_ok-row-2.row.items c.raise.new.row (sym c.is_measured.ensures ∙ c.if-is_measured.false) c.openings-usual.ensures c.in_ok-row-2.ensures many (rw c.deref_mut-else-is_measured.ensures.value at c.raise.ensures))
