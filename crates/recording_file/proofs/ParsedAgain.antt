-- What is spelled as a record is parsed again.
use Rattle.std.proofs.Common.{◌≡◌, ◌<◌, ◌≤◌, ℕ, true, refl, arith}
use Rattle.std.specs.Prelude.{Bool, Ok, codes, nat_le, nat_lt, ⊤}
use Rattle.std.proofs.lemmas.Bool.{and_parts, leb-true, ltb-true}
use Rattle.csv.specs.Records.{field_at}
use Rattle.recording_file.specs.Rows.{span_at, rounds_at, named_at, text_at, capped_at, most_at, request_at}
use Rattle.recording_file.specs.Recorded.{Recorded, Request, Span, is_done_right, MAX_RECORDED_ROUNDS}
use Rattle.recording_file.specs.Names.{NameValue, is_name, is_name_text, is_next_name, named_count, NameKind}
use Rattle.recording_file.specs.declared.name.NameKind.TheVariants as named
use Rattle.recording_file.specs.Caps.{Cap, is_cap, is_next_cap, part_count, PartKind}
use Rattle.recording_file.specs.declared.part.PartKind.TheVariants as part
use Rattle.recording_file.specs.Reading.{parsed_by, parsed_name, parsed_cap, ParsedRow}
use Rattle.recording_file.specs.declared.parsed_row.ParsedRow.TheVariants as parsed
use Rattle.record_text.specs.Fields.{max_number, unused_from}
use Rattle.recording_file.specs.Counts.{Counts, counts_of}
use Rattle.recording_file.specs.Records.{unit_row, rounds_row, name_row, cap_row, request_row, row_of_parsed, word_for, FitsParsed, FitsRequest}
use Rattle.record_text.proofs.RowLaws.{adapter_again, device_again, one_again, weight_again}
use Rattle.recording_file.proofs.FieldLaws.{done_again, time_again, named_again, part_again}
use Rattle.record_text.proofs.FieldLaws.{number_again, optional_again, within_again, below_again}

-- the numbers of what there is fit a field
pub record IsCounted (c : Counts) : Type 0 where
  pub devices : c.devices ≤ 32
  pub adapters : c.adapters ≤ 8
  pub links : c.links ≤ 4

pub named_small : (c : Counts) (k : NameKind) → IsCounted c → named_count c k ≤ max_number
named_small c named.Driver h = omega arith
named_small c named.Device h = let d = h.devices in omega arith
named_small c named.Adapter h = let d = h.adapters in omega arith
named_small c named.Link h = let d = h.links in omega arith

part_small : (c : Counts) (k : PartKind) → IsCounted c → part_count c k ≤ max_number
part_small c part.Device h = let d = h.devices in omega arith
part_small c part.Adapter h = let d = h.adapters in omega arith
part_small c part.Link h = let d = h.links in omega arith

unit_again : (u : Span) → 1 ≤ u.count → u.count ≤ max_number → span_at (unit_row u) ≡ Ok u
unfolding span_at unused_from field_at
unit_again u a b = rw (within_again (unit_row u) 1 1 max_number u.count (omega arith) a b refl, time_again u.unit) refl

rounds_again : (n : ℕ) → 1 ≤ n → n ≤ MAX_RECORDED_ROUNDS → rounds_at (rounds_row n) ≡ Ok n
unfolding rounds_at unused_from field_at
rounds_again n a b = rw (within_again (rounds_row n) 1 1 MAX_RECORDED_ROUNDS n (omega arith) a b refl) refl

request_again : (completions : Bool) (q : Request) → FitsRequest q → is_done_right completions q ≡ true → request_at completions (request_row q) ≡ Ok q
unfolding request_at field_at
request_again completions q h right =
    let row = request_row q in
    rw (
      number_again row 1 255 q.driver (omega arith) h.driver refl,
      number_again row 2 max_number q.device (omega arith) h.device refl,
      number_again row 3 max_number q.priority (omega arith) h.priority refl,
      number_again row 4 max_number q.arrival (omega arith) h.arrival refl,
      optional_again row 5 max_number q.last (omega arith) h.last refl,
      number_again row 6 max_number q.sent (omega arith) h.sent refl,
      done_again completions q.sent row q.done right h.done refl,
    ) refl

kind_again : (c : Counts) (x : NameValue) → IsCounted c → x.number < named_count c x.kind → named_at c (name_row x) ≡ Ok (x.kind, x.number)
unfolding named_at field_at
kind_again c x h less =
    let small = named_small c x.kind h in
    rw (named_again x.kind, below_again (name_row x) 2 (named_count c x.kind) x.number less (omega arith) refl) refl

text_again : (x : NameValue) → is_name_text x.text ≡ true → text_at (name_row x) ≡ Ok x.text
unfolding text_at unused_from field_at
text_again x e = rw e refl

name_again : (n : ℕ) (r : Recorded) (x : NameValue) → IsCounted (counts_of r.config) → is_name (counts_of r.config) (r.names, x) ≡ true → parsed_name n r (name_row x) ≡ Ok (parsed.Name x)
unfolding parsed_name is_name
name_again n r x h e =
    let a = and_parts (nat_lt x.number (named_count (counts_of r.config) x.kind)) _ e in
    let b = and_parts (is_next_name r.names x.kind x.number) _ a.1 in
    rw (kind_again (counts_of r.config) x h (ltb-true _ _ a.0), b.0, text_again x b.1) refl

capped_again : (rounds : ℕ) (c : Counts) (x : Cap) → IsCounted c → rounds ≤ max_number → x.part.number < part_count c x.part.kind → 1 ≤ x.first → x.first ≤ rounds → capped_at rounds c (cap_row x) ≡ Ok (x.part, x.first)
unfolding capped_at field_at
capped_again rounds c x h le less some most =
    let small = part_small c x.part.kind h in
    rw (part_again x.part.kind, below_again (cap_row x) 2 (part_count c x.part.kind) x.part.number less (omega arith) refl, within_again (cap_row x) 3 1 rounds x.first le some most refl) refl

most_again : (rounds : ℕ) (x : Cap) → rounds ≤ max_number → x.first ≤ x.last → x.last ≤ rounds → x.most ≤ 65535 → most_at rounds x.first (cap_row x) ≡ Ok (x.last, x.most)
unfolding most_at unused_from field_at
most_again rounds x le order last most =
    rw (within_again (cap_row x) 4 x.first rounds x.last le order last refl, number_again (cap_row x) 5 65535 x.most (omega arith) most refl) refl

cap_again : (n : ℕ) (r : Recorded) (x : Cap) → IsCounted (counts_of r.config) → r.rounds ≤ max_number → is_cap r.rounds (counts_of r.config) (r.caps, x) ≡ true → parsed_cap n r (cap_row x) ≡ Ok (parsed.Cap x)
unfolding parsed_cap is_cap
cap_again n r x h le e =
    let a = and_parts (nat_lt x.part.number (part_count (counts_of r.config) x.part.kind)) _ e in
    let b = and_parts (is_next_cap r.caps x.part x.first) _ a.1 in
    let d = and_parts (nat_le 1 x.first) _ b.1 in
    let f = and_parts (nat_le x.first x.last) _ d.1 in
    let g = and_parts (nat_le x.last r.rounds) _ f.1 in
    let low = leb-true _ _ d.0 in
    let order = leb-true x.first x.last f.0 in
    let last = leb-true x.last r.rounds g.0 in
    let most = leb-true x.most 65535 g.1 in
    rw (capped_again r.rounds (counts_of r.config) x h le (ltb-true _ _ a.0) low (omega arith), b.0, most_again r.rounds x le order last most) refl

-- what there is can be counted in a field, where a name or a cap is read
abbrev pub SmallFor : Recorded → ParsedRow → Type 0
SmallFor r (parsed.Name x) = IsCounted (counts_of r.config) × (r.rounds ≤ max_number)
SmallFor r (parsed.Cap x) = IsCounted (counts_of r.config) × (r.rounds ≤ max_number)
SmallFor r _ = ⊤

-- what is spelled so is parsed
pub parsed_again : (n : ℕ) (r : Recorded) (x : ParsedRow) → SmallFor r x → FitsParsed r x → parsed_by n r (word_for x) (row_of_parsed x) ≡ Ok x
unfolding parsed_by
parsed_again n r (parsed.Unit u) h f = rw (unit_again u f.0 f.1) refl
parsed_again n r (parsed.Rounds k) h f = rw (rounds_again k f.0 f.1) refl
parsed_again n r (parsed.Weight w) h f = rw (weight_again w f.0 f.1) refl
parsed_again n r (parsed.Link k) h f = rw (one_again (codes "link") k f) refl
parsed_again n r (parsed.Sim a) h f = rw (adapter_again a f.0 f.1) refl
parsed_again n r (parsed.Dev d) h f = rw (device_again d f) refl
parsed_again n r (parsed.Name x) h f = name_again n r x h.0 f
parsed_again n r (parsed.Cap x) h f = cap_again n r x h.0 h.1 f
parsed_again n r (parsed.Request q) h f = rw (request_again r.completions q f.0 f.1) refl
