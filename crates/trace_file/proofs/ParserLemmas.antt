-- What a record does to a parser of a trace.
use Rattle.std.proofs.Common.{◌≡◌, ◌≢◌, ◌≤◌, ℕ, [], ◌∷◌, ◌++◌, true, false, refl, subst, nat_le}
use Rattle.std.proofs.lemmas.Bool.{and_parts, leb-true}
use Rattle.record_text.specs.ConfigParsing.{lacks_adapters, next_rank, row_rank, IsOrdered}
use Rattle.record_text.specs.declared.config_parser.ConfigParser.{ConfigParser}
use Rattle.record_text.specs.declared.config_row.ConfigRow.{ConfigRow}
use Rattle.record_text.proofs.ConfigLaws.{config_whole}
use Rattle.event_rules.specs.Legal.{history_rules, is_legal as legal_by}
use Rattle.event_rules.proofs.LawLemmas.{legal-push}
use Rattle.trace_file.specs.Histories.{Event, Past, Topology, is_legal_event, is_legal}
use Rattle.trace_file.specs.Rows.{event_at, TraceWord}
use Rattle.trace_file.specs.Reading.{in_record, add_event, row_step, stands, step, take_word, TraceParser}
use Rattle.trace_file.specs.declared.trace_parser.TraceParser.TheVariants as parser
use Rattle.trace_file.specs.declared.word.TraceWord.TheVariants as word
use Rattle.trace_file.specs.Words.{word_rank}
use Rattle.record_text.specs.Text.{Row}
use Rattle.record_text.specs.Steps.{◌>>=◌}
use Rattle.trace_file.specs.Sound.{IsKept, IsSound, MayTake}

pub is_legal-nil : (c : Topology) → is_legal c [] ≡ true
unfolding legal_by
is_legal-nil c = refl

pub kept_empty : (c : ConfigParser) → IsOrdered c → lacks_adapters c ≡ false → IsKept (record { config = c.partial; events = [] })
kept_empty c h came = record { config = config_whole c h came; legal = is_legal-nil c.partial }

pub sound_event : (p p' : Past) (e : Event) → IsKept p → is_legal_event p.config (p.events, e) ≡ true → p' ≡ record p { events = p.events ++ e ∷ [] } → IsSound (parser.Events p')
unfolding IsSound
sound_event p p' e kept legal is =
    rw is record { config = kept.config; legal = legal-push history_rules p.config p.events e kept.legal legal }

-- where a word stands, a row of its rank may come next
pub may_take : (s : TraceParser) (w : TraceWord) (r : ConfigRow) → stands s w ≡ true → word_rank w ≡ row_rank r → MayTake s r
unfolding stands
may_take parser.Header w r place same = tt
may_take (parser.Config v c) w r place same = subst (λ (n : ℕ). next_rank c ≤ n) same (leb-true _ _ (and_parts (nat_le (next_rank c) (word_rank w)) _ place).0)
may_take (parser.Events p) w r place same = tt

pub take_word_event : (n : ℕ) (s : TraceParser) (w : TraceWord) (row : Row) → w ≢ word.Weight → w ≢ word.Link → w ≢ word.Sim → w ≢ word.Dev → w ≢ word.Lane → take_word n s w row ≡ (in_record n (event_at w row) >>= add_event n s)
unfolding take_word
take_word_event n s word.Weight row o k a b c = absurd (o refl)
take_word_event n s word.Link row o k a b c = absurd (k refl)
take_word_event n s word.Sim row o k a b c = absurd (a refl)
take_word_event n s word.Dev row o k a b c = absurd (b refl)
take_word_event n s word.Lane row o k a b c = absurd (c refl)
take_word_event n s _ row o k a b c = refl

pub step_behind : (n : ℕ) (s : TraceParser) (row : Row) → s ≢ parser.Header → step n s row ≡ row_step n s row
unfolding step
step_behind n parser.Header row h = absurd (h refl)
step_behind n _ row h = refl
