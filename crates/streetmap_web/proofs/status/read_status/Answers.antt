use Rattle.std.proofs.Common.{◌≡◌, ◌∙◌, ℕ, List, length, Option, None, Some, refl, sym, ap}
use Rattle.std.specs.Prelude.{option_map, string_bytes}
use Rattle.std.proofs.lemmas.List.{length-map}
use Rattle.streetmap_bodies.specs.Status.{status_data}
use Rattle.streetmap_ledger.specs.State.{State}
use Rattle.streetmap_ledger.specs.Kept.{KeyedBatch, batch_count, batch_in}
use Rattle.streetmap_ledger.specs.Keep.{IsBatchOf}
use Rattle.streetmap_ledger.specs.KeptView.{keyed_batch}
use Rattle.streetmap_ledger.specs.Summaries.{summaries_in}
use Rattle.streetmap_ledger.specs.SummaryView.{summary_value, summary_values}
use Rattle.streetmap_ledger.specs.declared.kept_batch.KeptBatch.{KeptBatch}
use Rattle.streetmap_ledger.specs.declared.summary.Summary.{Summary}
use Rattle.streetmap_ledger.proofs.Calls.{read_then, read_after, read_failed}
use Rattle.streetmap_web.specs.Response.{collection_count, last_key}
use Rattle.streetmap_web.proofs.status.read_status.Goals as goal

key_of : (last : Option KeptBatch) → option_map (λ (b : KeptBatch). string_bytes b.key) last ≡ option_map (λ (b : KeyedBatch). b.0) (option_map keyed_batch last)
key_of None = refl
key_of (Some b) = refl

-- what was read is what the status of the state shows
status_is : (s : State) (count size : ℕ) (last : Option KeptBatch) (summaries : List Summary) → count ≡ batch_count s → option_map keyed_batch last ≡ batch_in s count
    → summary_values summaries ≡ summaries_in s → size ≡ length summaries
    → status_data count size (option_map (λ (b : KeptBatch). string_bytes b.key) last) ≡ status_data (batch_count s) (collection_count s) (last_key s)
status_is s count size last summaries counted kept are sized =
    let key = option_map (λ (b : KeptBatch). string_bytes b.key) last in
    let all : size ≡ collection_count s = sized ∙ sym (length-map summaries summary_value) ∙ ap length are in
    let keyed : key ≡ last_key s = key_of last ∙ ap (option_map (λ (b : KeyedBatch). b.0)) (kept ∙ ap (batch_in s) counted) in
    ap (λ n. status_data n size key) counted ∙ ap (λ n. status_data (batch_count s) n key) all ∙ ap (status_data (batch_count s) (collection_count s)) keyed

pub returns-in-Err-accepted : goal.returns-in-Err-accepted
returns-in-Err-accepted g c = read_failed (read_then {Both = λ s found. Unit {0}} c.in-Ok.ensures c.in-Err-accepted.ensures (λ s found e is also. tt))

pub returns-in-Ok-collections : goal.returns-in-Ok-collections
returns-in-Ok-collections g c =
    let two = read_then {Both = λ s (found : Option KeptBatch). (c.in-Ok.count ≡ batch_count s) × IsBatchOf c.in-Ok.count s found} c.in-Ok.ensures c.in-Ok-accepted.ensures
    (λ s found e is also. (is, also)) in
    read_after two c.in-Ok-collections.ensures (λ s e seen are.
    status_is s c.in-Ok.count c.len.result c.in-Ok-accepted.last c.in-Ok-collections.summaries.items seen.0 seen.1 are
    (c.len.ensures ∙ c.in-Ok-collections.summaries.ok.0))

pub returns-in-Err-collections : goal.returns-in-Err-collections
returns-in-Err-collections g c =
    let two = read_then {Both = λ s (found : Option KeptBatch). Unit {0}} c.in-Ok.ensures c.in-Ok-accepted.ensures (λ s found e is also. tt) in
    read_failed (read_then {Both = λ s found. Unit {0}} two c.in-Err-collections.ensures (λ s found e is also. tt))
