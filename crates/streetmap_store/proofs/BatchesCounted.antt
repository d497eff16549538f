-- How many batches were accepted, after a batch.
use Rattle.std.proofs.Common.{◌≡◌, ℕ, ◌+◌, Option, None, Some, Result, Ok, Err, IfOk, cond, refl, ap, ◌∙◌, nat_eq, nat_lt}
use Rattle.std.specs.Option.{is_some}
use Rattle.std.specs.Cmp.Lexicographic.{pointwise, nat_list_cmp_total}
use Rattle.std.specs.FinMap.{get, insert, len, len-insert}
use Rattle.streetmap_batch.specs.BatchValue.{BatchValue}
use Rattle.streetmap_batch.specs.BatchText.{batch_text}
use Rattle.streetmap_ledger.specs.State.{State, AcceptedBatch}
use Rattle.streetmap_ledger.specs.Batches.{Outcome, edited, fresh, by_key, kept_for, act, most_batches}
use Rattle.streetmap_ledger.specs.declared.reply.Refusal.{Refusal}
use Rattle.streetmap_ledger.proofs.Repeat.{either, edited_keys}
use Rattle.streetmap_store.specs.CallResults.{count_after}

pub count_is : (s : State) (b : BatchValue) → len (act s b).state.keys ≡ count_after (act s b).reply (len s.keys)
count_is s b = by (get s.keys b.key) refl
  where
    Counts : Outcome → Type 0
    Counts = λ o. len o.state.keys ≡ count_after o.reply (len s.keys)

    new : (r : Result State (ℕ × Refusal)) → get s.keys b.key ≡ None → IfOk r (λ t. t.keys ≡ s.keys) → Counts (fresh s b (len s.keys + 1) r)
    new (Err e) free same = refl
    new (Ok t) free same =
        ap (λ m. len (insert m b.key (kept_for b (len s.keys + 1)))) same ∙ len-insert nat_list_cmp_total s.keys b.key (kept_for b (len s.keys + 1))
        ∙ ap (λ (o : Option AcceptedBatch). cond (is_some o) (len s.keys) (len s.keys + 1)) free

    by : (o : Option AcceptedBatch) → get s.keys b.key ≡ o → Counts (by_key s b o)
    by (Some kept) is = either Counts (pointwise nat_eq kept.text (batch_text b)) _ _ refl refl
    by None is = either Counts (nat_lt (len s.keys) most_batches) _ _ (new (edited 1 s b.edits) is (edited_keys 1 s b.edits)) refl
