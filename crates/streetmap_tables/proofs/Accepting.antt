-- A batch whose key is new: refused with an edit, or accepted with the next serial.
use Rattle.std.proofs.Common.{◌≡◌, ℕ, ◌+◌, ◌-◌, ◌^◌, ◌<◌, ◌≤◌, true, cond, None, Ok, Result, IfOk, sym, ap, subst, ◌∙◌, nat_lt, arith}
use Rattle.std.proofs.lemmas.Bool.Decides.{nat_tests}
use Rattle.std.specs.FinMap.{get, len}
use Rattle.sqlite.specs.Effect.{Database}
use Rattle.streetmap_batch.specs.BatchValue.{BatchValue}
use Rattle.streetmap_ledger.specs.State.{State}
use Rattle.streetmap_ledger.specs.Batches.{Outcome, edited, fresh, by_key, kept_for, act, most_batches}
use Rattle.streetmap_batch.specs.BatchFacts.{IsSoundBatch}
use Rattle.streetmap_ledger.specs.WellFormed.{IsState}
use Rattle.streetmap_ledger.specs.declared.reply.Refusal.{Refusal}
use Rattle.streetmap_ledger.specs.declared.reply.Refusal.TheVariants.{Full}
use Rattle.streetmap_ledger.specs.declared.reply.Reply.TheVariants.{Refused}
use Rattle.streetmap_ledger.proofs.Repeat.{edited_keys}
use Rattle.streetmap_ledger.proofs.StatesStay.{act_sound}
use Rattle.streetmap_rows.specs.Representations.{StandsFor}
use Rattle.streetmap_rows.specs.KeptStates.{Keeps}
use Rattle.streetmap_rows.specs.Calls.{KeepsBatch}
use Rattle.streetmap_tables.specs.BatchEffects.{Awaits}

room : (n : ℕ) → n < 2 ^ 63 - 1 → nat_lt n most_batches ≡ true
room n h = grind (arith, nat_tests)

module _ (s : State) (b : BatchValue) (count : ℕ) (awaits : Awaits s b count) where
  pub act_is : (r : Result State (ℕ × Refusal)) → edited 1 s b.edits ≡ r → act s b ≡ fresh s b (len s.keys + 1) r
  act_is r is =
      ap (by_key s b) awaits.absent
      ∙ ap (λ t. cond {A = Outcome} t (fresh s b (len s.keys + 1) (edited 1 s b.edits)) (record { reply = Refused Full None; state = s }))
      (room (len s.keys) (subst (λ n. n < 2 ^ 63 - 1) (sym awaits.counted) awaits.room))
      ∙ ap (fresh s b (len s.keys + 1)) is

  pub same_keys : (t : State) → edited 1 s b.edits ≡ Ok t → t.keys ≡ s.keys
  same_keys t is = subst (λ (r : Result State (ℕ × Refusal)). IfOk r (λ t. t.keys ≡ s.keys)) is (edited_keys 1 s b.edits)

  -- the row of the batch leads to the state after it
  pub leads : (t : State) → edited 1 s b.edits ≡ Ok t → IsState s → KeepsBatch b.key (kept_for b (len s.keys + 1)) t (act s b).state
  leads t is well =
      let keys = same_keys t is in
      record {
        absent = ap (λ m. get m b.key) keys ∙ awaits.absent;
        next = ap (λ m. len m + 1) (sym keys);
        counted = λ q k at. subst (λ m. k.serial ≤ len m) (sym keys) (well.to_count q k (ap (λ m. get m q) (sym keys) ∙ at));
        is = ap (λ (o : Outcome). o.state) (act_is (Ok t) is);
      }

  pub keeps_act : (db : Database) → IsState s → IsSoundBatch b → StandsFor (act s b).state db → Keeps (act s b).state db
  keeps_act db well sound rows = record { well = act_sound s b well sound; rows = rows }
