use Rattle.std.proofs.Common.{◌≡◌, ℕ, Bool, true, min, ◌^◌, ◌+◌, ◌<◌, ◌≤◌, ◌⊎◌, inl, inr, List, [], ◌∷◌, ◌++◌, sym, ap, subst, ◌∙◌, arith}
use Rattle.std.specs.Prelude.{if◌then◌else◌}
use Rattle.std.specs.Option.{option_map}
use Rattle.std.proofs.lemmas.Bool.{cases_lt}
use Rattle.streetmap_ledger.specs.Kept.{batch_count}
use Rattle.streetmap_ledger.specs.KeptView.{keyed_batch, keyed_batches}
use Rattle.streetmap_ledger.specs.declared.kept_batch.KeptBatch.{KeptBatch}
use Rattle.streetmap_ledger.proofs.Calls.{read_made, read_then, read_after, read_failed}
use Rattle.streetmap_ledger.proofs.AllThere.{kept_there}
use Rattle.streetmap_ledger.proofs.Serials.{none_some}
use Rattle.streetmap_tags.specs.Changes.{most_bytes}
use Rattle.streetmap_tags.proofs.NextChange.{SoFar, begins, ends, read_full, read_further}
use Rattle.streetmap_tags.proofs.batches.changes.Goals as goal

pub loop-before-init : goal.loop-before-init
loop-before-init g c = record {
  read = read_made c.in-Ok.ensures (λ s e is.
      subst (λ (l : List KeptBatch). SoFar s c.args.after c.args.limit c.in-Ok.count c.args.after most_bytes (keyed_batches l))
      (sym c.new-found.ensures.items) (begins s c.args.after c.args.limit c.in-Ok.count is));
}

pub returns-in-Ok-None : goal.returns-in-Ok-None
returns-in-Ok-None g c = read_after c.loop-before.invariant.read c.in-Ok-None.ensures (λ s e so is.
    let sound = g.K.Keeper.model.well_formed c.args.keeper.now s e in
    let high : c.loop-before.before + 1 ≤ batch_count s = omega (arith, so.counted) in
    let low : 1 ≤ c.loop-before.before + 1 = omega arith in
    let kept = kept_there s sound (c.loop-before.before + 1) low high in
    none_some kept.0 (ap (option_map keyed_batch) (sym c.in-Ok-None.field-0-is) ∙ (is ∙ kept.1)))

pub returns-in-Err-accepted : goal.returns-in-Err-accepted
returns-in-Err-accepted g c = read_failed (read_then {Both = λ s found. Unit {0}} c.loop-before.invariant.read c.in-Err-accepted.ensures
    (λ s found e so is. tt))

-- the loop went as far as there are batches, or as far as was requested
at_end : (count after limit before far last : ℕ) → far ≡ min (after + limit) 18446744073709551615 → last ≡ min count far → last ≤ before → count < 2 ^ 64
    → (count ≤ before) ⊎ (after + limit ≤ before)
at_end count after limit before far last is so over fits = by (cases_lt before count) where
  by : (before < count) ⊎ (count ≤ before) → (count ≤ before) ⊎ (after + limit ≤ before)
  by (inl less) = inr (omega arith)
  by (inr high) = inl high

-- what was pushed
pushed : (old new : List KeptBatch) (kept : KeptBatch) (ok : Bool) → new ≡ (if ok then old ++ kept ∷ [] else old) → ok ≡ true → new ≡ old ++ kept ∷ []
pushed old new kept ok e is = e ∙ ap (λ (t : Bool). if t then old ++ kept ∷ [] else old) is

pub returns-then-bytes-room : goal.returns-then-bytes-room
returns-then-bytes-room g c = read_after c.loop-before.invariant.read c.in-Ok-Some.ensures (λ s e so is.
    read_full s c.args.after c.args.limit c.in-Ok.count c.loop-before.before c.loop-before.room c.loop-before.found.items c.push.new.self.items
    c.in-Ok-Some.kept c.len-bytes.result
    so (pushed _ _ c.in-Ok-Some.kept _ c.push.ensures.items c.if-is_err.ensures.negation) (c.len-bytes.ensures ∙ c.in-Ok-Some.kept.text.ok.0) (omega arith)
    (omega arith)
    (sym (ap (option_map keyed_batch) (sym c.in-Ok-Some.field-0-is) ∙ is)) c.if-bytes-room.true)

pub loop-before-preserved : goal.loop-before-preserved
loop-before-preserved g c = record {
  read = read_after c.loop-before.invariant.read c.in-Ok-Some.ensures (λ s e so is.
      read_further s c.args.after c.args.limit c.in-Ok.count c.loop-before.before c.loop-before.room c.loop-before.found.items c.push.new.self.items
      c.in-Ok-Some.kept c.len-bytes.result
      so (pushed _ _ c.in-Ok-Some.kept _ c.push.ensures.items c.if-is_err.ensures.negation) (c.len-bytes.ensures ∙ c.in-Ok-Some.kept.text.ok.0) (omega arith)
      (omega arith)
      (sym (ap (option_map keyed_batch) (sym c.in-Ok-Some.field-0-is) ∙ is)) c.if-bytes-room.false);
}

pub returns : goal.returns
returns g c = read_made c.loop-before.invariant.read (λ s e so.
    ends s c.args.after c.args.limit c.in-Ok.count c.loop-before.before c.loop-before.room (keyed_batches c.loop-before.found.items) so
    (let most = (g.K.Keeper.model.well_formed c.args.keeper.now s e).not_too_many in
    at_end c.in-Ok.count c.args.after c.args.limit c.loop-before.before c.saturating_add.result c.min-last.result
    c.saturating_add.ensures c.min-last.ensures c.loop-before-test.false (omega (arith, so.counted, most))))
