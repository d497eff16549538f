use Rattle.std.proofs.Common.{◌≡◌, ◌∙◌, ◌+◌, Ok, Err, sym, ap, subst, subst₂, arith, map}
use Rattle.std.specs.FinMap.{len}
use Rattle.sqlite.specs.Held.{state}
use Rattle.sqlite.specs.State.{HasCleanDisk}
use Rattle.streetmap_batch.specs.BatchView.{batch_value, edit_value}
use Rattle.streetmap_ledger.specs.State.{AcceptedBatch}
use Rattle.streetmap_ledger.specs.Batches.{Outcome, act, kept_for, counts_of, edited}
use Rattle.streetmap_ledger.specs.declared.reply.Reply.TheVariants.{Accepted}
use Rattle.streetmap_tables.specs.EditEffects.{AnsweredAll}
use Rattle.streetmap_rows.specs.Calls.{KeepsBatch}
use Rattle.streetmap_rows.proofs.ResultCases.{handed_on}
use Rattle.streetmap_tables.proofs.Accepting.{act_is, leads, keeps_act}
use Rattle.streetmap_tables.proofs.CallsInTransaction.{keeps_then, rest_then}
use Rattle.streetmap_rows.proofs.CallsInside.{runs_of, runs_ok, runs_err, runs_both}
use Rattle.streetmap_tables.proofs.actions.act_inside.Goals as goal

pub returns-in_err-place : goal.returns-in_err-place
returns-in_err-place g c =
    runs_err c.in_err-place.ensures c.from_residual.ensures.1 (λ clean limit inside s kept awaits.
    handed_on _ _ _ _ c.from_residual.ensures.1 (c.in_err-place.ensures.does clean limit inside s kept.rows))

pub returns-in-Some : goal.returns-in-Some
returns-in-Some g c =
    runs_ok c.in_ok-place.ensures (λ clean limit inside s kept awaits.
    let b = batch_value c.args.batch.now in
    let e = c.in_ok-place.ensures.does clean limit inside s kept.rows in
    let stopped = subst (AnsweredAll s (map edit_value c.edits.result.now) (state g.S.Store c.edit_each.new.tx.conn.now)) c.in-Some.is e.0 in
    let at = act_is s b c.args.count awaits (Err (c.in-Some.place, c.in-Some.why)) (ap (edited 1 s) (sym c.edits.ensures.value) ∙ stopped) in
    (sym (ap (λ (o : Outcome). o.reply) at), ap (λ (o : Outcome). o.state) at, e.1))

pub returns : goal.returns
returns g c =
    runs_ok (runs_both c.in_ok-place.ensures (runs_of c.in_ok-insert_batch.ensures)) (λ clean limit inside s kept awaits.
    let b = batch_value c.args.batch.now in
    let old = state g.S.Store c.args.tx.now.conn.now in
    let mid = state g.S.Store c.edit_each.new.tx.conn.now in
    let new = state g.S.Store c.insert_batch.new.tx.conn.now in
    let early : HasCleanDisk mid = omega (arith, clean, c.insert_batch.ensures.survives.clean) in
    let e = c.in_ok-place.ensures.does early limit inside s kept.rows in
    let did = subst (AnsweredAll s (map edit_value c.edits.result.now) mid) c.in_default.is e.0 in
    let is = ap (edited 1 s) (sym c.edits.ensures.value) ∙ did.1 in
    let at = act_is s b c.args.count awaits (Ok did.0) is in
    let counts : c.of-counts.result ≡ counts_of b.edits = c.of-counts.ensures.value ∙ ap counts_of c.edits-2.ensures.value in
    let row : ◌≡◌ {A = AcceptedBatch} (kept_for b (len s.keys + 1)) (record { text = c.args.text.now; counts = c.of-counts.result; serial = c.args.count + 1 })
    =
    λ i. record { text = sym c.requires.its_text i; counts = sym counts i; serial = awaits.counted i + 1 } in
    let lead = subst₂ (λ key k. KeepsBatch key k did.0 (act s b).state) (sym c.key.ensures.value) row (leads s b c.args.count awaits did.0 is kept.well) in
    let wrote = c.in_ok-insert_batch.ensures.does clean did.3 (c.edit_each.ensures.survives.limit ∙ limit) did.0 (act s b).state did.2 lead in (
      (λ i. Accepted (counts i) (sym awaits.counted i + 1)) ∙ sym (ap (λ (o : Outcome). o.reply) at),
      (keeps_act s b c.args.count awaits new.now kept.well c.facts.ensures wrote.0, c.in_ok-insert_batch.ensures.inside clean did.3),
      rest_then old mid new e.1 (c.in_ok-insert_batch.ensures.kept clean did.3, wrote.1),
    ))

pub returns-in_err-insert_batch : goal.returns-in_err-insert_batch
returns-in_err-insert_batch g c =
    runs_err (runs_both c.in_ok-place.ensures (runs_of c.in_err-insert_batch.ensures)) c.from_residual-in_err-insert_batch.ensures.1
    (λ clean limit inside s kept awaits.
    let b = batch_value c.args.batch.now in
    let old = state g.S.Store c.args.tx.now.conn.now in
    let mid = state g.S.Store c.edit_each.new.tx.conn.now in
    let new = state g.S.Store c.insert_batch.new.tx.conn.now in
    let early : HasCleanDisk mid = omega (arith, clean, c.insert_batch.ensures.survives.clean) in
    let e = c.in_ok-place.ensures.does early limit inside s kept.rows in
    let did = subst (AnsweredAll s (map edit_value c.edits.result.now) mid) c.in_default.is e.0 in
    let is = ap (edited 1 s) (sym c.edits.ensures.value) ∙ did.1 in
    let counts : c.of-counts.result ≡ counts_of b.edits = c.of-counts.ensures.value ∙ ap counts_of c.edits-2.ensures.value in
    let row : ◌≡◌ {A = AcceptedBatch} (kept_for b (len s.keys + 1)) (record { text = c.args.text.now; counts = c.of-counts.result; serial = c.args.count + 1 })
    =
    λ i. record { text = sym c.requires.its_text i; counts = sym counts i; serial = awaits.counted i + 1 } in
    let lead = subst₂ (λ key k. KeepsBatch key k did.0 (act s b).state) (sym c.key.ensures.value) row (leads s b c.args.count awaits did.0 is kept.well) in
    handed_on _ _ _ _ c.from_residual-in_err-insert_batch.ensures.1 (
      c.in_err-insert_batch.ensures.does clean did.3 (c.edit_each.ensures.survives.limit ∙ limit)
          did.0 (act s b).state did.2 lead,
      keeps_then old mid new e.1.0 (c.in_err-insert_batch.ensures.kept clean did.3),
    ))
