use Rattle.std.proofs.Common.{◌<◌, ◌^◌, length, refl, ap, subst, ◌∙◌}
use Rattle.std.proofs.Common.{arith}
use Rattle.sqlite.proofs.Callers.{unchanged_then}
use Rattle.streetmap_rows.proofs.ResultCases.{handed_on}
use Rattle.streetmap_reading.proofs.BetweenRows.{survives_on}
use Rattle.streetmap_rows.proofs.ReadsInTurn.{stopped_on, clean_before}
use Rattle.streetmap_rows.specs.declared.fault.ReadFault.TheVariants.{Memory}
use Rattle.streetmap_ledger.specs.KeptView.{keyed_batches}
use Rattle.streetmap_reading.specs.Scans.{TookBatch}
use Rattle.streetmap_reading.proofs.ScannedBatches.{begins, shows_rest, took_more, bytes_more, all_taken}
use Rattle.streetmap_reading.proofs.ScannedBatches.{some_taken}
use Rattle.streetmap_reading.proofs.scans.next_batches.Goals as goal

pub rows-init : goal.rows-init
rows-init g c = (
  refl,
  begins g.S.Store c.args.room c.args.rows.now.conn.now c.new-batches.result.items
      c.new-batches.ensures.items,
)

pub rows-preserved : goal.rows-preserved
rows-preserved g c =
    let before = c.rows.invariant.1 in
    let old = c.args.rows.now.conn.now in
    let now = c.rows.rows.conn.now in
    let new = c.next_batch.new.rows.conn.now in
    let items = c.rows.batches.items in
    let batch = c.in-Some.batch in
    let pushed = c.in_ok-push.ensures.items in
    let small : c.saturating_add-bytes.result < c.args.room = omega arith in
    let big : c.args.room < 2 ^ 64 = omega arith in (
      c.next_batch.ensures.same_reference ∙ c.rows.invariant.0,
      record {
        mode = λ h. c.next_batch.ensures.mode (before.mode h);
        survives = survives_on _ _ _ before.survives c.next_batch.ensures.survives;
        counted = bytes_more items _ batch c.rows.bytes _ c.args.room
            (length c.as_slice.result.now) pushed
            before.counted (ap length c.as_slice.ensures.value)
            c.saturating_add-bytes.ensures small big;
        left = omega (arith, small);
        took = λ clean sql params all limit shows keys given.
            let early = clean_before _ _ _ c.next_batch.ensures.survives clean in
            let t = before.took early sql params all limit shows keys given in
            let r = c.in_ok-next.ensures.takes clean sql params (keyed_batches items) t.rest
            (before.survives.limit ∙ limit)
            (shows_rest g.S.Store old now (keyed_batches items) sql params all t shows)
            t.keys t.given in
            let m = subst (TookBatch g.S.Store sql params (keyed_batches items) t.rest new)
            c.in-Some.is r.0 in
            took_more g.S.Store old now new items _ batch sql params all pushed t m r.1;
      },
    )

pub returns-in_default-clause-takes : goal.returns-in_default-clause-takes
returns-in_default-clause-takes g c clean = λ sql params all limit shows keys given.
    let before = c.rows.invariant.1 in
    let old = c.args.rows.now.conn.now in
    let now = c.rows.rows.conn.now in
    let new = c.next_batch.new.rows.conn.now in
    let found = keyed_batches c.rows.batches.items in
    let early = clean_before _ _ _ c.next_batch.ensures.survives clean in
    let t = before.took early sql params all limit shows keys given in
    let r = c.in_ok-next.ensures.takes clean sql params found t.rest (before.survives.limit ∙ limit)
    (shows_rest g.S.Store old now found sql params all t shows) t.keys t.given in
    let none = subst (TookBatch g.S.Store sql params found t.rest new) c.in_default.is r.0 in (
      all_taken c.args.room all found t.rest c.rows.bytes t.are none before.counted before.left,
      unchanged_then _ _ _ t.same r.1,
    )

pub returns-in_err-next-clause-takes : goal.returns-in_err-next-clause-takes
returns-in_err-next-clause-takes g c clean = λ sql params all limit shows keys given.
    let before = c.rows.invariant.1 in
    let old = c.args.rows.now.conn.now in
    let now = c.rows.rows.conn.now in
    let found = keyed_batches c.rows.batches.items in
    let early = clean_before _ _ _ c.next_batch.ensures.survives clean in
    let t = before.took early sql params all limit shows keys given in
    handed_on _ _ _ _ c.from_residual.ensures.1 (stopped_on _ _ _ _ t.same before.survives.counts
    (c.in_err-next.ensures.takes clean sql params found t.rest (before.survives.limit ∙ limit)
    (shows_rest g.S.Store old now found sql params all t shows) t.keys t.given))

pub returns-then-bytes-room-clause-takes : goal.returns-then-bytes-room-clause-takes
returns-then-bytes-room-clause-takes g c clean = λ sql params all limit shows keys given.
    let before = c.rows.invariant.1 in
    let old = c.args.rows.now.conn.now in
    let now = c.rows.rows.conn.now in
    let new = c.next_batch.new.rows.conn.now in
    let items = c.rows.batches.items in
    let batch = c.in-Some.batch in
    let pushed = c.in_ok-push.ensures.items in
    let early = clean_before _ _ _ c.next_batch.ensures.survives clean in
    let t = before.took early sql params all limit shows keys given in
    let r = c.in_ok-next.ensures.takes clean sql params (keyed_batches items) t.rest
    (before.survives.limit ∙ limit)
    (shows_rest g.S.Store old now (keyed_batches items) sql params all t shows) t.keys t.given in
    let m = subst (TookBatch g.S.Store sql params (keyed_batches items) t.rest new) c.in-Some.is
    r.0 in
    let more = took_more g.S.Store old now new items _ batch sql params all pushed t m r.1 in (
      some_taken c.args.room all more.rest items _ batch c.rows.bytes pushed more.are before.counted
          before.left,
      more.same,
    )

pub returns-clause-takes : goal.returns-clause-takes
returns-clause-takes g c clean = λ sql params all limit shows keys given.
    let t = c.rows.invariant.1.took clean sql params all limit shows keys given in (
      refl,
      λ live reports. absurd (cc),
      record { was_open = λ _. t.same.0.was_open; committed = λ _. t.same.0.committed_is },
    )

pub returns-in_err-push-clause-takes : goal.returns-in_err-push-clause-takes
returns-in_err-push-clause-takes g c clean = λ sql params all limit shows keys given.
    let before = c.rows.invariant.1 in
    let old = c.args.rows.now.conn.now in
    let now = c.rows.rows.conn.now in
    let found = keyed_batches c.rows.batches.items in
    let early = clean_before _ _ _ c.next_batch.ensures.survives clean in
    let t = before.took early sql params all limit shows keys given in
    let r = c.in_ok-next.ensures.takes clean sql params found t.rest (before.survives.limit ∙ limit)
    (shows_rest g.S.Store old now found sql params all t shows) t.keys t.given in
    handed_on _ Memory _ _ c.from_residual-in_err-push.ensures.1 (unchanged_then _ _ _ t.same r.1)
