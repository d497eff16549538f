use Rattle.std.proofs.Common.{Vec, Global}
use Rattle.sqlite.specs.Held.{state}
use Rattle.sqlite.specs.State.{IsUnchanged}
use Rattle.streetmap_rows.specs.TableReads.{Stopped}
use Rattle.streetmap_ledger.specs.Kept.{batches_after}
use Rattle.streetmap_ledger.specs.KeptView.{keyed_batches}
use Rattle.streetmap_ledger.specs.declared.kept_batch.KeptBatch.{KeptBatch}
use Rattle.streetmap_reading.specs.Serials.{most_serial}
use Rattle.streetmap_reading.specs.BatchStatements.{select_after}
use Rattle.streetmap_reading.proofs.AfterSerial.{after_at}
use Rattle.streetmap_reading.proofs.NextBatches.{keys_after, most_passed, next_of}
use Rattle.streetmap_rows.proofs.ReadsInTurn.{reads_by}
use Rattle.streetmap_reading.proofs.batches.batches_of.Goals as goal

pub returns : goal.returns
returns g c =
    reads_by select_after _ c.first_batches.ensures (λ s keeps. (after_at _ s keeps 1).plain) (λ clean took s limit keeps.
    let old = state g.S.Store c.args.conn.now in
    let new = state g.S.Store c.first_batches.new.conn in
    let after = c.args.after in
    let m = most_serial after in
    let value = most_passed _ after c.most_of.ensures in
    let took = rw (c.params-to_sql.ensures, value) at took in
    let first = took (batches_after s m) limit (after_at _ s keeps m)
    (keys_after s m keeps.well) in
    next_of {T = Vec KeptBatch Global} s after c.args.room (λ found. keyed_batches found.items)
    (λ found. IsUnchanged old new) (Stopped old new) c.first_batches.result keeps.well first)
