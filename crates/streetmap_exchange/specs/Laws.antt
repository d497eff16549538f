-- What is exported of a collection, imported again.
use Rattle.std.specs.Prelude.{◌≡◌, false, Some, Ok, IsTrue}
use Rattle.std.specs.FinMap.{get, values, empty}
use Rattle.streetmap_batch.specs.Text.{Text}
use Rattle.streetmap_batch.specs.BatchValue.{BatchValue}
use Rattle.streetmap_ledger.specs.State.{State, Collection}
use Rattle.streetmap_ledger.specs.WellFormed.{IsState}
use Rattle.streetmap_ledger.specs.Batches.{act}
use Rattle.streetmap_ledger.specs.Laws.{is_accepted}
use Rattle.streetmap_exchange.specs.Exports.{export_text}
use Rattle.streetmap_exchange.specs.Imports.{import_of}

-- what is exported of a collection c, imported into a collection without features that has the same
-- time property, gives it the features of c if it is accepted
abbrev pub ImportOfExport : Type 0
ImportOfExport =
    (s t : State) (from to key : Text) (c d : Collection) (b : BatchValue) →
    IsState s → get s.collections from ≡ Some c →
    get t.collections to ≡ Some d → d.features ≡ empty → d.time ≡ c.time →
    import_of false key to (export_text (values c.features)) ≡ Ok b →
    IsTrue (is_accepted (act t b).reply) →
    get (act t b).state.collections to ≡ Some (record d { features = c.features })
