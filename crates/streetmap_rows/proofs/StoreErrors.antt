-- Which errors are of the store.
use Rattle.std.proofs.Common.{◌≡◌, ap}
use Rattle.sqlite.specs.State.{store_error}
use Rattle.sqlite.specs.declared.error.Error.{Error}
use Rattle.sqlite.specs.declared.error.Error.TheVariants.{SqliteFailure}
use Rattle.sqlite.specs.declared.error.ErrorCode.TheVariants.{NoRowid}
use Rattle.sqlite_trees.specs.declared.error.StoreError.{StoreError}
use Rattle.sqlite_trees.specs.declared.error.StoreError.TheVariants as store
use Rattle.streetmap_rows.specs.Failures.{IsOfStore, is_of_store}

pub no_rowid_is : (e : Error) → e ≡ SqliteFailure NoRowid → IsOfStore e
no_rowid_is e is = ap is_of_store is

-- each failure of a store
pub failure_is : (e : Error) (cause : StoreError) → e ≡ store_error cause → IsOfStore e
failure_is e store.OutOfMemory is = ap is_of_store is
failure_is e store.Io is = ap is_of_store is
failure_is e store.Corrupt is = ap is_of_store is
failure_is e store.Full is = ap is_of_store is
failure_is e store.Broken is = ap is_of_store is
failure_is e store.Unstorable is = ap is_of_store is
