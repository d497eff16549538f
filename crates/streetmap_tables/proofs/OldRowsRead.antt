-- What the read of the rows of all features shows, of a state's tables in format 1.
use Rattle.std.proofs.Common.{◌≡◌, ◌⊎◌, List, [], ◌∷◌, codes, None}
use Rattle.sqlite.specs.declared.types.Value.TheVariants.{Null}
use Rattle.sqlite.specs.declared.error.Error.{Error}
use Rattle.sqlite.specs.Order.{Row}
use Rattle.sqlite.specs.Command.TheVariants.{Select}
use Rattle.sqlite.specs.State.{State as Seen, IsUnchanged, Shown, FailsToQuery, IsTooLate}
use Rattle.streetmap_ledger.specs.State.{State}
use Rattle.streetmap_rows.specs.Failures.{IsOfStore}
use Rattle.streetmap_rows.specs.Queries.{over, program}
use Rattle.streetmap_rows.proofs.NamedTables.{IsFound, is_found}
use Rattle.streetmap_rows.proofs.Resolving.{Means}
use Rattle.streetmap_rows.specs.Tables.{Roots, features_name}
use Rattle.streetmap_rows.proofs.KeyReads.{answered, fails_inside}
use Rattle.streetmap_tables.specs.Old.{KeepsOld, old_features}
use Rattle.streetmap_tables.specs.Part.{AreRowsOf}
use Rattle.streetmap_tables.proofs.OldRows.{are_rows}
use Rattle.streetmap_tables.proofs.SelectOld.{cells, rows_text, select_rows_means, select_rows_never}

module _ (old new : Seen) (s : State) (keeps : KeepsOld s old.now) where
  abbrev roots : Roots
  roots = keeps.roots

  in_features : IsFound old.now.schema features_name (old_features roots.features)
  in_features = is_found old.now features_name (old_features roots.features) keeps.sound keeps.ours.room.apart keeps.ours.features_is

  rows_mean : Means old.now.schema rows_text 0 (Select (program (over roots.features [] cells)) (codes "collection" ∷ codes "id" ∷ codes "body" ∷ []))
  rows_mean = select_rows_means old.now.schema roots.features in_features

  pub rows_shown : (rows : List Row) → Shown rows_text [] old new rows → AreRowsOf s rows × IsUnchanged old new
  rows_shown rows h = let read = answered rows_text [] old new _ _ rows_mean rows h in (
    are_rows s old.now.trees roots.features keeps.of.features rows
        in_features.low (read.0.answer Null),
    read.1,
  )

  pub rows_reported : old.step_limit ≡ None → (e : Error) → FailsToQuery rows_text [] old new e ⊎ IsTooLate rows_text [] old new e → IsOfStore e
  rows_reported limit e h = (fails_inside rows_text [] old new _ _ rows_mean limit (select_rows_never old.now.schema roots.features in_features old.now.trees) e
      h).0
