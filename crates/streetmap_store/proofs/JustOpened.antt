-- A connection that was just opened on files rests at the state that they held.
use Rattle.std.proofs.Common.{◌≡◌, IsTrue, sym, subst}
use Rattle.sqlite_disk.specs.declared.Disk as disk
use Rattle.sqlite_wal.specs.Recovery.{Image}
use Rattle.sqlite_catalog.specs.Listing.{IsSound}
use Rattle.sqlite_store.specs.declared.store.FileStore.{FileStore}
use Rattle.sqlite.specs.State.{HasCleanDisk}
use Rattle.sqlite.specs.Effect.{Database}
use Rattle.sqlite.specs.Held.{Held}
use Rattle.sqlite.specs.Files.{file_state}
use Rattle.streetmap_ledger.specs.State.{State}
use Rattle.streetmap_rows.specs.KeptStates.{Keeps, Rests}
use Rattle.streetmap_tables.specs.Creation.{HasRoom, IsReady, is_taken}
use Rattle.streetmap_tables.specs.Old.{KeepsOld, RestsOld}
use Rattle.streetmap_store.specs.IndexesListed.{keeps_too}
use Rattle.streetmap_store.proofs.Reopened.{old_too}
use Rattle.streetmap_store.specs.HeldFiles.{IsJustOpenedOn, HoldsState, HoldsOldState, LeavesRoom}
use Rattle.streetmap_store.specs.Reasons.{RefusesToCreate}
use Rattle.streetmap_tables.specs.declared.creation.CreateFault.TheVariants.{Taken}

module _ {D : Type 0} {g : disk.Ghosts D} (image : Image) (c : Held (FileStore D g)) (on : IsJustOpenedOn image c) (clean : HasCleanDisk (file_state c)) where
  sound : IsSound (file_state c).committed.schema (file_state c).committed.trees
  sound = let it = on.opened clean in (it.1 it.0.is_open).1

  pub rests : (s : State) → HoldsState image s → Rests (file_state c) s
  rests s held =
      let it = on.opened clean in
      let same : (file_state c).committed.trees ≡ held.0 = (on.found clean).holds held.0 held.1 in
      let kept : Keeps s (file_state c).committed = keeps_too s held.2.0 (file_state c).committed.schema (file_state c).committed.trees sound
      (subst (λ trees. Keeps s (record { schema = held.2.0; trees = trees })) (sym same) held.2.1) in
      record { kept = subst (Keeps s) (sym it.0.clean) kept; settled = it.0.clean; live = it.0.is_open; unlimited = on.fresh.unlimited }

  pub rests_old : (s : State) → HoldsOldState image s → RestsOld (file_state c) s
  rests_old s held =
      let it = on.opened clean in
      let same : (file_state c).committed.trees ≡ held.0 = (on.found clean).holds held.0 held.1 in
      let kept : KeepsOld s (file_state c).committed = old_too s held.2.0 (file_state c).committed.schema (file_state c).committed.trees sound
      (subst (λ trees. KeepsOld s (record { schema = held.2.0; trees = trees })) (sym same) held.2.1) in
      record { kept = subst (KeepsOld s) (sym it.0.clean) kept; settled = it.0.clean; live = it.0.is_open; unlimited = on.fresh.unlimited }

  pub ready : LeavesRoom image → IsReady (file_state c)
  ready room =
      let it = on.opened clean in
      let has = room (file_state c).committed.trees (file_state c).committed.schema (on.found clean).reads sound in
      record {
        settled = it.0.clean;
        live = it.0.is_open;
        unlimited = on.fresh.unlimited;
        room =
            subst (λ (db : Database). HasRoom db.schema) (sym it.0.clean) has;
      }

  pub taken : IsTrue (is_taken (file_state c).now.schema) → RefusesToCreate image Taken
  taken is =
      let it = on.opened clean in (
        (file_state c).committed.trees,
        (file_state c).committed.schema,
        (on.found clean).reads,
        sound,
        subst (λ (db : Database). IsTrue (is_taken db.schema)) it.0.clean is,
      )
