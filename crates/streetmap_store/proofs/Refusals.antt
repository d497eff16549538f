-- Why files are refused.
use Rattle.std.proofs.Common.{◌≡◌, ◌⊎◌, inl, inr, Bool, IsTrue, false, true, refl, sym, ap, subst, ◌∙◌}
use Rattle.std.specs.Prelude.{Err}
use Rattle.sqlite_disk.specs.declared.Disk as disk
use Rattle.sqlite_disk.specs.declared.Files.{Files}
use Rattle.sqlite_wal.specs.Recovery.{Image}
use Rattle.sqlite_trees.specs.declared.error.StoreError.{StoreError}
use Rattle.sqlite_trees.specs.declared.error.StoreError.TheVariants as stored
use Rattle.sqlite.specs.declared.error.Error.{Error}
use Rattle.sqlite.specs.declared.error.Error.TheVariants.{SqliteFailure, SqlInputError, InvalidParameterCount, ExecuteReturnedResults, InvalidQuery}
use Rattle.sqlite.specs.declared.error.Error.TheVariants.{MultipleStatement, QueryReturnedNoRows, InvalidColumnIndex, InvalidColumnType}
use Rattle.sqlite.specs.declared.error.Error.TheVariants.{IntegralValueOutOfRange, Utf8Error}
use Rattle.sqlite.specs.declared.error.ErrorCode.TheVariants as code
use Rattle.sqlite.specs.declared.file.Leftover.{Leftover}
use Rattle.sqlite.specs.State.{State as Seen, store_error}
use Rattle.sqlite.specs.Held.{Held}
use Rattle.sqlite_store.specs.declared.store.FileStore.{FileStore}
use Rattle.sqlite.specs.Files.{IsNothing, FailsToOpenFiles, image_of}
use Rattle.streetmap_ledger.specs.State.{State}
use Rattle.streetmap_tables.specs.QueryResults.{ShowsFault, ShowsNothing, LosesKeys}
use Rattle.streetmap_tables.specs.Adoption.{Opens}
use Rattle.streetmap_tables.specs.Migration.{IsOld, Carries, OpensBy}
use Rattle.streetmap_tables.specs.declared.openings.OpenFault.{OpenFault}
use Rattle.streetmap_store.specs.RefusalCauses.{refused_to_open, refused_to_create}
use Rattle.streetmap_store.specs.Reasons.{IsUnopened, OpensNothing, CreatesNothing}
use Rattle.streetmap_store.specs.Reasons.{IsForeign, OpenBlamesNoFile, CreateBlamesNoFile, Showed, RefusesToOpen, RefusesToCreate, FailsToConnect, StaysAsItWas}
use Rattle.streetmap_store.specs.Reasons.{HoldsStill}
use Rattle.streetmap_tables.specs.declared.openings.OpenFault.TheVariants as opened
use Rattle.streetmap_tables.specs.declared.creation.CreateFault.{CreateFault}
use Rattle.streetmap_tables.specs.declared.creation.CreateFault.TheVariants as created
use Rattle.streetmap_store.specs.declared.fault.Left.{Left}
use Rattle.streetmap_store.specs.declared.fault.Left.TheVariants as left
use Rattle.streetmap_store.proofs.NewFiles.{new_takes_none}

-- ---- no connection

-- whether an error says that files are no database
is_foreign_error : Error → Bool
is_foreign_error (SqliteFailure code.NotADatabase) = true
is_foreign_error _ = false

no_kind : (k : StoreError) → store_error k ≡ SqliteFailure code.NotADatabase → ⊥
unfolding is_foreign_error
no_kind stored.OutOfMemory is = let e : false ≡ true = ap is_foreign_error is in cc
no_kind stored.Io is = let e : false ≡ true = ap is_foreign_error is in cc
no_kind stored.Corrupt is = let e : false ≡ true = ap is_foreign_error is in cc
no_kind stored.Full is = let e : false ≡ true = ap is_foreign_error is in cc
no_kind stored.Broken is = let e : false ≡ true = ap is_foreign_error is in cc
no_kind stored.Unstorable is = let e : false ≡ true = ap is_foreign_error is in cc

-- files that are called no database hold none
pub foreign : {D : Type 0} {g : disk.Ghosts D} (image : Image) (files : Files D) (rest : Leftover D g) (e : Error) → image_of g files ≡ image →
    FailsToOpenFiles files rest e
    → e ≡ SqliteFailure code.NotADatabase → IsForeign image
foreign image files rest e same (inl memory) is = absurd (no_kind stored.OutOfMemory (sym memory ∙ is))
foreign image files rest e same (inr (inl refused)) is = subst IsForeign same refused.1
foreign image files rest e same (inr (inr (inl fault))) is = absurd (no_kind _ (sym fault.0 ∙ is))
foreign image files rest e same (inr (inr (inr full))) is = absurd (no_kind stored.Full (sym full.0 ∙ is))

-- nor are those that were not opened called so
pub not_opened : (image : Image) (e : Error) → (e ≡ SqliteFailure code.CannotOpen) ⊎ ((e ≡ SqliteFailure code.OutOfMemory) ⊎
    (e ≡ SqliteFailure code.DatabaseBusy))
    → e ≡ SqliteFailure code.NotADatabase → IsForeign image
unfolding is_foreign_error
not_opened image e (inl h) is = let wrong : false ≡ true = ap is_foreign_error (sym h ∙ is) in cc
not_opened image e (inr (inl h)) is = let wrong : false ≡ true = ap is_foreign_error (sym h ∙ is) in cc
not_opened image e (inr (inr h)) is = let wrong : false ≡ true = ap is_foreign_error (sym h ∙ is) in cc

-- an error of opening is reported as no database, as out of memory, or as it is
abbrev IsReturned : Error → Type 0
IsReturned e = (e ≡ SqliteFailure code.NotADatabase) ⊎ ((e ≡ SqliteFailure code.OutOfMemory) ⊎
    ((refused_to_open e ≡ opened.Device e) × (refused_to_create e ≡ created.Device e)))

reported : (e : Error) → IsReturned e
reported (SqliteFailure code.NotADatabase) = inl refl
reported (SqliteFailure code.OutOfMemory) = inr (inl refl)
reported (SqliteFailure code.DatabaseCorrupt) = inr (inr (refl, refl))
reported (SqliteFailure code.SystemIoFailure) = inr (inr (refl, refl))
reported (SqliteFailure code.DiskFull) = inr (inr (refl, refl))
reported (SqliteFailure code.CannotOpen) = inr (inr (refl, refl))
reported (SqliteFailure code.DatabaseBusy) = inr (inr (refl, refl))
reported (SqliteFailure code.Closed) = inr (inr (refl, refl))
reported (SqliteFailure code.TooBig) = inr (inr (refl, refl))
reported (SqliteFailure (code.ConstraintViolation c)) = inr (inr (refl, refl))
reported (SqliteFailure code.TypeMismatch) = inr (inr (refl, refl))
reported (SqliteFailure code.IntegerOverflow) = inr (inr (refl, refl))
reported (SqliteFailure code.NoRowid) = inr (inr (refl, refl))
reported (SqliteFailure code.ForeignKeyMismatch) = inr (inr (refl, refl))
reported (SqliteFailure code.TooDeep) = inr (inr (refl, refl))
reported (SqliteFailure code.NoClock) = inr (inr (refl, refl))
reported (SqliteFailure code.NameTaken) = inr (inr (refl, refl))
reported (SqliteFailure code.BadName) = inr (inr (refl, refl))
reported (SqliteFailure code.BadKey) = inr (inr (refl, refl))
reported (SqliteFailure code.BadText) = inr (inr (refl, refl))
reported (SqliteFailure code.SchemaTooBig) = inr (inr (refl, refl))
reported (SqliteFailure code.TransactionState) = inr (inr (refl, refl))
reported (SqliteFailure code.NoSuchSavepoint) = inr (inr (refl, refl))
reported (SqliteFailure code.OperationInterrupted) = inr (inr (refl, refl))
reported (SqlInputError x) = inr (inr (refl, refl))
reported (InvalidParameterCount m n) = inr (inr (refl, refl))
reported ExecuteReturnedResults = inr (inr (refl, refl))
reported InvalidQuery = inr (inr (refl, refl))
reported MultipleStatement = inr (inr (refl, refl))
reported QueryReturnedNoRows = inr (inr (refl, refl))
reported (InvalidColumnIndex n) = inr (inr (refl, refl))
reported (InvalidColumnType n t) = inr (inr (refl, refl))
reported (IntegralValueOutOfRange n) = inr (inr (refl, refl))
reported (Utf8Error n) = inr (inr (refl, refl))

module _ {D : Type 0} {g : disk.Ghosts D} (image : Image) (e : Error) (rest : Left (Leftover D g) (Held (FileStore D g))) (fails : FailsToConnect image e rest)
  where
    pub not_connected : RefusesToOpen image (refused_to_open e) rest
    not_connected = elim (reported e) [
      | inl is ↦ subst (λ x. RefusesToOpen image (refused_to_open x) rest) (sym is) (inl (fails.foreign is))
      | inr more ↦ elim more [
        | inl is ↦ subst (λ x. RefusesToOpen image (refused_to_open x) rest) (sym is) tt
        | inr is ↦ subst (λ x. RefusesToOpen image x rest) (sym is.0) (inl fails.named)
      ]
    ]

    pub not_connected_to_create : RefusesToCreate image (refused_to_create e)
    not_connected_to_create = elim (reported e) [
      | inl is ↦ subst (λ x. RefusesToCreate image (refused_to_create x)) (sym is) (fails.foreign is)
      | inr more ↦ elim more [
        | inl is ↦ subst (λ x. RefusesToCreate image (refused_to_create x)) (sym is) tt
        | inr is ↦ subst (RefusesToCreate image) (sym is.1)
            tt
      ]
    ]

-- if nothing was opened
pub unopened_to_open : (e : Error) → IsUnopened e → OpensNothing (refused_to_open e)
unopened_to_open e (inl is) = subst (λ x. OpensNothing (refused_to_open x)) (sym is) (inl refl)
unopened_to_open e (inr (inl is)) = subst (λ x. OpensNothing (refused_to_open x)) (sym is) tt
unopened_to_open e (inr (inr is)) =
    subst (λ x. OpensNothing (refused_to_open x)) (sym is) (inr (inr refl))

pub unopened_to_create : (e : Error) → IsUnopened e → CreatesNothing (refused_to_create e)
unopened_to_create e (inl is) = subst (λ x. CreatesNothing (refused_to_create x)) (sym is) (inl refl)
unopened_to_create e (inr (inl is)) = subst (λ x. CreatesNothing (refused_to_create x)) (sym is) tt
unopened_to_create e (inr (inr is)) =
    subst (λ x. CreatesNothing (refused_to_create x)) (sym is) (inr (inr refl))

pub still_held : {D : Type 0} {g : disk.Ghosts D} (image : Image) (rest : Left (Leftover D g) (Held (FileStore D g))) → StaysAsItWas image rest →
    HoldsStill image rest
still_held image left.Nothing h = tt
still_held image (left.Files files) h = h
still_held image (left.Connection c) h = record { first = h.first; on = h.on; clean = h.clean; showed = h.showed.0 }

-- ---- a connection

-- tables that are not opened
pub not_adopted_for : {D : Type 0} {g : disk.Ghosts D} (image : Image) (rest : Left (Leftover D g) (Held (FileStore D g))) (seen : Seen) →
    ((P : Seen → Type 0) → P seen → Showed image P rest) → (fault : OpenFault)
    → OpensBy seen (Err fault) → RefusesToOpen image fault rest
not_adopted_for image rest seen show opened.NotOurs by = inr (show (λ x. ShowsFault x opened.NotOurs ⊎ ShowsNothing x) by)
not_adopted_for image rest seen show opened.NewFormat by = show (λ x. ShowsFault x opened.NewFormat) by
not_adopted_for image rest seen show opened.Damaged by = show (λ x. IsOld x ⊎ LosesKeys x) by
not_adopted_for image rest seen show (opened.Device e) (inl of) = inr (inl of)
not_adopted_for image rest seen show (opened.Device e) (inr old) = inr (inr (show IsOld old))
not_adopted_for image rest seen show opened.Memory by = tt

pub ours_blame_no_file : (s : State) (old new : Seen) (fault : OpenFault) → Opens s old new (Err fault) → OpenBlamesNoFile fault
ours_blame_no_file s old new opened.NotOurs h = absurd h
ours_blame_no_file s old new opened.NewFormat h = absurd h
ours_blame_no_file s old new opened.Damaged h = absurd h
ours_blame_no_file s old new (opened.Device e) h = tt
ours_blame_no_file s old new opened.Memory h = tt

pub old_blame_no_file : (s : State) (old new : Seen) (fault : OpenFault) → Carries s old new (Err fault) → OpenBlamesNoFile fault
old_blame_no_file s old new opened.NotOurs h = absurd h
old_blame_no_file s old new opened.NewFormat h = absurd h
old_blame_no_file s old new opened.Damaged h = absurd h
old_blame_no_file s old new (opened.Device e) h = tt
old_blame_no_file s old new opened.Memory h = tt

-- tables that are not made
pub not_made_for : (image : Image) (fault : CreateFault) → (fault ≡ created.NotOurs → ⊥) → (fault ≡ created.Taken → RefusesToCreate image created.Taken) →
    RefusesToCreate image fault
not_made_for image created.NotOurs of_tables taken = absurd (of_tables refl)
not_made_for image created.Taken of_tables taken = taken refl
not_made_for image (created.Device e) of_tables taken = tt
not_made_for image created.Memory of_tables taken = tt

-- new files are not to blame
pub new_blame_no_file : (image : Image) → IsNothing image → (fault : CreateFault) → RefusesToCreate image fault → CreateBlamesNoFile fault
new_blame_no_file image nothing created.NotOurs h = h (inr nothing)
new_blame_no_file image nothing created.Taken h = let none = new_takes_none image nothing h.0 h.1 h.2 h.3 in let wrong : false ≡ true = subst IsTrue none h.4 in
    cc
new_blame_no_file image nothing (created.Device e) h = tt
new_blame_no_file image nothing created.Memory h = tt
