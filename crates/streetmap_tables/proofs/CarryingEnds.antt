-- How a migration ends, and what tables of format 1 show.
use Rattle.std.proofs.Common.{◌≡◌, inl, inr, ℕ, ℤ, pos, Option, Some, Result, Ok, Err}
use Rattle.std.proofs.Common.{IsTrue}
use Rattle.std.proofs.Common.{refl, sym, ap, subst, ◌∙◌, arith}
use Rattle.std.proofs.lemmas.Int.{ints}
use Rattle.sqlite.specs.State.{State as Seen, KeepsCommit, IsRolledBack}
use Rattle.streetmap_ledger.specs.State.{State}
use Rattle.streetmap_rows.proofs.NamedTables.{IsFound, is_found}
use Rattle.streetmap_rows.specs.Tables.{meta, meta_name}
use Rattle.streetmap_tables.specs.Creation.{HasSame}
use Rattle.streetmap_tables.specs.Adoption.{LeavesTheSame}
use Rattle.streetmap_tables.specs.QueryResults.{ShowsFormat, ShowsNothing, AdoptsBy, format_in}
use Rattle.streetmap_tables.proofs.FormatAndSerials.{format_seen, format_unrefused}
use Rattle.streetmap_tables.specs.Old.{KeepsOld, RestsOld}
use Rattle.streetmap_tables.specs.Migration.{IsMigrationError, CarryingRefusedFor, IsRefusedOld, Carries}
use Rattle.streetmap_tables.specs.Part.{IsMemoryOrStore}
use Rattle.streetmap_rows.specs.declared.fault.ReadFault.{ReadFault}
use Rattle.streetmap_rows.specs.declared.fault.ReadFault.TheVariants as read
use Rattle.sqlite.specs.Schema.{Schema}
use Rattle.sqlite.specs.Effect.{Database}
use Rattle.streetmap_tables.specs.declared.openings.OpenFault.{OpenFault}
use Rattle.streetmap_tables.specs.declared.openings.OpenFault.TheVariants.{NotOurs, NewFormat, Damaged, Device, Memory}

-- it rests if it has the database that it had
pub old_same : (old new : Seen) (s : State) → RestsOld old s → HasSame old new → new.step_limit ≡ old.step_limit → IsTrue new.is_open → RestsOld new s
old_same old new s rests same limit live = record {
  kept = subst (KeepsOld s) (sym same.0) rests.kept;
  settled = same.0 ∙ rests.settled ∙ sym same.1;
  live = live;
  unlimited = limit ∙ rests.unlimited;
}

-- a transaction that was undone leaves an open connection with the database that it had before it
pub same_after_rollback : (old begun mid new : Seen) → begun.committed ≡ old.committed → KeepsCommit begun mid → IsRolledBack mid new → old.now ≡ old.committed
    → IsTrue new.is_open → HasSame old new
same_after_rollback old begun mid new same kept back settled live =
    let was = kept.committed (back.was_open live) ∙ same in
    let undone = back.undone live in
    (undone.0 ∙ was ∙ sym settled, undone.1 ∙ was)

-- a refusal, by what it reports
pub refused_old : (s : State) (old new : Seen) (fault : OpenFault) → IsRefusedOld old.now.schema fault → (IsTrue new.is_open → RestsOld new s) →
    (fault ≡ Memory → IsTrue new.is_open × LeavesTheSame old new) → Carries s old new (Err fault)
refused_old s old new NotOurs reported rests memory = reported
refused_old s old new NewFormat reported rests memory = reported
refused_old s old new Damaged reported rests memory = reported
refused_old s old new (Device e) reported rests memory = (reported, rests)
refused_old s old new Memory reported rests memory = let it = memory refl in (rests it.0, it.1)

-- why part of it gave up
pub held_back : (schema : Schema) (fault : ReadFault) → IsMemoryOrStore fault → CarryingRefusedFor schema fault
held_back schema read.Memory not_of_disk = tt
held_back schema (read.Store e) not_of_disk = inl not_of_disk
held_back schema read.Unread not_of_disk = not_of_disk

-- after a read that left the same
pub carries_on : (s : State) (old mid new : Seen) (r : Result ℕ OpenFault) → mid.now ≡ old.now → LeavesTheSame old mid → Carries s mid new r →
    Carries s old new r
carries_on s old mid new (Ok count) now same h = h
carries_on s old mid new (Err NotOurs) now same h = h
carries_on s old mid new (Err NewFormat) now same h = h
carries_on s old mid new (Err Damaged) now same h = h
carries_on s old mid new (Err (Device e)) now same h = (subst (λ (d : Database). IsMigrationError d.schema e) now h.0, h.1)
carries_on s old mid new (Err Memory) now same h = (h.0, (λ trees may. same.0 trees (h.1.0 trees may), λ trees may. h.1.1 trees (same.1 trees may)))

-- ---- what the reads show of tables of format 1

module _ (seen : Seen) (s : State) (rests : RestsOld seen s) where
  in_meta : IsFound seen.now.schema meta_name (meta rests.kept.roots.meta)
  in_meta = is_found seen.now meta_name (meta rests.kept.roots.meta) rests.kept.sound rests.kept.ours.room.apart rests.kept.ours.meta_is

  pub old_format : (format : Option ℤ) → ShowsFormat seen format → format ≡ Some (pos 1)
  old_format format reported = sym reported.2 ∙ ap format_in (format_seen seen seen rests.kept.roots.meta in_meta (pos 1) rests.kept.of.format reported.0
      reported.1).0

  never_refused : ShowsNothing seen → ⊥
  never_refused it = it.1 (format_unrefused seen seen rests.kept.roots.meta in_meta rests.unlimited it.0 (inl it.2))

  pub never_counted : (count : ℕ) → AdoptsBy seen (Ok (Some count)) → ⊥
  never_counted count reported = let wrong : Some (pos 2) ≡ Some (pos 1) = old_format (Some (pos 2)) reported.0 in absurd (cc)

  never_lost : AdoptsBy seen (Err Damaged) → ⊥
  never_lost reported = let wrong : Some (pos 2) ≡ Some (pos 1) = old_format (Some (pos 2)) reported.0 in absurd (cc)

  never_foreign : AdoptsBy seen (Err NotOurs) → ⊥
  never_foreign (inl it) = let below = it.1 (pos 1) (old_format it.0 it.2) in omega (arith, ints, below)
  never_foreign (inr it) = never_refused it

  never_new : AdoptsBy seen (Err NewFormat) → ⊥
  never_new it =
      let both : Some it.1.0 ≡ Some (pos 1) = sym it.1.1 ∙ old_format it.0 it.2 in
      let same : it.1.0 ≡ pos 1 = cc in
      let above = it.1.2 in omega (arith, ints, same, above)

  -- why they are not read
  pub refused_unread : (fault : OpenFault) → AdoptsBy seen (Err fault) → IsRefusedOld seen.now.schema fault
  refused_unread NotOurs reported = never_foreign reported
  refused_unread NewFormat reported = never_new reported
  refused_unread Damaged reported = never_lost reported
  refused_unread (Device e) reported = inl reported
  refused_unread Memory reported = tt
