use Rattle.std.proofs.Common.{ℕ, Bool, cond, List, ap₂, subst}
use Rattle.sqlite_disk.specs.Events.{Event, replay}
use Rattle.sqlite_wal.specs.Recovery.{Image}
use Rattle.sqlite.specs.Files.{file_state}
use Rattle.sqlite.specs.Start.{FindsIn}
use Rattle.streetmap_store.proofs.Refusals.{foreign}
use Rattle.streetmap_store.proofs.connection.connect.Goals as goal

abbrev image : List ℕ → List ℕ → Image
image log db = record { log = log; db = db }

abbrev seen : List ℕ → List ℕ → Bool → List Event → List ℕ
seen log db is_log history = (replay (cond is_log log db) history).seen

pub returns-in-Ok-open_files_with-clause-opened : goal.returns-in-Ok-open_files_with-clause-opened
returns-in-Ok-open_files_with-clause-opened g c = rw c.set_clock.ensures (record {
  fresh = c.in-Ok-open_files_with.ensures.fresh;
  opened = c.in-Ok-open_files_with.ensures.opened;
  found = λ clean.
      let (log, db) = c.in-Ok-open_files.ensures.fresh in
      let found = c.in-Ok-open_files_with.ensures.found clean in
      let same = ap₂ image (ap₂ (seen g.S.Start.log g.S.Start.db) log.0 log.1) (ap₂ (seen g.S.Start.log g.S.Start.db) db.0 db.1) in
      subst (λ i. FindsIn i (file_state c.in-Ok-open_files_with.conn)) same (record { holds = found.holds; reads = found.reads });
})

pub returns-in-Err-open_files_with-clause-refused : goal.returns-in-Err-open_files_with-clause-refused
returns-in-Err-open_files_with-clause-refused g c clean =
    let failed = c.in-Err-open_files_with.ensures in
    let files = c.in-Ok-open_files.files in
    let (log, db) = c.in-Ok-open_files.ensures.fresh in
    let same = ap₂ image (ap₂ (seen g.S.Start.log g.S.Start.db) log.0 log.1) (ap₂ (seen g.S.Start.log g.S.Start.db) db.0 db.1) in
    record { named = failed.named; foreign = foreign _ files _ _ same (failed.cause clean); stays = (files, same, failed.unharmed clean) }
