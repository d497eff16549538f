use Rattle.sqlite.specs.State.{HasCleanDisk}
use Rattle.sqlite.specs.Files.{file_state}
use Rattle.streetmap_store.proofs.JustOpened.{rests, rests_old}
use Rattle.streetmap_store.proofs.Refusals.{unopened_to_open, not_connected, not_adopted_for, ours_blame_no_file, old_blame_no_file}
use Rattle.streetmap_store.proofs.file.open.Goals as goal

pub returns-in-Ok-adopt-clause-opened : goal.returns-in-Ok-adopt-clause-opened
returns-in-Ok-adopt-clause-opened g c clean s held =
    let connected : HasCleanDisk (file_state c.in-Ok.conn) = c.in-Ok-adopt.ensures.clean clean in
    c.in-Ok-adopt.ensures.adopted clean s (rests _ c.in-Ok.conn c.in-Ok.ensures.opened connected s held)

pub returns-in-Ok-adopt-clause-carried : goal.returns-in-Ok-adopt-clause-carried
returns-in-Ok-adopt-clause-carried g c clean s held =
    let connected : HasCleanDisk (file_state c.in-Ok.conn) = c.in-Ok-adopt.ensures.clean clean in
    c.in-Ok-adopt.ensures.carried clean s (rests_old _ c.in-Ok.conn c.in-Ok.ensures.opened connected s held)

pub returns-in-Err-clause-refused : goal.returns-in-Err-clause-refused
returns-in-Err-clause-refused g c clean = rw c.unopened.ensures (not_connected _ _ _ (c.in-Err.ensures.refused clean))

pub returns-in-Err-adopt-clause-refused : goal.returns-in-Err-adopt-clause-refused
returns-in-Err-adopt-clause-refused g c clean =
    let connected : HasCleanDisk (file_state c.in-Ok.conn) = c.in-Err-adopt.ensures.clean clean in
    not_adopted_for _ _ (file_state c.in-Ok.conn) (λ P p. record { first = c.in-Ok.conn; on = c.in-Ok.ensures.opened; clean = connected; showed = p }) _
    (c.in-Err-adopt.ensures.reports clean)

pub returns-in-Err-adopt-clause-ours : goal.returns-in-Err-adopt-clause-ours
returns-in-Err-adopt-clause-ours g c clean s held =
    let connected : HasCleanDisk (file_state c.in-Ok.conn) = c.in-Err-adopt.ensures.clean clean in
    ours_blame_no_file s (file_state c.in-Ok.conn) (file_state c.in-Err-adopt.conn) _ (c.in-Err-adopt.ensures.refused clean s
    (rests _ c.in-Ok.conn c.in-Ok.ensures.opened connected s held))

pub returns-in-Err-adopt-clause-ours_old : goal.returns-in-Err-adopt-clause-ours_old
returns-in-Err-adopt-clause-ours_old g c clean s held =
    let connected : HasCleanDisk (file_state c.in-Ok.conn) = c.in-Err-adopt.ensures.clean clean in
    old_blame_no_file s (file_state c.in-Ok.conn) (file_state c.in-Err-adopt.conn) _ (c.in-Err-adopt.ensures.refused_old clean s
    (rests_old _ c.in-Ok.conn c.in-Ok.ensures.opened connected s held))

pub returns-in-Err-adopt-clause-stays : goal.returns-in-Err-adopt-clause-stays
returns-in-Err-adopt-clause-stays g c clean =
    let connected : HasCleanDisk (file_state c.in-Ok.conn) = c.in-Err-adopt.ensures.clean clean in
    record {
      first = c.in-Ok.conn;
      on = c.in-Ok.ensures.opened;
      clean = connected;
      showed =
          (c.in-Err-adopt.ensures.same clean, c.in-Err-adopt.ensures.unwritten clean, c.in-Err-adopt.ensures.crash clean);
    }

pub returns-in-Err-clause-unopened : goal.returns-in-Err-clause-unopened
returns-in-Err-clause-unopened g c none = rw c.unopened.ensures (unopened_to_open _ (c.in-Err.ensures.unopened none))
