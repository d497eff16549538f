use Rattle.std.proofs.Common.{subst}
use Rattle.sqlite.specs.State.{HasCleanDisk}
use Rattle.sqlite.specs.Files.{file_state}
use Rattle.streetmap_store.proofs.JustOpened.{ready, taken}
use Rattle.streetmap_store.proofs.Refusals.{unopened_to_create, still_held, not_connected_to_create, not_made_for, new_blame_no_file}
use Rattle.streetmap_store.proofs.file.create.Goals as goal

pub returns-in-Ok-make-clause-made : goal.returns-in-Ok-make-clause-made
returns-in-Ok-make-clause-made g c clean room = c.in-Ok-make.ensures.made clean (ready _ c.in-Ok.conn c.in-Ok.ensures.opened (c.in-Ok-make.ensures.clean clean)
    room)

pub returns-in-Err-clause-refused : goal.returns-in-Err-clause-refused
returns-in-Err-clause-refused g c clean = rw c.not_made.ensures (not_connected_to_create _ _ _ (c.in-Err.ensures.refused clean))

pub returns-in-Err-clause-new_files : goal.returns-in-Err-clause-new_files
returns-in-Err-clause-new_files g c clean nothing = new_blame_no_file _ nothing _ (returns-in-Err-clause-refused g c clean)

pub returns-in-Err-make-clause-refused : goal.returns-in-Err-make-clause-refused
returns-in-Err-make-clause-refused g c clean =
    not_made_for _ _ c.in-Err-make.ensures.of_tables (λ is.
    let same = c.in-Err-make.ensures.untouched is in
    taken _ c.in-Ok.conn c.in-Ok.ensures.opened (subst (λ h. HasCleanDisk (file_state h)) same clean) (c.in-Err-make.ensures.taken.0 is))

pub returns-in-Err-make-clause-new_files : goal.returns-in-Err-make-clause-new_files
returns-in-Err-make-clause-new_files g c clean nothing = new_blame_no_file _ nothing _ (returns-in-Err-make-clause-refused g c clean)

pub returns-in-Err-clause-stays : goal.returns-in-Err-clause-stays
returns-in-Err-clause-stays g c clean = still_held _ _ (c.in-Err.ensures.refused clean).stays

pub returns-in-Err-make-clause-stays : goal.returns-in-Err-make-clause-stays
returns-in-Err-make-clause-stays g c clean = record {
  first = c.in-Ok.conn;
  on = c.in-Ok.ensures.opened;
  clean = c.in-Err-make.ensures.clean clean;
  showed =
      c.in-Err-make.ensures.same clean;
}

pub returns-in-Err-clause-unopened : goal.returns-in-Err-clause-unopened
returns-in-Err-clause-unopened g c none = rw c.not_made.ensures (unopened_to_create _ (c.in-Err.ensures.unopened none))
