use Rattle.streetmap_store.proofs.NewFiles.{new_leaves_room}
use Rattle.streetmap_store.proofs.laws.new_files_leave_room.Goals as goal

pub returns : goal.returns
returns c = new_leaves_room
