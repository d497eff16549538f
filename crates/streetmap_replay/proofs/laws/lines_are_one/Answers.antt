use Rattle.streetmap_replay.proofs.LineBytes.{lines_are_one_each}
use Rattle.streetmap_replay.proofs.laws.lines_are_one.Goals as goal

pub returns : goal.returns
returns c = lines_are_one_each
