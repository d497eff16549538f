use Rattle.std.proofs.Common.{arith}
use Rattle.std.proofs.lemmas.Int.{ints, to_z-of_z}
use Rattle.streetmap_ledger.proofs.SameBox.{same_box}
use Rattle.streetmap_ledger.proofs.compact_box.CompactBox.of.Goals as goal

pub returns : goal.returns
returns c = same_box _ _ (grind (arith, ints, to_z-of_z)) (grind (arith, ints, to_z-of_z)) (grind (arith, ints, to_z-of_z)) (grind (arith, ints, to_z-of_z))
