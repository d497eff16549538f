use Rattle.std.proofs.Common.{◌≡◌, false, take, ℕ, List, IsTrue}
use Rattle.sqlite.specs.Held.{state}
use Rattle.sqlite.specs.State.{State as Seen, HasCleanDisk, IsUnchanged, Survives}
use Rattle.streetmap_checking.specs.Held.{known}
use Rattle.streetmap_checking.specs.QueryResults.{SeesAllFeatures}
use Rattle.streetmap_checking.specs.declared.collections.Head.{Head}
use Rattle.streetmap_checking.proofs.queries.check_all_features.Given as goal

-- this number of features of these collections was seen
pub record SoFar (old now : Seen) (heads : List Head) (features : ℕ) : Type 0 where
  pub survives : Survives old now (λ _. ⊥)
  pub sees : HasCleanDisk now → IsTrue old.is_open → SeesAllFeatures (known heads) features old
  pub same : HasCleanDisk now → IsTrue old.is_open → IsUnchanged old now

abbrev pub invariant-heads : goal.invariant-heads
invariant-heads g l = (l.fn.conn.in_transaction ≡ false → l.conn.in_transaction ≡ false)
    × SoFar (state g.S.Store l.fn.conn) (state g.S.Store l.conn) (take l.head-index l.heads) l.features
