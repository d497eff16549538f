-- A database of a well-formed state, and what a crash can leave.
use Rattle.std.specs.Prelude.{◌≡◌, ◌⊎◌, Option, None, Some, IsTrue}
use Rattle.sqlite.specs.Effect.{Database}
use Rattle.sqlite.specs.Schema.{Schema}
use Rattle.sqlite.specs.State.{State as Seen}
use Rattle.sqlite_trees.specs.Tree.{Trees}
use Rattle.streetmap_batch.specs.BatchValue.{BatchValue}
use Rattle.streetmap_ledger.specs.State.{State}
use Rattle.streetmap_ledger.specs.Batches.{act}
use Rattle.streetmap_ledger.specs.WellFormed.{IsState}
use Rattle.streetmap_rows.specs.Representations.{StandsFor}

-- a database of a well-formed state
pub record Keeps (s : State) (db : Database) : Type 0 where
  pub well : IsState s
  pub rows : StandsFor s db

-- an open connection between two transactions, whose database is that of the state
pub record Rests (seen : Seen) (s : State) : Type 0 where
  pub kept : Keeps s seen.now
  pub settled : seen.now ≡ seen.committed
  pub live : IsTrue seen.is_open
  pub unlimited : seen.step_limit ≡ None

-- trees are those of a state, or (none) of no state
abbrev pub AreTreesOf : Trees → Option State → Type 0
AreTreesOf trees (Some s) = (schema : Schema) × Keeps s (record { schema = schema; trees = trees })
AreTreesOf trees None = (s : State) (schema : Schema)
    → Keeps s (record { schema = schema; trees = trees }) → ⊥

-- what a crash can leave: the state of trees that the store can leave
abbrev pub MayLeave : Seen → Option State → Type 0
MayLeave seen o = (trees : Trees) × seen.may_leave trees × AreTreesOf trees o

-- what a batch may commit
abbrev pub MayCommit : State → BatchValue → Trees → Type 0
MayCommit s b trees = (db : Database) × Keeps (act s b).state db × (trees ≡ db.trees)

-- A crash leaves what it could leave before, or what the batch commits.
abbrev pub MayBecome : State → BatchValue → Seen → Seen → Type 0
MayBecome s b old new = (trees : Trees) → new.may_leave trees → old.may_leave trees
    ⊎ MayCommit s b trees
