use Rattle.std.proofs.Common.{◌≡◌, ℕ, List, [], false}
use Rattle.sqlite.specs.Given.{HasGiven}
use Rattle.sqlite.specs.Held.{Held, state}
use Rattle.sqlite.specs.Order.{Row}
use Rattle.sqlite.specs.Store.{Ghosts}
use Rattle.sqlite.specs.State.{HasCleanDisk, IsUnchanged, Survives}
use Rattle.streetmap_reading.specs.ShownQueries.{IsSimpleIn}
use Rattle.streetmap_reading.proofs.fold.take_first.Given as goal

module _ {F : Type 0} (Holds : F → F → List Row → Type 0) where
  -- these rows were taken
  pub record Took {S : Type 0} (g : Ghosts S) (old now : Held S) (start fold : F) (sql : List ℕ)
      (params : Row) : Type 0 where
    pub done : List Row
    pub given : HasGiven g sql params now done
    pub held : Holds start fold done
    pub same : IsUnchanged (state g old) (state g now)

  pub record SoFar {S : Type 0} (g : Ghosts S) (old now : Held S) (before fold : F) : Type 0 where
    pub mode : old.in_transaction ≡ false → now.in_transaction ≡ false
    pub survives : Survives (state g old) (state g now) (λ _. ⊥)
    pub took : HasCleanDisk (state g now) → (sql : List ℕ) (params : Row) (start : F)
        → IsSimpleIn old.schema sql → HasGiven g sql params old [] → Holds start before []
        → Took g old now start fold sql params

abbrev pub invariant-rows : goal.invariant-rows
invariant-rows g l = (l.rows.conn.ghost_name ≡ l.fn.rows.conn.ghost_name)
    × SoFar g.F.RowFold.holds g.S.Store l.fn.rows.conn.now l.rows.conn.now l.fn.fold l.fold
