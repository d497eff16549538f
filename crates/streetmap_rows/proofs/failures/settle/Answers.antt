use Rattle.sqlite.specs.Held.{state}
use Rattle.streetmap_rows.proofs.EndsByCause.{closes}
use Rattle.streetmap_rows.proofs.failures.settle.Goals as goal

pub returns-then-not-is_memory-clause-ends : goal.returns-then-not-is_memory-clause-ends
returns-then-not-is_memory-clause-ends g c clean =
    let seen = state g.S.Store c.args.conn.now in closes c.args.error seen seen c.cause_of.result c.cause_of.ensures.cause
