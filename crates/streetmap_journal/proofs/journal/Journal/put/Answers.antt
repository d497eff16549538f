use Rattle.std.proofs.Common.{refl, arith}
use Rattle.streetmap_journal.proofs.PartOfLine.{lacking_put}
use Rattle.streetmap_journal.proofs.journal.Journal.put.Goals as goal

pub returns-in-Err : goal.returns-in-Err
returns-in-Err g c = record {
  after = refl;
  behind = refl;
  next = omega arith;
  reported = c.in-Err.ensures.reported;
  goes = c.in-Err.ensures.goes;
  failed = λ no. c.in-Err.ensures.failed refl;
  line = λ low.
      let part = c.args.self.now.part in
      let line = c.args.line.now in
      let wrote = rw c.lacking.ensures at c.in-Err.ensures.first in
      let it = lacking_put part c.in-Err.stopped.written c.saturating_add-self-in-Err.result line
      _ _ low (omega (arith, c.type_inv.line)) wrote.0 c.saturating_add-self-in-Err.ensures
      wrote.1 in
      ((refl, refl, it.0, it.1, it.2), refl);
}
