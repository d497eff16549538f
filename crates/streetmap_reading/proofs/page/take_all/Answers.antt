use Rattle.std.proofs.Common.{None}
use Rattle.streetmap_rows.specs.Statements.{select_all}
use Rattle.streetmap_reading.proofs.PageRowsShown.{all_at, select_all_plain}
use Rattle.streetmap_reading.proofs.PageStatements.{takes_by}
use Rattle.streetmap_rows.proofs.ReadsInTurn.{reads_by}
use Rattle.streetmap_reading.proofs.page.take_all.Goals as goal

pub returns : goal.returns
returns g c =
    reads_by select_all _ c.fold_rows.ensures (λ s keeps. select_all_plain _ s keeps) (λ clean took.
    let all = rw c.params-to_sql.ensures at took in
    takes_by select_all _ None None c.args.collection.now _ _ c.args.page.now _ _ all (λ s d keeps there. all_at _ s keeps c.args.collection.now d there))
