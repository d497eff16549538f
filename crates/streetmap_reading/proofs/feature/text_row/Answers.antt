use Rattle.std.proofs.Common.{option_map}
use Rattle.streetmap_ledger.specs.Pages.{feature_in}
use Rattle.streetmap_reading.specs.Candidates.{dated_row}
use Rattle.streetmap_reading.specs.Statements.{select_text}
use Rattle.streetmap_reading.proofs.FeatureStatement.{text_at}
use Rattle.streetmap_rows.proofs.ReadsInTurn.{reads_by}
use Rattle.streetmap_reading.proofs.feature.text_row.Goals as goal

pub returns : goal.returns
returns g c =
    reads_by select_text _ c.only_row.ensures (λ s keeps. (text_at _ s keeps c.args.collection.now c.args.id.now).plain) (λ clean took s limit keeps.
    let only = rw (c.params-to_sql.ensures, c.params-to_sql-2.ensures) at took in
    only (option_map dated_row (feature_in s c.args.collection.now c.args.id.now)) limit (text_at _ s keeps c.args.collection.now c.args.id.now))
