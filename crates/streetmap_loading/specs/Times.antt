-- The time property of a collection.
use Rattle.std.specs.Prelude.{Option, None, Some}
use Rattle.streetmap_batch.specs.Text.{Text}
use Rattle.streetmap_ledger.specs.State.{State}
use Rattle.streetmap_ledger.specs.Summaries.{SummaryValue, summary_in}

abbrev pub times_if : Option SummaryValue → Option Text
times_if None = None
times_if (Some summary) = summary.time

-- none if the collection does not exist
abbrev pub times_in : State → Text → Option Text
times_in s collection = times_if (summary_in s collection)
