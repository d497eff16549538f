use Rattle.streetmap_exchange.proofs.OfJournal.{lines_are_of_the_journal}
use Rattle.streetmap_exchange.proofs.line_laws.lines_are_of_the_journal.Goals as goal

pub returns : goal.returns
returns c = lines_are_of_the_journal
