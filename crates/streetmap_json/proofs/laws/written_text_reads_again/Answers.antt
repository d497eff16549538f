use Rattle.streetmap_json.proofs.NumberTextKept.{text_kept}
use Rattle.streetmap_json.proofs.WrittenTextReads.{text_reads}
use Rattle.streetmap_json.proofs.WrittenTextAgain.{text_again}
use Rattle.streetmap_json.proofs.laws.written_text_reads_again.Goals as goal

pub returns-clause-reads : goal.returns-clause-reads
returns-clause-reads c = text_reads

pub returns-clause-kept : goal.returns-clause-kept
returns-clause-kept c = text_kept

pub returns-clause-again : goal.returns-clause-again
returns-clause-again c = text_again
