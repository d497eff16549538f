use Rattle.streetmap_replay.proofs.LineBytes.{journal_reads_in_lines}
use Rattle.streetmap_replay.proofs.laws.journal_reads_in_lines.Goals as goal

pub returns : goal.returns
returns c = journal_reads_in_lines
