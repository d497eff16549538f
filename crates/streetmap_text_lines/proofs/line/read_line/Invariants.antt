use Rattle.streetmap_text_lines.proofs.LineLemmas.{IsPartRead}
use Rattle.streetmap_text_lines.proofs.line.read_line.Given as goal

abbrev pub invariant-loop-turn : goal.invariant-loop-turn
invariant-loop-turn g l = IsPartRead l.most (g.R.Read.remaining l.fn.reader)
    (g.R.Read.remaining l.reader) l.line.items
