use Rattle.streetmap_cells.proofs.cells.Cells.put.Goals as goal

pub returns-clause-kept : goal.returns-clause-kept
returns-clause-kept c = λ n e h. (h.0, (h.1.0, c.put_envelope.ensures.kept n h.0 h.1.1))
