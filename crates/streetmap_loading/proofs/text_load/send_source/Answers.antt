use Rattle.streetmap_loading.proofs.text_load.send_source.Goals as goal

pub returns-clause-sends : goal.returns-clause-sends
returns-clause-sends g c = (g.E.Edits.left c.send_all.new.edits, c.send_all.ensures.sends)
