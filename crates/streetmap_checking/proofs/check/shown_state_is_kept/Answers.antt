use Rattle.sqlite.specs.Held.{state}
use Rattle.streetmap_checking.proofs.Same.{shown_is_kept}
use Rattle.streetmap_checking.proofs.check.shown_state_is_kept.Goals as goal

pub returns : goal.returns
returns g c s t well shows rests = shown_is_kept (state g.S.Store c.args.conn.now) s t well shows rests
