use Rattle.std.proofs.Common.{sym, ◌∙◌}
use Rattle.streetmap_web.proofs.log.shown.Goals.{in_default-via-in-Ok+else-is_plain, in_default-via-in_default}
use Rattle.streetmap_web.proofs.LogLines.{not_plain, shown_as_it_is_not}
use Rattle.streetmap_web.proofs.log.shown.Goals as goal

pub returns-in_default : goal.returns-in_default
returns-in_default c = elim c.in_default.branch [
  | in_default-via-in-Ok+else-is_plain w ↦ shown_as_it_is_not c.args.line.now _ _ (sym w.is_plain.ensures ∙ w.if-is_plain.false)
  | in_default-via-in_default w ↦ shown_as_it_is_not c.args.line.now _ _ (not_plain c.args.line.now w.in_default.ensures.cases.0)
]
