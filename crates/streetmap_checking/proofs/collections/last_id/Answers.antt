use Rattle.std.proofs.Common.{sym, ◌∙◌, ap, rules}
use Rattle.std.specs.Option.{option_copied}
use Rattle.streetmap_checking.proofs.Owning.{last_known}
use Rattle.streetmap_checking.proofs.collections.last_id.Goals as goal

pub returns-in-Some : goal.returns-in-Some
returns-in-Some c = last_known c.args.heads.now c.in-Some.head.now _ (sym c.last.ensures.value ∙ ap option_copied c.in-Some.is) (search rules)
