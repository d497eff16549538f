use Rattle.std.proofs.Common.{refl}
use Rattle.streetmap_exchange.proofs.KeeperLemmas.{batch_imports}
use Rattle.streetmap_exchange.proofs.keeper_imports.apply_import.Goals as goal

pub returns-clause-imports : goal.returns-clause-imports
returns-clause-imports g c = λ h s e. batch_imports g.K.Keeper.model c.args.keeper.now c.apply.new.keeper s _ _ _ refl (c.apply.ensures.imports h s e)
