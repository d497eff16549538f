use Rattle.std.proofs.Common.{◌≡◌, Option, None, Some, option_map, refl, ◌∙◌, rules}
use Rattle.std.specs.Prelude.{is_none}
use Rattle.streetmap_rows.specs.declared.failures.Shut.{Shut}
use Rattle.streetmap_store.specs.CallResults.{cause_in}
use Rattle.streetmap_store.proofs.keeper.TableKeeperKeeper.is_open.Goals as goal

open_too : (o : Option Shut) → is_none o ≡ is_none (option_map cause_in o)
open_too None = refl
open_too (Some why) = refl

pub returns : goal.returns
returns g c = let same : c.is_none.result ≡ is_none c.args.self.now.shut = search rules in same ∙ open_too c.args.self.now.shut
