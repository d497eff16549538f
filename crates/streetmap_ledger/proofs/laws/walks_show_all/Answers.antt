use Rattle.streetmap_ledger.proofs.Walking.{walks_show_all}
use Rattle.streetmap_ledger.proofs.laws.walks_show_all.Goals as goal

pub returns : goal.returns
returns c = walks_show_all
