use Rattle.std.proofs.Common.{◌∙◌}
use Rattle.streetmap_ledger.proofs.Hiding.{all_hidden}
use Rattle.streetmap_ledger.proofs.fold.PageFold.count_all_hidden.Goals as goal

pub returns : goal.returns
returns c = λ q fs gs held hidden len full.
    let said = c.add.ensures in
    all_hidden q c.args.self.now c.add.new.self c.args.following fs gs held hidden full said.query said.features
    (rw len (said.more ∙ c.more_after-self.ensures)) (rw len said.matched) (rw len said.examined)
