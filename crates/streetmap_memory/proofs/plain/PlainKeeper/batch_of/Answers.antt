use Rattle.std.proofs.Common.{find, sym, ap, ◌∙◌}
use Rattle.std.proofs.lemmas.Result.{IfOk-weaker}
use Rattle.streetmap_ledger.specs.Kept.{has_serial}
use Rattle.streetmap_memory.proofs.Ordered.{entries_of}
use Rattle.streetmap_memory.proofs.plain.PlainKeeper.batch_of.Goals as goal

pub returns : goal.returns
returns c =
    let same = entries_of c.args.self.now.keys.entries c.batch_with.ensures.ordered in
    IfOk-weaker c.batch_with.result _ _
    (λ batch h. h ∙ ap (find (has_serial c.args.serial)) (sym same)) c.batch_with.ensures.finds
