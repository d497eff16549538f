use Rattle.std.proofs.Common.{sym, ◌∙◌}
use Rattle.streetmap_memory.proofs.Ordered.{len_of}
use Rattle.streetmap_memory.proofs.plain.PlainKeeper.count_of.Goals as goal

pub returns : goal.returns
returns c =
    c.len.ensures.len ∙ sym (len_of c.args.self.now.keys.entries c.len.ensures.ordered)
