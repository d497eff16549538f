use Rattle.std.proofs.Common.{rules}
use Rattle.streetmap_ledger.proofs.Calls.{read_then}
use Rattle.streetmap_index.proofs.knowledge.learn.Goals as goal

pub returns-in-Ok-Some : goal.returns-in-Ok-Some
returns-in-Ok-Some g c =
    let both = read_then {Both = λ _ _. Unit {0}} c.in-Ok-Some.ensures c.learn_outlines.ensures (λ s o e is under. tt) in
    record { call = both.call; reads = search rules }
