-- Calls in a transaction, one after the other, and what holds of each state if a call ended well.
use Rattle.std.proofs.Common.{Result, Ok, Err, OnOk, ◌∙◌}
use Rattle.streetmap_ledger.specs.State.{State}

pub each_state : {A E : Type 0} (P Q : State → Type 0) (r : Result A E) → ((s : State) → P s → OnOk r (Q s)) → OnOk r ((s : State) → P s → Q s)
each_state P Q (Ok a) all = all
each_state P Q (Err e) all = tt
