use Rattle.std.proofs.Common.{refl}
use Rattle.streetmap_connections.proofs.Timelines.{timeline_stays}
use Rattle.streetmap_connections.proofs.serve.Acceptor.let_next_in.Goals as goal

pub returns-in-Ok-Lost-clause-comes : goal.returns-in-Ok-Lost-clause-comes
returns-in-Ok-Lost-clause-comes c = timeline_stays _ _ refl

pub returns-in-Ok-Nobody-clause-comes : goal.returns-in-Ok-Nobody-clause-comes
returns-in-Ok-Nobody-clause-comes c = timeline_stays _ _ refl

pub returns-in-Err-clause-comes : goal.returns-in-Err-clause-comes
returns-in-Err-clause-comes c = timeline_stays _ _ refl

pub returns-in-Err-2-clause-comes : goal.returns-in-Err-2-clause-comes
returns-in-Err-2-clause-comes c = timeline_stays _ _ refl
