use Rattle.streetmap_replay.proofs.CallsInTurn.{no_calls, call_of}
use Rattle.streetmap_replay.proofs.batches.give_again.Goals as goal

pub returns-in-Ok-None-clause-calls : goal.returns-in-Ok-None-clause-calls
returns-in-Ok-None-clause-calls g c = no_calls c.args.fresh.now

pub returns-in-Err-clause-calls : goal.returns-in-Err-clause-calls
returns-in-Err-clause-calls g c = no_calls c.args.fresh.now

pub returns-in-Ok-Repeated-clause-calls : goal.returns-in-Ok-Repeated-clause-calls
returns-in-Ok-Repeated-clause-calls g c = call_of c.in-Ok-Repeated.ensures.call

pub returns-in-Ok-Refused-clause-calls : goal.returns-in-Ok-Refused-clause-calls
returns-in-Ok-Refused-clause-calls g c = call_of c.in-Ok-Refused.ensures.call
