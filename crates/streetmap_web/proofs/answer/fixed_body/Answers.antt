use Rattle.std.proofs.Common.{sym, ap, ◌∙◌}
use Rattle.streetmap_web.specs.Response.{fault_response}
use Rattle.streetmap_bodies.specs.declared.request_fault.RequestFault.TheVariants.{Keeper}
use Rattle.streetmap_web.proofs.FaultAnswers.{memory_body, device_body, damaged_body, reopen_body}
use Rattle.streetmap_web.proofs.answer.fixed_body.Goals as goal

pub returns-in-Memory : goal.returns-in-Memory
returns-in-Memory c = memory_body ∙ ap (λ f. (fault_response (Keeper f)).body) (sym c.in-Memory.is)

pub returns-in-Device : goal.returns-in-Device
returns-in-Device c = device_body ∙ ap (λ f. (fault_response (Keeper f)).body) (sym c.in-Device.is)

pub returns-in-Damaged : goal.returns-in-Damaged
returns-in-Damaged c = damaged_body ∙ ap (λ f. (fault_response (Keeper f)).body) (sym c.in-Damaged.is)

pub returns-in-Reopen : goal.returns-in-Reopen
returns-in-Reopen c = reopen_body ∙ ap (λ f. (fault_response (Keeper f)).body) (sym c.in-Reopen.is)
