use Rattle.std.proofs.Common.{true, sym, ap, ◌∙◌}
use Rattle.streetmap_http.specs.AnswerHead.{head_text}
use Rattle.streetmap_web.specs.Response.{fault_response, head_of}
use Rattle.streetmap_bodies.specs.declared.request_fault.RequestFault.TheVariants.{Keeper}
use Rattle.streetmap_web.proofs.FaultAnswers.{memory_head, device_head, damaged_head, reopen_head}
use Rattle.streetmap_web.proofs.answer.fixed_head.Goals as goal

pub returns-in-Memory : goal.returns-in-Memory
returns-in-Memory c = memory_head ∙ ap (λ f. head_text (head_of true (fault_response (Keeper f)))) (sym c.in-Memory.is)

pub returns-in-Device : goal.returns-in-Device
returns-in-Device c = device_head ∙ ap (λ f. head_text (head_of true (fault_response (Keeper f)))) (sym c.in-Device.is)

pub returns-in-Damaged : goal.returns-in-Damaged
returns-in-Damaged c = damaged_head ∙ ap (λ f. head_text (head_of true (fault_response (Keeper f)))) (sym c.in-Damaged.is)

pub returns-in-Reopen : goal.returns-in-Reopen
returns-in-Reopen c = reopen_head ∙ ap (λ f. head_text (head_of true (fault_response (Keeper f)))) (sym c.in-Reopen.is)
