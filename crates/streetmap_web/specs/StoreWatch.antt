-- When the store of a keeper has failed.
use Rattle.std.specs.Prelude.{◌≡◌, ◌||◌, ℕ, Bool, true, List, bytes_eq}
use Rattle.streetmap_bodies.specs.declared.request_fault.RequestFault.TheVariants as faults
use Rattle.streetmap_http.specs.AnswerHead.{head_text}
use Rattle.streetmap_ledger.specs.declared.reply.Fault.{Fault}
use Rattle.streetmap_ledger.specs.declared.reply.Fault.TheVariants.{Device, Damaged}
use Rattle.streetmap_web.specs.Response.{head_of, fault_response}
use Rattle.streetmap_web.specs.declared.watch.Watch.{Watch}

-- the head of the answer with a keeper's fault
abbrev pub fault_head : Fault → List ℕ
fault_head fault = head_text (head_of true (fault_response (faults.Keeper fault)))

-- a head is that of an answer with a fault that shuts a keeper
abbrev pub reports_failure : List ℕ → Bool
reports_failure head =
    bytes_eq head (fault_head Device) || bytes_eq head (fault_head Damaged)

-- the store has failed, and nothing more is answered
abbrev pub IsOver : {W : Type 0} → Watch W → Type 0
IsOver watch = (watch.ends ≡ true) × (watch.failed ≡ true)
