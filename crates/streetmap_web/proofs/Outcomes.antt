-- Requests that were answered as requested, or for which memory ran out.
use Rattle.std.proofs.Common.{◌≡◌, refl}
use Rattle.std.specs.Prelude.{Option}
use Rattle.streetmap_http.specs.declared.fault.FramingFault.{FramingFault}
use Rattle.streetmap_ledger.specs.State.{State}
use Rattle.streetmap_ledger.specs.declared.reply.Fault.TheVariants.{Memory}
use Rattle.streetmap_routes.specs.Operations.{faulty}
use Rattle.streetmap_bodies.specs.declared.request_fault.RequestFault.TheVariants.{Keeper, Framing}
use Rattle.streetmap_web.specs.Site.{SiteValue}
use Rattle.streetmap_web.specs.Response.{Wanted, plainly, fault_response}
use Rattle.streetmap_web.specs.Conditions.{Condition, of_state, shut, unknown, as_requested, no_memory, answer_by}
use Rattle.streetmap_web.specs.Conditions.{after, CanBe, Leaves}

pub faulty_after : (x : Condition) (in_condition : Condition → Type 0) (fault : FramingFault) → in_condition x → in_condition (after x (plainly (faulty (Framing fault))) as_requested)
faulty_after (of_state s) in_condition fault h = h
faulty_after (shut why) in_condition fault h = h
faulty_after unknown in_condition fault h = h

pub faulty_response : (site : SiteValue) (x : Condition) (fault : FramingFault) → answer_by site x (plainly (faulty (Framing fault))) as_requested ≡ fault_response (Framing fault)
faulty_response site (of_state s) fault = refl
faulty_response site (shut why) fault = refl
faulty_response site unknown fault = refl

pub faulty_leaves : (x : Condition) (fault : FramingFault) (leaves : Option State → Type 0) → Leaves x (plainly (faulty (Framing fault))) as_requested leaves leaves
faulty_leaves (of_state s) fault leaves = tt
faulty_leaves (shut why) fault leaves = λ o. (λ h. h, λ h. h)
faulty_leaves unknown fault leaves = tt

pub can_be_as_requested : (x : Condition) (fault : FramingFault) → CanBe x (plainly (faulty (Framing fault))) as_requested
can_be_as_requested (of_state s) fault = tt
can_be_as_requested (shut why) fault = tt
can_be_as_requested unknown fault = refl

pub no_memory_after : (x : Condition) (in_condition : Condition → Type 0) (wanted : Wanted) → in_condition x → in_condition (after x wanted no_memory)
no_memory_after (of_state s) in_condition wanted h = h
no_memory_after (shut why) in_condition wanted h = h
no_memory_after unknown in_condition wanted h = h

pub no_memory_leaves : (x : Condition) (wanted : Wanted) (leaves : Option State → Type 0) → Leaves x wanted no_memory leaves leaves
no_memory_leaves (of_state s) wanted leaves = tt
no_memory_leaves (shut why) wanted leaves = λ o. (λ h. h, λ h. h)
no_memory_leaves unknown wanted leaves = tt

pub no_memory_response : (site : SiteValue) (x : Condition) (wanted : Wanted) → answer_by site x wanted no_memory ≡ fault_response (Keeper Memory)
no_memory_response site (of_state s) wanted = refl
no_memory_response site (shut why) wanted = refl
no_memory_response site unknown wanted = refl

pub can_lack_memory : (x : Condition) (wanted : Wanted) → CanBe x wanted no_memory
can_lack_memory (of_state s) wanted = tt
can_lack_memory (shut why) wanted = tt
can_lack_memory unknown wanted = tt
