-- The condition of a keeper, how requests change it, and what a crash may leave.
use Rattle.std.specs.Prelude.{◌≡◌, true, false, Option, Some, ⊤}
use Rattle.streetmap_ledger.specs.State.{State}
use Rattle.streetmap_ledger.specs.Model.{Model}
use Rattle.streetmap_ledger.specs.Keep.{LeavesEither, LeavesSame}
use Rattle.streetmap_ledger.specs.declared.reply.Cause.{Cause}
use Rattle.streetmap_ledger.specs.declared.reply.Cause.TheVariants as causes
use Rattle.streetmap_ledger.specs.declared.reply.Fault.TheVariants.{Memory, Device}
use Rattle.streetmap_web.specs.Response.{ResponseValue, Wanted, fault_response, response_to}
use Rattle.streetmap_web.specs.Response.{response_shut, needs_state, state_to}
use Rattle.streetmap_web.specs.Site.{SiteValue}
use Rattle.streetmap_bodies.specs.declared.request_fault.RequestFault.TheVariants.{Keeper}

-- calls led from the first keeper to the second, or none was made: they kept what else the store
-- has, and took none that failed for clean
pub record ByCalls {K : Type 0} (model : Model K) (old new : K) : Type 0 where
  pub preserved : model.preserves old new
  pub began_clean : model.is_clean new → model.is_clean old

-- a keeper represents a state, or it is shut; or nothing is known of it
pub data Condition : Type 0 where
  of_state : State → Condition
  shut : Cause → Condition
  unknown : Condition

-- the keeper is in this condition; every keeper is in the unknown one
abbrev pub IsInCondition : {K : Type 0} → Model K → K → Condition → Type 0
IsInCondition model keeper (of_state s) = model.represents keeper s
IsInCondition model keeper (shut why) = model.cause keeper ≡ Some why
IsInCondition model keeper unknown = ⊤

-- the outcome of a request: it was answered as requested, memory ran out, or the device failed; or
-- this is the answer of a keeper of which nothing is known
pub data RequestOutcome : Type 0 where
  as_requested : RequestOutcome
  no_memory : RequestOutcome
  device_failed : RequestOutcome
  of_keeper : (shown : ResponseValue) → RequestOutcome

-- A device fails only if the request needs the state and the keeper is not shut. If nothing is
-- known of the keeper, a request that needs no state is answered as always, and one that needs it
-- in some way.
abbrev pub CanBe : Condition → Wanted → RequestOutcome → Type 0
CanBe (of_state s) wanted as_requested = ⊤
CanBe (of_state s) wanted no_memory = ⊤
CanBe (of_state s) wanted device_failed = needs_state wanted.operation ≡ true
CanBe (of_state s) wanted (of_keeper shown) = ⊥
CanBe (shut why) wanted as_requested = ⊤
CanBe (shut why) wanted no_memory = ⊤
CanBe (shut why) wanted device_failed = ⊥
CanBe (shut why) wanted (of_keeper shown) = ⊥
CanBe unknown wanted as_requested = needs_state wanted.operation ≡ false
CanBe unknown wanted no_memory = ⊤
CanBe unknown wanted device_failed = ⊥
CanBe unknown wanted (of_keeper shown) = needs_state wanted.operation ≡ true

-- the answer
abbrev pub answer_by : SiteValue → Condition → Wanted → RequestOutcome → ResponseValue
answer_by site (of_state s) wanted as_requested = response_to site.root s wanted
answer_by site (shut why) wanted as_requested = response_shut site.root wanted.operation
answer_by site unknown wanted as_requested = response_shut site.root wanted.operation
answer_by site x wanted no_memory = fault_response (Keeper Memory)
answer_by site x wanted device_failed = fault_response (Keeper Device)
answer_by site x wanted (of_keeper shown) = shown

-- the condition of the keeper afterwards
abbrev pub after : Condition → Wanted → RequestOutcome → Condition
after (of_state s) wanted as_requested = of_state (state_to s wanted)
after (of_state s) wanted no_memory = of_state s
after (of_state s) wanted device_failed = shut causes.Device
after (of_state s) wanted (of_keeper shown) = of_state s
after (shut why) wanted outcome = shut why
after unknown wanted outcome = unknown

-- what a crash may leave after a request. If the device failed, it is the state before or the one
-- after; after a request to a shut keeper it is exactly what it could leave before. A keeper that
-- still represents a state leaves that state, by its model.
abbrev pub Leaves : Condition → Wanted → RequestOutcome → (old new : Option State → Type 0)
    → Type 0
Leaves (of_state s) wanted as_requested old new = ⊤
Leaves (of_state s) wanted no_memory old new = ⊤
Leaves (of_state s) wanted device_failed old new =
    LeavesEither new (Some s) (Some (state_to s wanted))
Leaves (of_state s) wanted (of_keeper shown) old new = ⊤
Leaves (shut why) wanted outcome old new = LeavesSame old new
Leaves unknown wanted outcome old new = ⊤
