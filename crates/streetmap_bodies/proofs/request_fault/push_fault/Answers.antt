use Rattle.std.proofs.Common.{subst, sym}
use Rattle.std.specs.Prelude.{List, ℕ, Option}
use Rattle.std.specs.Option.{ForSome}
use Rattle.streetmap_bodies.specs.Plain.{IsPlain}
use Rattle.streetmap_bodies.proofs.PlainTexts.{plain_along, request_code, request_description, request_cause}
use Rattle.streetmap_bodies.proofs.request_fault.push_fault.Goals as goal

pub push_error-requires-clause-plain_code : goal.push_error-requires-clause-plain_code
push_error-requires-clause-plain_code c = plain_along c.code.ensures (request_code c.args.fault.now)

pub push_error-requires-clause-plain_description : goal.push_error-requires-clause-plain_description
push_error-requires-clause-plain_description c = plain_along c.description.ensures (request_description c.args.fault.now)

pub push_error-requires-clause-plain_cause : goal.push_error-requires-clause-plain_cause
push_error-requires-clause-plain_cause c = let P : Option (List ℕ) → Type 0 = λ o. ForSome o IsPlain in subst P (sym c.cause-cause.ensures) (request_cause c.args.fault.now)
