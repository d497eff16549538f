use Rattle.std.proofs.Common.{refl, inl, inr}
use Rattle.streetmap_bodies.specs.declared.request_fault.RequestFault.TheVariants.{Framing, Keeper}
use Rattle.streetmap_ledger.specs.declared.reply.Fault.TheVariants.{Memory}
use Rattle.streetmap_web.proofs.answer.refused.Goals as goal

pub returns-in-Ok : goal.returns-in-Ok
returns-in-Ok c = (Framing c.args.fault, inl refl, c.in-Ok.ensures)

pub returns-in-Err : goal.returns-in-Err
returns-in-Err c = (Keeper Memory, inr refl, c.fixed.ensures)
