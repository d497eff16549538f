-- What calls of a keeper, one after the other, keep.
use Rattle.std.proofs.Common.{refl}
use Rattle.std.specs.Prelude.{Bool, true, false, Result}
use Rattle.streetmap_ledger.specs.Model.{Model}
use Rattle.streetmap_ledger.specs.Keep.{IsCall}
use Rattle.streetmap_ledger.specs.declared.reply.Fault.{Fault}
use Rattle.streetmap_ledger.specs.declared.reply.Fault.TheVariants.{Memory}
use Rattle.streetmap_web.specs.Conditions.{ByCalls}
use Rattle.streetmap_web.specs.Responds.{IsUncalled, MayFail}

module _ {K : Type 0} (model : Model K) where
  pub no_calls : (k : K) → ByCalls model k k
  no_calls k = record { preserved = model.preserves_itself k; began_clean = λ clean. clean }

  pub calls_then : (first mid last : K) → ByCalls model first mid → ByCalls model mid last → ByCalls model first last
  calls_then first mid last one two = record {
    preserved = model.preserves_then first mid last one.preserved two.preserved;
    began_clean = λ clean. one.began_clean (two.began_clean clean);
  }

-- one call
pub by_call : {K T : Type 0} {model : Model K} {old new : K} {r : Result T Fault} → IsCall model old new r → ByCalls model old new
by_call call = record { preserved = call.preserved; began_clean = call.began_clean }

-- `apply` was not called if no call was made
pub uncalled_itself : {K : Type 0} (model : Model K) (reads : Bool) (k : K) → IsUncalled model reads k k
uncalled_itself model false k = refl
uncalled_itself model true k = no_calls model k

pub memory_may_fail : (reads : Bool) → MayFail reads Memory
memory_may_fail false = refl
memory_may_fail true = tt
