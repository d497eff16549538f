use Rattle.std.proofs.Common.{◌≡◌, ◌∙◌, ap, sym, refl, Option, Some, None, Bor}
use Rattle.std.specs.Option.{is_some, option_copied}
use Rattle.streetmap_ledger.specs.State.{AcceptedBatch}
use Rattle.streetmap_memory.proofs.Maps.{get_of}
use Rattle.streetmap_memory.proofs.plain.PlainKeeper.has_key_of.Goals as goal

copied_some : {A : Type 0} (o : Option (Bor A)) → is_some o ≡ is_some (option_copied o)
copied_some None = refl
copied_some (Some x) = refl

pub returns : goal.returns
returns c =
    c.is_some.ensures ∙ copied_some c.get.result
    ∙ ap (λ (o : Option AcceptedBatch). is_some o) (c.get.ensures.value ∙ sym (get_of c.args.self.now.keys.entries c.args.key.now))
