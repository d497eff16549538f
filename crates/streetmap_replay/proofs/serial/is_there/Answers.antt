use Rattle.std.proofs.Common.{ap, ap₂, sym, ◌∙◌}
use Rattle.std.specs.Prelude.{bytes_eq}
use Rattle.std.specs.Option.{option_map}
use Rattle.streetmap_batch.specs.BatchView.{batch_value}
use Rattle.streetmap_ledger.specs.KeptView.{keyed_batch}
use Rattle.streetmap_ledger.proofs.Calls.{read_made, read_failed}
use Rattle.streetmap_replay.proofs.KeysAndSerials.{key_under, none_under}
use Rattle.streetmap_replay.proofs.serial.is_there.Goals as goal

pub returns-in-Ok-Some : goal.returns-in-Ok-Some
returns-in-Ok-Some g c = read_made c.in-Ok-Some.ensures (λ s e is.
    key_under s c.args.serial (keyed_batch c.in-Ok-Some.kept) (batch_value c.args.batch.now).key
    c.eq.result (g.K.Keeper.model.well_formed c.args.keeper.now s e)
    (ap (option_map keyed_batch) (sym c.in-Ok-Some.field-0-is) ∙ is)
    (c.eq.ensures ∙ ap₂ bytes_eq c.as_str.ensures.value c.key.ensures.value))

pub returns-in-Ok-None : goal.returns-in-Ok-None
returns-in-Ok-None g c = read_made c.in-Ok-None.ensures (λ s e is.
    none_under s c.args.serial (batch_value c.args.batch.now).key
    (g.K.Keeper.model.well_formed c.args.keeper.now s e)
    (ap (option_map keyed_batch) (sym c.in-Ok-None.field-0-is) ∙ is))

pub returns-in-Err : goal.returns-in-Err
returns-in-Err g c = read_failed c.in-Err.ensures
