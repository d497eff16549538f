use Rattle.std.proofs.Common.{ap, ◌∙◌, rules}
use Rattle.streetmap_batch.specs.BatchView.{batch_value}
use Rattle.streetmap_ledger.specs.Batches.{act}
use Rattle.streetmap_ledger.proofs.StatesStay.{act_sound}
use Rattle.streetmap_memory.proofs.plain.PlainKeeperKeeper.apply.Goals as goal

pub returns-in-Ok : goal.returns-in-Ok
returns-in-Ok c =
    let b = batch_value c.args.batch.now in
    record {
      applied = tt;
      call = search rules;
      writes = λ clean s plain. (
        c.in-Ok.ensures.reply ∙ ap (λ t. (act t b).reply) plain.is,
        record { is = c.in-Ok.ensures.state ∙ ap (λ t. (act t b).state) plain.is; sound = act_sound s b plain.sound c.facts.ensures },
      );
    }
