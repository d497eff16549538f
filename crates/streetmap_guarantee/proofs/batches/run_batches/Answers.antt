use Rattle.std.proofs.Common.{map, length, sym, subst, ◌∙◌}
use Rattle.std.specs.Prelude.{Option}
use Rattle.std.proofs.lemmas.List.{length-map}
use Rattle.streetmap_batch.specs.BatchView.{batch_value}
use Rattle.streetmap_ledger.specs.Keep.{RunEnds}
use Rattle.streetmap_ledger.specs.declared.reply.Fault.{Fault}
use Rattle.streetmap_guarantee.proofs.Crashes.{has_kept}
use Rattle.streetmap_guarantee.proofs.Runs.{run_kept}
use Rattle.streetmap_guarantee.proofs.batches.run_batches.Goals as goal

pub returns-clause-guarantee : goal.returns-clause-guarantee
returns-clause-guarantee g c clean s represented =
    let model = g.K.Keeper.model in
    let says = c.run.ensures in
    let old = c.args.keeper.now in
    let new = c.run.new.keeper in
    let run = c.run.result in
    let kept = run_kept model old new s (map batch_value c.args.batches.now) (length run.replies.items) run.fault (says.ends clean s represented) in
    record {
      replied = says.replies clean s represented;
      all = λ none. says.all none ∙ sym (length-map c.args.batches.now batch_value);
      server = kept.server;
      ends = kept.ends;
      survives = λ image left.
          let it = g.met.K.Durable.images_hold_states old new s image represented says.preserved clean left in
          (it.0, it.1, has_kept model new kept.server it.0 kept.keeper it.2);
    }

pub returns-clause-failed : goal.returns-clause-failed
returns-clause-failed g c clean s represented is =
    let bs = map batch_value c.args.batches.now in
    let ends = subst (λ (fault : Option Fault). RunEnds g.K.Keeper.model c.args.keeper.now c.run.new.keeper s bs (length c.run.result.replies.items) fault) is (c.run.ensures.ends clean s represented) in
    ends.0

pub returns-clause-calls : goal.returns-clause-calls
returns-clause-calls g c = record { preserved = c.run.ensures.preserved; began_clean = c.run.ensures.began_clean }
