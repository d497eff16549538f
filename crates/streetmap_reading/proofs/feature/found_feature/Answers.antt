use Rattle.std.proofs.Common.{◌∙◌, Some, sym, ap}
use Rattle.sqlite.specs.Held.{state}
use Rattle.sqlite.proofs.StateLemmas.{unchanged}
use Rattle.streetmap_ledger.specs.Pages.{feature_in}
use Rattle.streetmap_rows.proofs.ReadsInTurn.{reads_on}
use Rattle.streetmap_rows.proofs.ResultCases.{handed_on}
use Rattle.streetmap_reading.proofs.BetweenRows.{survives_still}
use Rattle.streetmap_reading.proofs.FeatureStatement.{text_is, no_text}
use Rattle.streetmap_reading.proofs.feature.found_feature.Goals as goal

pub returns-in_default : goal.returns-in_default
returns-in_default g c =
    let seen = state g.S.Store c.args.conn.now in
    record {
      shows = λ clean s id limit live keeps is.
          (sym (no_text (feature_in s c.args.collection.now id) (sym c.in_default.is ∙ is)), unchanged seen live);
      mode = λ idle. idle;
      survives = survives_still seen (λ _. Unit {0});
      stays = λ clean s limit keeps trees left. left;
    }

pub returns : goal.returns
returns g c =
    reads_on c.in_ok-feature.ensures (λ clean shows s id limit live keeps is.
    let it = text_is (feature_in s c.args.collection.now id) c.in-Some.row (sym c.in-Some.is ∙ is) in
    let read = shows s id it.0 limit live keeps it.1 it.2 in
    (ap Some read.0 ∙ sym it.1, read.1))

pub returns-in_err-feature : goal.returns-in_err-feature
returns-in_err-feature g c =
    reads_on c.in_err-feature.ensures (λ clean shows s id limit live keeps is.
    let it = text_is (feature_in s c.args.collection.now id) c.in-Some.row (sym c.in-Some.is ∙ is) in
    handed_on _ _ _ _ c.from_residual.ensures.1 (shows s id it.0 limit live keeps it.1 it.2))
