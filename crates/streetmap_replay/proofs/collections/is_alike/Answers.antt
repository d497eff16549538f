use Rattle.std.proofs.Common.{◌≡◌, Some, sym, ap, ◌∙◌}
use Rattle.std.specs.Prelude.{string_bytes}
use Rattle.std.specs.Option.{option_map}
use Rattle.std.specs.FinMap.{get, values}
use Rattle.streetmap_ledger.specs.Summaries.{summary_in}
use Rattle.streetmap_ledger.specs.SummaryView.{summary_value}
use Rattle.streetmap_replay.specs.Alike.{IsSame}
use Rattle.streetmap_replay.proofs.SameCollections.{reported_of, same_by_features, decided_as}
use Rattle.streetmap_replay.proofs.CallsInTurn.{no_reads, read_of, reads_then}
use Rattle.streetmap_replay.proofs.collections.is_alike.Goals as goal

pub returns-then-is_declared_alike-clause-compares : goal.returns-then-is_declared_alike-clause-compares
returns-then-is_declared_alike-clause-compares g c = λ h j s t e o reported.
    let has = c.has_same_features.ensures in
    let seen = c.in-Ok-Some.ensures.reads (has.fresh.calls.began_clean j) t o in
    let name = string_bytes c.args.ours.now.id in
    let its : summary_in t name ≡ Some (summary_value c.in-Ok-Some.theirs) =
    ap (summary_in t) (sym c.as_str.ensures.value)
    ∙ (sym seen.0 ∙ ap (option_map summary_value) c.in-Ok-Some.field-0-is) in
    let mine = reported_of s name (summary_value c.args.ours.now) reported in
    let their = reported_of t name (summary_value c.in-Ok-Some.theirs) its in
    let alike = c.is_declared_alike.ensures.0 c.if-is_declared_alike.true in
    let title : mine.collection.title ≡ their.collection.title =
    sym mine.title ∙ (alike.0 ∙ their.title) in
    let time : mine.collection.time ≡ their.collection.time =
    sym mine.time ∙ (alike.1 ∙ their.time) in
    let named = c.as_str-then-is_declared_alike.ensures.value in
    let both = same_by_features s t name mine.collection their.collection
    (g.K.Keeper.model.well_formed c.args.keeper.now s e)
    (g.L.Keeper.model.well_formed c.args.fresh.now t o) mine.there their.there title time in
    decided_as (values mine.collection.features ≡ values their.collection.features)
    (IsSame s t name) c.has_same_features.result both.0 both.1
    (has.compares h j s t mine.collection their.collection e seen.1
    (ap (get s.collections) named ∙ mine.there) (ap (get t.collections) named ∙ their.there) time)

pub returns-then-is_declared_alike-clause-kept : goal.returns-then-is_declared_alike-clause-kept
returns-then-is_declared_alike-clause-kept g c = c.has_same_features.ensures.kept

pub returns-then-is_declared_alike-clause-fresh : goal.returns-then-is_declared_alike-clause-fresh
returns-then-is_declared_alike-clause-fresh g c = reads_then (read_of c.in-Ok-Some.ensures) c.has_same_features.ensures.fresh

pub returns-in-Ok-None-clause-kept : goal.returns-in-Ok-None-clause-kept
returns-in-Ok-None-clause-kept g c = no_reads c.args.keeper.now

pub returns-in-Ok-None-clause-fresh : goal.returns-in-Ok-None-clause-fresh
returns-in-Ok-None-clause-fresh g c = read_of c.in-Ok-None.ensures
