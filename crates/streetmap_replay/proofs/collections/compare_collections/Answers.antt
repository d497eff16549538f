use Rattle.std.proofs.Common.{◌≡◌, refl, sym, ap, subst, ◌∙◌}
use Rattle.std.specs.FinMap.{entries}
use Rattle.streetmap_ledger.specs.SummaryView.{summary_values}
use Rattle.streetmap_replay.specs.Alike.{AreSame}
use Rattle.streetmap_replay.specs.Calls.{AreReads}
use Rattle.streetmap_replay.proofs.CallsInTurn.{no_reads, read_of, failed_read, reads_then}
use Rattle.streetmap_replay.proofs.SameCollections.{alone_differs, all_the_same, compares_as}
use Rattle.streetmap_replay.proofs.SameCollections.{unlike_kept, unlike_fresh, unlike_compares}
use Rattle.streetmap_replay.proofs.collections.compare_collections.Goals as goal

pub returns-in-Err-clause-kept : goal.returns-in-Err-clause-kept
returns-in-Err-clause-kept g c = failed_read c.in-Err.ensures

pub returns-in-Err-clause-fresh : goal.returns-in-Err-clause-fresh
returns-in-Err-clause-fresh g c = no_reads c.args.fresh.now

pub returns-in-Err-collections-clause-kept : goal.returns-in-Err-collections-clause-kept
returns-in-Err-collections-clause-kept g c = read_of c.in-Ok.ensures

pub returns-in-Err-collections-clause-fresh : goal.returns-in-Err-collections-clause-fresh
returns-in-Err-collections-clause-fresh g c = failed_read c.in-Err-collections.ensures

pub returns-in-Some-clause-kept : goal.returns-in-Some-clause-kept
returns-in-Some-clause-kept g c =
    subst (AreReads g.K.Keeper.model c.args.keeper.now c.compare_each.new.keeper) (sym (unlike_kept _ c.unlike.result c.unlike.ensures))
    (reads_then (read_of c.in-Ok.ensures) c.in-Ok-compare_each.ensures.kept)

pub returns-in-Some-clause-fresh : goal.returns-in-Some-clause-fresh
returns-in-Some-clause-fresh g c =
    subst (AreReads g.L.Keeper.model c.args.fresh.now c.compare_each.new.fresh) (sym (unlike_fresh _ c.unlike.result c.unlike.ensures))
    (reads_then (read_of c.in-Ok-collections.ensures) c.in-Ok-compare_each.ensures.fresh)

pub returns-in-Some-clause-compares : goal.returns-in-Some-clause-compares
returns-in-Some-clause-compares g c = λ h j s t e o.
    let each = c.in-Ok-compare_each.ensures in
    let a = c.in-Ok.ensures.reads (each.kept.calls.began_clean h) s e in
    let b = c.in-Ok-collections.ensures.reads (each.fresh.calls.began_clean j) t o in
    let reported = ap summary_values c.as_slice.ensures.value ∙ a.0 in
    let it = each.compares h j s t a.1 b.1 reported in
    unlike_compares s t (s.collections ≡ t.collections) c.as_str.result.now c.unlike.result c.unlike.ensures
    (λ text is. alone_differs s t c.in-Ok.ours.items c.in-Ok-collections.theirs.items _ _
    c.in-Some.place c.index.result.now text a.0 b.0
    c.as_slice-in-Ok-compare_each-2.ensures.value c.as_slice-in-Ok-compare_each.ensures.value
    c.in-Some.ensures.found c.index.ensures it (is ∙ c.as_str.ensures.value))

pub returns-in-Ok-compare_each-clause-kept : goal.returns-in-Ok-compare_each-clause-kept
returns-in-Ok-compare_each-clause-kept g c = reads_then (read_of c.in-Ok.ensures) c.in-Ok-compare_each.ensures.kept

pub returns-in-Ok-compare_each-clause-fresh : goal.returns-in-Ok-compare_each-clause-fresh
returns-in-Ok-compare_each-clause-fresh g c = reads_then (read_of c.in-Ok-collections.ensures) c.in-Ok-compare_each.ensures.fresh

pub returns-in-Ok-compare_each-clause-compares : goal.returns-in-Ok-compare_each-clause-compares
returns-in-Ok-compare_each-clause-compares g c = λ h j s t e o.
    let each = c.in-Ok-compare_each.ensures in
    let a = c.in-Ok.ensures.reads (each.kept.calls.began_clean h) s e in
    let b = c.in-Ok-collections.ensures.reads (each.fresh.calls.began_clean j) t o in
    let reported = ap summary_values c.as_slice.ensures.value ∙ a.0 in
    let it = each.compares h j s t a.1 b.1 reported in
    let named = c.in-None.ensures.none refl in
    let ours = ap summary_values c.as_slice-in-Ok-compare_each-2.ensures.value ∙ a.0 in
    let theirs = ap summary_values c.as_slice-in-Ok-compare_each.ensures.value ∙ b.0 in
    all_the_same s t _ _ ours theirs it named

pub returns-clause-kept : goal.returns-clause-kept
returns-clause-kept g c = reads_then (read_of c.in-Ok.ensures) c.in-Err-compare_each.ensures.kept

pub returns-clause-fresh : goal.returns-clause-fresh
returns-clause-fresh g c = reads_then (read_of c.in-Ok-collections.ensures) c.in-Err-compare_each.ensures.fresh

pub returns-clause-compares : goal.returns-clause-compares
returns-clause-compares g c = λ h j s t e o.
    let each = c.in-Err-compare_each.ensures in
    let a = c.in-Ok.ensures.reads (each.kept.calls.began_clean h) s e in
    let b = c.in-Ok-collections.ensures.reads (each.fresh.calls.began_clean j) t o in
    let reported = ap summary_values c.as_slice.ensures.value ∙ a.0 in
    compares_as s t (AreSame s t (entries s.collections)) (s.collections ≡ t.collections)
    c.in-Err-compare_each.fault (each.compares h j s t a.1 b.1 reported)
