use Rattle.std.proofs.Common.{◌≡◌, ◌<◌, ℕ, true, false, length, take, sym, subst, ◌∙◌, arith}
use Rattle.std.specs.FinMap.{entries}
use Rattle.streetmap_replay.specs.Alike.{AreSame}
use Rattle.streetmap_replay.specs.Calls.{AreReads}
use Rattle.streetmap_replay.proofs.CallsInTurn.{reads_then}
use Rattle.streetmap_replay.proofs.SameCollections.{place_of, differs_at, unlike_kept, unlike_fresh, unlike_compares, stop_compares}
use Rattle.streetmap_replay.proofs.SameCollections.{one_more, all_places}
use Rattle.streetmap_replay.proofs.collections.compare_each.Goals as goal

pub returns-in-Ok-false-clause-kept : goal.returns-in-Ok-false-clause-kept
returns-in-Ok-false-clause-kept g c =
    subst (AreReads g.K.Keeper.model c.args.keeper.now c.is_alike.new.keeper) (sym (unlike_kept _ c.unlike.result c.unlike.ensures))
    (reads_then c.loop-summary.invariant.kept_reads c.in-Ok-false.ensures.kept)

pub returns-in-Ok-false-clause-fresh : goal.returns-in-Ok-false-clause-fresh
returns-in-Ok-false-clause-fresh g c =
    subst (AreReads g.L.Keeper.model c.args.fresh.now c.is_alike.new.fresh) (sym (unlike_fresh _ c.unlike.result c.unlike.ensures))
    (reads_then c.loop-summary.invariant.fresh_reads c.in-Ok-false.ensures.fresh)

pub returns-in-Ok-false-clause-compares : goal.returns-in-Ok-false-clause-compares
returns-in-Ok-false-clause-compares g c = λ h j s t e o reported.
    let inv = c.loop-summary.invariant in
    let says = c.in-Ok-false.ensures in
    let began = says.kept.calls.began_clean h in
    let other = says.fresh.calls.began_clean j in
    let i = c.loop-summary.summary-index in
    let a = c.summary-item.result in
    let low : i < length c.args.ours.now = omega arith in
    let place = place_of s c.args.ours.now i a reported low c.summary-item.is in
    let it = says.compares h j s t (inv.kept_reads.stays began s e) (inv.fresh_reads.stays other t o) place.reported in
    unlike_compares s t (AreSame s t (entries s.collections)) c.as_str.result.now c.unlike.result c.unlike.ensures
    (λ text is. differs_at s t i a text place (inv.same began other s t e o reported)
    (is ∙ c.as_str.ensures.value)
    (λ same. (let wrong : false ≡ true = sym c.in-Ok-false.field-0-test ∙ it.1 same in
    absurd cc)))

pub returns-in-Err-clause-kept : goal.returns-in-Err-clause-kept
returns-in-Err-clause-kept g c = reads_then c.loop-summary.invariant.kept_reads c.in-Err.ensures.kept

pub returns-in-Err-clause-fresh : goal.returns-in-Err-clause-fresh
returns-in-Err-clause-fresh g c = reads_then c.loop-summary.invariant.fresh_reads c.in-Err.ensures.fresh

pub returns-in-Err-clause-compares : goal.returns-in-Err-clause-compares
returns-in-Err-clause-compares g c = λ h j s t e o reported.
    stop_compares s t (AreSame s t (entries s.collections)) c.in-Err.fault c.in-Err.ensures.stop

pub loop-summary-preserved : goal.loop-summary-preserved
loop-summary-preserved g c =
    let inv = c.loop-summary.invariant in
    let says = c.in-Ok-true.ensures in
    let i = c.loop-summary.summary-index in
    let a = c.summary-item.result in
    let low : i < length c.args.ours.now = omega arith in
    record {
      kept_reads = reads_then inv.kept_reads says.kept;
      fresh_reads = reads_then inv.fresh_reads says.fresh;
      same = λ h j s t e o reported.
          let began = says.kept.calls.began_clean h in
          let other = says.fresh.calls.began_clean j in
          let place = place_of s c.args.ours.now i a reported low c.summary-item.is in
          let it = says.compares h j s t (inv.kept_reads.stays began s e) (inv.fresh_reads.stays other t o) place.reported in
          one_more s t i a place (inv.same began other s t e o reported) (it.0 c.in-Ok-true.field-0-test);
    }

pub returns-clause-compares : goal.returns-clause-compares
returns-clause-compares g c = λ h j s t e o reported.
    let inv = c.loop-summary.invariant in
    let all : c.loop-summary.summary-index ≡ length c.args.ours.now = omega arith in
    all_places s t c.args.ours.now reported (subst (λ (k : ℕ). AreSame s t (take k (entries s.collections))) all (inv.same h j s t e o reported))
