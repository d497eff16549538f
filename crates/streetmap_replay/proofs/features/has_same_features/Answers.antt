use Rattle.std.proofs.Common.{refl, sym, ap, ◌∙◌}
use Rattle.std.specs.Option.{option_map}
use Rattle.streetmap_ledger.specs.PageView.{page_value}
use Rattle.streetmap_ledger.specs.Pages.{page_in}
use Rattle.streetmap_replay.proofs.CallsInTurn.{no_reads, read_of, failed_read, reads_then}
use Rattle.streetmap_replay.proofs.Pages.{begins, last_same, next_same}
use Rattle.streetmap_replay.proofs.features.has_same_features.Goals as goal

pub loop-turn-init : goal.loop-turn-init
loop-turn-init g c = record {
  kept_reads = no_reads c.args.keeper.now;
  fresh_reads = no_reads c.args.fresh.now;
  so_far = λ h j s t x y e o there here one.
      begins s t c.args.name.now x y (g.K.Keeper.model.well_formed c.args.keeper.now s e)
      (g.L.Keeper.model.well_formed c.args.fresh.now t o) there here;
}

pub returns-in-Ok-None-clause-kept : goal.returns-in-Ok-None-clause-kept
returns-in-Ok-None-clause-kept g c = reads_then c.loop-turn.invariant.kept_reads (read_of c.in-Ok-None.ensures)

pub returns-in-Err-clause-kept : goal.returns-in-Err-clause-kept
returns-in-Err-clause-kept g c = reads_then c.loop-turn.invariant.kept_reads (failed_read c.in-Err.ensures)

pub returns-in-Ok-None-page-clause-kept : goal.returns-in-Ok-None-page-clause-kept
returns-in-Ok-None-page-clause-kept g c = reads_then c.loop-turn.invariant.kept_reads (read_of c.in-Ok-Some.ensures)

pub returns-in-Err-page-clause-kept : goal.returns-in-Err-page-clause-kept
returns-in-Err-page-clause-kept g c = reads_then c.loop-turn.invariant.kept_reads (read_of c.in-Ok-Some.ensures)

pub returns-in-Ok-Last-clause-kept : goal.returns-in-Ok-Last-clause-kept
returns-in-Ok-Last-clause-kept g c = reads_then c.loop-turn.invariant.kept_reads (read_of c.in-Ok-Some.ensures)

pub returns-in-Ok-Unlike-clause-kept : goal.returns-in-Ok-Unlike-clause-kept
returns-in-Ok-Unlike-clause-kept g c = reads_then c.loop-turn.invariant.kept_reads (read_of c.in-Ok-Some.ensures)

pub returns-in-Err-compare_pages-clause-kept : goal.returns-in-Err-compare_pages-clause-kept
returns-in-Err-compare_pages-clause-kept g c = reads_then c.loop-turn.invariant.kept_reads (read_of c.in-Ok-Some.ensures)

pub returns-in-Ok-None-page-clause-fresh : goal.returns-in-Ok-None-page-clause-fresh
returns-in-Ok-None-page-clause-fresh g c = reads_then c.loop-turn.invariant.fresh_reads (read_of c.in-Ok-None-page.ensures)

pub returns-in-Err-page-clause-fresh : goal.returns-in-Err-page-clause-fresh
returns-in-Err-page-clause-fresh g c = reads_then c.loop-turn.invariant.fresh_reads (failed_read c.in-Err-page.ensures)

pub returns-in-Ok-Last-clause-fresh : goal.returns-in-Ok-Last-clause-fresh
returns-in-Ok-Last-clause-fresh g c = reads_then c.loop-turn.invariant.fresh_reads (read_of c.in-Ok-Some-page.ensures)

pub returns-in-Ok-Unlike-clause-fresh : goal.returns-in-Ok-Unlike-clause-fresh
returns-in-Ok-Unlike-clause-fresh g c = reads_then c.loop-turn.invariant.fresh_reads (read_of c.in-Ok-Some-page.ensures)

pub returns-in-Err-compare_pages-clause-fresh : goal.returns-in-Err-compare_pages-clause-fresh
returns-in-Err-compare_pages-clause-fresh g c = reads_then c.loop-turn.invariant.fresh_reads (read_of c.in-Ok-Some-page.ensures)

pub returns-in-Ok-Last-clause-compares : goal.returns-in-Ok-Last-clause-compares
returns-in-Ok-Last-clause-compares g c = λ h j s t x y e o there here one.
    let inv = c.loop-turn.invariant in
    let ours = c.in-Ok-Some.ensures in
    let theirs = c.in-Ok-Some-page.ensures in
    let began = ours.call.began_clean h in
    let other = theirs.call.began_clean j in
    let shown = ours.reads h s (inv.kept_reads.stays began s e) in
    let seen = theirs.reads j t (inv.fresh_reads.stays other t o) in
    let sound = g.K.Keeper.model.well_formed c.args.keeper.now s e in
    let after = g.L.Keeper.model.well_formed c.args.fresh.now t o in
    let so = inv.so_far began other s t x y e o there here one in
    let name = c.args.name.now in
    let p = ap (option_map page_value) (sym c.in-Ok-Some.field-0-is)
    ∙ (shown.0 ∙ ap (page_in s name) c.query_after-query.ensures) in
    let q = ap (option_map page_value) (sym c.in-Ok-Some-page.field-0-is)
    ∙ (seen.0 ∙ ap (page_in t name) c.query_after-query.ensures) in
    let same = last_same s t name x y sound after there here one c.loop-turn.after so
    (page_value c.in-Ok-Some.page) (page_value c.in-Ok-Some-page.page) p q
    (rw c.in-Ok-Last.field-0-is at c.in-Ok-Last.ensures) in
    (λ is. same, λ it. refl)

pub loop-turn-preserved : goal.loop-turn-preserved
loop-turn-preserved g c =
    let inv = c.loop-turn.invariant in
    let ours = c.in-Ok-Some.ensures in
    let theirs = c.in-Ok-Some-page.ensures in
    record {
      kept_reads = reads_then inv.kept_reads (read_of ours);
      fresh_reads = reads_then inv.fresh_reads (read_of theirs);
      so_far = λ h j s t x y e o there here one.
          let began = ours.call.began_clean h in
          let other = theirs.call.began_clean j in
          let shown = ours.reads h s (inv.kept_reads.stays began s e) in
          let seen = theirs.reads j t (inv.fresh_reads.stays other t o) in
          let sound = g.K.Keeper.model.well_formed c.args.keeper.now s e in
          let after = g.L.Keeper.model.well_formed c.args.fresh.now t o in
          let so = inv.so_far began other s t x y e o there here one in
          let name = c.args.name.now in
          let p = ap (option_map page_value) (sym c.in-Ok-Some.field-0-is)
          ∙ (shown.0 ∙ ap (page_in s name) c.query_after-query.ensures) in
          let q = ap (option_map page_value) (sym c.in-Ok-Some-page.field-0-is)
          ∙ (seen.0 ∙ ap (page_in t name) c.query_after-query.ensures) in
          next_same s t name x y sound after there here one c.loop-turn.after so c.in-Ok-Next.id
          (page_value c.in-Ok-Some.page) (page_value c.in-Ok-Some-page.page) p q
          (rw c.in-Ok-Next.field-0-is at c.in-Ok-Next.ensures);
    }
