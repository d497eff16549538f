use Rattle.std.proofs.Common.{◌≤◌, ◌+◌, All, ◌∷◌, ◌++◌, take, drop, length, length-drop, sym, subst, refl, arith}
use Rattle.std.proofs.lemmas.List.{drop_all}
use Rattle.std.proofs.lemmas.List.Elements.{All-cons}
use Rattle.std.proofs.lemmas.Option.{slice_get_read}
use Rattle.streetmap_query.specs.Views.{query_value}
use Rattle.streetmap_ledger.specs.Pages.{candidates}
use Rattle.streetmap_ledger.specs.Folds.{IsFoldOf}
use Rattle.streetmap_ledger.proofs.Examining.{left_out}
use Rattle.streetmap_ledger.proofs.Calls.{no_read, read_so, read_then, read_made, read_failed, read_after}
use Rattle.streetmap_outlines.specs.Outlines.{AreExtentsOf}
use Rattle.streetmap_outlines.specs.Outlines.{Pairs}
use Rattle.streetmap_index.specs.OutlinePages.{IsExamined}
use Rattle.streetmap_outlines.proofs.Pairing.{Going, goes_on, goes_on_after, all_held}
use Rattle.streetmap_index.proofs.Runs.{turn, rest_is, run_whole, run_front, run_held}
use Rattle.streetmap_index.proofs.page.take_outlined.Goals as goal

pub loop-place-init : goal.loop-place-init
loop-place-init g c = record {
  within = omega arith;
  was_read = no_read c.args.keeper.now tt c.requires (λ s e d met fs there bounded pairs held.
      record { met = met; left = fs; whole = refl {a = met ++ fs}; pairs = pairs; holds = held });
}

pub loop-place-preserved-then-lies_outside : goal.loop-place-preserved-then-lies_outside
loop-place-preserved-then-lies_outside g c =
    let inv = c.loop-place.invariant in
    let q = query_value c.args.query.now in
    let chunk = c.args.chunk.now in
    let os = c.as_slice-outlines.result.now in
    let i = c.loop-place.place in
    let o = c.index-outlines-place.result in
    let fold = c.loop-place.fold in
    record {
      within = omega arith;
      was_read = read_so inv.was_read (λ s _ e going d met all there bounded pairs held.
          let kept = subst (λ es. AreExtentsOf es os) (sym c.as_slice-extents.ensures.value)
          (subst (λ xs. AreExtentsOf chunk.extents.items xs) (sym c.as_slice-outlines.ensures.value) bounded.extents) in
          goes_on q fold fold d.features (met ++ all) o (drop (i + 1) os) (subst (Going q fold d.features (met ++ all))
          (turn os i o c.loop-place-test.true c.index-outlines-place.is) (going d met all there bounded pairs held))
          (λ fs f entry holds. left_out c.args.query.now fold fs f entry.made (c.lies_outside.ensures.passed_over c.if-lies_outside.true q os o f
          c.window_of-window.ensures kept (slice_get_read os (length os) i o refl c.loop-place-test.true c.index-outlines-place.is) entry.known) holds));
    }

pub loop-place-preserved-then-take_unread : goal.loop-place-preserved-then-take_unread
loop-place-preserved-then-take_unread g c =
    let inv = c.loop-place.invariant in
    let q = query_value c.args.query.now in
    let os = c.as_slice-outlines.result.now in
    let i = c.loop-place.place in
    let o = c.index-outlines-place.result in
    record {
      within = omega arith;
      was_read = read_so inv.was_read (λ s _ e going d met all there bounded pairs held.
          goes_on q c.loop-place.fold c.take_unread.new.fold d.features (met ++ all) o (drop (i + 1) os)
          (subst (Going q c.loop-place.fold d.features (met ++ all)) (turn os i o c.loop-place-test.true c.index-outlines-place.is)
          (going d met all there bounded pairs held))
          (λ fs f entry holds. c.take_unread.ensures.taken c.if-take_unread.true fs f entry.known entry.made holds));
    }

pub loop-place-preserved : goal.loop-place-preserved
loop-place-preserved g c =
    let inv = c.loop-place.invariant in
    let q = query_value c.args.query.now in
    let os = c.as_slice-outlines.result.now in
    let i = c.loop-place.place in
    let n = c.run_length-more.result in
    let o = c.index-outlines-place.result in
    let run = o ∷ take n (drop (i + 1) os) in
    let low = c.loop-place-test.true in
    let next = c.index-outlines-place.is in
    record {
      within = omega (arith, subst (λ l. n ≤ length l) (rest_is os (i + 1)) c.run_length-more.ensures.within, length-drop (i + 1) os);
      was_read = read_after inv.was_read c.in-Ok-true.ensures (λ s e going one d met all there bounded pairs held.
          goes_on_after q c.loop-place.fold c.take_run.new.fold d.features (met ++ all) run (drop (i + 1 + n) os)
          (subst (Going q c.loop-place.fold d.features (met ++ all)) (sym (run_whole os i n o low next)) (going d met all there bounded pairs held))
          (λ fs gs entries before.
          let same = c.take_unread.ensures.unchanged c.if-take_unread.false in
          let examined = All-cons (IsExamined q) o (take n (drop (i + 1) os)) (c.take_unread.ensures.candidate c.if-take_unread.false)
          (subst (λ l. All (IsExamined q) (take n l)) (rest_is os (i + 1)) c.run_length-more.ensures.examined) in
          let takes = one c.in-Ok-true.field-0-test d q (candidates q fs) gs there (subst (λ l. Pairs d.features l gs) (sym (run_front os i n o low next))
          entries) in
          run_held q c.loop-place.fold c.take_run.new.fold d.features run fs gs examined entries before
          (λ holds. takes (subst (λ fold. IsFoldOf q fold (candidates q fs)) (sym same) holds))));
    }

pub returns-in-Err : goal.returns-in-Err
returns-in-Err g c =
    let model = g.K.Keeper.model in
    read_failed (read_then c.loop-place.invariant.was_read c.in-Err.ensures (λ s y e going one. one))

pub returns-in-Ok-false : goal.returns-in-Ok-false
returns-in-Ok-false g c = read_after c.loop-place.invariant.was_read c.in-Ok-false.ensures (λ s e going one taken. absurd cc)

pub returns : goal.returns
returns g c =
    let q = query_value c.args.query.now in
    let os = c.as_slice-outlines.result.now in
    read_made c.loop-place.invariant.was_read (λ s e going taken d met all there bounded pairs held.
    let kept = subst (λ xs. Pairs d.features xs all) (sym c.as_slice-outlines.ensures.value) pairs in
    all_held q c.loop-place.fold d.features (met ++ all) (subst (Going q c.loop-place.fold d.features (met ++ all))
    (drop_all c.loop-place.place os (omega arith)) (going d met all there bounded kept held)))
