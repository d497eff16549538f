use Rattle.std.proofs.Common.{arith, ◌++◌, ◌∷◌, [], refl, sym, subst, take, rules}
use Rattle.std.proofs.lemmas.Grind.{common_steps}
use Rattle.std.proofs.lemmas.List.{take_all}
use Rattle.sqlite.specs.Held.{state}
use Rattle.sqlite.proofs.Callers.{unchanged_then}
use Rattle.sqlite.proofs.StateLemmas.{unchanged}
use Rattle.streetmap_reading.proofs.BetweenRows.{survives_still, survives_on}
use Rattle.streetmap_rows.proofs.ReadsInTurn.{clean_before}
use Rattle.streetmap_tables.proofs.BeforeCleanEnd.{is_handed}
use Rattle.streetmap_checking.specs.Held.{known}
use Rattle.streetmap_checking.specs.KnownCollections.{known_of}
use Rattle.streetmap_checking.specs.QueryResults.{SeesAllFeatures, NoFeatures, NoFeaturesOfAll}
use Rattle.streetmap_checking.proofs.Found.{known_more, more_features, none_of_all}
use Rattle.streetmap_checking.proofs.ReadResults.{fault_on, handed, features_on, no_features_on, stopped_then}
use Rattle.streetmap_checking.proofs.queries.check_all_features.Goals as goal

pub heads-init : goal.heads-init
heads-init g c = (
  λ h. h,
  record {
    survives = survives_still (state g.S.Store c.args.conn.now) (λ _. ⊥);
    sees = λ clean live. refl;
    same = λ clean live.
        unchanged (state g.S.Store c.args.conn.now) live;
  },
)

pub heads-preserved : goal.heads-preserved
heads-preserved g c =
    let before = c.heads.invariant.1 in
    let old = state g.S.Store c.args.conn.now in
    let mid = state g.S.Store c.heads.conn in
    let new = state g.S.Store c.check_features.new.conn in (
      λ h. c.check_features.ensures.mode (c.heads.invariant.0 h),
      record {
        survives = survives_on old mid new before.survives c.check_features.ensures.survives;
        sees = λ clean live.
            let early = clean_before mid new _ c.check_features.ensures.survives clean in
            let one = features_on (known_of c.head-item.result) c.in_ok-count.count old mid (before.same early live)
            (c.in_ok-count.ensures.shows clean (before.same early live).0.is_open).0 in
            subst (λ l. SeesAllFeatures l c.in_ok-features.features old) (sym (known_more c.args.heads.now c.heads.head-index c.head-item.result (search rules)
            c.head-item.is))
            (subst (λ n. SeesAllFeatures (known (take c.heads.head-index c.args.heads.now) ++ known_of c.head-item.result ∷ []) n old)
            (sym c.in_ok-features.ensures) (more_features _ (known_of c.head-item.result) c.heads.features c.in_ok-count.count old (before.sees early live)
            one));
        same = λ clean live.
            let was = before.same (clean_before mid new _ c.check_features.ensures.survives clean) live in
            unchanged_then old mid new was (c.in_ok-count.ensures.shows clean was.0.is_open).1;
      },
    )

pub returns : goal.returns
returns g c = record {
  shows = λ clean live.
      let before = c.heads.invariant.1 in (
        subst (λ l. SeesAllFeatures (known l) c.heads.features (state g.S.Store c.args.conn.now)) (take_all c.heads.head-index c.args.heads.now (search rules))
            (before.sees clean live),
        before.same clean live,
      );
  mode = first_of (search rules, grind (arith, common_steps));
  survives = first_of (search rules, grind (arith, common_steps));
}

pub returns-in_err-count : goal.returns-in_err-count
returns-in_err-count g c = record {
  shows = λ clean live.
      let before = c.heads.invariant.1 in
      let old = state g.S.Store c.args.conn.now in
      let mid = state g.S.Store c.heads.conn in
      let new = state g.S.Store c.check_features.new.conn in
      let early = clean_before mid new _ c.check_features.ensures.survives clean in
      let same = before.same early live in
      handed _ _ old new _ _ (is_handed _ _ c.from_residual.ensures.1)
      (fault_on (NoFeaturesOfAll (known c.args.heads.now) old) (NoFeatures (known_of c.head-item.result) mid) old mid new c.in_err-count.field-0.0 same
      before.survives.counts c.check_features.ensures.survives.counts (λ none. none_of_all c.args.heads.now c.heads.head-index c.head-item.result old
      (search rules) c.head-item.is (no_features_on (known_of c.head-item.result) old mid same before.survives.limit none))
      (c.in_err-count.ensures.shows clean same.0.is_open));
  mode = first_of (search rules, grind (arith, common_steps));
  survives = first_of (search rules, grind (arith, common_steps));
}

pub returns-in_err-features : goal.returns-in_err-features
returns-in_err-features g c = record {
  shows = λ clean live.
      let before = c.heads.invariant.1 in
      let old = state g.S.Store c.args.conn.now in
      let mid = state g.S.Store c.heads.conn in
      let new = state g.S.Store c.check_features.new.conn in
      let early = clean_before mid new _ c.check_features.ensures.survives clean in
      let was = before.same early live in
      let same = unchanged_then old mid new was (c.in_ok-count.ensures.shows clean was.0.is_open).1 in
      handed _ _ old new _ _ (is_handed _ _ c.from_residual-in_err-features.ensures.1) (stopped_then (NoFeaturesOfAll (known c.args.heads.now) old) old new
      c.in_err-features.field-0.0 same c.in_err-features.ensures);
  mode = first_of (search rules, grind (arith, common_steps));
  survives = first_of (search rules, grind (arith, common_steps));
}
