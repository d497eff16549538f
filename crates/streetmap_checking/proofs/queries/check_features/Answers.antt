use Rattle.std.proofs.Common.{arith, rules, ◌≡◌, ◌∷◌, [], None, refl, sym, ap, subst}
use Rattle.std.proofs.lemmas.Grind.{common_steps}
use Rattle.sqlite.specs.Held.{state}
use Rattle.sqlite.specs.declared.types.Value.TheVariants.{Text as Words}
use Rattle.sqlite.proofs.StateLemmas.{unchanged}
use Rattle.std.proofs.lemmas.Result.{err_from_is_err_and}
use Rattle.streetmap_tables.proofs.BeforeCleanEnd.{is_handed}
use Rattle.streetmap_checking.specs.Good.{AreFeatureRows}
use Rattle.streetmap_checking.specs.Held.{HoldsFeatureRows, IsGoodFeatures}
use Rattle.streetmap_checking.specs.KnownCollections.{known_of}
use Rattle.streetmap_checking.specs.Statements.{select_features}
use Rattle.streetmap_checking.specs.QueryResults.{Known}
use Rattle.streetmap_checking.proofs.Found.{features_of}
use Rattle.streetmap_checking.proofs.ReadResults.{stopped, handed}
use Rattle.streetmap_checking.proofs.Simple.{query_so, features_simple}
use Rattle.streetmap_checking.proofs.queries.check_features.Goals as goal

pub returns-in_err-fold_rows : goal.returns-in_err-fold_rows
returns-in_err-fold_rows g c =
    query_so select_features _ features_simple c.fold_rows.ensures (λ clean live.
    let old = state g.S.Store c.args.conn.now in
    let new = state g.S.Store c.fold_rows.new.conn in
    let name : c.as_str-id.result.now ≡ (known_of c.args.head.now).0 = c.as_str-id.ensures.value in
    let same = ap (λ (k : Known). k.1) c.in_ok-copy.ensures in
    let took = rw (c.params-to_sql.ensures, name) at (c.in_err-fold_rows.ensures.shows clean) in
    handed _ _ old new _ _ (is_handed _ _ c.from_residual-in_err-fold_rows.ensures.1)
    (stopped HoldsFeatureRows IsGoodFeatures select_features (Words (known_of c.args.head.now).0 ∷ [])
    (record { alloc = c.args.alloc; head = c.in_ok-copy.copy; last = None; count = 0 }) (AreFeatureRows (known_of c.args.head.now).1)
    (λ rows good. subst (λ p. AreFeatureRows p rows) (sym same) good) old new c.in_err-fold_rows.field-0.0
    (took (features_simple _) (record { head = refl; are = record { entries = []; are = refl; rising = tt; fine = tt }; last = refl; counted = refl }))))

pub returns : goal.returns
returns g c =
    query_so select_features _ features_simple c.fold_rows.ensures (λ clean live.
    let name : c.as_str-id.result.now ≡ (known_of c.args.head.now).0 = c.as_str-id.ensures.value in
    let same = ap (λ (k : Known). k.1) c.in_ok-copy.ensures in
    let took = rw (c.params-to_sql.ensures, name) at (c.in_ok-fold_rows.ensures.shows clean) in
    let r = took (features_simple _) (record { head = refl; are = record { entries = []; are = refl; rising = tt; fine = tt }; last = refl; counted = refl }) in
    let f = features_of _ _ r.0.0 _ same (r.0.2.are, r.0.2.counted) in
    ((r.0.0, r.0.1, f.0, f.1), r.1))

pub returns-in_err-copy : goal.returns-in_err-copy
returns-in_err-copy g c = record {
  shows = λ clean live.
      let same = unchanged (state g.S.Store c.args.conn.now) live in
      let p = err_from_is_err_and c.from_residual.result c.from_residual.ensures.1 in
      rw (p.1, p.2) same;
  mode = first_of (search rules, grind (arith, common_steps));
  survives = first_of (search rules, grind (arith, common_steps));
}
