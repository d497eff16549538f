use Rattle.std.proofs.Common.{arith, ◌≡◌, inl, refl, subst, true, rules}
use Rattle.std.proofs.lemmas.Grind.{common_steps}
use Rattle.sqlite.specs.Held.{state}
use Rattle.sqlite.specs.declared.error.Error.TheVariants.{SqliteFailure}
use Rattle.sqlite.specs.declared.error.ErrorCode.TheVariants.{TooBig}
use Rattle.streetmap_rows.proofs.ErrorReasons.{other}
use Rattle.streetmap_rows.proofs.ResultCases.{handed_on}
use Rattle.sqlite.specs.Values.{bound}
use Rattle.streetmap_reading.specs.FoldEffects.{ShowsOrBegins}
use Rattle.streetmap_reading.proofs.fold.fold_rows.Goals as goal

pub returns : goal.returns
returns g c = record {
  shows = λ clean simple held.
      let took = c.in_ok-all.ensures.shows clean simple held in
      let whole : c.in_ok-all.all ≡ true = search rules in
      let shown = subst (λ all. ShowsOrBegins all c.args.sql.now (bound c.args.params.now)
      (state g.S.Store c.args.conn.now) took.0.0) whole took.0.1 in
      ((took.0.0, shown, took.0.2), took.1);
  mode = first_of (search rules, grind (arith, common_steps));
  survives = first_of (search rules, grind (arith, common_steps));
}

pub returns-then-not-all : goal.returns-then-not-all
returns-then-not-all g c = record {
  shows = λ clean simple held.
      let old = state g.S.Store c.args.conn.now in
      let new = state g.S.Store c.fold_first.new.conn in
      let took = c.in_ok-all.ensures.shows clean simple held in (
        λ of. absurd (of (search rules)),
        inl took.1,
        other old new (SqliteFailure TooBig) refl,
      );
  mode = first_of (search rules, grind (arith, common_steps));
  survives = first_of (search rules, grind (arith, common_steps));
}

pub returns-in_err-all : goal.returns-in_err-all
returns-in_err-all g c = record {
  shows = λ clean simple held.
      handed_on _ _ _ _ c.from_residual.ensures.1 (c.in_err-all.ensures.shows clean simple held);
  mode = first_of (search rules, grind (arith, common_steps));
  survives = first_of (search rules, grind (arith, common_steps));
}
