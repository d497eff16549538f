use Rattle.std.proofs.Common.{rules, ◌+◌, ◌∷◌, refl, sym, ap, subst, ◌∙◌, arith, drop, drop_of_length-le, inl}
use Rattle.std.proofs.lemmas.Grind.{common_steps}
use Rattle.std.proofs.lemmas.List.{drop_more}
use Rattle.sqlite.specs.Held.{state}
use Rattle.sqlite.specs.State.{HasCleanDisk}
use Rattle.sqlite.proofs.StateLemmas.{survives_then}
use Rattle.streetmap_rows.specs.Representations.{StandsFor}
use Rattle.streetmap_rows.proofs.ResultCases.{handed_on}
use Rattle.streetmap_tables.proofs.CallsInTransaction.{same_all, keeps_then, elsewhere_then}
use Rattle.streetmap_tables.specs.Part.{Lacks, PutsEach}
use Rattle.streetmap_tables.proofs.PartOfState.{lacks_none}
use Rattle.streetmap_tables.proofs.Reasons.{reason_in_later, handed_in}
use Rattle.streetmap_tables.proofs.features.put_rows.Goals as goal

pub rows-init : goal.rows-init
rows-init g c = (
  refl,
  record { clean = omega arith; shield = λ x. x; counts = omega arith; limit = refl; closes = λ _ o. inl o; crash = λ _ db m. inl m },
  λ clean inside. (inside, record { was_open = λ o. o; committed = λ _. refl }),
  (λ clean limit inside s t well represented lacks. (t, represented, lacks, same_all (state g.S.Store c.args.tx.now.conn.now).now _ refl)),
  λ clean inside last each. each,
)

pub returns-in_err-put_row-clause-runs : goal.returns-in_err-put_row-clause-runs
returns-in_err-put_row-clause-runs g c = record {
  same_reference = first_of (search rules, grind (arith, common_steps));
  does = λ clean limit inside s t well represented lacks.
      let inv = c.rows.invariant in
      let i = c.rows.row-index in
      let row = c.row-item.result in
      let early : HasCleanDisk (state g.S.Store c.rows.tx.conn.now) = omega (arith, clean, c.put_row.ensures.runs.survives.clean) in
      let r = inv.3 early limit inside s t well represented lacks in
      let rest = drop_more c.args.rows.now i row (omega arith) ∙ ap (λ x. x ∷ drop (i + 1) c.args.rows.now) (sym c.row-item.is) in
      handed_on _ _ _ _ c.from_residual.ensures.1 (c.in_err-put_row.ensures.runs.does clean (inv.1.limit ∙ limit) (inv.2 early inside).0 s r.0
      (drop (i + 1) c.args.rows.now) well r.1 (subst (λ l. Lacks l s r.0) rest r.2));
  inside = first_of (search rules, grind (arith, common_steps));
  kept = first_of (search rules, grind (arith, common_steps));
  reason = λ clean.
      handed_in _ (state g.S.Store c.args.tx.now.conn.now) (state g.S.Store c.put_row.new.tx.conn.now) _ c.from_residual.ensures.1
      (reason_in_later (state g.S.Store c.args.tx.now.conn.now) (state g.S.Store c.rows.tx.conn.now) (state g.S.Store c.put_row.new.tx.conn.now) _ _ _
      c.rows.invariant.1 c.put_row.ensures.runs.survives clean (c.in_err-put_row.ensures.runs.reason clean));
  survives = first_of (search rules, grind (arith, common_steps));
}

pub rows-preserved : goal.rows-preserved
rows-preserved g c =
    let inv = c.rows.invariant in
    let i = c.rows.row-index in
    let row = c.row-item.result in
    let old = state g.S.Store c.args.tx.now.conn.now in
    let mid = state g.S.Store c.rows.tx.conn.now in
    let new = state g.S.Store c.put_row.new.tx.conn.now in (
      c.put_row.ensures.runs.same_reference ∙ inv.0,
      survives_then old mid new (λ _. ⊥) (λ _. ⊥) (λ _. ⊥) (λ _ _ h. h) (λ _ _ h. h) inv.1 c.put_row.ensures.runs.survives,
      λ clean inside.
          let early : HasCleanDisk mid = omega (arith, clean, c.put_row.ensures.runs.survives.clean) in
          let r = inv.2 early inside in
          (c.in_ok-put_row.ensures.runs.inside clean r.0, keeps_then old mid new r.1 (c.in_ok-put_row.ensures.runs.kept clean r.0)),
      (λ clean limit inside s t well represented lacks.
          let early : HasCleanDisk mid = omega (arith, clean, c.put_row.ensures.runs.survives.clean) in
          let r = inv.3 early limit inside s t well represented lacks in
          let rest = drop_more c.args.rows.now i row (omega arith) ∙ ap (λ x. x ∷ drop (i + 1) c.args.rows.now) (sym c.row-item.is) in
          let e = c.in_ok-put_row.ensures.runs.does clean (inv.1.limit ∙ limit) (inv.2 early inside).0 s r.0 (drop (i + 1) c.args.rows.now) well r.1
          (subst (λ l. Lacks l s r.0) rest r.2) in
          (e.0.0, e.0.1, e.0.2, elsewhere_then old.now mid.now new.now r.3 e.1)),
      λ clean inside last each.
          let early : HasCleanDisk mid = omega (arith, clean, c.put_row.ensures.runs.survives.clean) in
          let rest = drop_more c.args.rows.now i row (omega arith) ∙ ap (λ x. x ∷ drop (i + 1) c.args.rows.now) (sym c.row-item.is) in
          inv.4 early inside last (subst (λ l. PutsEach g.S.Store l c.rows.tx.conn.now last) (sym rest)
          (c.put_row.new.tx.conn.now, c.in_ok-put_row.ensures.ran clean (inv.2 early inside).0, each)),
    )

pub returns-clause-runs : goal.returns-clause-runs
returns-clause-runs g c = record {
  same_reference = first_of (search rules, grind (arith, common_steps));
  does = λ clean limit inside s t well represented lacks.
      let new = state g.S.Store c.rows.tx.conn.now in
      let r = c.rows.invariant.3 clean limit inside s t well represented lacks in
      (subst (λ u. StandsFor u new.now) (lacks_none s r.0 (subst (λ l. Lacks l s r.0) (drop_of_length-le c.args.rows.now (omega arith)) r.2)) r.1, r.3);
  inside = first_of (search rules, grind (arith, common_steps));
  kept = first_of (search rules, grind (arith, common_steps));
  reason = first_of (search rules, grind (arith, common_steps));
  survives = first_of (search rules, grind (arith, common_steps));
}

pub returns-clause-ran : goal.returns-clause-ran
returns-clause-ran g c clean inside =
    c.rows.invariant.4 clean inside c.rows.tx.conn.now (subst (λ l. PutsEach g.S.Store l c.rows.tx.conn.now c.rows.tx.conn.now)
    (sym (drop_of_length-le c.args.rows.now (omega arith))) refl)
