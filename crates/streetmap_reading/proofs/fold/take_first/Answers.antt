use Rattle.std.proofs.Common.{◌≡◌, subst, ◌∙◌, refl, ◌∷◌, [], ◌++◌, rules, true, false}
use Rattle.sqlite.specs.Held.{state}
use Rattle.sqlite.proofs.Callers.{given_begin, unchanged_then}
use Rattle.streetmap_rows.proofs.ResultCases.{handed_on}
use Rattle.streetmap_reading.specs.FoldEffects.{TookNext}
use Rattle.streetmap_reading.proofs.BetweenRows.{given_open, survives_still, survives_on}
use Rattle.streetmap_rows.proofs.ReadsInTurn.{clean_before}
use Rattle.streetmap_reading.proofs.ShownQueries.{simple_there, begins_there}
use Rattle.streetmap_reading.proofs.Stopping.{stops_on, sees_on}
use Rattle.streetmap_reading.proofs.fold.take_first.Goals as goal

pub rows-init : goal.rows-init
rows-init g c =
    let now = c.args.rows.now.conn.now in (
      refl,
      record {
        mode = λ h. h;
        survives = survives_still (state g.S.Store now) (λ _. ⊥);
        took = λ clean sql params start simple given held. record {
          done = [];
          given = given;
          held = held;
          same = given_open g.S.Store sql params now [] given;
        };
      },
    )

pub rows-preserved : goal.rows-preserved
rows-preserved g c =
    let before = c.rows.invariant.1 in
    let old = state g.S.Store c.args.rows.now.conn.now in
    let mid = state g.S.Store c.rows.rows.conn.now in
    let next = c.take_next in (
      next.ensures.same_reference ∙ c.rows.invariant.0,
      record {
        mode = λ h. next.ensures.mode (before.mode h);
        survives = survives_on _ _ _ before.survives next.ensures.survives;
        took = λ clean sql params start simple given held.
            let early = clean_before _ _ _ next.ensures.survives clean in
            let t = before.took early sql params start simple given held in
            let still = simple_there sql mid old t.same.0.now_is simple in
            let r = c.in_ok-took.ensures.takes clean sql params start t.done still t.given t.held in
            let on : c.in_ok-took.took ≡ true = search rules in
            let m = subst (TookNext g.F.RowFold.holds g.F.RowFold.is_good g.S.Store sql params start
            t.done c.rows.rows.conn.now next.new.rows.conn.now next.new.fold) on r.0 in
            record {
              done = t.done ++ m.0 ∷ [];
              given = m.1;
              held = m.2;
              same = unchanged_then _ _ _ t.same r.1;
            };
      },
    )

pub returns-then-not-took-clause-takes : goal.returns-then-not-took-clause-takes
returns-then-not-took-clause-takes g c clean = λ sql params start simple given held.
    let before = c.rows.invariant.1 in
    let old = state g.S.Store c.args.rows.now.conn.now in
    let mid = state g.S.Store c.rows.rows.conn.now in
    let early = clean_before _ _ _ c.take_next.ensures.survives clean in
    let t = before.took early sql params start simple given held in
    let still = simple_there sql mid old t.same.0.now_is simple in
    let r = c.in_ok-took.ensures.takes clean sql params start t.done still t.given t.held in
    let off : c.in_ok-took.took ≡ false = search rules in
    let m = subst (TookNext g.F.RowFold.holds g.F.RowFold.is_good g.S.Store sql params start t.done
    c.rows.rows.conn.now c.take_next.new.rows.conn.now c.take_next.new.fold) off r.0 in
    let shown = sees_on sql params old mid simple t.same t.done m.0 in
    ((t.done, shown, m.1), unchanged_then _ _ _ t.same r.1)

pub returns-in_err-took-clause-takes : goal.returns-in_err-took-clause-takes
returns-in_err-took-clause-takes g c clean = λ sql params start simple given held.
    let before = c.rows.invariant.1 in
    let old = state g.S.Store c.args.rows.now.conn.now in
    let mid = state g.S.Store c.rows.rows.conn.now in
    let next = c.take_next.ensures.survives in
    let t = before.took (clean_before _ _ _ next clean) sql params start simple given held in
    let still = simple_there sql mid old t.same.0.now_is simple in
    let stops = c.in_err-took.ensures.takes clean sql params start t.done still t.given t.held in
    handed_on _ _ _ _ c.from_residual.ensures.1
    (stops_on g.F.RowFold.holds g.F.RowFold.is_good sql params start old mid _ _ simple t.same
    before.survives.limit before.survives.counts next.counts stops)

pub returns-clause-takes : goal.returns-clause-takes
returns-clause-takes g c clean = λ sql params start simple given held.
    let old = state g.S.Store c.args.rows.now.conn.now in
    let new = state g.S.Store c.rows.rows.conn.now in
    let t = c.rows.invariant.1.took clean sql params start simple given held in
    let first = given_begin g.S.Store sql params c.rows.rows.conn.now t.done t.given in (
      (t.done, begins_there sql params new new old simple t.same.0.now_is t.done first, t.held),
      t.same,
    )
