use Rattle.std.proofs.Common.{arith, rules, ◌∙◌, inl, inr, refl}
use Rattle.std.proofs.lemmas.Grind.{common_steps}
use Rattle.sqlite.specs.Held.{state}
use Rattle.streetmap_rows.specs.Tables.{meta, features, meta_name, features_name}
use Rattle.streetmap_tables.proofs.TableTexts.{meta_is, features_is}
use Rattle.streetmap_tables.proofs.OurTablesMade.{meta_counts, features_counts}
use Rattle.streetmap_tables.proofs.OtherTables.{others_then, others_elsewhere}
use Rattle.streetmap_tables.proofs.BeforeCleanEnd.{clean_back, ok_then, err_then, is_handed}
use Rattle.streetmap_tables.specs.Old.{KeepsOld, old_features}
use Rattle.streetmap_tables.specs.Creation.{format_text}
use Rattle.streetmap_tables.specs.Part.{emptied, Ran}
use Rattle.streetmap_tables.proofs.DropTexts.{drops_features, drops_meta, features_alone, meta_alone}
use Rattle.streetmap_tables.proofs.RemakeRefused.{meta_free, features_free, reported_meta, reported_features}
use Rattle.streetmap_tables.proofs.RemadeTables.{features_go, meta_goes, rest1, rest2, rest3, lacks_format, others_remade}
use Rattle.streetmap_tables.proofs.EndedCalls.{each_state}
use Rattle.streetmap_rows.proofs.CallsInside.{stays_so, stays_err, stays_both}
use Rattle.streetmap_tables.proofs.recreation.remake_tables.Goals as goal

pub returns-clause-runs : goal.returns-clause-runs
returns-clause-runs g c =
    stays_so (stays_both (stays_both (stays_both (stays_both c.in_ok-drop_table.ensures.runs c.in_ok-drop_table-2.ensures.runs)
    c.in_ok-create_table.ensures.runs) c.in_ok-create_table-2.ensures.runs) c.insert_format.ensures.runs) (λ clean. record {
      made = λ inside limit.
          let s0 = state g.S.Store c.args.tx.now.conn.now in
          let s1 = state g.S.Store c.drop_table.new.tx.conn.now in
          let s2 = state g.S.Store c.drop_table-2.new.tx.conn.now in
          let s3 = state g.S.Store c.create_table.new.tx.conn.now in
          let s4 = state g.S.Store c.create_table-2.new.tx.conn.now in
          let s5 = state g.S.Store c.insert_format.new.tx.conn.now in
          let k4 = clean_back s4 s5 _ c.insert_format.ensures.runs.survives clean in
          let k3 = clean_back s3 s4 _ c.create_table-2.ensures.runs.survives k4 in
          let k2 = clean_back s2 s3 _ c.create_table.ensures.runs.survives k3 in
          let k1 = clean_back s1 s2 _ c.drop_table-2.ensures.runs.survives k2 in
          let i1 = c.in_ok-drop_table.ensures.runs.inside k1 inside in
          let i2 = c.in_ok-drop_table-2.ensures.runs.inside k2 i1 in
          let i3 = c.in_ok-create_table.ensures.runs.inside k3 i2 in
          let i4 = c.in_ok-create_table-2.ensures.runs.inside k4 i3 in
          let unlimited = c.create_table-2.ensures.runs.survives.limit ∙ c.create_table.ensures.runs.survives.limit ∙ c.drop_table-2.ensures.runs.survives.limit
          ∙ c.drop_table.ensures.runs.survives.limit ∙ limit in
          each_state (λ s. KeepsOld s s0.now) _ c.insert_format.result (λ s keeps.
          let one = (c.in_ok-drop_table.ensures.runs.does k1).dropped inside features_name (old_features keeps.roots.features) drops_features
          (features_go s s0.now keeps) in
          let two = (c.in_ok-drop_table-2.ensures.runs.does k2).dropped i1 meta_name (meta keeps.roots.meta) drops_meta (meta_goes s s0.now keeps s1.now one) in
          let three = (c.in_ok-create_table.ensures.runs.does k3).makes i2 (meta 0) meta_is
          (meta_counts s2.now.schema (rest2 s s0.now keeps s1.now one s2.now two).room) in
          let four = (c.in_ok-create_table-2.ensures.runs.does k4).makes i3 (features 0) features_is
          (features_counts s3.now.schema (rest3 s s0.now keeps s1.now one s2.now two s3.now three).room) in
          let put = (c.insert_format.ensures.runs.does clean).put i4 unlimited (emptied s)
          (lacks_format s s0.now keeps s1.now one s2.now two s3.now three s4.now four) four.sound in
          ok_then _ _ c.insert_format.result put (λ h. (
            h.0,
            others_then s0.now s4.now s5.now
                (others_remade s s0.now keeps s1.now one s2.now two s3.now three s4.now four) (others_elsewhere s4.now s5.now h.1),
          )));
      reported = λ inside limit s keeps.
          let s0 = state g.S.Store c.args.tx.now.conn.now in
          let s1 = state g.S.Store c.drop_table.new.tx.conn.now in
          let s2 = state g.S.Store c.drop_table-2.new.tx.conn.now in
          let s3 = state g.S.Store c.create_table.new.tx.conn.now in
          let s4 = state g.S.Store c.create_table-2.new.tx.conn.now in
          let s5 = state g.S.Store c.insert_format.new.tx.conn.now in
          let k4 = clean_back s4 s5 _ c.insert_format.ensures.runs.survives clean in
          let k3 = clean_back s3 s4 _ c.create_table-2.ensures.runs.survives k4 in
          let k2 = clean_back s2 s3 _ c.create_table.ensures.runs.survives k3 in
          let k1 = clean_back s1 s2 _ c.drop_table-2.ensures.runs.survives k2 in
          let i1 = c.in_ok-drop_table.ensures.runs.inside k1 inside in
          let i2 = c.in_ok-drop_table-2.ensures.runs.inside k2 i1 in
          let i3 = c.in_ok-create_table.ensures.runs.inside k3 i2 in
          let i4 = c.in_ok-create_table-2.ensures.runs.inside k4 i3 in
          let unlimited = c.create_table-2.ensures.runs.survives.limit ∙ c.create_table.ensures.runs.survives.limit ∙ c.drop_table-2.ensures.runs.survives.limit
          ∙ c.drop_table.ensures.runs.survives.limit ∙ limit in
          let one = (c.in_ok-drop_table.ensures.runs.does k1).dropped inside features_name (old_features keeps.roots.features) drops_features
          (features_go s s0.now keeps) in
          let two = (c.in_ok-drop_table-2.ensures.runs.does k2).dropped i1 meta_name (meta keeps.roots.meta) drops_meta (meta_goes s s0.now keeps s1.now one) in
          let three = (c.in_ok-create_table.ensures.runs.does k3).makes i2 (meta 0) meta_is
          (meta_counts s2.now.schema (rest2 s s0.now keeps s1.now one s2.now two).room) in
          let four = (c.in_ok-create_table-2.ensures.runs.does k4).makes i3 (features 0) features_is
          (features_counts s3.now.schema (rest3 s s0.now keeps s1.now one s2.now two s3.now three).room) in
          err_then _ _ c.insert_format.result ((c.insert_format.ensures.runs.does clean).reported i4 unlimited (emptied s)
          (lacks_format s s0.now keeps s1.now one s2.now two s3.now three s4.now four) four.sound) (λ e store. inl store);
    })

pub returns-in_err-drop_table-clause-runs : goal.returns-in_err-drop_table-clause-runs
returns-in_err-drop_table-clause-runs g c =
    stays_err c.in_err-drop_table.ensures.runs c.from_residual.ensures.1 (λ clean. record {
      made = first_of (search rules, grind (arith, common_steps));
      reported = λ inside limit s keeps.
          let s0 = state g.S.Store c.args.tx.now.conn.now in
          let s1 = state g.S.Store c.drop_table.new.tx.conn.now in
          let e = c.in_err-drop_table.field-0.0 in
          let handed = is_handed c.from_residual.result e c.from_residual.ensures.1 in
          rw handed (inl ((c.in_err-drop_table.ensures.runs.does clean).reported inside features_name (old_features keeps.roots.features) features_alone
          (features_go s s0.now keeps) keeps.ours.room.apart keeps.sound));
    })

pub returns-in_err-drop_table-2-clause-runs : goal.returns-in_err-drop_table-2-clause-runs
returns-in_err-drop_table-2-clause-runs g c =
    stays_err (stays_both c.in_ok-drop_table.ensures.runs c.in_err-drop_table-2.ensures.runs) c.from_residual-in_err-drop_table-2.ensures.1 (λ clean. record {
      made = first_of (search rules, grind (arith, common_steps));
      reported = λ inside limit s keeps.
          let s0 = state g.S.Store c.args.tx.now.conn.now in
          let s1 = state g.S.Store c.drop_table.new.tx.conn.now in
          let s2 = state g.S.Store c.drop_table-2.new.tx.conn.now in
          let k1 = clean_back s1 s2 _ c.drop_table-2.ensures.runs.survives clean in
          let i1 = c.in_ok-drop_table.ensures.runs.inside k1 inside in
          let one = (c.in_ok-drop_table.ensures.runs.does k1).dropped inside features_name (old_features keeps.roots.features) drops_features
          (features_go s s0.now keeps) in
          let e = c.in_err-drop_table-2.field-0.0 in
          let handed = is_handed c.from_residual-in_err-drop_table-2.result e c.from_residual-in_err-drop_table-2.ensures.1 in
          rw handed (inl ((c.in_err-drop_table-2.ensures.runs.does clean).reported i1 meta_name (meta keeps.roots.meta) meta_alone
          (meta_goes s s0.now keeps s1.now one) (rest1 s s0.now keeps s1.now one).room.apart one.sound));
    })

pub returns-in_err-create_table-clause-runs : goal.returns-in_err-create_table-clause-runs
returns-in_err-create_table-clause-runs g c =
    stays_err (stays_both (stays_both c.in_ok-drop_table.ensures.runs c.in_ok-drop_table-2.ensures.runs) c.in_err-create_table.ensures.runs)
    c.from_residual-in_err-create_table.ensures.1 (λ clean. record {
      made = first_of (search rules, grind (arith, common_steps));
      reported = λ inside limit s keeps.
          let s0 = state g.S.Store c.args.tx.now.conn.now in
          let s1 = state g.S.Store c.drop_table.new.tx.conn.now in
          let s2 = state g.S.Store c.drop_table-2.new.tx.conn.now in
          let s3 = state g.S.Store c.create_table.new.tx.conn.now in
          let k2 = clean_back s2 s3 _ c.create_table.ensures.runs.survives clean in
          let k1 = clean_back s1 s2 _ c.drop_table-2.ensures.runs.survives k2 in
          let i1 = c.in_ok-drop_table.ensures.runs.inside k1 inside in
          let i2 = c.in_ok-drop_table-2.ensures.runs.inside k2 i1 in
          let one = (c.in_ok-drop_table.ensures.runs.does k1).dropped inside features_name (old_features keeps.roots.features) drops_features
          (features_go s s0.now keeps) in
          let two = (c.in_ok-drop_table-2.ensures.runs.does k2).dropped i1 meta_name (meta keeps.roots.meta) drops_meta (meta_goes s s0.now keeps s1.now one) in
          let e = c.in_err-create_table.field-0.0 in
          let handed = is_handed c.from_residual-in_err-create_table.result e c.from_residual-in_err-create_table.ensures.1 in
          rw handed (reported_meta s s0.now keeps s1.now one s2.now two e ((c.in_err-create_table.ensures.runs.does clean).reported i2 (meta 0)
          (inl (refl, refl)) (meta_free s s0.now keeps s1.now one s2.now two) (meta_counts s2.now.schema
          (rest2 s s0.now keeps s1.now one s2.now two).room)));
    })

pub returns-in_err-create_table-2-clause-runs : goal.returns-in_err-create_table-2-clause-runs
returns-in_err-create_table-2-clause-runs g c =
    stays_err (stays_both (stays_both (stays_both c.in_ok-drop_table.ensures.runs c.in_ok-drop_table-2.ensures.runs) c.in_ok-create_table.ensures.runs)
    c.in_err-create_table-2.ensures.runs) c.from_residual-in_err-create_table-2.ensures.1 (λ clean. record {
      made = first_of (search rules, grind (arith, common_steps));
      reported = λ inside limit s keeps.
          let s0 = state g.S.Store c.args.tx.now.conn.now in
          let s1 = state g.S.Store c.drop_table.new.tx.conn.now in
          let s2 = state g.S.Store c.drop_table-2.new.tx.conn.now in
          let s3 = state g.S.Store c.create_table.new.tx.conn.now in
          let s4 = state g.S.Store c.create_table-2.new.tx.conn.now in
          let k3 = clean_back s3 s4 _ c.create_table-2.ensures.runs.survives clean in
          let k2 = clean_back s2 s3 _ c.create_table.ensures.runs.survives k3 in
          let k1 = clean_back s1 s2 _ c.drop_table-2.ensures.runs.survives k2 in
          let i1 = c.in_ok-drop_table.ensures.runs.inside k1 inside in
          let i2 = c.in_ok-drop_table-2.ensures.runs.inside k2 i1 in
          let i3 = c.in_ok-create_table.ensures.runs.inside k3 i2 in
          let one = (c.in_ok-drop_table.ensures.runs.does k1).dropped inside features_name (old_features keeps.roots.features) drops_features
          (features_go s s0.now keeps) in
          let two = (c.in_ok-drop_table-2.ensures.runs.does k2).dropped i1 meta_name (meta keeps.roots.meta) drops_meta (meta_goes s s0.now keeps s1.now one) in
          let three = (c.in_ok-create_table.ensures.runs.does k3).makes i2 (meta 0) meta_is
          (meta_counts s2.now.schema (rest2 s s0.now keeps s1.now one s2.now two).room) in
          let e = c.in_err-create_table-2.field-0.0 in
          let handed = is_handed c.from_residual-in_err-create_table-2.result e c.from_residual-in_err-create_table-2.ensures.1 in
          rw handed (reported_features s s0.now keeps s1.now one s2.now two s3.now three e
          ((c.in_err-create_table-2.ensures.runs.does clean).reported i3 (features 0) (inr (inr (inr (refl, refl))))
          (features_free s s0.now keeps s1.now one s2.now two s3.now three) (features_counts s3.now.schema
          (rest3 s s0.now keeps s1.now one s2.now two s3.now three).room)));
    })

pub returns-clause-ran : goal.returns-clause-ran
returns-clause-ran g c clean inside =
    let s1 = state g.S.Store c.drop_table.new.tx.conn.now in
    let s2 = state g.S.Store c.drop_table-2.new.tx.conn.now in
    let s3 = state g.S.Store c.create_table.new.tx.conn.now in
    let s4 = state g.S.Store c.create_table-2.new.tx.conn.now in
    let s5 = state g.S.Store c.insert_format.new.tx.conn.now in
    let k4 = clean_back s4 s5 _ c.insert_format.ensures.runs.survives clean in
    let k3 = clean_back s3 s4 _ c.create_table-2.ensures.runs.survives k4 in
    let k2 = clean_back s2 s3 _ c.create_table.ensures.runs.survives k3 in
    let k1 = clean_back s1 s2 _ c.drop_table-2.ensures.runs.survives k2 in
    let i1 = c.in_ok-drop_table.ensures.runs.inside k1 inside in
    let i2 = c.in_ok-drop_table-2.ensures.runs.inside k2 i1 in
    let i3 = c.in_ok-create_table.ensures.runs.inside k3 i2 in
    let i4 = c.in_ok-create_table-2.ensures.runs.inside k4 i3 in
    ok_then (Ran g.S.Store format_text c.create_table-2.new.tx.conn.now c.insert_format.new.tx.conn.now) _ c.insert_format.result
    (c.insert_format.ensures.ran clean i4) (λ last. (
      c.drop_table.new.tx.conn.now,
      c.in_ok-drop_table.ensures.ran k1 inside,
      (
        c.drop_table-2.new.tx.conn.now,
        c.in_ok-drop_table-2.ensures.ran k2 i1,
        (
          c.create_table.new.tx.conn.now,
          c.in_ok-create_table.ensures.ran k3 i2,
          (
            c.create_table-2.new.tx.conn.now,
            c.in_ok-create_table-2.ensures.ran k4 i3,
            (
              c.insert_format.new.tx.conn.now,
              last,
              refl,
            ),
          ),
        ),
      ),
    ))
