use Rattle.std.proofs.Common.{arith, rules, ◌∙◌, inl, inr, refl}
use Rattle.std.proofs.lemmas.Grind.{common_steps}
use Rattle.sqlite.specs.Held.{state}
use Rattle.streetmap_ledger.specs.State.{opening_state}
use Rattle.streetmap_ledger.proofs.StatesStay.{opening_sound}
use Rattle.streetmap_rows.specs.Tables.{meta, collections, batches, features}
use Rattle.streetmap_tables.proofs.TableTexts.{meta_is, collections_is, batches_is, features_is}
use Rattle.streetmap_tables.proofs.OurTablesMade.{meta_counts, collections_counts, batches_counts, features_counts, room_one, room_two, room_three, are_made}
use Rattle.streetmap_tables.proofs.PutFormat.{lacks_format}
use Rattle.streetmap_tables.proofs.BeforeCleanEnd.{clean_back, ok_then, err_then, is_handed}
use Rattle.streetmap_tables.proofs.Refusals.{meta_free, reported_one, collections_free, reported_two, batches_free, reported_three, features_free}
use Rattle.streetmap_tables.proofs.Refusals.{reported_four}
use Rattle.streetmap_tables.proofs.OtherTables.{others_then, others_elsewhere}
use Rattle.streetmap_tables.proofs.OneTableMore.{others_kept}
use Rattle.streetmap_rows.proofs.CallsInside.{stays_so, stays_err, stays_both}
use Rattle.streetmap_tables.proofs.creation.make_inside.Goals as goal

pub returns : goal.returns
returns g c =
    stays_so (stays_both (stays_both (stays_both (stays_both c.in_ok-create_table.ensures.runs c.in_ok-create_table-2.ensures.runs)
    c.in_ok-create_table-3.ensures.runs) c.in_ok-create_table-4.ensures.runs) c.insert_format.ensures.runs) (λ clean. record {
      made = λ inside limit room.
          let s0 = state g.S.Store c.args.tx.now.conn.now in
          let s1 = state g.S.Store c.create_table.new.tx.conn.now in
          let s2 = state g.S.Store c.create_table-2.new.tx.conn.now in
          let s3 = state g.S.Store c.create_table-3.new.tx.conn.now in
          let s4 = state g.S.Store c.create_table-4.new.tx.conn.now in
          let s5 = state g.S.Store c.insert_format.new.tx.conn.now in
          let k4 = clean_back s4 s5 _ c.insert_format.ensures.runs.survives clean in
          let k3 = clean_back s3 s4 _ c.create_table-4.ensures.runs.survives k4 in
          let k2 = clean_back s2 s3 _ c.create_table-3.ensures.runs.survives k3 in
          let k1 = clean_back s1 s2 _ c.create_table-2.ensures.runs.survives k2 in
          let one = (c.in_ok-create_table.ensures.runs.does k1).makes inside (meta 0) meta_is (meta_counts s0.now.schema room) in
          let i1 = c.in_ok-create_table.ensures.runs.inside k1 inside in
          let r1 = room_one s0.now s1.now one room in
          let two = (c.in_ok-create_table-2.ensures.runs.does k2).makes i1 (collections 0) collections_is (collections_counts s1.now.schema r1) in
          let i2 = c.in_ok-create_table-2.ensures.runs.inside k2 i1 in
          let r2 = room_two s0.now s1.now one room s2.now two in
          let three = (c.in_ok-create_table-3.ensures.runs.does k3).makes i2 (batches 0) batches_is (batches_counts s2.now.schema r2) in
          let i3 = c.in_ok-create_table-3.ensures.runs.inside k3 i2 in
          let r3 = room_three s0.now s1.now one room s2.now two s3.now three in
          let four = (c.in_ok-create_table-4.ensures.runs.does k4).makes i3 (features 0) features_is (features_counts s3.now.schema r3) in
          let i4 = c.in_ok-create_table-4.ensures.runs.inside k4 i3 in
          let unlimited = c.create_table-4.ensures.runs.survives.limit ∙ c.create_table-3.ensures.runs.survives.limit
          ∙ c.create_table-2.ensures.runs.survives.limit ∙ c.create_table.ensures.runs.survives.limit ∙ limit in
          let grown = others_then s0.now s2.now s4.now (others_then s0.now s1.now s2.now (others_kept (meta 0) s0.now s1.now one)
          (others_kept (collections 0) s1.now s2.now two))
          (others_then s2.now s3.now s4.now (others_kept (batches 0) s2.now s3.now three) (others_kept (features 0) s3.now s4.now four)) in
          let put = (c.insert_format.ensures.runs.does clean).put i4 unlimited opening_state
          (lacks_format s4.now (are_made s0.now s1.now one room s2.now two s3.now three s4.now four)) four.sound in
          ok_then _ _ c.insert_format.result put (λ h. (
            record { well = opening_sound; rows = h.0 },
            others_then s0.now s4.now s5.now grown (others_elsewhere s4.now s5.now h.1),
          ));
      reported = λ inside limit room free.
          let s0 = state g.S.Store c.args.tx.now.conn.now in
          let s1 = state g.S.Store c.create_table.new.tx.conn.now in
          let s2 = state g.S.Store c.create_table-2.new.tx.conn.now in
          let s3 = state g.S.Store c.create_table-3.new.tx.conn.now in
          let s4 = state g.S.Store c.create_table-4.new.tx.conn.now in
          let s5 = state g.S.Store c.insert_format.new.tx.conn.now in
          let k4 = clean_back s4 s5 _ c.insert_format.ensures.runs.survives clean in
          let k3 = clean_back s3 s4 _ c.create_table-4.ensures.runs.survives k4 in
          let k2 = clean_back s2 s3 _ c.create_table-3.ensures.runs.survives k3 in
          let k1 = clean_back s1 s2 _ c.create_table-2.ensures.runs.survives k2 in
          let one = (c.in_ok-create_table.ensures.runs.does k1).makes inside (meta 0) meta_is (meta_counts s0.now.schema room) in
          let i1 = c.in_ok-create_table.ensures.runs.inside k1 inside in
          let r1 = room_one s0.now s1.now one room in
          let two = (c.in_ok-create_table-2.ensures.runs.does k2).makes i1 (collections 0) collections_is (collections_counts s1.now.schema r1) in
          let i2 = c.in_ok-create_table-2.ensures.runs.inside k2 i1 in
          let r2 = room_two s0.now s1.now one room s2.now two in
          let three = (c.in_ok-create_table-3.ensures.runs.does k3).makes i2 (batches 0) batches_is (batches_counts s2.now.schema r2) in
          let i3 = c.in_ok-create_table-3.ensures.runs.inside k3 i2 in
          let r3 = room_three s0.now s1.now one room s2.now two s3.now three in
          let four = (c.in_ok-create_table-4.ensures.runs.does k4).makes i3 (features 0) features_is (features_counts s3.now.schema r3) in
          let i4 = c.in_ok-create_table-4.ensures.runs.inside k4 i3 in
          let unlimited = c.create_table-4.ensures.runs.survives.limit ∙ c.create_table-3.ensures.runs.survives.limit
          ∙ c.create_table-2.ensures.runs.survives.limit ∙ c.create_table.ensures.runs.survives.limit ∙ limit in
          err_then _ _ c.insert_format.result ((c.insert_format.ensures.runs.does clean).reported i4 unlimited opening_state
          (lacks_format s4.now (are_made s0.now s1.now one room s2.now two s3.now three s4.now four)) four.sound) (λ e store. inl store);
    })

pub returns-in_err-create_table : goal.returns-in_err-create_table
returns-in_err-create_table g c =
    stays_err c.in_err-create_table.ensures.runs c.from_residual.ensures.1 (λ clean. record {
      made = first_of (search rules, grind (arith, common_steps));
      reported = λ inside limit room free.
          let s0 = state g.S.Store c.args.tx.now.conn.now in
          let e = c.in_err-create_table.field-0.0 in
          let handed = is_handed c.from_residual.result e c.from_residual.ensures.1 in
          rw handed (reported_one s0.now free e ((c.in_err-create_table.ensures.runs.does clean).reported inside (meta 0) (inl (refl, refl))
          (meta_free s0.now free) (meta_counts s0.now.schema room)));
    })

pub returns-in_err-create_table-2 : goal.returns-in_err-create_table-2
returns-in_err-create_table-2 g c =
    stays_err (stays_both c.in_ok-create_table.ensures.runs c.in_err-create_table-2.ensures.runs) c.from_residual-in_err-create_table-2.ensures.1
    (λ clean. record {
      made = first_of (search rules, grind (arith, common_steps));
      reported = λ inside limit room free.
          let s0 = state g.S.Store c.args.tx.now.conn.now in
          let s1 = state g.S.Store c.create_table.new.tx.conn.now in
          let s2 = state g.S.Store c.create_table-2.new.tx.conn.now in
          let k1 = clean_back s1 s2 _ c.create_table-2.ensures.runs.survives clean in
          let one = (c.in_ok-create_table.ensures.runs.does k1).makes inside (meta 0) meta_is (meta_counts s0.now.schema room) in
          let i1 = c.in_ok-create_table.ensures.runs.inside k1 inside in
          let r1 = room_one s0.now s1.now one room in
          let e = c.in_err-create_table-2.field-0.0 in
          let handed = is_handed c.from_residual-in_err-create_table-2.result e c.from_residual-in_err-create_table-2.ensures.1 in
          rw handed (reported_two s0.now free s1.now one e ((c.in_err-create_table-2.ensures.runs.does clean).reported i1 (collections 0)
          (inr (inl (refl, refl))) (collections_free s0.now free s1.now one) (collections_counts s1.now.schema r1)));
    })

pub returns-in_err-create_table-3 : goal.returns-in_err-create_table-3
returns-in_err-create_table-3 g c =
    stays_err (stays_both (stays_both c.in_ok-create_table.ensures.runs c.in_ok-create_table-2.ensures.runs) c.in_err-create_table-3.ensures.runs)
    c.from_residual-in_err-create_table-3.ensures.1 (λ clean. record {
      made = first_of (search rules, grind (arith, common_steps));
      reported = λ inside limit room free.
          let s0 = state g.S.Store c.args.tx.now.conn.now in
          let s1 = state g.S.Store c.create_table.new.tx.conn.now in
          let s2 = state g.S.Store c.create_table-2.new.tx.conn.now in
          let s3 = state g.S.Store c.create_table-3.new.tx.conn.now in
          let k2 = clean_back s2 s3 _ c.create_table-3.ensures.runs.survives clean in
          let k1 = clean_back s1 s2 _ c.create_table-2.ensures.runs.survives k2 in
          let one = (c.in_ok-create_table.ensures.runs.does k1).makes inside (meta 0) meta_is (meta_counts s0.now.schema room) in
          let i1 = c.in_ok-create_table.ensures.runs.inside k1 inside in
          let r1 = room_one s0.now s1.now one room in
          let two = (c.in_ok-create_table-2.ensures.runs.does k2).makes i1 (collections 0) collections_is (collections_counts s1.now.schema r1) in
          let i2 = c.in_ok-create_table-2.ensures.runs.inside k2 i1 in
          let r2 = room_two s0.now s1.now one room s2.now two in
          let e = c.in_err-create_table-3.field-0.0 in
          let handed = is_handed c.from_residual-in_err-create_table-3.result e c.from_residual-in_err-create_table-3.ensures.1 in
          rw handed (reported_three s0.now free s1.now one s2.now two e ((c.in_err-create_table-3.ensures.runs.does clean).reported i2 (batches 0)
          (inr (inr (inl (refl, refl)))) (batches_free s0.now free s1.now one s2.now two) (batches_counts s2.now.schema r2)));
    })

pub returns-in_err-create_table-4 : goal.returns-in_err-create_table-4
returns-in_err-create_table-4 g c =
    stays_err (stays_both (stays_both (stays_both c.in_ok-create_table.ensures.runs c.in_ok-create_table-2.ensures.runs) c.in_ok-create_table-3.ensures.runs)
    c.in_err-create_table-4.ensures.runs) c.from_residual-in_err-create_table-4.ensures.1 (λ clean. record {
      made = first_of (search rules, grind (arith, common_steps));
      reported = λ inside limit room free.
          let s0 = state g.S.Store c.args.tx.now.conn.now in
          let s1 = state g.S.Store c.create_table.new.tx.conn.now in
          let s2 = state g.S.Store c.create_table-2.new.tx.conn.now in
          let s3 = state g.S.Store c.create_table-3.new.tx.conn.now in
          let s4 = state g.S.Store c.create_table-4.new.tx.conn.now in
          let k3 = clean_back s3 s4 _ c.create_table-4.ensures.runs.survives clean in
          let k2 = clean_back s2 s3 _ c.create_table-3.ensures.runs.survives k3 in
          let k1 = clean_back s1 s2 _ c.create_table-2.ensures.runs.survives k2 in
          let one = (c.in_ok-create_table.ensures.runs.does k1).makes inside (meta 0) meta_is (meta_counts s0.now.schema room) in
          let i1 = c.in_ok-create_table.ensures.runs.inside k1 inside in
          let r1 = room_one s0.now s1.now one room in
          let two = (c.in_ok-create_table-2.ensures.runs.does k2).makes i1 (collections 0) collections_is (collections_counts s1.now.schema r1) in
          let i2 = c.in_ok-create_table-2.ensures.runs.inside k2 i1 in
          let r2 = room_two s0.now s1.now one room s2.now two in
          let three = (c.in_ok-create_table-3.ensures.runs.does k3).makes i2 (batches 0) batches_is (batches_counts s2.now.schema r2) in
          let i3 = c.in_ok-create_table-3.ensures.runs.inside k3 i2 in
          let r3 = room_three s0.now s1.now one room s2.now two s3.now three in
          let e = c.in_err-create_table-4.field-0.0 in
          let handed = is_handed c.from_residual-in_err-create_table-4.result e c.from_residual-in_err-create_table-4.ensures.1 in
          rw handed (reported_four s0.now free s1.now one s2.now two s3.now three e ((c.in_err-create_table-4.ensures.runs.does clean).reported i3 (features 0)
          (inr (inr (inr (refl, refl)))) (features_free s0.now free s1.now one s2.now two s3.now three) (features_counts s3.now.schema r3)));
    })
