use Rattle.std.proofs.Common.{◌≤◌, IsTrue, arith, length, subst, sym}
use Rattle.streetmap_batch.specs.Names.{is_collection_id}
use Rattle.streetmap_loading.proofs.MeasureLemmas.{id_length}
use Rattle.streetmap_loading.proofs.edit_length.parts_len.Goals as goal

pub returns-clause-room : goal.returns-clause-room
returns-clause-room c =
    let short : length c.as_str.result.now ≤ 64 = id_length c.as_str.result.now
    (subst (λ id. IsTrue (is_collection_id id)) (sym c.as_str.ensures.value) c.as_str.ensures.named) in
    omega (arith, short, c.text.type_inv)
