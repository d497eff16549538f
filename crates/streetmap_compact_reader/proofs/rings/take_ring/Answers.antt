use Rattle.std.proofs.Common.{◌≡◌, true, false, sym, ◌∙◌, arith, FitsSigned, w64, rules}
use Rattle.std.proofs.lemmas.Int.{to_z-of_z}
use Rattle.streetmap_compact_reader.proofs.RingFronts.{ring_front}
use Rattle.streetmap_compact_reader.proofs.rings.take_ring.Goals as goal

pub returns : goal.returns
returns c =
    let fits : FitsSigned w64 c.in_ok-kept.kept.area = search rules in
    let wrong = simp to_z-of_z at c.is_wrong.ensures in
    let same : c.is_same.result ≡ true = grind arith in
    let right : c.is_wrong.result ≡ false = grind arith in
    ring_front c.args.hole _ _ _ c.in_ok-kept.ensures (omega arith) (sym c.is_same.ensures ∙ same) (sym wrong ∙ right)
