use Rattle.std.proofs.Common.{◌≡◌, true, sym, ◌∙◌}
use Rattle.streetmap_compact_reader.proofs.CompactFacts.{compact_feature}
use Rattle.streetmap_compact_reader.proofs.feature.read_compact.Goals as goal

pub returns : goal.returns
returns c =
    let named : c.is_id.result ≡ true = c.if-not-is_id.false in
    compact_feature _ _ _ _ _ _ _ _ _ _ _ _ c.in_ok-opened.ensures c.in_ok-extent.ensures c.in_ok-after.ensures c.in_ok-id.ensures.text c.in_ok-id.ensures.utf8
    (sym c.is_id.ensures ∙ named)
    c.in_ok-described.ensures c.in_ok-found.ensures (c.is_end.ensures c.if-not-is_end.false) (c.in_ok-time.ensures _ c.in_ok-found.ensures.said)
