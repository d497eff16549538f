use Rattle.std.proofs.Common.{◌≡◌, ◌+◌, ◌<◌, ◌^◌, ◌∷◌, [], string_bytes, sym, ap, ◌∙◌, arith}
use Rattle.streetmap_batch.specs.BatchView.{edit_value}
use Rattle.streetmap_packing.specs.PackingState.{is_passing, with_edit}
use Rattle.streetmap_packing.specs.Packs.{passes}
use Rattle.streetmap_packing.specs.PackerView.{packing}
use Rattle.streetmap_packing.proofs.KeyLemmas.{keys_have_room, alone_passes, some_under_way}
use Rattle.streetmap_packing.proofs.packer.Packer.add.Goals as goal

pub push-requires-2-clause-passes : goal.push-requires-2-clause-passes
push-requires-2-clause-passes c =
    let p = c.args.self.now in
    let key = string_bytes p.key in
    let named = keys_have_room key (p.number + 1) p.named p.short c.requires.room in
    ap (λ q. is_passing (with_edit q (edit_value c.args.edit))) c.in_ok-batch.ensures.1
    ∙ alone_passes p.each key (p.number + 1) (edit_value c.args.edit) c.args.size p.some named
    c.requires.sized c.requires.small

pub returns : goal.returns
returns c =
    let p = c.args.self.now in
    let e = edit_value c.args.edit in
    let key = string_bytes p.key in
    let room = c.requires.room in
    let low : p.number < 2 ^ 63 = omega (arith, room) in
    let here = alone_passes p.each key p.number e c.args.size p.some
    (keys_have_room key p.number p.named p.short low) c.requires.sized c.requires.small in
    let there = alone_passes p.each key (p.number + 1) e c.args.size p.some
    (keys_have_room key (p.number + 1) p.named p.short room) c.requires.sized c.requires.small
    in
    let no_more = sym (c.takes.ensures e c.requires.sized) ∙ c.if-takes.false in (
      some_under_way p.each key p.number (packing p).edits e here no_more,
      no_more,
      there,
      c.in_ok-batch.ensures.0,
      c.in_ok-push-2.ensures ∙ ap (λ q. with_edit q e) c.in_ok-batch.ensures.1,
    )
