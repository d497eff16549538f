use Rattle.std.proofs.Common.{◌≡◌, ◌+◌, ◌∷◌, map, drop, length, string_bytes, false, rules, sym, ap, ◌∙◌, drop_of_length-le}
use Rattle.std.proofs.lemmas.List.{drop_more}
use Rattle.streetmap_checking.specs.declared.collections.Head.{Head}
use Rattle.streetmap_checking.proofs.Owning.{none_of, later_name, name_there, first_name}
use Rattle.streetmap_checking.proofs.owners.names_one.Goals as goal

pub loop-head-init : goal.loop-head-init
loop-head-init c = λ name is h. h

pub loop-head-preserved : goal.loop-head-preserved
loop-head-preserved c = λ name is h.
    let i = c.loop-head.head-index in
    let now = drop_more c.args.heads.now i c.head-item.result c.loop-head-test.true ∙ ap (λ x. x ∷ drop (i + 1) c.args.heads.now) (sym c.head-item.is) in
    let one : length c.args.row.now ≡ 1 = search rules in
    let text : c.as_bytes.result.now ≡ string_bytes c.head-item.result.id = c.as_bytes.ensures.value in
    let off : c.is_text.result ≡ false = c.if-is_text.false in
    later_name _ _ _ c.args.row.now (ap (map (λ (x : Head). string_bytes x.id)) now) (λ same.
    absurd (let on = sym off ∙ c.is_text.ensures.1 (first_name _ _ _ one text same) in cc)) name is (c.loop-head.invariant name is h)

pub returns-then-is_text : goal.returns-then-is_text
returns-then-is_text c =
    let one : length c.args.row.now ≡ 1 = search rules in
    let text : c.as_bytes.result.now ≡ string_bytes c.head-item.result.id = c.as_bytes.ensures.value in (
      (λ t. name_there c.args.heads.now c.loop-head.head-index c.head-item.result c.args.row.now _ c.loop-head-test.true c.head-item.is text one
          (c.is_text.ensures.0 c.if-is_text.true).1),
      (λ h. search rules),
    )

pub returns : goal.returns
returns c = (
  (λ t. absurd (cc)),
  (λ h. absurd (none_of c.args.row.now _ h.0 (ap (map (λ (x : Head). string_bytes x.id))
      (drop_of_length-le c.args.heads.now c.loop-head-test.false)) (c.loop-head.invariant h.0 h.2 h.1))),
)
