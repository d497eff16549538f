use Rattle.std.proofs.Common.{◌≡◌, ◌+◌, ◌∷◌, List, drop, Ok, Err, Vec, Global, string_bytes, sym, ap, subst, ◌∙◌, arith, rules}
use Rattle.std.proofs.lemmas.List.{drop_more}
use Rattle.json.specs.Value.{value_view, items_view as json_items}
use Rattle.json.specs.declared.value.Value.{Value as Tree}
use Rattle.serde_json.specs.Data.{put}
use Rattle.serde_json.specs.View.{view, items_view, members_view}
use Rattle.serde_json.specs.declared.value.Value.{Value}
use Rattle.serde_json.proofs.Views.{members_view-insert_entry}
use Rattle.streetmap_placing.specs.Placed.{Answers, Becomes, ItemsBecome, items_count}
use Rattle.streetmap_placing.specs.Roles.{element_role}
use Rattle.streetmap_placing.proofs.Outcomes.{handed_on}
use Rattle.streetmap_placing.proofs.Walk.{count_of, items_step, items_fault, items_end, members_step}
use Rattle.streetmap_placing.proofs.values.+placing.Goals as goal

pub placed_items-returns-in_err-value : goal.placed_items-returns-in_err-value
placed_items-returns-in_err-value t c =
    let n = c.args.numbers.now in
    let role = c.args.role in
    let l = c.loop-index in
    let xs = c.deref-item-items.result.now in
    let x = c.item-item.result in
    let w = c.of_element-role.result in
    let here : drop l.index xs ≡ x ∷ drop (l.index + 1) xs = drop_more xs l.index x (omega arith)
    ∙ ap (λ y. y ∷ drop (l.index + 1) xs) (sym c.item-item.is) in
    let count = c.len-in-loop-index.ensures ∙ sym c.deref-item-items.ensures.len ∙ count_of xs in
    let is : w ≡ element_role role (items_count (json_items xs)) l.index = c.of_element-role.ensures
    ∙ ap (λ k. element_role role k l.index) count in
    let fault = c.in_err-value.field-0.0 in
    let same : c.from_residual-in_err-value.result ≡ Err fault = grind arith in
    let all = c.args.items.now.items in
    let shown = λ (v : Vec Value Global). items_view v.items in
    subst (λ r. Answers shown r
    (ItemsBecome n role (items_count (json_items all)) 0 (json_items all))) (sym same)
    (handed_on view shown fault (Becomes n w (value_view x))
    (ItemsBecome n role (items_count (json_items all)) 0 (json_items all))
    (λ e k. subst
    (λ (ys : List (Tree Global)). ItemsBecome n role (items_count (json_items ys)) 0
    (json_items ys) (Err e)) c.deref-item-items.ensures.value
    (items_fault n role xs l.index x w l.placed.items e l.invariant here is k))
    c.in_err-value.ensures)

pub placed_items-loop-index-preserved : goal.placed_items-loop-index-preserved
placed_items-loop-index-preserved t c =
    let n = c.args.numbers.now in
    let role = c.args.role in
    let l = c.loop-index in
    let xs = c.deref-item-items.result.now in
    let x = c.item-item.result in
    let w = c.of_element-role.result in
    let here : drop l.index xs ≡ x ∷ drop (l.index + 1) xs = drop_more xs l.index x (omega arith)
    ∙ ap (λ y. y ∷ drop (l.index + 1) xs) (sym c.item-item.is) in
    let count = c.len-in-loop-index.ensures ∙ sym c.deref-item-items.ensures.len ∙ count_of xs in
    let is : w ≡ element_role role (items_count (json_items xs)) l.index = c.of_element-role.ensures
    ∙ ap (λ k. element_role role k l.index) count in
    items_step n role xs l.index x w l.placed.items c.push.new.self.items c.in_ok-value.value
    l.invariant here is c.in_ok-value.ensures c.in_ok-push.ensures.items

pub placed_items-returns : goal.placed_items-returns
placed_items-returns t c =
    let n = c.args.numbers.now in
    let role = c.args.role in
    let l = c.loop-index in
    let xs = c.deref-item-items.result.now in
    subst (λ (ys : List (Tree Global)). ItemsBecome n role (items_count (json_items ys)) 0
    (json_items ys) (Ok (items_view l.placed.items))) c.deref-item-items.ensures.value
    (items_end n role xs l.index l.placed.items l.invariant (omega arith))

pub placed_members-loop-name-preserved : goal.placed_members-loop-name-preserved
placed_members-loop-name-preserved t c =
    let n = c.args.numbers.now in
    let role = c.args.role in
    let l = c.loop-name in
    let i = l.name-index in
    let xs = c.deref-name-items.result.now in
    let x = c.loop-name-item.result in
    let v = c.in_ok-value.value in
    let found = members_view l.placed.entries in
    let here : drop i xs ≡ x ∷ drop (i + 1) xs = drop_more xs i x (omega arith)
    ∙ ap (λ y. y ∷ drop (i + 1) xs) (sym c.loop-name-item.is) in
    let copied : string_bytes c.in_ok-name.name ≡ x.0.now = search rules in
    let inserted : members_view c.insert.new.self.entries ≡ put x.0.now (view v) found =
    ap members_view c.in_ok-insert.ensures.entries
    ∙ members_view-insert_entry l.placed.entries c.in_ok-name.name v
    ∙ ap (λ name. put name (view v) found) copied in
    members_step n role xs i x c.of_member.result found (members_view c.insert.new.self.entries) v
    l.invariant here c.of_member.ensures c.in_ok-value.ensures inserted
