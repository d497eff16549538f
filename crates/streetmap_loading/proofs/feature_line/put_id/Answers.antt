use Rattle.std.proofs.Common.{◌≡◌, codes, string_bytes, decimal, ap, ◌∙◌, rules}
use Rattle.serde_json.specs.Data.{put, string}
use Rattle.serde_json.specs.View.{members_view, view}
use Rattle.serde_json.specs.declared.value.Value.{Value, the_lemmas}
use Rattle.serde_json.specs.declared.value.Value.TheVariants as values
use Rattle.serde_json.proofs.Views.{members_view-insert_entry}
use Rattle.streetmap_loading.proofs.feature_line.put_id.Goals as goal

pub returns : goal.returns
returns c =
    let found = members_view c.args.members.entries in
    let id : Value = values.String c.in_ok-text.text in
    let named : string_bytes c.in_ok-name.name ≡ codes "id" = search rules in
    let written : string_bytes c.in_ok-text.text ≡ decimal c.args.place = search rules in
    let viewed : view id ≡ string (string_bytes c.in_ok-text.text) = search (rules, the_lemmas) in
    ap members_view c.in_ok-insert.ensures.entries ∙
    (members_view-insert_entry c.args.members.entries c.in_ok-name.name id
    ∙ (ap (λ name. put name (view id) found) named ∙
    (ap (λ d. put (codes "id") d found) viewed ∙ ap (λ t. put (codes "id") (string t) found)
    written)))
