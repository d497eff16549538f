use Rattle.std.proofs.Common.{◌≡◌, Some, option_map, string_bytes, sym, ap, ◌∙◌, rules}
use Rattle.serde_json.specs.Data.{put}
use Rattle.serde_json.specs.View.{view, members_view}
use Rattle.serde_json.proofs.Views.{members_view-insert_entry}
use Rattle.streetmap_feature_reader.specs.Places.{with_found}
use Rattle.streetmap_feature_reader.proofs.members.insert_found.Goals as goal

pub returns-in_ok-insert : goal.returns-in_ok-insert
returns-in_ok-insert c =
    let es = c.args.members.now.entries in
    let v = c.in-Some.value in
    let is : c.args.found ≡ Some v = c.in-Some.is in
    let copied : string_bytes c.in_ok-name.name ≡ c.args.name.now = search rules in
    ap members_view c.in_ok-insert.ensures.entries ∙ members_view-insert_entry es c.in_ok-name.name v
    ∙ ap (λ name. put name (view v) (members_view es)) copied
    ∙ sym (ap (λ o. with_found c.args.name.now (option_map view o) (members_view es)) is)
