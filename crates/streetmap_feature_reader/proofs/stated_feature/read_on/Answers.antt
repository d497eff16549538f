use Rattle.std.proofs.Common.{◌≡◌, Some, Err, string_bytes, sym, ap, ap₂, subst, ◌∙◌, arith, rules}
use Rattle.json.specs.Json.{parse_map}
use Rattle.serde_json.specs.Data.{object, put}
use Rattle.serde_json.specs.View.{view, members_view}
use Rattle.serde_json.proofs.Views.{view-Object, members_view-insert_entry}
use Rattle.streetmap_json.specs.Values.{Takes}
use Rattle.streetmap_json.proofs.Fronts.{handed_on}
use Rattle.streetmap_feature_reader.specs.Places.{members_after}
use Rattle.streetmap_feature_reader.specs.StatedFeature.{stated_data, found_values}
use Rattle.streetmap_feature_reader.proofs.stated_feature.read_on.Goals as goal

pub returns-in_err-members-2-clause-takes : goal.returns-in_err-members-2-clause-takes
returns-in_err-members-2-clause-takes c n enough =
    let ts = c.args.reader.now in
    let copied : string_bytes c.in_ok-name.name ≡ c.args.name.now = search rules in
    let inserted = ap members_view c.in_ok-insert.ensures.entries ∙ members_view-insert_entry c.in_ok-members.members.entries c.in_ok-name.name c.args.value
    ∙ ap₂ (λ name ms. put name (view c.args.value) ms) copied c.in_ok-members.ensures in
    let start = ap (λ ms. parse_map object (members_after ms c.args.depth n ts)) (sym inserted) in
    let fault = c.in_err-members-2.field-0.0 in
    let same : c.from_residual-in_err-members-2.result ≡ Err fault = grind arith in
    subst (λ r. Takes stated_data r c.read_rest.new.reader (parse_map object (members_after (put c.args.name.now (view c.args.value) (found_values c.args.found)) c.args.depth n ts))) (sym same)
    (handed_on fault _ _ (λ none. start ∙ ap (parse_map object) none) (c.in_err-members-2.ensures.takes n enough))

pub returns-clause-takes : goal.returns-clause-takes
returns-clause-takes c n enough =
    let ts = c.args.reader.now in
    let copied : string_bytes c.in_ok-name.name ≡ c.args.name.now = search rules in
    let inserted = ap members_view c.in_ok-insert.ensures.entries ∙ members_view-insert_entry c.in_ok-members.members.entries c.in_ok-name.name c.args.value
    ∙ ap₂ (λ name ms. put name (view c.args.value) ms) copied c.in_ok-members.ensures in
    ap (λ ms. parse_map object (members_after ms c.args.depth n ts)) (sym inserted)
    ∙ ap (parse_map object) (c.in_ok-members-2.ensures.takes n enough)
    ∙ ap (λ d. Some (d, c.read_rest.new.reader)) (sym (view-Object c.in_ok-members-2.members))
