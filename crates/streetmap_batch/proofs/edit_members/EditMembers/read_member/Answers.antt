use Rattle.std.proofs.Common.{◌≡◌, false, codes, option_map, string_bytes, sym, ap, ◌∙◌, rules}
use Rattle.std.specs.Prelude.{bytes_eq}
use Rattle.std.proofs.lemmas.Slice.Eq.{bytes_eq-Decides}
use Rattle.serde_json.specs.Data.{put}
use Rattle.serde_json.specs.View.{view, members_view}
use Rattle.serde_json.proofs.Views.{members_view-insert_entry}
use Rattle.streetmap_feature_reader.specs.Places.{with_found}
use Rattle.streetmap_feature_reader.specs.StatedFeature.{stated_data}
use Rattle.streetmap_batch.specs.Text.{Text}
use Rattle.streetmap_batch.specs.EditMembers.{stated_members}
use Rattle.streetmap_batch.proofs.MemberFacts.{feature_put, another_put, still_apart}
use Rattle.streetmap_batch.proofs.edit_members.EditMembers.read_member.Goals as goal

apart_by : (name other : Text) → bytes_eq name other ≡ false → name ≡ other → ⊥
apart_by name other e is = let yes = (bytes_eq-Decides name other).1 is in absurd cc

pub invariant_of-self-else-eq : goal.invariant_of-self-else-eq
invariant_of-self-else-eq c =
    let m = c.args.self.now in
    let copied : string_bytes c.in_ok-name.name ≡ c.args.name.now = search rules in
    let other = apart_by c.args.name.now (codes "feature") (sym c.eq.ensures ∙ c.if-eq.false) in
    let left = c.insert.new.self.entries in
    let kept = still_apart c.insert.result m.others.entries left c.in_ok-name.name c.in_ok-value.value (λ is. other (sym copied ∙ sym is)) in
    record { apart = kept c.insert.ensures.entries c.insert.ensures.err m.apart }

pub returns-in_ok-read_stated-clause-takes : goal.returns-in_ok-read_stated-clause-takes
unfolding stated_members
returns-in_ok-read_stated-clause-takes c =
    let m = c.args.self.now in
    let d = stated_data c.in_ok-read_stated.field-0 in
    let is : c.args.name.now ≡ codes "feature" = (bytes_eq-Decides _ _).0 (sym c.eq.ensures ∙ c.if-eq.true) in
    let again = feature_put (option_map stated_data m.feature) d (members_view m.others.entries) in
    (d, c.in_ok-read_stated.ensures.takes, again ∙ ap (λ name. put name d (stated_members m)) (sym is))

pub returns-in_ok-insert-clause-takes : goal.returns-in_ok-insert-clause-takes
unfolding stated_members
returns-in_ok-insert-clause-takes c =
    let m = c.args.self.now in
    let f = option_map stated_data m.feature in
    let v = c.in_ok-value.value in
    let copied : string_bytes c.in_ok-name.name ≡ c.args.name.now = search rules in
    let others = members_view m.others.entries in
    let inserted = ap members_view c.in_ok-insert.ensures.entries ∙ members_view-insert_entry m.others.entries c.in_ok-name.name v
    ∙ ap (λ name. put name (view v) others) copied in
    let other = apart_by c.args.name.now (codes "feature") (sym c.eq.ensures ∙ c.if-eq.false) in
    (view v, c.in_ok-value.ensures.takes, ap (with_found (codes "feature") f) inserted ∙ another_put f c.args.name.now other (view v) others)
