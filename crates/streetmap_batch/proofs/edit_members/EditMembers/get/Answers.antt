use Rattle.std.proofs.Common.{option_map, sym, ◌∙◌}
use Rattle.serde_json.specs.View.{members_view}
use Rattle.streetmap_feature_reader.specs.StatedFeature.{stated_data}
use Rattle.streetmap_batch.specs.EditMembers.{stated_members}
use Rattle.streetmap_batch.proofs.MemberFacts.{another_kept}
use Rattle.streetmap_batch.proofs.edit_members.EditMembers.get.Goals as goal

pub returns : goal.returns
unfolding stated_members
returns c =
    let m = c.args.self.now in
    c.member_at.ensures ∙ sym (another_kept (option_map stated_data m.feature) c.args.name.now c.requires (members_view m.others.entries))
