use Rattle.std.proofs.Common.{option_map}
use Rattle.serde_json.specs.View.{members_view}
use Rattle.streetmap_feature_reader.specs.StatedFeature.{stated_data}
use Rattle.streetmap_batch.specs.EditMembers.{stated_members}
use Rattle.streetmap_batch.proofs.MemberFacts.{feature_found}
use Rattle.streetmap_batch.proofs.edit_members.EditMembers.into_feature.Goals as goal

pub returns : goal.returns
unfolding stated_members
returns c =
    let m = c.args.self in
    feature_found (option_map stated_data m.feature) (members_view m.others.entries) m.apart
