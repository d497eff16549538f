use Rattle.std.proofs.Common.{ap}
use Rattle.serde_json.specs.View.{members_view}
use Rattle.streetmap_batch.specs.EditMembers.{stated_members}
use Rattle.streetmap_batch.proofs.edit_members.EditMembers.none.Goals as goal

pub returns : goal.returns
unfolding stated_members
returns c = ap members_view c.new.ensures.empty
