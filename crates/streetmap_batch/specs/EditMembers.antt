-- What is read of an edit while its tokens are read.
use Rattle.std.specs.Prelude.{◌≡◌, codes, Option, None, MatchOption, option_map}
use Rattle.serde_json.specs.Data.{Data, object, Members}
use Rattle.serde_json.specs.Find.{as_object}
use Rattle.serde_json.specs.View.{members_view}
use Rattle.streetmap_feature_reader.specs.Places.{with_found}
use Rattle.streetmap_feature_reader.specs.StatedFeature.{stated_data}
use Rattle.streetmap_batch.specs.declared.edit_members.EditMembers.{EditMembers}

-- all the members, of which the feature is kept apart
unfoldable pub stated_members : EditMembers → Members
stated_members m = with_found (codes "feature") (option_map stated_data m.feature)
    (members_view m.others.entries)

-- the members of an object; none of a value that is not an object
abbrev pub IsObjectRead : Data → Option EditMembers → Type 0
IsObjectRead d stated = MatchOption stated (as_object d ≡ None)
    (λ members. d ≡ object (stated_members members))
