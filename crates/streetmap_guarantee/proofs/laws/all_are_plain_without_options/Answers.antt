use Rattle.streetmap_guarantee.proofs.WithoutOptions.{all_are_plain}
use Rattle.streetmap_guarantee.proofs.laws.all_are_plain_without_options.Goals as goal

pub returns : goal.returns
returns c = all_are_plain
