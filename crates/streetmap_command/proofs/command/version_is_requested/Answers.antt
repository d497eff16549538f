use Rattle.std.proofs.Common.{refl}
use Rattle.clap.specs.Faults.{flags_fault, walk_fault, defaults_fault}
use Rattle.clap.specs.Walk.{bundle_met, walked}
use Rattle.streetmap_command.proofs.command.version_is_requested.Goals as goal

pub returns : goal.returns
unfolding walk_fault walked flags_fault bundle_met defaults_fault
returns c = refl
