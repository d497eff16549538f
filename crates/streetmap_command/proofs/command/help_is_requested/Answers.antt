use Rattle.std.proofs.Common.{refl}
use Rattle.std.specs.Char.{encode_utf8}
use Rattle.std.specs.Str.{chars}
use Rattle.clap.specs.Faults.{flags_fault, walk_fault, defaults_fault}
use Rattle.clap.specs.Walk.{bundle_met, walked}
use Rattle.streetmap_command.proofs.command.help_is_requested.Goals as goal

pub returns : goal.returns
unfolding walk_fault walked flags_fault bundle_met defaults_fault chars encode_utf8
returns c = record {
  program = (refl, refl);
  lines = (refl, refl);
  create = (refl, refl);
  pipe = (refl, refl);
  serve = (refl, refl);
  import = (refl, refl);
  export = (refl, refl);
  check = (refl, refl);
  load = (refl, refl);
  batches = (refl, refl);
  apply = (refl, refl);
}
