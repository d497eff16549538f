-- Arguments and subcommands added to a command, one after the other.
use Rattle.std.proofs.Common.{◌≡◌, ◌∙◌, ◌||◌}
