-- A command as a value.
use Rattle.std.specs.Prelude.{string_bytes}
use Rattle.streetmap_command.specs.declared.command.Command.{Command}
use Rattle.streetmap_command.specs.declared.command.Command.TheVariants.{Help, Version}
use Rattle.streetmap_command.specs.declared.command.Command.TheVariants.{Lines, Create}
use Rattle.streetmap_command.specs.declared.command.Command.TheVariants.{Pipe, Serve}
use Rattle.streetmap_command.specs.declared.command.Command.TheVariants.{Import, Export, Check}
use Rattle.streetmap_command.specs.declared.command.Command.TheVariants.{Load, Batches, Apply}
use Rattle.streetmap_command.specs.declared.command.Connections.{Connections}
use Rattle.streetmap_command.specs.declared.words.LoadArguments.{LoadArguments}
use Rattle.streetmap_command.specs.declared.words.JournalArguments.{JournalArguments}
use Rattle.streetmap_command.specs.declared.words.GuardArgument.{GuardArgument}
use Rattle.streetmap_command.specs.declared.words.GuardArgument.TheVariants as guards
use Rattle.std.specs.Prelude.{option_map}
use Rattle.streetmap_command.specs.Program.{CommandValue, help_command, version_command}
use Rattle.streetmap_command.specs.Program.{lines_command}
use Rattle.streetmap_command.specs.Program.{create_command, pipe_command, serve_command}
use Rattle.streetmap_command.specs.Program.{import_command, export_command, check_command}
use Rattle.streetmap_command.specs.Program.{load_command, batches_command, apply_command}
use Rattle.streetmap_command.specs.Program.{LoadWords, JournalWords, ConnectionsWords}
use Rattle.streetmap_command.specs.Program.{GuardWords, free_guard, fenced_guard, follower_guard}

-- the options of a load as values
abbrev pub load_value : LoadArguments → LoadWords
load_value l = record {
  text = option_map (λ s. s.now) l.text;
  key = l.key.now;
  collection = l.collection.now;
  each = l.each;
  opens = l.opens;
  title = option_map (λ s. s.now) l.title;
  time = option_map (λ s. s.now) l.time;
  scale = option_map (λ s. s.now) l.scale;
  shift = option_map (λ s. s.now) l.shift;
  rounds = l.rounds;
  keeps_fractions = l.keeps_fractions;
  replace = l.replace;
  skip = l.skip;
  check = l.check;
  print = l.print;
  progress = l.progress;
  explains = l.explains;
}

-- a journal as a value
abbrev pub journal_value : JournalArguments → JournalWords
journal_value j = record { path = j.path.now; after = j.after; sync = j.sync }

-- a guard as a value
abbrev pub guard_value : GuardArgument → GuardWords
guard_value guards.Free = free_guard
guard_value guards.Fenced = fenced_guard
guard_value (guards.Follower path) = follower_guard path.now

-- connections as a value
abbrev pub connections_value : Connections → ConnectionsWords
connections_value c = record {
  port = c.port;
  count = c.count;
  clients = c.clients;
  log = c.log;
  warm = c.warm;
  conditional = c.conditional;
  changes = c.changes;
  status = c.status;
}

abbrev pub command_value : Command → CommandValue
command_value (Help topic) = help_command topic
command_value Version = version_command
command_value Lines = lines_command
command_value (Create file) = create_command file.now
command_value (Pipe file base conditional changes status guard) =
    pipe_command file.now (string_bytes base) conditional changes status (guard_value guard)
command_value (Serve file c base journal guard) =
    serve_command file.now (connections_value c) (string_bytes base)
    (option_map journal_value journal) (guard_value guard)
command_value (Import file i) =
    import_command file.now i.text.now i.key.now i.collection.now i.replace i.progress
command_value (Export file collection progress) = export_command file.now collection.now progress
command_value (Check file replay) = check_command file.now replay
command_value (Load file load) = load_command file.now (load_value load)
command_value (Batches file after) = batches_command file.now after
command_value (Apply file text) = apply_command file.now (option_map (λ s. s.now) text)
