-- What arguments request help on.
use Rattle.std.specs.Prelude.{[], ◌∷◌, codes, List, Option, Some, None, unwrap_or, if◌then◌else◌}
use Rattle.std.specs.Str.{bytes_eq}
use Rattle.clap.specs.Words.{Text}
use Rattle.streetmap_command.specs.declared.help.Topic.{Topic}
use Rattle.streetmap_command.specs.declared.help.Topic.TheVariants.{Program, Lines, Create, Pipe}
use Rattle.streetmap_command.specs.declared.help.Topic.TheVariants.{Serve, Import, Export, Check}
use Rattle.streetmap_command.specs.declared.help.Topic.TheVariants.{Load, Batches, Apply}

-- the command that an argument names
abbrev pub topic_named : Text → Option Topic
topic_named word =
    if bytes_eq word (codes "lines") then Some Lines
    else (if bytes_eq word (codes "create") then Some Create
    else (if bytes_eq word (codes "pipe") then Some Pipe
    else (if bytes_eq word (codes "serve") then Some Serve
    else (if bytes_eq word (codes "import") then Some Import
    else (if bytes_eq word (codes "export") then Some Export
    else (if bytes_eq word (codes "check") then Some Check
    else (if bytes_eq word (codes "load") then Some Load
    else (if bytes_eq word (codes "batches") then Some Batches
    else (if bytes_eq word (codes "apply") then Some Apply else None)))))))))

-- what the arguments after `help` name: the program, or one command
abbrev pub topic_after : List Text → Option Topic
topic_after [] = Some Program
topic_after (word ∷ []) = topic_named word
topic_after (word ∷ next ∷ rest) = None

-- the help that arguments request without an option, or nothing if they would but name no command;
-- none for other arguments. The first is the program's name
abbrev pub help_called : List Text → Option (Option Topic)
help_called [] = Some (Some Program)
help_called (name ∷ []) = Some (Some Program)
help_called (name ∷ word ∷ rest) =
    if bytes_eq word (codes "help") then Some (topic_after rest) else None

-- the topic of the help that an option requests: the command that the first argument after the
-- program's name names, or else the program
abbrev pub topic_of : List Text → Topic
topic_of [] = Program
topic_of (name ∷ []) = Program
topic_of (name ∷ word ∷ rest) = unwrap_or (topic_named word) Program
