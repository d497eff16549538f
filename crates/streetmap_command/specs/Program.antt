-- The command line, as `clap` reads it.
use Rattle.std.specs.Prelude.{◌||◌, not}
use Rattle.std.specs.Prelude.{◌≡◌, [], ◌∷◌, ℕ, Bool, false, codes, decimal, List, Option, Some}
use Rattle.std.specs.Prelude.{None, length, unwrap_or, option_map, option_and_then, if◌then◌else◌}
use Rattle.std.specs.Prelude.{nat_lt, nat_le, true, ◌&&◌, ◌++◌}
use Rattle.std.specs.List.{list_any}
use Rattle.std.specs.Str.{bytes_eq, all_ascii_digits}
use Rattle.std.specs.Str.Parse.{digits_value}
use Rattle.clap.specs.Words.{App, Rule, Row, Text, Kinds, IsAmong, new_app, new_rule, with_rule}
use Rattle.clap.specs.Words.{with_subcommand, first_of, fault_of, subcommand_of}
use Rattle.clap.specs.declared.error.kind.ErrorKind.{ErrorKind}
use Rattle.clap.specs.declared.error.kind.ErrorKind.TheVariants as kinds
use Rattle.clap.specs.declared.builder.action.ArgAction.TheVariants.{Set, SetTrue}
use Rattle.streetmap_command.specs.Topics.{topic_of, help_called}
use Rattle.streetmap_command.specs.declared.help.Topic.{Topic}
use Rattle.streetmap_command.specs.declared.help.Topic.TheVariants as topics

-- a positional value that is required
abbrev pub positional : Text → Rule
positional name = record (new_rule name) { required = true; action = Some Set }

abbrev pub file : Rule
file = positional (codes "file")

-- a positional value, which may be omitted
abbrev pub optional : Text → Rule
optional name = record (new_rule name) { action = Some Set }

-- an option with a value, which may be omitted
abbrev pub option : Text → Rule
option name = record (new_rule name) { long = Some name; action = Some Set }

abbrev pub required_option : Text → Rule
required_option name = record (option name) { required = true }

-- an option without a value, which may be omitted
abbrev pub flag : Text → Rule
flag name = record (new_rule name) { long = Some name; action = Some SetTrue }

-- the option `--explain`, which each command has
abbrev pub explain : Rule
explain = flag (codes "explain")

-- a command over FILE
abbrev pub over_file : Text → App
over_file name = with_rule (with_rule (new_app name) explain) file

abbrev pub lines : App
lines = with_rule (new_app (codes "lines")) explain

abbrev pub create : App
create = over_file (codes "create")

-- a command with the options that say which batches are refused
abbrev pub with_guard : App → App
with_guard a = with_rule (with_rule a (flag (codes "fenced"))) (option (codes "follower"))

-- a command with the options that say what answers show beside the eight paths: tags, changes and
-- the status
abbrev pub with_shown : App → App
with_shown a = with_rule (with_rule (with_rule a (flag (codes "conditional")))
    (flag (codes "changes"))) (flag (codes "status"))

abbrev pub pipe : App
pipe = with_guard (with_shown (with_rule (over_file (codes "pipe")) (option (codes "base"))))

-- FILE, and the clients that are served
abbrev pub serve_clients : App
serve_clients = with_shown (with_rule (with_rule (with_rule (with_rule
    (with_rule (with_rule (over_file (codes "serve"))
    (required_option (codes "port"))) (option (codes "count"))) (option (codes "clients")))
    (flag (codes "log"))) (option (codes "base"))) (flag (codes "warm")))

-- and a journal of what is accepted, and which batches are refused
abbrev pub serve : App
serve = with_guard (with_rule (with_rule (with_rule serve_clients (option (codes "journal")))
    (option (codes "journal-after"))) (flag (codes "journal-sync")))

-- FILE, TEXT, the key, the collection, whether features are replaced, and whether the progress of
-- the import is reported
abbrev pub import : App
import = with_rule (with_rule (with_rule
    (with_rule (with_rule (over_file (codes "import")) (positional (codes "text")))
    (required_option (codes "key"))) (required_option (codes "collection")))
    (flag (codes "replace"))) (flag (codes "progress"))

abbrev pub export : App
export = with_rule (with_rule (over_file (codes "export"))
    (required_option (codes "collection"))) (flag (codes "progress"))

abbrev pub check : App
check = with_rule (over_file (codes "check")) (flag (codes "replay"))

-- FILE, and the serial after which batches are printed
abbrev pub batches : App
batches = with_rule (over_file (codes "batches")) (option (codes "after"))

-- FILE and TEXT
abbrev pub apply : App
apply = with_rule (over_file (codes "apply")) (optional (codes "text"))

-- a command with these further arguments
abbrev pub with_rules : App → List Rule → App
with_rules a [] = a
with_rules a (r ∷ rs) = with_rules (with_rule a r) rs

-- FILE and TEXT, the key, the collection, how many edits a batch has, and the opening of the
-- collection
abbrev pub load_into : App
load_into = with_rules (over_file (codes "load"))
    (optional (codes "text")
    ∷ required_option (codes "key") ∷ required_option (codes "collection") ∷ option (codes "each")
    ∷ flag (codes "open") ∷ option (codes "title") ∷ option (codes "time") ∷ [])

-- how the numbers of features are read
abbrev pub load_numbers : App
load_numbers = with_rules load_into
    (option (codes "scale") ∷ option (codes "shift") ∷ flag (codes "round")
    ∷ option (codes "fractions") ∷ [])

-- how features are put in, and what is done instead
abbrev pub load : App
load = with_rules load_numbers
    (flag (codes "replace") ∷ flag (codes "skip") ∷ flag (codes "check") ∷ flag (codes "print")
    ∷ flag (codes "progress") ∷ [])

-- a command that has a version, so that `--version` and `-V` request it
abbrev pub versioned : App → App
versioned a = record a { top = record a.top { has_version = true } }

-- the program with its subcommands
abbrev pub program : App
program =
    let none = versioned (new_app (codes "streetmap")) in
    let three = with_subcommand (with_subcommand (with_subcommand none lines.top) create.top)
    pipe.top in
    let five = with_subcommand (with_subcommand three serve.top) import.top in
    let seven = with_subcommand (with_subcommand five export.top) check.top in
    with_subcommand (with_subcommand (with_subcommand seven load.top) batches.top) apply.top

-- the command line that help is on
abbrev pub help_app : Topic → App
help_app topics.Program = program
help_app topics.Lines = lines
help_app topics.Create = create
help_app topics.Pipe = pipe
help_app topics.Serve = serve
help_app topics.Import = import
help_app topics.Export = export
help_app topics.Check = check
help_app topics.Load = load
help_app topics.Batches = batches
help_app topics.Apply = apply

-- the load of a text of features, as it is requested
pub record LoadWords : Type 0 where
  pub text : Option Text
  pub key : Text
  pub collection : Text
  pub each : ℕ
  pub opens : Bool
  pub title : Option Text
  pub time : Option Text
  pub scale : Option Text
  pub shift : Option Text
  pub rounds : Bool
  pub keeps_fractions : Bool
  pub replace : Bool
  pub skip : Bool
  pub check : Bool
  pub print : Bool
  pub progress : Bool
  pub explains : Bool

-- a journal, as it is requested: its file, the serial after which it begins if it has no line,
-- and whether its lines are synchronised before answers
pub record JournalWords : Type 0 where
  pub path : Text
  pub after : ℕ
  pub sync : Bool

-- the connections that are served: the port, how many in all, how many at once, whether each answer
-- has a line, whether indexes are learnt first, whether answers have tags, whether changes are
-- answered, and whether the status is
pub record ConnectionsWords : Type 0 where
  pub port : ℕ
  pub count : Option ℕ
  pub clients : ℕ
  pub log : Bool
  pub warm : Bool
  pub conditional : Bool
  pub changes : Bool
  pub status : Bool

-- which batches are refused: none, all, or those without the token in the file at this path
pub data GuardWords : Type 0 where
  free_guard : GuardWords
  fenced_guard : GuardWords
  follower_guard : (path : Text) → GuardWords

-- what a command line requests
pub data CommandValue : Type 0 where
  help_command : (topic : Topic) → CommandValue
  version_command : CommandValue
  lines_command : CommandValue
  create_command : (file : Text) → CommandValue
  pipe_command : (file base : Text) (conditional changes status : Bool) (guard : GuardWords)
      → CommandValue
  serve_command : (file : Text) (connections : ConnectionsWords) (base : Text)
      (journal : Option JournalWords) (guard : GuardWords) → CommandValue
  import_command : (file text key collection : Text) (replace progress : Bool) → CommandValue
  export_command : (file collection : Text) (progress : Bool) → CommandValue
  check_command : (file : Text) (replay : Bool) → CommandValue
  load_command : (file : Text) (load : LoadWords) → CommandValue
  batches_command : (file : Text) (after : ℕ) → CommandValue
  apply_command : (file : Text) (text : Option Text) → CommandValue

-- the number from 1 to `most` with these decimal digits
abbrev pub number_up_to : ℕ → Text → Option ℕ
number_up_to most text =
    if nat_lt 0 (length text) && all_ascii_digits text && nat_lt 0 (digits_value 10 text)
    && nat_le (digits_value 10 text) most
    then Some (digits_value 10 text) else None

-- the base of links, if none is given
abbrev pub plain_base : Text
plain_base = codes "http://localhost/"

abbrev pub base_at : ℕ → Text
base_at port = codes "http://localhost:" ++ decimal port ++ codes "/"

-- the text that is named; none for standard input, which is read if the name is `-` or not given
abbrev pub text_given : Option Text → Option Text
text_given None = None
text_given (Some text) = if bytes_eq text (codes "-") then None else Some text

-- a port is 1 to 65535
abbrev pub port_given : Option Text → Option ℕ
port_given given = option_and_then (number_up_to 65535) given

-- 1 to 2^32 - 1 connections, or any number of them if none is given
abbrev pub count_given : Option Text → Option (Option ℕ)
count_given None = Some None
count_given (Some text) = option_map Some (number_up_to 4294967295 text)

-- 1 to 1,024 clients at once; if none is given, one after the other if a count is, otherwise 64 at
-- once
abbrev pub clients_given : (count : Option ℕ) → Option Text → Option ℕ
clients_given None None = Some 64
clients_given (Some n) None = Some 1
clients_given count (Some text) = number_up_to 1024 text

abbrev pub create_by : List Row → Option CommandValue
create_by rows = option_map create_command (first_of (codes "file") rows)

-- a flag is set: `clap` gives it the value `true` if it is among the arguments, otherwise `false`
abbrev pub is_set : Option Text → Bool
is_set None = false
is_set (Some value) = bytes_eq value (codes "true")

-- which batches are refused; a server is fenced or a follower, not both
abbrev pub guard_given : (fenced : Bool) (follower : Option Text) → Option GuardWords
guard_given false None = Some free_guard
guard_given true None = Some fenced_guard
guard_given false (Some path) = Some (follower_guard path)
guard_given true (Some path) = None

abbrev pub guard_by : List Row → Option GuardWords
guard_by rows = guard_given (is_set (first_of (codes "fenced") rows))
    (first_of (codes "follower") rows)

abbrev pub pipe_by : List Row → Option CommandValue
pipe_by rows = option_and_then (λ f. option_map (λ g.
    pipe_command f (unwrap_or (first_of (codes "base") rows) plain_base)
    (is_set (first_of (codes "conditional") rows)) (is_set (first_of (codes "changes") rows))
    (is_set (first_of (codes "status") rows)) g)
    (guard_by rows)) (first_of (codes "file") rows)

-- the serial after which something begins, up to 2^32 - 1; 0 if none is given
abbrev pub after_given : Option Text → Option ℕ
after_given None = Some 0
after_given (Some text) = if bytes_eq text (codes "0") then Some 0 else number_up_to 4294967295 text

-- a journal, or none: its other options require it
abbrev pub journal_given : (path after : Option Text) (sync : Bool)
    → Option (Option JournalWords)
journal_given (Some path) after sync =
    option_map (λ n. Some (record { path = path; after = n; sync = sync })) (after_given after)
journal_given None None false = Some None
journal_given None None true = None
journal_given None (Some text) sync = None

abbrev pub journal_by : List Row → Option (Option JournalWords)
journal_by rows = journal_given (first_of (codes "journal") rows)
    (first_of (codes "journal-after") rows) (is_set (first_of (codes "journal-sync") rows))

-- the connections, from the port, count, clients and flags that are given
abbrev pub connections_given :
    (port count clients log warm conditional changes status : Option Text)
    → Option ConnectionsWords
connections_given port count clients log warm conditional changes status =
    option_and_then (λ p. option_and_then (λ n. option_map (λ c. record {
      port = p;
      count = n;
      clients = c;
      log = is_set log;
      warm = is_set warm;
      conditional = is_set conditional;
      changes = is_set changes;
      status = is_set status;
    }) (clients_given n clients)) (count_given count)) (port_given port)

abbrev pub connections_by : List Row → Option ConnectionsWords
connections_by rows = connections_given (first_of (codes "port") rows)
    (first_of (codes "count") rows) (first_of (codes "clients") rows)
    (first_of (codes "log") rows) (first_of (codes "warm") rows)
    (first_of (codes "conditional") rows) (first_of (codes "changes") rows)
    (first_of (codes "status") rows)

-- the command `serve`, from the file, connections, journal, guard and base that are given
abbrev pub serve_given : (file : Option Text) (connections : Option ConnectionsWords)
    (journal : Option (Option JournalWords)) (guard : Option GuardWords) (base : Option Text)
    → Option CommandValue
serve_given file connections journal guard base =
    option_and_then (λ f. option_and_then (λ c. option_and_then (λ j. option_map (λ g.
    serve_command f c (unwrap_or base (base_at c.port)) j g) guard) journal) connections) file

abbrev pub serve_by : List Row → Option CommandValue
serve_by rows = serve_given (first_of (codes "file") rows) (connections_by rows)
    (journal_by rows) (guard_by rows) (first_of (codes "base") rows)

-- the command `import`, from the file, text, key, collection and flags that are given
abbrev pub import_given : (file text key collection replace progress : Option Text)
    → Option CommandValue
import_given file text key collection replace progress =
    option_and_then (λ f. option_and_then (λ t.
    option_and_then (λ k. option_map (λ c.
    import_command f t k c (is_set replace) (is_set progress)) collection) key) text) file

abbrev pub import_by : List Row → Option CommandValue
import_by rows = import_given (first_of (codes "file") rows) (first_of (codes "text") rows)
    (first_of (codes "key") rows) (first_of (codes "collection") rows)
    (first_of (codes "replace") rows) (first_of (codes "progress") rows)

-- the command `export`, from the file, collection and flag that are given
abbrev pub export_given : (file collection progress : Option Text) → Option CommandValue
export_given file collection progress = option_and_then (λ f.
    option_map (λ c. export_command f c (is_set progress)) collection) file

abbrev pub export_by : List Row → Option CommandValue
export_by rows = export_given (first_of (codes "file") rows) (first_of (codes "collection") rows)
    (first_of (codes "progress") rows)

abbrev pub check_by : List Row → Option CommandValue
check_by rows = option_map (λ f. check_command f (is_set (first_of (codes "replay") rows)))
    (first_of (codes "file") rows)

-- 1 to 10,000 edits a batch, or 1,000 if no number is given
abbrev pub each_given : Option Text → Option ℕ
each_given None = Some 1000
each_given (Some text) = number_up_to 10000 text

-- fractions stay numbers, or are kept as texts
abbrev pub fractions_given : Option Text → Option Bool
fractions_given None = Some false
fractions_given (Some text) = if bytes_eq text (codes "text") then Some true else None

-- the load that is given, with this key, this collection, this number of edits a batch, and whether
-- fractions are kept as texts
abbrev pub load_words : List Row → Text → Text → ℕ → Bool → LoadWords
load_words rows key collection each keeps = record {
  text = text_given (first_of (codes "text") rows);
  key = key;
  collection = collection;
  each = each;
  opens = is_set (first_of (codes "open") rows);
  title = first_of (codes "title") rows;
  time = first_of (codes "time") rows;
  scale = first_of (codes "scale") rows;
  shift = first_of (codes "shift") rows;
  rounds = is_set (first_of (codes "round") rows);
  keeps_fractions = keeps;
  replace = is_set (first_of (codes "replace") rows);
  skip = is_set (first_of (codes "skip") rows);
  check = is_set (first_of (codes "check") rows);
  print = is_set (first_of (codes "print") rows);
  progress = is_set (first_of (codes "progress") rows);
  explains = is_set (first_of (codes "explain") rows);
}

abbrev pub is_given : Option Text → Bool
is_given None = false
is_given (Some text) = true

-- a title and a time come only with an opening, and `check` not with `print`
abbrev pub agrees : LoadWords → Bool
agrees w = (w.opens || (not (is_given w.title) && not (is_given w.time)))
    && not (w.check && w.print)

abbrev pub load_of : Text → LoadWords → Option CommandValue
load_of file words = if agrees words then Some (load_command file words) else None

abbrev pub options_given : List Row → Option LoadWords
options_given rows =
    option_and_then (λ k. option_and_then (λ c. option_and_then (λ n.
    option_map (λ b. load_words rows k c n b) (fractions_given (first_of (codes "fractions") rows)))
    (each_given (first_of (codes "each") rows)))
    (first_of (codes "collection") rows)) (first_of (codes "key") rows)

abbrev pub load_by : List Row → Option CommandValue
load_by rows = option_and_then (λ f. option_and_then (λ w. load_of f w) (options_given rows))
    (first_of (codes "file") rows)

abbrev pub batches_by : List Row → Option CommandValue
batches_by rows = option_and_then (λ f. option_map (λ n. batches_command f n)
    (after_given (first_of (codes "after") rows))) (first_of (codes "file") rows)

abbrev pub apply_by : List Row → Option CommandValue
apply_by rows = option_map (λ f. apply_command f (text_given (first_of (codes "text") rows)))
    (first_of (codes "file") rows)

-- the command, from the subcommand's name and its arguments
abbrev pub command_named : Text → List Row → Option CommandValue
command_named name rows =
    if bytes_eq name (codes "lines") then Some lines_command
    else (if bytes_eq name (codes "create") then create_by rows
    else (if bytes_eq name (codes "pipe") then pipe_by rows
    else (if bytes_eq name (codes "serve") then serve_by rows
    else (if bytes_eq name (codes "import") then import_by rows
    else (if bytes_eq name (codes "export") then export_by rows
    else (if bytes_eq name (codes "check") then check_by rows
    else (if bytes_eq name (codes "load") then load_by rows
    else (if bytes_eq name (codes "batches") then batches_by rows
    else (if bytes_eq name (codes "apply") then apply_by rows else None)))))))))

abbrev pub command_by : Option (Text × List Row) → Option CommandValue
command_by found = option_and_then (λ p. command_named p.0 p.1) found

-- the command that a fault of `clap` represents: a request for the version or for help
abbrev pub request_of : ErrorKind → List Text → Option CommandValue
request_of kinds.DisplayVersion words = Some version_command
request_of kinds.DisplayHelp words = Some (help_command (topic_of words))
request_of _ words = None

-- `clap` finds no fault in the arguments, and this is the command that they request; or this is the
-- request that one of the faults that it finds represents
abbrev pub FindsCommand : Kinds → List Text → CommandValue → Type 0
FindsCommand [] words command = Some command ≡ command_by (subcommand_of program words)
FindsCommand (k ∷ ks) words command =
    (x : ErrorKind) × (IsAmong x (k ∷ ks) × (Some command ≡ request_of x words))

-- the arguments request help without an option, and this is the request; or `clap` reads them
abbrev pub FindsHelp : Option (Option Topic) → List Text → CommandValue → Type 0
FindsHelp (Some topic) words command = Some command ≡ option_map help_command topic
FindsHelp None words command = FindsCommand (fault_of program words) words command

-- this is the command of these arguments, of which the first is the program's name
abbrev pub IsCommandOf : List Text → CommandValue → Type 0
IsCommandOf words command = FindsHelp (help_called words) words command

-- what `clap` finds that the arguments request, by the faults that it finds: nothing if it finds
-- one that is not a request, or several
abbrev pub requested_by_faults : Kinds → List Text → Option CommandValue
requested_by_faults [] words = command_by (subcommand_of program words)
requested_by_faults (k ∷ []) words = request_of k words
requested_by_faults (k ∷ l ∷ ks) words = None

abbrev pub requested_or_help : Option (Option Topic) → List Text → Option CommandValue
requested_or_help (Some topic) words = option_map help_command topic
requested_or_help None words = requested_by_faults (fault_of program words) words

-- what the arguments request, of which the first is the program's name: nothing if `clap` does not
-- accept them, or if they name no command
abbrev pub requested_by : List Text → Option CommandValue
requested_by words = requested_or_help (help_called words) words

-- the arguments include the option `--explain`
abbrev pub is_explained : List Text → Bool
is_explained words = list_any (λ word. bytes_eq word (codes "--explain")) words

-- these arguments after the program's name, and `--help` or `-h` after them, request help
abbrev pub RequestsHelp : List Text → Topic → Type 0
RequestsHelp words topic =
    (requested_by (codes "streetmap" ∷ (words ++ codes "--help" ∷ [])) ≡ Some (help_command topic))
    × (requested_by (codes "streetmap" ∷ (words ++ codes "-h" ∷ [])) ≡ Some (help_command topic))
