-- What the arguments request.
use Rattle.std.proofs.Common.{◌≡◌, ◌∷◌, ◌⊎◌, inl, inr, List, [], true, Option, None, Some}
use Rattle.std.proofs.Common.{IsSome, Result, Ok, Err, IfOk, IfErr, refl, sym, subst}
use Rattle.std.proofs.lemmas.Bool.{false≢true}
use Rattle.clap.specs.Words.{App, Row, Text, FailsBy, HasKind, HasMatchesOf, IsAmong, Kinds, fault_of}
use Rattle.clap.specs.Words.{is_simple_and_free, kind_of, subcommand_of, subcommand_rows_of}
use Rattle.clap.specs.declared.error.Error.{Error}
use Rattle.clap.specs.declared.error.kind.ErrorKind.{ErrorKind}
use Rattle.clap.specs.declared.error.kind.ErrorKind.TheVariants.{OutOfMemory}
use Rattle.clap.specs.declared.parser.matches.ArgMatches.{ArgMatches}
use Rattle.streetmap_command.specs.declared.command.Command.{Command}
use Rattle.streetmap_command.specs.declared.command.CommandFault.{CommandFault}
use Rattle.streetmap_command.specs.declared.command.CommandFault.TheVariants.{Memory}
use Rattle.streetmap_command.specs.CommandView.{command_value}
use Rattle.streetmap_command.specs.Program.{CommandValue, program, requested_by_faults}
use Rattle.streetmap_command.specs.Program.{command_by, request_of, FindsCommand}

-- ---- `clap` found no fault

-- what was found is what the arguments request
pub found_requested : (a : App) (words : List Text) (m : ArgMatches) → a ≡ program → HasMatchesOf a words m → subcommand_rows_of m ≡ subcommand_of program words
found_requested a words m e h =
    let P : App → Type 0 = λ x. HasMatchesOf x words m in
    (subst P e h refl).1

pub read_requested : (r : Result Command CommandFault) (words : List Text) (found : Option (Text × List Row)) → found ≡ subcommand_of program words
    → fault_of program words ≡ [] → IfOk r (λ c. Some (command_value c) ≡ command_by found)
    → IfOk r (λ c. FindsCommand (fault_of program words) words (command_value c))
read_requested (Ok c) words found eq none h =
    let P : Option (Text × List Row) → Type 0 = λ f. Some (command_value c) ≡ command_by f in
    let Q : Kinds → Type 0 = λ ks. FindsCommand ks words (command_value c) in
    subst Q (sym none) (subst P eq h)
read_requested (Err e) words found eq none h = tt

pub refused_requested : {T : Type 0} (r : Result T CommandFault) (words : List Text) (found : Option (Text × List Row)) → found ≡ subcommand_of program words
    → fault_of program words ≡ [] → IfErr r (λ e. IsSome (command_by found) → e ≡ Memory)
    → IfErr r (λ e. IsSome (requested_by_faults (fault_of program words) words) → e ≡ Memory)
refused_requested (Ok x) words found eq none h = tt
refused_requested (Err e) words found eq none h =
    let P : Option (Text × List Row) → Type 0 = λ f. IsSome (command_by f) in
    let Q : Kinds → Type 0 = λ ks. IsSome (requested_by_faults ks words) in
    λ s. h (subst P (sym eq) (subst Q none s))

-- arguments that were parsed have no fault
pub parsed_faultless : (a : App) (words : List Text) (m : ArgMatches) → a ≡ program → (is_simple_and_free a ≡ true → FailsBy (fault_of a words) (Ok m)) → fault_of program words ≡ []
parsed_faultless a words m e h =
    let P : App → Type 0 = λ x. is_simple_and_free x ≡ true → FailsBy (fault_of x words) (Ok m) in
    subst P e h refl

-- ---- `clap` found a fault

has_kind : (words : List Text) (e : Error) (a : App) → a ≡ program → (is_simple_and_free a ≡ true → HasKind (fault_of a words) e) → HasKind (fault_of program words) e
has_kind words e a is h =
    let P : App → Type 0 = λ x. is_simple_and_free x ≡ true → HasKind (fault_of x words) e in
    subst P is h refl

-- a request that is answered is among the faults that are found
among : (kinds : Kinds) (k : ErrorKind) (words : List Text) (command : CommandValue) → (k ≡ OutOfMemory) ⊎ IsAmong k kinds
    → Some command ≡ request_of k words → FindsCommand kinds words command
among kinds k words command (inl memory) found =
    let P : ErrorKind → Type 0 = λ x. Some command ≡ request_of x words in
    absurd (let no : Some command ≡ None = subst P memory found in cc)
among [] k words command (inr h) found = absurd h
among (x ∷ xs) k words command (inr h) found = (k, (h, found))

pub request_found : (r : Result Command CommandFault) (words : List Text) (e : Error) (a : App) → a ≡ program
    → (is_simple_and_free a ≡ true → HasKind (fault_of a words) e)
    → IfOk r (λ c. Some (command_value c) ≡ request_of (kind_of e) words)
    → IfOk r (λ c. FindsCommand (fault_of program words) words (command_value c))
request_found (Ok c) words e a is h found = among (fault_of program words) (kind_of e) words (command_value c) (has_kind words e a is h) found
request_found (Err x) words e a is h found = tt

-- arguments with a fault request something only if the fault is a request, which `clap` then
-- returns, unless memory ran out
requested : (words : List Text) (kinds : Kinds) (k : ErrorKind) → (k ≡ OutOfMemory) ⊎ IsAmong k kinds
    → IsSome (requested_by_faults kinds words) → (k ≡ OutOfMemory) ⊎ IsSome (request_of k words)
requested words kinds k (inl memory) s = inl memory
requested words [] k (inr h) s = absurd h
requested words (x ∷ []) k (inr (inl same)) s =
    let P : ErrorKind → Type 0 = λ y. IsSome (request_of y words) in
    inr (subst P (sym same) s)
requested words (x ∷ []) k (inr (inr h)) s = absurd h
requested words (x ∷ y ∷ ks) k (inr h) s = absurd (false≢true s)

refused_by : (r : Result Command CommandFault) (f : CommandFault) (A B : Type 0) → r ≡ Err f → A ⊎ B → (A → r ≡ Err Memory) → (B → ⊥) → f ≡ Memory
refused_by r f A B is (inl a) memory never = let same = memory a in cc
refused_by r f A B is (inr b) memory never = absurd (never b)

pub request_refused : (r : Result Command CommandFault) (words : List Text) (e : Error) (a : App) → a ≡ program
    → (is_simple_and_free a ≡ true → HasKind (fault_of a words) e)
    → (kind_of e ≡ OutOfMemory → r ≡ Err Memory) → IfErr r (λ f. IsSome (request_of (kind_of e) words) → ⊥)
    → IfErr r (λ f. IsSome (requested_by_faults (fault_of program words) words) → f ≡ Memory)
request_refused (Ok x) words e a is h memory never = tt
request_refused (Err f) words e a is h memory never = λ s.
    refused_by (Err f) f (kind_of e ≡ OutOfMemory) (IsSome (request_of (kind_of e) words)) refl
    (requested words (fault_of program words) (kind_of e) (has_kind words e a is h) s) memory never
