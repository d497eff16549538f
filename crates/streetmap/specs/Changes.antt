-- What a command leaves in FILE: of a file that held the tables of a state, each image that a crash
-- may leave afterwards holds a state, and which one it may be is said here.
use Rattle.std.specs.Prelude.{◌≡◌, ◌⊎◌, ℕ, ◌+◌, List, ◌++◌, length, All, IfSome, Option, None}
use Rattle.std.specs.Prelude.{Result, Ok, Err, IsOk, Bool, true, false}
use Rattle.streetmap_batch.specs.Text.{Text}
use Rattle.streetmap_batch.specs.BatchValue.{BatchValue}
use Rattle.streetmap_ledger.specs.State.{State}
use Rattle.streetmap_ledger.specs.Batches.{Outcome, act, after_all}
use Rattle.streetmap_ledger.specs.Laws.{IsAcknowledged}
use Rattle.streetmap_ledger.specs.declared.reply.Fault.TheVariants as keeper
use Rattle.streetmap_ledger.specs.declared.reply.Reply.TheVariants as replies
use Rattle.streetmap_exchange.specs.declared.fault.ImportFault.TheVariants as imports
use Rattle.streetmap_replay.specs.Lines.{Line}
use Rattle.streetmap_replay.specs.JournalText.{text_of_lines}
use Rattle.streetmap_replay.specs.FollowedLines.{follow, line_outcome}
use Rattle.streetmap_replay.specs.Ends.{IsInputLine}
use Rattle.streetmap_packing.specs.Packs.{Packs}
use Rattle.streetmap_loading.specs.Places.{PlacedValue, edits_of}
use Rattle.streetmap_loading.specs.Sources.{Item}
use Rattle.streetmap_loading.specs.Loads.{items_of}
use Rattle.streetmap_loading.specs.Ends.{AreLeft, IsNext}
use Rattle.streetmap_loading.specs.KeeperLoads.{AreAcknowledged}
use Rattle.streetmap_faults.specs.declared.fault.ProgramFault.{ProgramFault}
use Rattle.streetmap_faults.specs.declared.fault.ProgramFault.TheVariants.{Import, WriteFailed}

-- each image that a crash may leave holds a state, and one of these
abbrev pub HoldOneOf : {Image : Type 0} → (holds : Image → State → Type 0)
    → (leaves : Image → Type 0) → (State → Type 0) → Type 0
HoldOneOf {Image} holds leaves Is =
    (image : Image) → leaves image → (t : State) × holds image t × Is t

-- how a command ended
abbrev pub Done : Type 0
Done = Result (Unit {0}) ProgramFault

-- An import of a batch into the state s leaves t. If it is done the batch was accepted, now or
-- before; so it was if its reply was not printed. If the store failed the batch is in the file or
-- not. Otherwise it is not.
abbrev pub Imported : (s : State) → BatchValue → Done → (t : State) → Type 0
Imported s b (Ok done) t = IsAcknowledged (act s b).reply × (t ≡ (act s b).state)
Imported s b (Err WriteFailed) t = IsAcknowledged (act s b).reply × (t ≡ (act s b).state)
Imported s b (Err (Import (imports.Stopped keeper.Device))) t = (t ≡ s) ⊎ (t ≡ (act s b).state)
Imported s b (Err (Import (imports.Refused why place))) t =
    ((act s b).reply ≡ replies.Refused why place) × (t ≡ s)
Imported s b (Err why) t = t ≡ s

-- these edits are the first that the text has, if it is known
abbrev pub AreFirst : Option (List Item) → List PlacedValue → Type 0
AreFirst text read = IfSome text (λ items. (rest : List Item) × (items ≡ items_of read ++ rest))

-- they are all that it has
abbrev pub AreAll : Option (List Item) → List PlacedValue → Type 0
AreAll text read = IfSome text (λ items. items ≡ items_of read)

-- these batches are those of the edits, or those that are complete whatever follows the edits
abbrev pub ArePacked : (each : ℕ) (key : Text) → List PlacedValue → List BatchValue → Type 0
ArePacked each key read sent = Packs each key (edits_of read) sent
    ⊎ ((left : List PlacedValue) × AreLeft each key read sent left)

-- the state after these batches and the next one
abbrev pub IsAfterNext : (s : State) (each : ℕ) (key : Text) → List PlacedValue
    → List BatchValue → (t : State) → Type 0
IsAfterNext s each key read sent t = (left : List PlacedValue) × AreLeft each key read sent left
    × ((b : BatchValue) × IsNext key (1 + length sent) (edits_of left) b
    × (t ≡ (act (after_all s sent) b).state))

-- A load into the state s leaves t: the batches of the first edits of the text were accepted one
-- after the other, now or before; if the store failed at the next one, that is in the file or not.
-- If the load is done these edits are all that the text has.
pub record Loaded (s : State) (each : ℕ) (key : Text) (text : Option (List Item)) (done : Done)
    (t : State) : Type 0 where
  pub read : List PlacedValue
  pub first : AreFirst text read
  pub sent : List BatchValue
  pub packed : ArePacked each key read sent
  pub acknowledged : AreAcknowledged s sent
  pub state : (t ≡ after_all s sent) ⊎ IsAfterNext s each key read sent t
  pub all : IsOk done →
      (t ≡ after_all s sent) × Packs each key (edits_of read) sent × AreAll text read

-- no feature is skipped, if it is known how many are
abbrev pub SkipsNone : Option ℕ → Type 0
SkipsNone known = IfSome known (λ n. n ≡ 0)

-- Lines of batches that are applied to the state s leave t: the first of them were followed, one
-- after the other; if the store failed at the next one, or its reply was not printed, that is in
-- the file or not. If the command is done these are all lines of the text, if it is known.
pub record Applied (s : State) (text : Option Text) (done : Done) (t : State) : Type 0 where
  pub read : List Line
  pub lines : All IsInputLine read
  pub first : IfSome text (λ bytes. (left : Text) × (bytes ≡ text_of_lines read ++ left))
  pub followed : (follow s read).fault ≡ None
  pub state : (t ≡ (follow s read).state) ⊎ ((line : Line) × (o : Outcome)
      × (line_outcome (follow s read).state line ≡ Ok o) × (t ≡ o.state))
  pub all : IsOk done → (t ≡ (follow s read).state)
      × IfSome text (λ bytes. bytes ≡ text_of_lines read)

-- a load that only checks or prints the text leaves the state
abbrev pub LoadedUnless : (reads : Bool) → (s : State) → (each : ℕ) → (key : Text)
    → Option (List Item) → Done → (t : State) → Type 0
LoadedUnless true s each key text done t = t ≡ s
LoadedUnless false s each key text done t = Loaded s each key text done t
