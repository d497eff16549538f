-- The result of following the lines of a reader.
use Rattle.std.specs.Prelude.{◌≡◌, ◌≤◌, ◌<◌, ℕ, List, [], ◌∷◌, ◌++◌, length, All, Option, None}
use Rattle.std.specs.Prelude.{Some}
use Rattle.std.specs.Prelude.{Result, Ok, Err, IfSome}
use Rattle.std.specs.Io.KnownBytes.{Consumes}
use Rattle.streetmap_batch.specs.ParsedBatches.{batch_of}
use Rattle.streetmap_batch.specs.BatchValue.{BatchValue}
use Rattle.streetmap_batch.specs.Text.{Text}
use Rattle.streetmap_batch.specs.declared.batch_fault.BatchFault.{BatchFault}
use Rattle.streetmap_ledger.specs.Batches.{Outcome}
use Rattle.streetmap_ledger.specs.Model.{Model}
use Rattle.streetmap_ledger.specs.State.{State}
use Rattle.streetmap_ledger.specs.declared.reply.Reply.{Reply}
use Rattle.streetmap_replay.specs.FollowedLines.{line_outcome, follow}
use Rattle.streetmap_replay.specs.JournalText.{text_of_lines}
use Rattle.streetmap_replay.specs.Lines.{Line, line_bytes, IsJournalLine}
use Rattle.streetmap_text_lines.specs.Lines.{first_too_long}
use Rattle.streetmap_text_lines.specs.LineReads.{HasNoLineFeed, WhereKnown}
use Rattle.streetmap_text_lines.specs.declared.fault.LineFault.TheVariants.{LineTooLong, ReadFailed}
use Rattle.streetmap_text_lines.specs.declared.fault.LineFault.TheVariants.{Memory}
use Rattle.streetmap_replay.specs.LineEffects.{Follows}
use Rattle.streetmap_replay.specs.Calls.{LastAnswer, fails_by}
use Rattle.streetmap_replay.specs.ParsedLines.{line_text}
use Rattle.streetmap_replay.specs.declared.follow_fault.FollowFault.{FollowFault}
use Rattle.streetmap_replay.specs.declared.follow_fault.FollowFault.TheVariants as ends
use Rattle.streetmap_replay.specs.declared.follower.Followed.{Followed}

-- the most bytes of a line
abbrev pub most_bytes : ℕ
most_bytes = 16777216

-- the bytes of a line are one line, not too long, and read as that line
pub record IsInputLine (line : Line) : Type 0 where
  pub is : IsJournalLine (line_bytes line) line
  pub one : HasNoLineFeed (line_bytes line)
  pub short : length (line_bytes line) ≤ most_bytes

-- the key of a batch that was read
abbrev pub key_in : Result BatchValue BatchFault → Text
key_in (Ok b) = b.key
key_in (Err fault) = []

-- the replies to lines, each with the key of its batch
abbrev pub answers : List Line → List Reply → List (Text × Reply)
answers [] replies = []
answers (line ∷ lines) [] = []
answers (line ∷ lines) (reply ∷ replies) =
    (key_in (batch_of (line_text line)), reply) ∷ answers lines replies

-- from the first value to the last these replies were reported, in order
abbrev pub ReportsAll : {T : Type 0} → (T → Text → Reply → T → Type 0) → T → List (Text × Reply)
    → T →
    Type 0
ReportsAll reports first [] last = first ≡ last
ReportsAll {T} reports first (r ∷ rs) last = (mid : T) × reports first r.0 r.1 mid ×
    ReportsAll reports mid rs last

-- the replies were reported, and no other; if one was not reported, nothing is known of that one
abbrev pub ReportsBy : {T : Type 0} → (T → Text → Reply → T → Type 0) → T → T
    → List (Text × Reply) →
    Option FollowFault → Type 0
ReportsBy {T} reports first last replies (Some ends.NotReported) = (mid : T)
    × ReportsAll reports first replies mid
ReportsBy reports first last replies why = ReportsAll reports first replies last

-- it ended in this state, after these lines of the input
abbrev pub FollowingEndsBy : {K : Type 0} → Model K → (old new : K) → State → List Line
    → (input rest : Option (List ℕ)) → Option FollowFault → Type 0
FollowingEndsBy model old new t read input rest None =
    WhereKnown input rest (λ bytes left. (bytes ≡ text_of_lines read) × (left ≡ []))
    × model.represents new t
FollowingEndsBy model old new t read input rest (Some ends.CutLine) =
    WhereKnown input rest (λ bytes left. (part : List ℕ) × (bytes ≡ text_of_lines read ++ part)
    × HasNoLineFeed part × (0 < length part)) × model.represents new t
FollowingEndsBy model old new t read input rest (Some (ends.NotRead LineTooLong)) =
    IfSome input (λ bytes. (left : List ℕ) × (bytes ≡ text_of_lines read ++ left)
    × (first_too_long most_bytes left ≡ Some 0)) × model.represents new t
FollowingEndsBy model old new t read input rest (Some (ends.NotRead ReadFailed)) =
    model.represents new t
FollowingEndsBy model old new t read input rest (Some (ends.NotRead Memory)) =
    model.represents new t
FollowingEndsBy model old new t read input rest (Some ends.NotReported) =
    (line : Line) × IsInputLine line × Consumes input rest (text_of_lines (read ++ line ∷ []))
    × ((o : Outcome) × (line_outcome t line ≡ Ok o) × model.represents new o.state)
FollowingEndsBy model old new t read input rest (Some fault) =
    (line : Line) × IsInputLine line × Consumes input rest (text_of_lines (read ++ line ∷ []))
    × Follows model old new t (line_outcome t line) (Err fault)

-- this number of the first lines of the input were followed from this state on and their replies
-- reported, and how it ended then
pub record FollowsLines {K T : Type 0} (model : Model K) (old new : K) (s : State)
    (input rest : Option (List ℕ)) (reports : T → Text → Reply → T → Type 0) (first last : T)
    (result : Followed) : Type 0 where
  pub read : List Line
  pub counted : length read ≡ result.count
  pub lines : All IsInputLine read
  pub front : IfSome input (λ bytes. (left : List ℕ) × (bytes ≡ text_of_lines read ++ left))
  pub followed : (follow s read).fault ≡ None
  pub reported : ReportsBy reports first last (answers read (follow s read).replies) result.fault
  pub ends : FollowingEndsBy model old new (follow s read).state read input rest result.fault

-- the answer of the keeper that ended it, if it was a fault
abbrev pub end_answer : Option FollowFault → LastAnswer
end_answer (Some (ends.Stopped fault)) = fails_by fault
end_answer why = None
