-- What following the bytes of a line does to a keeper.
use Rattle.std.specs.Prelude.{◌≡◌, ℕ, List, Result, Ok, Err, IfOk}
use Rattle.streetmap_batch.specs.ParsedBatches.{batch_of}
use Rattle.streetmap_batch.specs.BatchView.{batch_value}
use Rattle.streetmap_batch.specs.Text.{Text}
use Rattle.streetmap_ledger.specs.Model.{Model}
use Rattle.streetmap_ledger.specs.declared.reply.Reply.{Reply}
use Rattle.streetmap_replay.specs.Lines.{Line, bare, numbered, IsJournalLine}
use Rattle.streetmap_replay.specs.FollowedLines.{line_outcome}
use Rattle.streetmap_replay.specs.LineEffects.{IsFollowed}
use Rattle.streetmap_replay.specs.declared.actions.Acknowledged.{Acknowledged}
use Rattle.streetmap_replay.specs.declared.follow_fault.FollowFault.{FollowFault}

-- the text of a line's batch
abbrev pub line_text : Line → Text
line_text (bare text) = text
line_text (numbered serial text) = text

-- only the reply
abbrev pub reply_of : Result Acknowledged FollowFault → Result Reply FollowFault
reply_of (Ok it) = Ok it.reply
reply_of (Err fault) = Err fault

-- the outcome of the line is returned, with the batch if the line was followed
pub record FollowsLine {K : Type 0} (model : Model K) (old new : K) (bytes : List ℕ)
    (result : Result Acknowledged FollowFault) : Type 0 where
  pub line : Line
  pub is : IsJournalLine bytes line
  pub batch : IfOk result (λ it. batch_of (line_text line) ≡ Ok (batch_value it.batch))
  pub followed : IsFollowed model old new (λ s. line_outcome s line) (reply_of result)
