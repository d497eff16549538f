-- A reply as a line of text.
use Rattle.std.specs.Prelude.{ℕ, List, [], ◌∷◌, ◌++◌}
use Rattle.serde_json.specs.Written.{compact_text}
use Rattle.streetmap_batch.specs.Text.{Text}
use Rattle.streetmap_ledger.specs.declared.reply.Reply.{Reply}
use Rattle.streetmap_bodies.specs.Replies.{reply_body}

-- the body of the reply to the batch with this key, as compact JSON, and a line feed
abbrev pub reply_line : Text → Reply → List ℕ
reply_line key reply = compact_text (reply_body key reply) ++ 10 ∷ []
