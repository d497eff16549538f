-- The bodies of replies to batches.
use Rattle.std.specs.Prelude.{ℕ, List, codes}
use Rattle.serde_json.specs.Data.{Data, number, unsigned, string, object, member, no_members}
use Rattle.streetmap_ledger.specs.declared.reply.Counts.{Counts}
use Rattle.streetmap_ledger.specs.declared.reply.Reply.{Reply}
use Rattle.streetmap_ledger.specs.declared.reply.Reply.TheVariants.{Accepted, Repeated}
use Rattle.streetmap_ledger.specs.declared.reply.Reply.TheVariants as replies
use Rattle.streetmap_bodies.specs.RequestFaults.{fault_body}
use Rattle.streetmap_bodies.specs.declared.request_fault.RequestFault.TheVariants.{Refused}

-- the reply to an accepted or repeated batch: how many edits of each kind, the key and the serial
abbrev pub reply_data : (key : List ℕ) → Counts → (serial : ℕ) → Data
reply_data key counts serial =
    object (member (codes "deleted") (number (unsigned counts.deleted))
    (member (codes "inserted") (number (unsigned counts.inserted))
    (member (codes "key") (string key)
    (member (codes "opened") (number (unsigned counts.opened))
    (member (codes "replaced") (number (unsigned counts.replaced))
    (member (codes "serial") (number (unsigned serial)) no_members))))))

-- the body of the reply to the batch of this key
unfoldable pub reply_body : (key : List ℕ) → Reply → Data
reply_body key (Accepted counts serial) = reply_data key counts serial
reply_body key (Repeated counts serial) = reply_data key counts serial
reply_body key (replies.Refused refusal place) = fault_body (Refused refusal place)
