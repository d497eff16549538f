use Rattle.streetmap_bodies.proofs.PlainTexts.{key_plain, key_short}
use Rattle.streetmap_bodies.proofs.reply_body.push_reply_body.Goals as goal

pub push_reply-requires-clause-key : goal.push_reply-requires-clause-key
push_reply-requires-clause-key c = key_plain c.key.result.now c.key.ensures.named

pub push_reply-requires-clause-short : goal.push_reply-requires-clause-short
push_reply-requires-clause-short c = key_short c.key.result.now c.key.ensures.named
