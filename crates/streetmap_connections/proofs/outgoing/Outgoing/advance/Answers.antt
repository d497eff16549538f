use Rattle.std.proofs.Common.{◌+◌, ◌^◌, ◌≤◌, ◌<◌, length, drop, arith}
use Rattle.streetmap_connections.specs.Answers.{head_bytes, body_bytes}
use Rattle.streetmap_connections.proofs.Sending.{room_in_head}
use Rattle.streetmap_connections.proofs.outgoing.Outgoing.advance.Goals as goal
use Rattle.streetmap_connections.proofs.outgoing.Outgoing.advance.Goals.{Then-self-head}

within_head : (c : Then-self-head) → c.args.self.now.head_sent + c.args.len ≤ length (head_bytes c.args.self.now.answer)
within_head c =
    let o = c.args.self.now in
    let some : o.head_sent < length (head_bytes o.answer) = rw c.head-head.ensures at c.if-self-head.true in
    room_in_head o.head_sent c.args.len (head_bytes o.answer) (drop o.body_sent (body_bytes o.answer)) some c.requires

pub overflow_add-self : goal.overflow_add-self
overflow_add-self c =
    let room = within_head c in
    let bound : length (head_bytes c.args.self.now.answer) < 2 ^ 64 = rw c.head-head.ensures at c.head-head.type_inv.0 in
    omega arith

pub invariant_of-self-clause-in_head : goal.invariant_of-self-clause-in_head
invariant_of-self-clause-in_head c = within_head c
