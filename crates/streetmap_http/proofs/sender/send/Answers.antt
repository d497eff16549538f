use Rattle.std.proofs.Common.{◌≡◌, ◌+◌, length, arith}
use Rattle.std.proofs.lemmas.Grind.{common_steps}
use Rattle.std.specs.Prelude.{nat_lt, not}
use Rattle.streetmap_http.proofs.Sends.{part_of_body}
use Rattle.streetmap_http.proofs.sender.send.Goals as goal

pub returns-then-not-is_empty : goal.returns-then-not-is_empty
returns-then-not-is_empty g c =
    let head = c.args.head.now in
    let stopped = c.in-Err-write_bytes in
    let n = stopped.stopped.written in
    let some : not c.is_empty.result ≡ nat_lt 0 (length head + n) =
    grind (arith, common_steps, c.is_empty.ensures, c.if-not-is_empty.true) in
    part_of_body head c.args.body.now (not c.is_empty.result) n _ _ _ some c.in_default.ensures.ok
    stopped.ensures.err stopped.ensures.less
