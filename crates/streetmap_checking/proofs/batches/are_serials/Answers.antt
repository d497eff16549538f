use Rattle.std.proofs.Common.{◌≡◌, ◌≤◌, ◌<◌, ◌-◌, true, false, length, get_or, refl, sym, ◌∙◌, rules, arith}
use Rattle.std.proofs.lemmas.List.{get_or_default}
use Rattle.streetmap_ledger.specs.Batches.{most_batches}
use Rattle.streetmap_checking.proofs.Serials.{all_seen, seen_again}
use Rattle.streetmap_checking.proofs.batches.are_serials.Goals as goal

pub returns-then-index : goal.returns-then-index
returns-then-index c =
    let serials = c.args.serials.now in
    let i = c.loop-serial.serial-index in
    let low : i < length serials = c.loop-serial-test.true in
    let from : 1 ≤ get_or serials i 0 = search rules in
    let to : get_or serials i 0 ≤ length serials = search rules in
    let place : get_or serials i 0 - 1 < length c.loop-serial.seen.items = omega (arith, from, to, c.loop-serial.invariant.long) in
    let on : get_or c.loop-serial.seen.items (get_or serials i 0 - 1) false ≡ true = get_or_default c.loop-serial.seen.items _ false c.index.result.now place
    ∙ sym c.index.ensures ∙ c.if-index.true in
    ((λ t. absurd (cc)), (λ are. absurd (seen_again serials c.loop-serial.seen.items i low from to c.loop-serial.invariant on are)))

pub returns : goal.returns
returns c =
    let few : length c.args.serials.now ≤ most_batches = omega arith in
    ((λ t. all_seen c.args.serials.now c.loop-serial.seen.items c.loop-serial.serial-index c.loop-serial-test.false few c.loop-serial.invariant), (λ are. refl))
