use Rattle.std.proofs.Common.{◌≡◌, ◌≤◌, ◌<◌, length, arith, subst, rules, []}
use Rattle.std.proofs.lemmas.Bool.Decides.{nat_tests}
use Rattle.streetmap_text_lines.specs.LineReads.{TakesShown}
use Rattle.streetmap_text_lines.proofs.LineLemmas.{part_none, part_more, part_ended, part_last}
use Rattle.streetmap_text_lines.proofs.LineLemmas.{part_end, part_too_long, no_bytes}
use Rattle.streetmap_text_lines.proofs.line.read_line.Goals as goal

pub loop-turn-init : goal.loop-turn-init
loop-turn-init g c = part_none c.args.most (g.R.Read.remaining c.args.reader.now) _ (search rules)

pub take_shown-requires-clause-short : goal.take_shown-requires-clause-short
take_shown-requires-clause-short g c = omega
    (arith, c.loop-turn.invariant.short, c.loop-turn.line.ok.0)

pub take_shown-requires-clause-one_line : goal.take_shown-requires-clause-one_line
take_shown-requires-clause-one_line g c = c.loop-turn.invariant.one_line

pub returns-in_err-take_shown-clause-too_long : goal.returns-in_err-take_shown-clause-too_long
returns-in_err-take_shown-clause-too_long g c = λ e. part_too_long c.args.most _ _ _
    c.loop-turn.invariant (c.take_shown.ensures.too_long (search rules))

pub returns-in-LineFeed-clause-read : goal.returns-in-LineFeed-clause-read
returns-in-LineFeed-clause-read g c =
    let before = g.R.Read.remaining c.args.reader.now in
    let after = g.R.Read.remaining c.take_shown.new.reader in
    let longer = c.take_shown.new.line.items in
    let taken = subst
    (TakesShown (g.R.Read.remaining c.loop-turn.reader) after c.loop-turn.line.items longer)
    c.in-LineFeed.is c.in_ok-take_shown.ensures.taken in
    let short : length longer ≤ c.args.most = omega
    (arith, c.in_ok-take_shown.ensures.short, c.take_shown.new.line.ok.0) in
    part_ended c.args.most before _ after _ longer _ c.loop-turn.invariant taken
    c.in_ok-take_shown.ensures.one_line short (search rules)

pub returns-then-is_empty-clause-read : goal.returns-then-is_empty-clause-read
returns-then-is_empty-clause-read g c =
    let before = g.R.Read.remaining c.args.reader.now in
    let after = g.R.Read.remaining c.take_shown.new.reader in
    let longer = c.take_shown.new.line.items in
    let taken = subst
    (TakesShown (g.R.Read.remaining c.loop-turn.reader) after c.loop-turn.line.items longer)
    c.in-End.is c.in_ok-take_shown.ensures.taken in
    let none : longer ≡ [] = no_bytes c.args.most longer
    (grind (arith, nat_tests, c.if-is_empty.true, c.is_empty.ensures, c.take_shown.new.line.ok.0))
    in
    let at_end = part_end c.args.most before _ after _ longer c.loop-turn.invariant taken none in
    (none, at_end.0, at_end.1)

pub returns-else-is_empty-clause-read : goal.returns-else-is_empty-clause-read
returns-else-is_empty-clause-read g c =
    let before = g.R.Read.remaining c.args.reader.now in
    let after = g.R.Read.remaining c.take_shown.new.reader in
    let longer = c.take_shown.new.line.items in
    let taken = subst
    (TakesShown (g.R.Read.remaining c.loop-turn.reader) after c.loop-turn.line.items longer)
    c.in-End.is c.in_ok-take_shown.ensures.taken in
    let some : 0 < length longer =
    grind (arith, nat_tests, c.if-is_empty.false, c.is_empty.ensures, c.take_shown.new.line.ok.0)
    in
    part_last c.args.most before _ after _ longer c.loop-turn.invariant taken some

pub loop-turn-preserved : goal.loop-turn-preserved
loop-turn-preserved g c =
    let before = g.R.Read.remaining c.args.reader.now in
    let after = g.R.Read.remaining c.take_shown.new.reader in
    let longer = c.take_shown.new.line.items in
    let taken = subst
    (TakesShown (g.R.Read.remaining c.loop-turn.reader) after c.loop-turn.line.items longer)
    c.in-More.is c.in_ok-take_shown.ensures.taken in
    let short : length longer ≤ c.args.most = omega
    (arith, c.in_ok-take_shown.ensures.short, c.take_shown.new.line.ok.0) in
    part_more c.args.most before _ after _ longer c.loop-turn.invariant taken
    c.in_ok-take_shown.ensures.one_line short
