use Rattle.std.proofs.Common.{◌≡◌, subst, sym, ap, ◌∙◌, take, length, ◌+◌, ◌<◌, ◌≤◌, arith, ◌++◌}
use Rattle.std.proofs.Common.{◌∷◌, [], append_assoc}
use Rattle.std.proofs.BufReadLemmas.{Consumes_shown}
use Rattle.std.specs.Io.BufRead.{FillKeeps}
use Rattle.streetmap_text_lines.proofs.LineLemmas.{line_length, longer_line, long_known}
use Rattle.streetmap_text_lines.proofs.LineLemmas.{through_line_feed, taken_over}
use Rattle.streetmap_text_lines.proofs.line.take_shown.Goals as goal

pub returns-then-count-most-clause-too_long : goal.returns-then-count-most-clause-too_long
returns-then-count-most-clause-too_long g c =
    let long : c.args.most < length c.args.line.now.items + c.line_length-count.result = omega
    (arith, c.if-count-most.true, c.len.ensures, c.args.line.now.ok.0) in
    λ _. long_known c.args.most _ c.args.line.now.items c.in-Ok.shown.now c.line_length-count.result
    c.requires.one_line c.line_length-count.ensures c.in-Ok.ensures.front long

pub returns-then-ended-clause-one_line : goal.returns-then-ended-clause-one_line
returns-then-ended-clause-one_line g c =
    longer_line c.args.line.now.items c.in-Ok.shown.now c.extend_from_slice.new.self.items
    c.line_length-count.result c.requires.one_line c.line_length-count.ensures
    c.in_ok-extend_from_slice.ensures.items

pub returns-then-ended-clause-taken : goal.returns-then-ended-clause-taken
returns-then-ended-clause-taken g c =
    let rested = c.fill_buf.follows.lender-at-none in
    let filled = subst (FillKeeps _ (g.R.Read.remaining rested) (g.R.BufRead.consumable_len rested))
    c.in-Ok.is c.fill_buf.follows.holds-at-none in
    let drops = c.consume.ensures.bytes in
    let shown = c.in-Ok.shown.now in
    let n = c.line_length-count.result in
    let within : n + 1 ≤ length shown = omega (arith, c.if-ended.true) in
    let ends : line_length shown < length shown = omega
    (arith, c.if-ended.true, c.line_length-count.ensures) in
    let moved = Consumes_shown _ _ _ _ shown (n + 1) within c.in-Ok.ensures.front
    c.in-Ok.ensures.end filled.0 filled.1 drops in
    let feed : take (n + 1) shown ≡ take n shown ++ 10 ∷ [] = subst
    (λ m. take (m + 1) shown ≡ take m shown ++ 10 ∷ []) (sym c.line_length-count.ensures)
    (through_line_feed shown ends) in
    let items = c.in_ok-extend_from_slice.ensures.items in
    let longer : c.extend_from_slice.new.self.items ++ 10 ∷ [] ≡ c.args.line.now.items ++ take
    (n + 1) shown =
    ap (λ l. l ++ 10 ∷ []) items ∙ append_assoc c.args.line.now.items (take n shown) (10 ∷ []) ∙ ap
    (λ l. c.args.line.now.items ++ l) (sym feed) in
    taken_over c.args.most _ _ _ _ _ moved.0 longer

pub returns-else-ended-clause-one_line : goal.returns-else-ended-clause-one_line
returns-else-ended-clause-one_line g c =
    longer_line c.args.line.now.items c.in-Ok.shown.now c.extend_from_slice.new.self.items
    c.line_length-count.result c.requires.one_line c.line_length-count.ensures
    c.in_ok-extend_from_slice.ensures.items
