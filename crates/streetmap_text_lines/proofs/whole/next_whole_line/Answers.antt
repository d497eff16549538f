use Rattle.std.proofs.Common.{◌≡◌, ◌≤◌, ◌<◌, length, arith, subst, sym, rules, [], ◌∷◌, ◌++◌}
use Rattle.std.proofs.Common.{List, ℕ}
use Rattle.std.specs.Io.KnownBytes.{Consumes}
use Rattle.std.proofs.lemmas.Bool.Decides.{nat_tests}
use Rattle.streetmap_text_lines.specs.LineReads.{HasNoLineFeed, TakesShown}
use Rattle.streetmap_text_lines.specs.Whole.{TakesWhole}
use Rattle.streetmap_text_lines.proofs.LineLemmas.{part_none, part_more, part_end, part_too_long}
use Rattle.streetmap_text_lines.proofs.LineLemmas.{no_bytes}
use Rattle.streetmap_text_lines.proofs.WholeLemmas.{whole_ended, whole_cut}
use Rattle.streetmap_text_lines.proofs.whole.next_whole_line.Goals.{then-is_empty, else-is_empty}
use Rattle.streetmap_text_lines.proofs.whole.next_whole_line.Goals as goal

pub loop-turn-init : goal.loop-turn-init
loop-turn-init g c =
    part_none c.args.most (g.R.Read.remaining c.args.reader.now) c.new-line.result.items
    c.new-line.ensures.items

pub take_shown-requires-clause-short : goal.take_shown-requires-clause-short
take_shown-requires-clause-short g c =
    omega (arith, c.loop-turn.invariant.short, c.loop-turn.line.ok.0)

pub take_shown-requires-clause-one_line : goal.take_shown-requires-clause-one_line
take_shown-requires-clause-one_line g c = c.loop-turn.invariant.one_line

pub returns-in_err-take_shown-clause-too_long : goal.returns-in_err-take_shown-clause-too_long
returns-in_err-take_shown-clause-too_long g c =
    λ e. part_too_long c.args.most _ _ _ c.loop-turn.invariant
    (c.take_shown.ensures.too_long (search rules))

pub returns-in-LineFeed-clause-taken : goal.returns-in-LineFeed-clause-taken
returns-in-LineFeed-clause-taken g c =
    let before = g.R.Read.remaining c.args.reader.now in
    let after = g.R.Read.remaining c.take_shown.new.reader in
    let longer = c.take_shown.new.line.items in
    let taken = subst (TakesShown (g.R.Read.remaining c.loop-turn.reader) after
    c.loop-turn.line.items longer) c.in-LineFeed.is c.in_ok-take_shown.ensures.taken in
    let short : length longer ≤ c.args.most =
    omega (arith, c.in_ok-take_shown.ensures.short, c.take_shown.new.line.ok.0) in
    let same = sym {A = List ℕ} c.shrink_to_fit.ensures.items in
    subst (λ (l : List ℕ). Consumes before after (l ++ 10 ∷ []) × HasNoLineFeed l
    × (length l ≤ c.args.most)) same (
      whole_ended c.args.most before _ after _ longer c.loop-turn.invariant taken,
      c.in_ok-take_shown.ensures.one_line,
      short,
    )

pub returns-in-End-clause-taken : goal.returns-in-End-clause-taken
returns-in-End-clause-taken g c =
    let most = c.args.most in
    let before = g.R.Read.remaining c.args.reader.now in
    let after = g.R.Read.remaining c.take_shown.new.reader in
    let longer = c.take_shown.new.line.items in
    let taken = subst (TakesShown (g.R.Read.remaining c.loop-turn.reader) after
    c.loop-turn.line.items longer) c.in-End.is c.in_ok-take_shown.ensures.taken in
    elim c.if-is_empty.branch [
      | then-is_empty w ↦
          let none : longer ≡ [] = no_bytes most longer (grind (
            arith,
            nat_tests,
            w.if-is_empty.true,
            c.is_empty.ensures,
            c.take_shown.new.line.ok.0,
          )) in
          subst (TakesWhole most before after) (sym w.result-is)
          (part_end most before _ after _ longer c.loop-turn.invariant taken none)
      | else-is_empty w ↦
          let some : 0 < length longer = grind (
            arith,
            nat_tests,
            w.if-is_empty.false,
            c.is_empty.ensures,
            c.take_shown.new.line.ok.0,
          ) in
          subst (TakesWhole most before after) (sym w.result-is)
          (whole_cut most before _ after _ longer c.loop-turn.invariant taken some)
    ]

pub loop-turn-preserved : goal.loop-turn-preserved
loop-turn-preserved g c =
    let before = g.R.Read.remaining c.args.reader.now in
    let after = g.R.Read.remaining c.take_shown.new.reader in
    let longer = c.take_shown.new.line.items in
    let taken = subst (TakesShown (g.R.Read.remaining c.loop-turn.reader) after
    c.loop-turn.line.items longer) c.in-More.is c.in_ok-take_shown.ensures.taken in
    let short : length longer ≤ c.args.most =
    omega (arith, c.in_ok-take_shown.ensures.short, c.take_shown.new.line.ok.0) in
    part_more c.args.most before _ after _ longer c.loop-turn.invariant taken
    c.in_ok-take_shown.ensures.one_line short
