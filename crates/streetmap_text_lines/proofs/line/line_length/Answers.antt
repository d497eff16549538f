use Rattle.std.proofs.Common.{MatchOption, subst, length, ◌≡◌}
use Rattle.streetmap_text_lines.proofs.LineLemmas.{found_length, line_length}
use Rattle.streetmap_text_lines.proofs.line.line_length.Goals as goal

pub returns-in-Some : goal.returns-in-Some
returns-in-Some c =
    let bs = c.args.shown.now in
    subst (λ o. MatchOption o (length bs ≡ line_length bs) (λ n. n ≡ line_length bs)) c.in-Some.is
    (found_length bs c.memchr.result c.memchr.ensures)

pub returns-in-None : goal.returns-in-None
returns-in-None c =
    let bs = c.args.shown.now in
    subst (λ o. MatchOption o (length bs ≡ line_length bs) (λ n. n ≡ line_length bs)) c.in-None.is
    (found_length bs c.memchr.result c.memchr.ensures)
