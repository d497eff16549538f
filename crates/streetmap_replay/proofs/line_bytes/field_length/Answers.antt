use Rattle.std.proofs.Common.{MatchOption, subst, length, ◌≡◌, Option, ℕ}
use Rattle.streetmap_replay.proofs.FirstTab.{found_length, before_tab}
use Rattle.streetmap_replay.proofs.line_bytes.field_length.Goals as goal

pub returns-in-Some : goal.returns-in-Some
returns-in-Some c =
    let bs = c.args.bytes.now in
    subst (λ (o : Option ℕ). MatchOption o (length bs ≡ before_tab bs) (λ n. n ≡ before_tab bs))
    c.in-Some.is (found_length bs c.find_tab.result c.find_tab.ensures)

pub returns-in-None : goal.returns-in-None
returns-in-None c =
    let bs = c.args.bytes.now in
    subst (λ (o : Option ℕ). MatchOption o (length bs ≡ before_tab bs) (λ n. n ≡ before_tab bs))
    c.in-None.is (found_length bs c.find_tab.result c.find_tab.ensures)
