use Rattle.std.proofs.Common.{◌≡◌, ℕ, List, true, sym, subst}
use Rattle.streetmap.specs.Tokens.{is_token}
use Rattle.streetmap.proofs.Tokens.{token_is_utf8}
use Rattle.streetmap.proofs.token.token_in.Goals as goal

pub returns-in_default-clause-refused : goal.returns-in_default-clause-refused
returns-in_default-clause-refused c is =
    let line = c.line_of-line.result.now in
    absurd (c.in_default.ensures.cases.0 (token_is_utf8 line (subst (λ (text : List ℕ). is_token text ≡ true) (sym c.line_of-line.ensures) is)))
