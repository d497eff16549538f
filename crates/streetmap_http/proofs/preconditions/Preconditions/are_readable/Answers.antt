use Rattle.std.proofs.Common.{◌≡◌, true, false, ap, sym, ◌∙◌}
use Rattle.std.specs.Prelude.{◌&&◌}
use Rattle.streetmap_http.specs.Preconditions.{is_read, is_readable}
use Rattle.streetmap_http.specs.PreconditionsView.{preconditions_value}
use Rattle.streetmap_http.proofs.Matchings.{read_so}
use Rattle.streetmap_http.proofs.preconditions.Preconditions.are_readable.Goals as goal

pub returns-then-one : goal.returns-then-one
returns-then-one c =
    let stated = preconditions_value c.args.self.now in
    let one : c.is_read-one.result ≡ is_readable stated.if_match = c.is_read-one.ensures ∙ ap is_read c.if_match.ensures ∙ read_so false 0 stated.if_match in
    let other : c.is_read-other.result ≡ is_readable stated.if_none_match = c.is_read-other.ensures ∙ ap is_read c.if_none_match.ensures ∙ read_so true 0 stated.if_none_match in
    other ∙ ap (λ b. b && is_readable stated.if_none_match) (sym c.if-one.true ∙ one)

pub returns-else-one : goal.returns-else-one
returns-else-one c =
    let stated = preconditions_value c.args.self.now in
    let one : c.is_read-one.result ≡ is_readable stated.if_match = c.is_read-one.ensures ∙ ap is_read c.if_match.ensures ∙ read_so false 0 stated.if_match in
    c.if-one.false ∙ ap (λ b. b && is_readable stated.if_none_match) (sym c.if-one.false ∙ one)
