use Rattle.std.proofs.Common.{◌≡◌, true, sym, ap, ◌∙◌}
use Rattle.std.specs.Str.{bytes_eq}
use Rattle.streetmap_http.specs.Lengths.{is_number, after_zeros}
use Rattle.streetmap_http.proofs.Numbers.{same_number}
use Rattle.streetmap_http.proofs.length.is_same_number.Goals as goal

pub returns-then-is_number : goal.returns-then-is_number
returns-then-is_number c =
    let value = c.args.value.now in
    let other = c.args.other.now in
    let number : true ≡ is_number value = sym c.if-is_number.true ∙ c.is_number.ensures in
    c.eq.ensures
    ∙ ap (λ l. bytes_eq l c.after_zeros-then-is_number.result.now) c.after_zeros.ensures
    ∙ ap (λ l. bytes_eq (after_zeros value) l) c.after_zeros-then-is_number.ensures
    ∙ same_number value other true number c.requires
