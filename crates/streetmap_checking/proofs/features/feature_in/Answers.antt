use Rattle.std.proofs.Common.{◌≡◌, rules, option_map, string_bytes}
use Rattle.std.specs.Option.{option_copied}
use Rattle.sqlite.specs.Order.{column}
use Rattle.sqlite.specs.declared.types.Value.TheVariants.{Text as Words}
use Rattle.streetmap_rows.proofs.ResultCases.{handed_on}
use Rattle.streetmap_checking.proofs.Taking.{no_feature}
use Rattle.streetmap_checking.proofs.features.feature_in.Goals as goal

pub returns-in_err-feature : goal.returns-in_err-feature
returns-in_err-feature c =
    let at : column c.args.row.now 1 ≡ Words c.in-Ok-Text.body.now = search rules in
    let property : option_copied c.as_deref.result ≡ option_map string_bytes c.args.head.now.time = search rules in
    handed_on _ _ _ _ c.from_residual.ensures.1 (no_feature _ _ c.args.row.now _ _ property at c.in_err-feature.ensures)
