use Rattle.std.proofs.Common.{◌≡◌, ◌∙◌, ℕ, ap, refl, false, Option, None, Some, option_copied}
use Rattle.serde_json.specs.Written.{has_float, compact_text}
use Rattle.streetmap_batch.specs.Text.{Text}
use Rattle.streetmap_bodies.specs.Status.{status_data}
use Rattle.streetmap_bodies.proofs.status_body.status_text.Goals as goal

no_float : (batches collections : ℕ) (key : Option Text) → has_float (status_data batches collections key) ≡ false
unfolding status_data
no_float batches collections None = refl
no_float batches collections (Some key) = refl

pub returns : goal.returns
returns c =
    let is = c.in_ok-value.ensures in
    c.in_ok-text.ensures.text (ap has_float is ∙ no_float c.args.batches c.args.collections (option_copied c.args.key)) ∙ ap compact_text is
