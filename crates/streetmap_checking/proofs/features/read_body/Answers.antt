use Rattle.std.proofs.Common.{◌≡◌, Ok, sym, subst, ◌∙◌}
use Rattle.std.specs.Option.{option_copied}
use Rattle.serde_json.specs.Data.{Data}
use Rattle.serde_json.specs.View.{view}
use Rattle.streetmap_geojson.specs.Fault.{Fails}
use Rattle.streetmap_geojson.specs.FeatureMeaning.{ReadsAs}
use Rattle.streetmap_feature_text.specs.Written.{feature_data}
use Rattle.streetmap_rows.proofs.TextAgain.{body_reads, body_is_json, no_fault}
use Rattle.streetmap_checking.proofs.Refusing.{time_is}
use Rattle.streetmap_checking.proofs.features.read_body.Goals as goal

pub returns-in-Err-Fault : goal.returns-in-Err-Fault
returns-in-Err-Fault c = λ f is h.
    let read = body_is_json f c.args.body.now (option_copied c.args.property) h is in
    let bad = subst (λ e. Fails e (Ok (feature_data f))) c.in-Err-Fault.field-0-is (no_fault _ (feature_data f) (feature_data f) _ read
    c.in-Err-Fault.ensures.exact) in
    absurd (cc)

pub returns-in-Ok-read_feature : goal.returns-in-Ok-read_feature
returns-in-Ok-read_feature c = (
  record { kept = c.facts.ensures; timed = time_is (option_copied c.args.property) _ _ c.in-Ok-read_feature.ensures.found.timed },
  λ f is h.
      let read = sym (body_is_json f c.args.body.now (option_copied c.args.property) h is) ∙ c.in-Ok.ensures.exact in
      let same : feature_data f ≡ view c.in-Ok.value = cc in
      let it = c.in-Ok-read_feature.ensures.only f (subst (λ (d : Data). ReadsAs (option_copied c.args.property) d f) same
      (body_reads (option_copied c.args.property) f h)) in
      cc,
)

pub returns : goal.returns
returns c = λ f is h.
    let read = sym (body_is_json f c.args.body.now (option_copied c.args.property) h is) ∙ c.in-Ok.ensures.exact in
    let same : feature_data f ≡ view c.in-Ok.value = cc in
    let bad = subst (λ e. Fails e (Ok f)) c.in-Err-Fault-read_feature.field-0-is (c.in-Err-Fault-read_feature.ensures.only f
    (subst (λ (d : Data). ReadsAs (option_copied c.args.property) d f) same (body_reads (option_copied c.args.property) f h))) in
    absurd (cc)
