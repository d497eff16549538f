use Rattle.std.proofs.Common.{◌≡◌, ◌-◌, Some, None, Err, sym, ap, ap₂, ◌∙◌, arith, subst}
use Rattle.json.specs.Json.{read_key, value, parse_map}
use Rattle.json.proofs.Grammar.{read_key-shorter}
use Rattle.serde_json.specs.Data.{object, put}
use Rattle.serde_json.specs.View.{view}
use Rattle.streetmap_json.specs.Values.{Takes, members_at}
use Rattle.streetmap_json.proofs.Fronts.{next_member, no_member, no_name, members_done, handed_on}
use Rattle.streetmap_json.specs.declared.fault.ParseFault.TheVariants.{NotJson}
use Rattle.streetmap_feature_reader.specs.Places.{members_after}
use Rattle.streetmap_feature_reader.specs.StatedGeometry.{geometry_values}
use Rattle.streetmap_geojson.specs.FeatureMembers.{geometry_data}
use Rattle.streetmap_feature_reader.proofs.stated_geometry.read_object.Goals as goal

pub returns-in_err-name-clause-takes : goal.returns-in_err-name-clause-takes
returns-in_err-name-clause-takes c =
    let p = value c.args.depth in
    let l = c.members in
    let same : c.from_residual.result ≡ Err NotJson = grind arith in
    subst (λ r. Takes geometry_data r c.next_key.new.self (parse_map object (members_at c.args.depth c.args.reader.now))) (sym same)
    (ap (parse_map object) (l.invariant.2 ∙ no_name p (geometry_values l.found) l.invariant.0 l.reader c.in_err-name.ensures.value))

pub returns-in_err-value-clause-takes : goal.returns-in_err-value-clause-takes
returns-in_err-value-clause-takes c =
    let p = value c.args.depth in
    let l = c.members in
    let k = c.in-Some.name.now in
    let s = c.next_key.new.self in
    let named : read_key l.reader ≡ Some (Some k, s) = grind arith in
    let fault = c.in_err-value.field-0.0 in
    let same : c.from_residual-in_err-value.result ≡ Err fault = grind arith in
    subst (λ r. Takes geometry_data r c.read_value.new.reader (parse_map object (members_at c.args.depth c.args.reader.now))) (sym same)
    (handed_on fault _ _ (λ none. ap (parse_map object) (l.invariant.2 ∙ no_member p (geometry_values l.found) l.invariant.0 k l.reader s named none)) c.in_err-value.ensures.takes)

pub members-preserved : goal.members-preserved
members-preserved c =
    let p = value c.args.depth in
    let l = c.members in
    let n = l.invariant.0 in
    let found = geometry_values l.found in
    let k = c.in-Some.name.now in
    let s = c.next_key.new.self in
    let named : read_key l.reader ≡ Some (Some k, s) = grind arith in
    let done = c.in_ok-value.ensures in
    let v = c.in_ok-value.value in
    let r = c.read_value.new.reader in
    let less = read_key-shorter l.reader (Some k) s named in
    let lesser = done.shorter in (
      n - 1,
      omega (arith, l.invariant.1, less, lesser),
      l.invariant.2 ∙ next_member p found n k l.reader s r (view v) (omega (arith, l.invariant.1, less)) named done.takes
          ∙ ap (λ kept. members_after kept c.args.depth (n - 1) r) (sym c.in_default-put.ensures),
      omega (arith, l.invariant.3, less, lesser),
    )

pub returns-in-Some-put-clause-takes : goal.returns-in-Some-put-clause-takes
returns-in-Some-put-clause-takes c =
    let p = value c.args.depth in
    let l = c.members in
    let n = l.invariant.0 in
    let found = geometry_values l.found in
    let k = c.in-Some.name.now in
    let s = c.next_key.new.self in
    let named : read_key l.reader ≡ Some (Some k, s) = grind arith in
    let done = c.in_ok-value.ensures in
    let v = c.in_ok-value.value in
    let r = c.read_value.new.reader in
    let less = read_key-shorter l.reader (Some k) s named in
    let lesser = done.shorter in
    let start = l.invariant.2 ∙ next_member p found n k l.reader s r (view v) (omega (arith, l.invariant.1, less)) named done.takes
    ∙ ap₂ (λ w f. members_after (put k (view w) (geometry_values f)) c.args.depth (n - 1) r) (sym c.in-Some-put.ensures.0) (sym c.in-Some-put.ensures.1) in
    subst (λ o. Takes geometry_data c.read_on.result c.read_on.new.reader (parse_map object o)) (sym start)
    (c.read_on.ensures.takes (n - 1) (omega (arith, l.invariant.1, less, lesser)))

pub returns-clause-takes : goal.returns-clause-takes
returns-clause-takes c =
    let l = c.members in
    let s = c.next_key.new.self in
    let ends : read_key l.reader ≡ Some (None, s) = grind arith in
    ap (parse_map object) (l.invariant.2 ∙ members_done (value c.args.depth) (geometry_values l.found) l.invariant.0 l.reader s l.invariant.1 ends)
    ∙ ap (λ d. Some (d, s)) (sym c.in_ok-stated.ensures)
