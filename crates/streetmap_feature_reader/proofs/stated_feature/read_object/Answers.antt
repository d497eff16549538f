use Rattle.std.proofs.Common.{◌≡◌, ℕ, ◌-◌, List, Option, Some, None, Err, sym, ap, ap₂, ◌∙◌, arith, subst}
use Rattle.std.specs.Prelude.{MatchOption}
use Rattle.json.specs.Json.{read_key, value, parse_map}
use Rattle.json.proofs.Grammar.{read_key-shorter}
use Rattle.serde_json.specs.Data.{Data, object, put}
use Rattle.serde_json.specs.View.{view}
use Rattle.serde_json.specs.declared.value.Value.{Value}
use Rattle.streetmap_json.specs.Values.{Takes, members_at}
use Rattle.streetmap_json.proofs.Fronts.{next_member, no_member, no_name, members_done, handed_on}
use Rattle.streetmap_json.specs.declared.fault.ParseFault.TheVariants.{NotJson}
use Rattle.streetmap_feature_reader.specs.Places.{members_after}
use Rattle.streetmap_feature_reader.specs.StatedFeature.{stated_data, found_values}
use Rattle.streetmap_feature_reader.specs.declared.stated_feature.Found.{Found}
use Rattle.streetmap_feature_reader.proofs.stated_feature.read_object.Goals as goal

pub returns-in_err-name-clause-takes : goal.returns-in_err-name-clause-takes
returns-in_err-name-clause-takes c =
    let p = value c.args.depth in
    let l = c.members in
    let same : c.from_residual.result ≡ Err NotJson = grind arith in
    subst (λ r. Takes stated_data r c.next_key.new.self (parse_map object (members_at c.args.depth c.args.reader.now))) (sym same)
    (ap (parse_map object) (l.invariant.2 ∙ no_name p (found_values l.found) l.invariant.0 l.reader c.in_err-name.ensures.value))

pub returns-in_err-value-clause-takes : goal.returns-in_err-value-clause-takes
returns-in_err-value-clause-takes c =
    let p = value c.args.depth in
    let l = c.members in
    let k = c.in-Some.name.now in
    let s = c.next_key.new.self in
    let named : read_key l.reader ≡ Some (Some k, s) = grind arith in
    let fault = c.in_err-value.field-0.0 in
    let same : c.from_residual-in_err-value.result ≡ Err fault = grind arith in
    subst (λ r. Takes stated_data r c.read_member.new.reader (parse_map object (members_at c.args.depth c.args.reader.now))) (sym same)
    (handed_on fault _ _ (λ none. ap (parse_map object) (l.invariant.2 ∙ no_member p (found_values l.found) l.invariant.0 k l.reader s named none))
    c.in_err-value.ensures.takes)

-- what is known of a member that was put at its place, or returned
abbrev IsPlaced : (k : List ℕ) (d : Data) (old new : Found) → Option Value → Type 0
IsPlaced k d old new o = MatchOption o (found_values new ≡ put k d (found_values old)) (λ v. (view v ≡ d) × (new ≡ old))

pub members-preserved : goal.members-preserved
members-preserved c =
    let p = value c.args.depth in
    let l = c.members in
    let n = l.invariant.0 in
    let found = found_values l.found in
    let k = c.in-Some.name.now in
    let s = c.next_key.new.self in
    let named : read_key l.reader ≡ Some (Some k, s) = grind arith in
    let taken = c.in_ok-value.ensures.takes in
    let placed = subst (IsPlaced k taken.0 l.found c.read_member.new.self) c.in_default-2.is taken.2 in
    let r = c.read_member.new.reader in
    let less = read_key-shorter l.reader (Some k) s named in
    let lesser = c.in_ok-value.ensures.shorter in (
      n - 1,
      omega (arith, l.invariant.1, less, lesser),
      l.invariant.2 ∙ next_member p found n k l.reader s r taken.0 (omega (arith, l.invariant.1, less)) named taken.1
          ∙ ap (λ kept. members_after kept c.args.depth (n - 1) r) (sym placed),
      omega (arith, l.invariant.3, less, lesser),
    )

pub returns-in-Some-2-clause-takes : goal.returns-in-Some-2-clause-takes
returns-in-Some-2-clause-takes c =
    let p = value c.args.depth in
    let l = c.members in
    let n = l.invariant.0 in
    let found = found_values l.found in
    let k = c.in-Some.name.now in
    let s = c.next_key.new.self in
    let named : read_key l.reader ≡ Some (Some k, s) = grind arith in
    let taken = c.in_ok-value.ensures.takes in
    let returned = subst (IsPlaced k taken.0 l.found c.read_member.new.self) c.in-Some-2.is taken.2 in
    let r = c.read_member.new.reader in
    let less = read_key-shorter l.reader (Some k) s named in
    let lesser = c.in_ok-value.ensures.shorter in
    let start = l.invariant.2 ∙ next_member p found n k l.reader s r taken.0 (omega (arith, l.invariant.1, less)) named taken.1
    ∙ ap₂ (λ d f. members_after (put k d (found_values f)) c.args.depth (n - 1) r) (sym returned.0) (sym returned.1) in
    subst (λ o. Takes stated_data c.read_on.result c.read_on.new.reader (parse_map object o)) (sym start)
    (c.read_on.ensures.takes (n - 1) (omega (arith, l.invariant.1, less, lesser)))

pub returns-clause-takes : goal.returns-clause-takes
returns-clause-takes c =
    let l = c.members in
    let s = c.next_key.new.self in
    let ends : read_key l.reader ≡ Some (None, s) = grind arith in
    ap (parse_map object) (l.invariant.2 ∙ members_done (value c.args.depth) (found_values l.found) l.invariant.0 l.reader s l.invariant.1 ends)
    ∙ ap (λ d. Some (d, s)) (sym c.in_ok-stated.ensures)
