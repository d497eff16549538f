use Rattle.std.proofs.Common.{◌≡◌, ◌-◌, Some, Err, BTreeMap, Global, string_bytes, refl, sym, ap, ◌∙◌, arith, rules, subst}
use Rattle.std.proofs.Common.{String as StdString}
use Rattle.json.specs.Json.{read_key, value}
use Rattle.json.proofs.Grammar.{read_key-shorter}
use Rattle.serde_json.specs.Data.{put}
use Rattle.serde_json.specs.View.{view, members_view}
use Rattle.serde_json.specs.declared.value.Value.{Value}
use Rattle.serde_json.proofs.Views.{members_view-insert_entry}
use Rattle.streetmap_json.specs.Values.{Takes}
use Rattle.streetmap_json.proofs.Fronts.{next_member, no_member, no_name, members_done, handed_on}
use Rattle.streetmap_json.specs.declared.fault.ParseFault.TheVariants.{NotJson}
use Rattle.streetmap_feature_reader.specs.Places.{members_after}
use Rattle.streetmap_feature_reader.proofs.members.read_rest.Goals as goal

pub rest-init : goal.rest-init
rest-init c = ((λ all enough. (all, enough, refl)), omega arith)

pub returns-in_err-name-clause-takes : goal.returns-in_err-name-clause-takes
returns-in_err-name-clause-takes c all enough =
    let p = value c.args.depth in
    let l = c.rest in
    let held = l.invariant.0 all enough in
    let found = members_view l.members.entries in
    let same : c.from_residual.result ≡ Err NotJson = grind arith in
    subst (λ r. Takes (λ (m : BTreeMap (StdString Global) Value). members_view m.entries) r c.next_key.new.self (members_after (members_view c.args.members.entries) c.args.depth all c.args.reader.now)) (sym same)
    (held.2 ∙ no_name p found held.0 l.reader c.in_err-name.ensures.value)

pub returns-in_err-member-clause-takes : goal.returns-in_err-member-clause-takes
returns-in_err-member-clause-takes c all enough =
    let p = value c.args.depth in
    let l = c.rest in
    let held = l.invariant.0 all enough in
    let found = members_view l.members.entries in
    let k = c.in-Some.name.now in
    let s = c.next_key.new.self in
    let named : read_key l.reader ≡ Some (Some k, s) = grind arith in
    let fault = c.in_err-member.field-0.0 in
    let same : c.from_residual-in_err-member.result ≡ Err fault = grind arith in
    subst (λ r. Takes (λ (m : BTreeMap (StdString Global) Value). members_view m.entries) r c.read_value.new.reader (members_after (members_view c.args.members.entries) c.args.depth all c.args.reader.now)) (sym same)
    (handed_on fault _ _ (λ none. held.2 ∙ no_member p found held.0 k l.reader s named none) c.in_err-member.ensures.takes)

pub rest-preserved : goal.rest-preserved
rest-preserved c =
    let p = value c.args.depth in
    let l = c.rest in
    let found = members_view l.members.entries in
    let k = c.in-Some.name.now in
    let s = c.next_key.new.self in
    let named : read_key l.reader ≡ Some (Some k, s) = grind arith in
    let done = c.in_ok-member.ensures in
    let v = c.in_ok-member.member in
    let r = c.read_value.new.reader in
    let less = read_key-shorter l.reader (Some k) s named in
    let lesser = done.shorter in
    let copied : string_bytes c.in_ok-name-2.name ≡ k = search rules in
    let inserted : members_view c.insert.new.self.entries ≡ put k (view v) found =
    ap members_view c.in_ok-insert.ensures.entries ∙ members_view-insert_entry l.members.entries c.in_ok-name-2.name v ∙ ap (λ name. put name (view v) found) copied in (
      (λ all enough.
          let held = l.invariant.0 all enough in (
            held.0 - 1,
            omega (arith, held.1, less, lesser),
            held.2 ∙ next_member p found held.0 k l.reader s r (view v) (omega (arith, held.1, less)) named done.takes
                ∙ ap (λ kept. members_after kept c.args.depth (held.0 - 1) r) (sym inserted),
          )),
      omega (arith, l.invariant.1, less, lesser),
    )

pub returns-clause-takes : goal.returns-clause-takes
returns-clause-takes c all enough =
    let l = c.rest in
    let held = l.invariant.0 all enough in
    held.2 ∙ members_done (value c.args.depth) (members_view l.members.entries) held.0 l.reader c.next_key.new.self held.1 (grind arith)
