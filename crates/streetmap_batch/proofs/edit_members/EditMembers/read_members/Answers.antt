use Rattle.std.proofs.Common.{◌≡◌, ◌-◌, Some, None, Err, refl, sym, ap, subst, ◌∙◌, arith}
use Rattle.json.specs.Json.{value, members, read_key}
use Rattle.json.proofs.Grammar.{read_key-shorter}
use Rattle.serde_json.specs.Read.{of_members, converted}
use Rattle.streetmap_json.specs.Values.{members_at}
use Rattle.streetmap_json.specs.declared.fault.ParseFault.TheVariants.{NotJson}
use Rattle.streetmap_json.proofs.Fronts.{next_member, no_member, no_name, members_done, handed_on}
use Rattle.streetmap_batch.specs.BatchTokens.{Takes}
use Rattle.streetmap_batch.specs.EditMembers.{stated_members}
use Rattle.streetmap_batch.specs.declared.edit_members.EditMembers.{EditMembers}
use Rattle.streetmap_batch.proofs.edit_members.EditMembers.read_members.Goals as goal

pub returns-in_err-name-clause-takes : goal.returns-in_err-name-clause-takes
returns-in_err-name-clause-takes c =
    let l = c.names in
    let same : c.from_residual.result ≡ Err NotJson = grind arith in
    subst (λ r. Takes (λ ms (m : EditMembers). ms ≡ stated_members m) r c.next_key.new.self (members_at c.args.depth c.args.reader.now)) (sym same)
    (l.invariant.2 ∙ no_name (value c.args.depth) (stated_members l.members) l.invariant.0 l.reader c.in_err-name.ensures.value)

pub returns-in_err-read_member-clause-takes : goal.returns-in_err-read_member-clause-takes
returns-in_err-read_member-clause-takes c =
    let l = c.names in
    let k = c.in-Some.name.now in
    let s = c.next_key.new.self in
    let named : read_key l.reader ≡ Some (Some k, s) = grind arith in
    let fault = c.in_err-read_member.field-0.0 in
    let same : c.from_residual-in_err-read_member.result ≡ Err fault = grind arith in
    subst (λ r. Takes (λ ms (m : EditMembers). ms ≡ stated_members m) r c.read_member.new.reader (members_at c.args.depth c.args.reader.now)) (sym same)
    (handed_on fault _ _ (λ none. l.invariant.2 ∙ no_member (value c.args.depth) (stated_members l.members) l.invariant.0 k l.reader s named none)
    c.in_err-read_member.ensures.takes)

pub names-preserved : goal.names-preserved
names-preserved c =
    let p = value c.args.depth in
    let l = c.names in
    let n = l.invariant.0 in
    let k = c.in-Some.name.now in
    let s = c.next_key.new.self in
    let r = c.read_member.new.reader in
    let named : read_key l.reader ≡ Some (Some k, s) = grind arith in
    let less = read_key-shorter l.reader (Some k) s named in
    let taken = c.in_ok-read_member.ensures.takes in
    let lesser = c.in_ok-read_member.ensures.shorter in (
      n - 1,
      omega (arith, l.invariant.1, less, lesser),
      l.invariant.2 ∙ next_member p (stated_members l.members) n k l.reader s r taken.0 (omega (arith, l.invariant.1, less)) named taken.1
          ∙ ap (λ kept. converted (λ rest. of_members rest kept) (members p (n - 1) r)) (sym taken.2),
      omega (arith, l.invariant.3, less, lesser),
    )

pub returns-clause-takes : goal.returns-clause-takes
returns-clause-takes c =
    let l = c.names in
    let s = c.next_key.new.self in
    let ends : read_key l.reader ≡ Some (None, s) = grind arith in
    (stated_members l.members, l.invariant.2 ∙ members_done (value c.args.depth) (stated_members l.members) l.invariant.0 l.reader s l.invariant.1 ends, refl)
