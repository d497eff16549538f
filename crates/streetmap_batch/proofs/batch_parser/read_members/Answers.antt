use Rattle.std.proofs.Common.{◌≡◌, ◌-◌, Some, None, Err, sym, subst, ◌∙◌, arith}
use Rattle.json.specs.Json.{value, read_key}
use Rattle.json.proofs.Grammar.{read_key-shorter}
use Rattle.serde_json.specs.Data.{put}
use Rattle.streetmap_json.specs.Values.{members_at}
use Rattle.streetmap_json.specs.declared.fault.ParseFault.TheVariants.{NotJson}
use Rattle.streetmap_json.proofs.Fronts.{next_member, no_member, no_name, members_done, handed_on}
use Rattle.streetmap_batch.specs.BatchTokens.{Takes, AreRead}
use Rattle.streetmap_batch.proofs.batch_parser.read_members.Goals as goal

pub returns-in_err-name : goal.returns-in_err-name
returns-in_err-name c =
    let l = c.members in
    let same : c.from_residual.result ≡ Err NotJson = grind arith in
    subst (λ r. Takes AreRead r c.next_key.new.self (members_at 126 c.args.reader.now)) (sym same)
    (l.invariant.3 ∙ no_name (value 126) l.invariant.0 l.invariant.1 l.reader c.in_err-name.ensures.value)

pub members-preserved : goal.members-preserved
members-preserved c =
    let l = c.members in
    let ms = l.invariant.0 in
    let n = l.invariant.1 in
    let k = c.in-Some.name.now in
    let s = c.next_key.new.self in
    let r = c.read_member.new.reader in
    let named : read_key l.reader ≡ Some (Some k, s) = grind arith in
    let less = read_key-shorter l.reader (Some k) s named in
    let taken = c.in_ok-read_member.ensures.takes ms l.invariant.4 in
    let lesser = c.in_ok-read_member.ensures.shorter in (
      put k taken.0 ms,
      n - 1,
      omega (arith, l.invariant.2),
      l.invariant.3 ∙ next_member (value 126) ms n k l.reader s r taken.0 (omega (arith, l.invariant.2)) named taken.1,
      taken.2,
    )

pub returns-in_err-read_member : goal.returns-in_err-read_member
returns-in_err-read_member c =
    let l = c.members in
    let ms = l.invariant.0 in
    let k = c.in-Some.name.now in
    let s = c.next_key.new.self in
    let named : read_key l.reader ≡ Some (Some k, s) = grind arith in
    let fault = c.in_err-read_member.field-0.0 in
    let same : c.from_residual-in_err-read_member.result ≡ Err fault = grind arith in
    subst (λ r. Takes AreRead r c.read_member.new.reader (members_at 126 c.args.reader.now)) (sym same)
    (handed_on fault _ _ (λ none. l.invariant.3 ∙ no_member (value 126) ms l.invariant.1 k l.reader s named none) (c.in_err-read_member.ensures.takes ms l.invariant.4))

pub returns : goal.returns
returns c =
    let l = c.members in
    let ends : read_key l.reader ≡ Some (None, c.next_key.new.self) = grind arith in
    (l.invariant.0, l.invariant.3 ∙ members_done (value 126) l.invariant.0 l.invariant.1 l.reader c.next_key.new.self l.invariant.2 ends, l.invariant.4)
