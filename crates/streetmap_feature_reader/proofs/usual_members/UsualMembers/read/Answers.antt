use Rattle.std.proofs.Common.{◌≡◌, ◌-◌, Some, ap, sym, ◌∙◌, arith}
use Rattle.json.specs.Json.{members, value, read_key}
use Rattle.json.proofs.Grammar.{read_key-shorter}
use Rattle.serde_json.specs.Read.{of_members, converted}
use Rattle.streetmap_json.proofs.Fronts.{next_member, members_done}
use Rattle.streetmap_feature_reader.specs.UsualMembers.{found_members}
use Rattle.streetmap_feature_reader.proofs.usual_members.UsualMembers.read.Goals as goal

pub members-preserved : goal.members-preserved
members-preserved c =
    let p = value 126 in
    let l = c.members in
    let n = l.invariant.0 in
    let found = found_members l.members in
    let k = c.in-Some.name.now in
    let s = c.next_key.new.self in
    let r = c.take.new.reader in
    let named : read_key l.reader ≡ Some (Some k, s) = grind arith in
    let less = read_key-shorter l.reader (Some k) s named in
    let h = c.in_ok-take.ensures (grind arith) in (
      n - 1,
      omega (arith, l.invariant.1, less, h.3),
      l.invariant.2 ∙ next_member p found n k l.reader s r h.0 (omega (arith, l.invariant.1, less)) named h.1
          ∙ ap (λ kept. converted (λ ms. of_members ms kept) (members p (n - 1) r)) (sym h.2),
    )

pub returns : goal.returns
returns c =
    let l = c.members in
    l.invariant.2 ∙ members_done (value 126) (found_members l.members) l.invariant.0 l.reader c.next_key.new.self l.invariant.1 (grind arith)
