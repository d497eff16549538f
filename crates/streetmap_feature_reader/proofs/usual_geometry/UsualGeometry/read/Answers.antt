use Rattle.std.proofs.Common.{◌≡◌, ◌-◌, None, Some, ap, sym, ◌∙◌, arith}
use Rattle.json.specs.Json.{members, value, read_key}
use Rattle.json.proofs.Grammar.{read_key-shorter}
use Rattle.serde_json.specs.Read.{of_members, converted}
use Rattle.streetmap_json.proofs.Fronts.{next_member, members_done}
use Rattle.streetmap_feature_reader.specs.UsualGeometry.{geometry_members}
use Rattle.streetmap_feature_reader.proofs.usual_geometry.UsualGeometry.read.Goals as goal

pub members-preserved : goal.members-preserved
members-preserved c =
    let p = value 125 in
    let l = c.members in
    let n = l.invariant.0 in
    let found = geometry_members l.members in
    let k = c.in-Some.name.now in
    let s = c.next_key.new.self in
    let r = c.take.new.reader in
    let named : read_key l.reader ≡ Some (Some k, s) = grind arith in
    let less = read_key-shorter l.reader (Some k) s named in
    let h = c.in_ok-take.ensures (grind arith) in (
      n - 1,
      omega (arith, l.invariant.1, less, h.3),
      omega (arith, l.invariant.2, less, h.3),
      l.invariant.3 ∙ next_member p found n k l.reader s r h.0 (omega (arith, l.invariant.1, less)) named h.1
          ∙ ap (λ kept. converted (λ ms. of_members ms kept) (members p (n - 1) r)) (sym h.2),
    )

pub returns : goal.returns
returns c =
    let l = c.members in
    let s = c.next_key.new.self in
    let named : read_key l.reader ≡ Some (None, s) = grind arith in
    let less = read_key-shorter l.reader None s named in
    (l.invariant.3 ∙ members_done (value 125) (geometry_members l.members) l.invariant.0 l.reader s l.invariant.1 named, omega (arith, l.invariant.2, less))
