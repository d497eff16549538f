use Rattle.std.proofs.Common.{◌≡◌, ◌++◌, ◌∷◌, [], option_map, refl}
use Rattle.std.proofs.lemmas.Result.{err_from_is_err_and}
use Rattle.serde_json.specs.View.{view}
use Rattle.streetmap_grid.specs.Views.{simple_value, simples_value}
use Rattle.streetmap_geojson.specs.ParsedGeometries.{member_of_collection, somes}
use Rattle.streetmap_geojson.proofs.Fronts.{goes_on, ends, is_done, push_some, push_none, Fails-under}
use Rattle.streetmap_geojson.proofs.geometry.read_members.Goals as goal
use Rattle.streetmap_geojson.proofs.geometry.read_members.Goals.{in-Some+in_ok-push, in_default}

pub loop-value-preserved : goal.loop-value-preserved
loop-value-preserved c =
    let inv = c.loop-value.invariant in
    let front = inv.1.0 in
    let read = option_map simple_value c.in_ok-member.field-0 in
    let next = goes_on view member_of_collection c.args.values.now c.loop-value.value-index c.value-item.result front read c.loop-value.seen c.read_member.new.seen _ c.loop-value-test.true c.value-item.is c.in_ok-member.ensures.reads inv.1.2 in
    let kept : simples_value c.match-branch-2.read.items ≡ somes (front ++ read ∷ []) =
    elim c.match-branch-2.branch [
      | in-Some+in_ok-push w ↦ rw (w.read-is, w.in_ok-push.ensures.items, w.in-Some.is) (push_some simple_value c.loop-value.read.items w.in-Some.member front inv.1.1)
      | in_default w ↦ rw (w.read-is, w.in_default.is) (push_none simple_value c.loop-value.read.items front inv.1.1)
    ] in
    (c.in_ok-member.ensures.counted, (front ++ read ∷ [], kept, next))

pub returns-in_err-member-clause-reads : goal.returns-in_err-member-clause-reads
returns-in_err-member-clause-reads c =
    let p = err_from_is_err_and c.from_residual.result c.from_residual.ensures.1 in
    let inv = c.loop-value.invariant in
    rw (p.1, p.2) (Fails-under c.in_err-member.field-0.0 somes _ (ends view member_of_collection c.args.values.now c.loop-value.value-index c.value-item.result c.in_err-member.field-0.0 inv.1.0 c.loop-value.seen _ c.loop-value-test.true c.value-item.is c.in_err-member.ensures.reads inv.1.2))

pub returns-clause-reads : goal.returns-clause-reads
returns-clause-reads c =
    let inv = c.loop-value.invariant in
    rw (is_done view member_of_collection c.args.values.now c.loop-value.value-index inv.1.0 c.loop-value.seen _ c.loop-value-test.false inv.1.2, inv.1.1) refl
