use Rattle.std.proofs.Common.{arith}
use Rattle.streetmap_grid.specs.Views.{simple_value}
use Rattle.streetmap_grid.specs.Extent.{simple_vertices}
use Rattle.streetmap_grid.proofs.Growing.{bounds_more, bounds_all}
use Rattle.streetmap_grid.proofs.extent.with_members.Goals as goal

pub loop-member-preserved : goal.loop-member-preserved
loop-member-preserved c = λ ps h. bounds_more (λ s. simple_vertices (simple_value s)) c.args.members.now ps c.loop-member.member-index c.member-item.result _ (omega arith) c.member-item.is (c.with_simple-grows.ensures _ (c.loop-member.invariant ps h))

pub returns : goal.returns
returns c = λ ps h. bounds_all (simple_vertices) simple_value c.args.members.now ps c.loop-member.member-index _ (omega arith) (c.loop-member.invariant ps h)
