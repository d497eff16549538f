use Rattle.std.proofs.Common.{All, take}
use Rattle.streetmap_query.specs.Views.{query_value}
use Rattle.streetmap_index.specs.OutlinePages.{IsExamined}
use Rattle.streetmap_index.proofs.run.run_length.Given as goal

-- a page examines each feature whose outline was checked
abbrev pub invariant-loop-place : goal.invariant-loop-place
invariant-loop-place l = All (IsExamined (query_value l.query)) (take l.place l.outlines)
