use Rattle.std.proofs.Common.{◌≡◌, ◌++◌, drop, map, string_bytes}
use Rattle.serde_json.specs.View.{items_of}
use Rattle.serde_json.specs.Written.{items_text, compact_text}
use Rattle.streetmap_feature_text.specs.Written.{array_of}
use Rattle.streetmap_ledger.specs.SummaryView.{summary_values}
use Rattle.streetmap_bodies.specs.Bodies.{collection_data}
use Rattle.streetmap_bodies.proofs.collection_body.add_collections.Given as goal

-- the text so far and the collections left make the whole
abbrev pub invariant-loop-summary : goal.invariant-loop-summary
invariant-loop-summary l =
    string_bytes l.out ++ items_text l.later (items_of (map (collection_data l.root) (summary_values (drop l.summary-index l.summaries))))
    ≡ string_bytes l.fn.out ++ compact_text (array_of (collection_data l.root) (summary_values l.summaries))
