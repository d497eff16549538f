use Rattle.std.proofs.Common.{◌≡◌, ◌++◌, string_bytes, codes, rules}
use Rattle.serde_json.specs.Written.{compact_text}
use Rattle.streetmap_feature_text.specs.Written.{array_of}
use Rattle.streetmap_ledger.specs.SummaryView.{summary_values}
use Rattle.streetmap_bodies.specs.Bodies.{collection_data, self_link}
use Rattle.streetmap_bodies.proofs.Texts.{before, begun}
use Rattle.streetmap_bodies.proofs.BodyTexts.{collections_text_is}
use Rattle.streetmap_bodies.proofs.collection_body.collections_text.Goals as goal

pub returns : goal.returns
returns c =
    let ss = summary_values c.args.summaries.now in
    let start : string_bytes c.add.new.out ≡ codes "{\"collections\":" = search rules in
    let s1 : string_bytes c.add_collections.new.out ≡ string_bytes c.add.new.out ++ compact_text (array_of (collection_data c.args.root.now) ss) = search rules in
    let s2 : string_bytes c.add-2.new.out ≡ string_bytes c.add_collections.new.out ++ codes ",\"links\":" = search rules in
    let s3 : string_bytes c.add_collections_link.new.out ≡ string_bytes c.add-2.new.out ++ compact_text (self_link (c.args.root.now ++ codes "/collections")) = search rules in
    let s4 : string_bytes c.add-3.new.out ≡ string_bytes c.add_collections_link.new.out ++ codes "}" = search rules in
    begun (string_bytes c.add.new.out) _ _ _ _ start (before (string_bytes c.add.new.out) _ _ _ _ s1 (before (string_bytes c.add_collections.new.out) _ _ _ _ s2 (before (string_bytes c.add-2.new.out) _ _ _ _ s3 (s4)))) (collections_text_is c.args.root.now ss)
