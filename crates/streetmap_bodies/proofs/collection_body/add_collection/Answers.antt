use Rattle.std.proofs.Common.{◌≡◌, ◌++◌, ap, ◌∙◌, string_bytes, codes, rules}
use Rattle.serde_json.specs.Data.{string}
use Rattle.serde_json.specs.Written.{compact_text}
use Rattle.streetmap_ledger.specs.SummaryView.{summary_value}
use Rattle.streetmap_bodies.specs.Bodies.{extent_text, collection_links}
use Rattle.streetmap_bodies.proofs.Texts.{before}
use Rattle.streetmap_bodies.proofs.BodyTexts.{collection_text_is}
use Rattle.streetmap_bodies.proofs.collection_body.add_collection.Goals as goal

pub returns : goal.returns
returns c =
    let s = summary_value c.args.summary.now in
    let s1 : string_bytes c.add.new.out ≡ string_bytes c.args.out.now ++ codes "{\"crs\":[\"tag:streetmap.invalid,2024:crs/grid-mm\"]," = c.in_ok-add.ensures in
    let s2 : string_bytes c.add-2.new.out ≡ string_bytes c.add.new.out ++ extent_text s.extent = search rules in
    let s3 : string_bytes c.add-3.new.out ≡ string_bytes c.add-2.new.out ++ codes "\"id\":" = search rules in
    let s4 : string_bytes c.push_quoted.new.out ≡ string_bytes c.add-3.new.out ++ compact_text (string s.id) = search rules in
    let s5 : string_bytes c.add-4.new.out ≡ string_bytes c.push_quoted.new.out ++ codes ",\"links\":" = search rules in
    let s6 : string_bytes c.add_links.new.out ≡ string_bytes c.add-4.new.out ++ compact_text (collection_links c.args.root.now s.id) = search rules in
    let s7 : string_bytes c.add-5.new.out ≡ string_bytes c.add_links.new.out ++ codes ",\"title\":" = search rules in
    let s8 : string_bytes c.push_quoted-2.new.out ≡ string_bytes c.add-5.new.out ++ compact_text (string s.title) = search rules in
    let s9 : string_bytes c.add-6.new.out ≡ string_bytes c.push_quoted-2.new.out ++ codes "}" = search rules in
    before (string_bytes c.args.out.now) _ _ _ _ s1 (before (string_bytes c.add.new.out) _ _ _ _ s2 (before (string_bytes c.add-2.new.out) _ _ _ _ s3 (before (string_bytes c.add-3.new.out) _ _ _ _ s4 (before (string_bytes c.push_quoted.new.out) _ _ _ _ s5 (before (string_bytes c.add-4.new.out) _ _ _ _ s6 (before (string_bytes c.add_links.new.out) _ _ _ _ s7 (before (string_bytes c.add-5.new.out) _ _ _ _ s8 (s9))))))))
    ∙ ap (λ l. string_bytes c.args.out.now ++ l) (collection_text_is c.args.root.now s.id s.title s.time s.extent)
