use Rattle.std.proofs.Common.{◌≡◌, ◌++◌, ap, ◌∙◌, string_bytes, codes, decimal, length, option_map, rules}
use Rattle.serde_json.specs.Written.{compact_text}
use Rattle.streetmap_feature_text.specs.Written.{array_of, feature_data}
use Rattle.streetmap_query.specs.Views.{query_value}
use Rattle.streetmap_ledger.specs.PageView.{page_value}
use Rattle.streetmap_bodies.specs.Bodies.{page_links, self_href, next_href}
use Rattle.streetmap_bodies.proofs.Texts.{before, begun}
use Rattle.streetmap_bodies.proofs.BodyTexts.{page_text_is}
use Rattle.streetmap_bodies.proofs.page_body.page_text.Goals as goal

pub returns : goal.returns
returns c =
    let page = page_value c.args.page.now in
    let q = query_value c.args.query.now in
    let start : string_bytes c.add.new.out ≡ codes "{\"features\":" = search rules in
    let s1 : string_bytes c.push_features.new.out ≡ string_bytes c.add.new.out ++ compact_text (array_of feature_data page.features) =
    c.in_ok-push_features.ensures ∙ ap (λ fs. string_bytes c.add.new.out ++ compact_text (array_of feature_data fs)) c.as_slice-features.ensures.value in
    let s7 : string_bytes c.add_number-2.new.out ≡ string_bytes c.add-4.new.out ++ decimal (length page.features) =
    c.in_ok-add_number-2.ensures ∙ ap (λ fs. string_bytes c.add-4.new.out ++ decimal (length fs)) c.as_slice-features.ensures.value in
    let s2 : string_bytes c.add-2.new.out ≡ string_bytes c.push_features.new.out ++ codes ",\"links\":" = search rules in
    let s3 : string_bytes c.add_page_links.new.out ≡ string_bytes c.add-2.new.out ++ compact_text (page_links (self_href c.args.root.now c.args.name.now q) (option_map (next_href c.args.root.now c.args.name.now q) page.next)) = search rules in
    let s4 : string_bytes c.add-3.new.out ≡ string_bytes c.add_page_links.new.out ++ codes ",\"numberMatched\":" = c.in_ok-add-3.ensures in
    let s5 : string_bytes c.add_number.new.out ≡ string_bytes c.add-3.new.out ++ decimal page.matched = c.in_ok-add_number.ensures in
    let s6 : string_bytes c.add-4.new.out ≡ string_bytes c.add_number.new.out ++ codes ",\"numberReturned\":" = c.in_ok-add-4.ensures in
    let s8 : string_bytes c.add-5.new.out ≡ string_bytes c.add_number-2.new.out ++ codes ",\"type\":\"FeatureCollection\"}" = search rules in
    begun (string_bytes c.add.new.out) _ _ _ _ start (before (string_bytes c.add.new.out) _ _ _ _ s1 (before (string_bytes c.push_features.new.out) _ _ _ _ s2 (before (string_bytes c.add-2.new.out) _ _ _ _ s3 (before (string_bytes c.add_page_links.new.out) _ _ _ _ s4 (before (string_bytes c.add-3.new.out) _ _ _ _ s5 (before (string_bytes c.add_number.new.out) _ _ _ _ s6 (before (string_bytes c.add-4.new.out) _ _ _ _ s7 (s8)))))))) (page_text_is c.args.root.now c.args.name.now q page.features page.matched page.examined page.next)
