use Rattle.std.proofs.Common.{◌≡◌, Some, suc, true, false, option_map, string_bytes, rules, subst, sym, ap, ◌∙◌, ◌∷◌, [], length-append, arith}
use Rattle.std.specs.Option.{option_copied}
use Rattle.streetmap_rows.proofs.ResultCases.{handed_on}
use Rattle.streetmap_ledger.specs.WellFormed.{IsPlaced}
use Rattle.streetmap_checking.specs.Good.{feature_view}
use Rattle.streetmap_checking.specs.Held.{ComesAfterLast, property_of, last_key}
use Rattle.streetmap_checking.proofs.RowCells.{id_of_cells}
use Rattle.streetmap_checking.proofs.Rising.{grows, last_end}
use Rattle.streetmap_checking.proofs.Taking.{not_taken, not_after, no_feature_of, feature_of, never}
use Rattle.streetmap_checking.proofs.features.FeatureRowsRowFold.take.Goals as goal

pub returns-in_err-feature : goal.returns-in_err-feature
returns-in_err-feature c = λ start rows held. handed_on _ _ _ _ c.from_residual.ensures.1
    (not_taken feature_view (IsPlaced (property_of start)) id_of_cells rows c.args.row.now held.are _
    (no_feature_of _ _ c.args.row.now _ held.head c.in_err-feature.ensures))

pub returns-then-not-follows : goal.returns-then-not-follows
returns-then-not-follows c = λ start rows held.
    let off : c.follows.result ≡ false = search rules in
    let it = feature_of c.args.self.now.head start.head c.args.row.now c.in_ok-feature.feature held.head c.in_ok-feature.ensures in
    let last : option_copied c.as_deref.result ≡ option_map string_bytes c.args.self.now.last = search rules in
    let id : c.id.result.now ≡ c.in_ok-feature.feature.id = search rules in
    not_after feature_view (IsPlaced (property_of start)) id_of_cells rows c.args.row.now held.are c.in_ok-feature.feature.id c.in_ok-feature.feature it.0
    (λ less. absurd (let on = sym off ∙ c.follows.ensures.1 (subst (λ l. ComesAfterLast l c.id.result.now) (sym (last ∙ held.last))
    (subst (ComesAfterLast (last_key held.are.entries)) (sym id) less)) in cc))

pub returns-in_err-count : goal.returns-in_err-count
returns-in_err-count c = λ start rows held. handed_on _ _ _ _ c.from_residual-in_err-count.ensures.1 (never _ _ c.in_err-count.ensures)

pub returns : goal.returns
unfolding grows
returns c = λ start rows held.
    let on : c.follows.result ≡ true = search rules in
    let it = feature_of c.args.self.now.head start.head c.args.row.now c.in_ok-feature.feature held.head c.in_ok-feature.ensures in
    let last : option_copied c.as_deref.result ≡ option_map string_bytes c.args.self.now.last = search rules in
    let id : c.id.result.now ≡ c.in_ok-feature.feature.id = search rules in
    let less = subst (ComesAfterLast (last_key held.are.entries)) id (subst (λ l. ComesAfterLast l c.id.result.now) (last ∙ held.last) (c.follows.ensures.0 on))
    in
    let named : string_bytes c.in_ok-last.last ≡ c.in_ok-feature.feature.id = search rules in
    let more : c.in_ok-count.count ≡ suc c.args.self.now.count = search rules in
    record {
      head = held.head;
      are = grows feature_view (IsPlaced (property_of start)) rows c.args.row.now held.are c.in_ok-feature.feature.id c.in_ok-feature.feature it.0 it.1 less;
      last = ap Some named ∙ sym (last_end held.are.entries (c.in_ok-feature.feature.id, c.in_ok-feature.feature));
      counted = omega (arith, more, held.counted, length-append held.are.entries ((c.in_ok-feature.feature.id, c.in_ok-feature.feature) ∷ []));
    }
