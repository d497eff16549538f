use Rattle.std.proofs.Common.{arith, ◌≡◌, [], sym, ◌∙◌, length, map, subst, rules}
use Rattle.std.proofs.lemmas.Grind.{common_steps}
use Rattle.sqlite.specs.Held.{state}
use Rattle.sqlite.proofs.Callers.{unchanged_then}
use Rattle.streetmap_rows.proofs.ReadsInTurn.{clean_before}
use Rattle.streetmap_tables.proofs.BeforeCleanEnd.{is_handed}
use Rattle.streetmap_rows.specs.Statements.{select_collections}
use Rattle.streetmap_rows.proofs.ErrorReasons.{counts_then}
use Rattle.streetmap_checking.specs.CheckResults.{IsDamaged, by_format, by_collections, by_features, by_owners, by_batches}
use Rattle.streetmap_checking.specs.Good.{AreCollectionRows, AreOwnerRows, AreBatchRows}
use Rattle.streetmap_checking.specs.Held.{known}
use Rattle.streetmap_checking.specs.Statements.{select_owners, select_batches}
use Rattle.streetmap_checking.specs.QueryResults.{ShowsWhy, SeesAllFeatures, Known, NoFormat, NoCollections, NoFeaturesOfAll, NoOwners, NoBatches}
use Rattle.streetmap_checking.proofs.ReadResults.{none_on, fault_on, why_for, handed, no_features_all_on, all_features_on, heads_on, owners_on, batches_on}
use Rattle.streetmap_checking.proofs.Found.{as_many_known}
use Rattle.streetmap_checking.proofs.Simple.{collections_simple, owners_simple, batches_simple}
use Rattle.streetmap_checking.proofs.check.read_all_tables.Goals as goal

pub returns-in_err-check_format : goal.returns-in_err-check_format
returns-in_err-check_format g c = record {
  shows = λ clean.
      let old = state g.S.Store c.args.conn.now in
      let one = state g.S.Store c.check_format.new.conn in
      handed _ _ old one _ _ (is_handed _ _ c.from_residual.ensures.1) (why_for (IsDamaged old) (NoFormat old) old one c.in_err-check_format.field-0.0
      (λ none. by_format none) (c.in_err-check_format.ensures.shows clean));
  mode = first_of (search rules, grind (arith, common_steps));
  survives = first_of (search rules, grind (arith, common_steps));
}

pub returns-in_err-heads : goal.returns-in_err-heads
returns-in_err-heads g c = record {
  shows = λ clean.
      let old = state g.S.Store c.args.conn.now in
      let one = state g.S.Store c.check_format.new.conn in
      let two = state g.S.Store c.check_collections.new.conn in
      let same = (c.in_ok-check_format.ensures.shows (clean_before one two _ c.check_collections.ensures.survives clean)).1 in
      let limit = c.check_format.ensures.survives.limit in
      handed _ _ old two _ _ (is_handed _ _ c.from_residual-in_err-heads.ensures.1)
      (fault_on (IsDamaged old) (NoCollections one) old one two c.in_err-heads.field-0.0 same c.check_format.ensures.survives.counts
      c.check_collections.ensures.survives.counts (λ none. by_collections (none_on select_collections [] collections_simple AreCollectionRows old one same
      limit none)) (c.in_err-heads.ensures.shows clean));
  mode = first_of (search rules, grind (arith, common_steps));
  survives = first_of (search rules, grind (arith, common_steps));
}

pub returns-in_err-features : goal.returns-in_err-features
returns-in_err-features g c = record {
  shows = λ clean.
      let old = state g.S.Store c.args.conn.now in
      let one = state g.S.Store c.check_format.new.conn in
      let two = state g.S.Store c.check_collections.new.conn in
      let three = state g.S.Store c.check_all_features.new.conn in
      let clean2 = clean_before two three _ c.check_all_features.ensures.survives clean in
      let first = (c.in_ok-check_format.ensures.shows (clean_before one two _ c.check_collections.ensures.survives clean2)).1 in
      let heads = c.in_ok-heads.ensures.shows clean2 in
      let same = unchanged_then old one two first heads.1 in
      let limit = c.check_collections.ensures.survives.limit ∙ c.check_format.ensures.survives.limit in
      let all = known c.in_ok-heads.heads.items in
      let is : c.as_slice.result.now ≡ c.in_ok-heads.heads.items = search rules in
      let reported = subst (λ l. ShowsWhy (NoFeaturesOfAll (known l) two) two three c.in_err-features.field-0.0) is
      (c.in_err-features.ensures.shows clean heads.1.0.is_open) in
      let counts = counts_then old.faults one.faults two.faults c.check_format.ensures.survives.counts c.check_collections.ensures.survives.counts in
      handed _ _ old three _ _ (is_handed _ _ c.from_residual-in_err-features.ensures.1)
      (fault_on (IsDamaged old) (NoFeaturesOfAll all two) old two three c.in_err-features.field-0.0 same counts c.check_all_features.ensures.survives.counts
      (λ none. by_features all (heads_on all old one first heads.0) (no_features_all_on all old two same limit none)) reported);
  mode = first_of (search rules, grind (arith, common_steps));
  survives = first_of (search rules, grind (arith, common_steps));
}

pub returns-in_err-check_owners : goal.returns-in_err-check_owners
returns-in_err-check_owners g c = record {
  shows = λ clean.
      let old = state g.S.Store c.args.conn.now in
      let one = state g.S.Store c.check_format.new.conn in
      let two = state g.S.Store c.check_collections.new.conn in
      let three = state g.S.Store c.check_all_features.new.conn in
      let four = state g.S.Store c.check_owners.new.conn in
      let clean3 = clean_before three four _ c.check_owners.ensures.survives clean in
      let clean2 = clean_before two three _ c.check_all_features.ensures.survives clean3 in
      let first = (c.in_ok-check_format.ensures.shows (clean_before one two _ c.check_collections.ensures.survives clean2)).1 in
      let heads = c.in_ok-heads.ensures.shows clean2 in
      let features = c.in_ok-features.ensures.shows clean3 heads.1.0.is_open in
      let same = unchanged_then old two three (unchanged_then old one two first heads.1) features.1 in
      let limit = c.check_all_features.ensures.survives.limit ∙ c.check_collections.ensures.survives.limit ∙ c.check_format.ensures.survives.limit in
      let all = known c.in_ok-heads.heads.items in
      let two_counts = counts_then old.faults one.faults two.faults c.check_format.ensures.survives.counts c.check_collections.ensures.survives.counts in
      let three_counts = counts_then old.faults two.faults three.faults two_counts c.check_all_features.ensures.survives.counts in
      let counts = three_counts in
      handed _ _ old four _ _ (is_handed _ _ c.from_residual-in_err-check_owners.ensures.1)
      (fault_on (IsDamaged old) (NoOwners all three) old three four c.in_err-check_owners.field-0.0 same counts c.check_owners.ensures.survives.counts
      (λ none. by_owners all (heads_on all old one first heads.0) (none_on select_owners [] owners_simple (AreOwnerRows (map (λ (k : Known). k.0) all)) old
      three same limit none)) (c.in_err-check_owners.ensures.shows clean));
  mode = first_of (search rules, grind (arith, common_steps));
  survives = first_of (search rules, grind (arith, common_steps));
}

pub returns-in_err-batches : goal.returns-in_err-batches
returns-in_err-batches g c = record {
  shows = λ clean.
      let old = state g.S.Store c.args.conn.now in
      let one = state g.S.Store c.check_format.new.conn in
      let two = state g.S.Store c.check_collections.new.conn in
      let three = state g.S.Store c.check_all_features.new.conn in
      let four = state g.S.Store c.check_owners.new.conn in
      let five = state g.S.Store c.check_batches.new.conn in
      let clean4 = clean_before four five _ c.check_batches.ensures.survives clean in
      let clean3 = clean_before three four _ c.check_owners.ensures.survives clean4 in
      let clean2 = clean_before two three _ c.check_all_features.ensures.survives clean3 in
      let first = (c.in_ok-check_format.ensures.shows (clean_before one two _ c.check_collections.ensures.survives clean2)).1 in
      let heads = c.in_ok-heads.ensures.shows clean2 in
      let features = c.in_ok-features.ensures.shows clean3 heads.1.0.is_open in
      let owners = c.in_ok-check_owners.ensures.shows clean4 in
      let same = unchanged_then old three four (unchanged_then old two three (unchanged_then old one two first heads.1) features.1) owners.1 in
      let limit = c.check_owners.ensures.survives.limit ∙ c.check_all_features.ensures.survives.limit ∙ c.check_collections.ensures.survives.limit
      ∙ c.check_format.ensures.survives.limit in
      let two_counts = counts_then old.faults one.faults two.faults c.check_format.ensures.survives.counts c.check_collections.ensures.survives.counts in
      let three_counts = counts_then old.faults two.faults three.faults two_counts c.check_all_features.ensures.survives.counts in
      let counts = counts_then old.faults three.faults four.faults three_counts c.check_owners.ensures.survives.counts in
      handed _ _ old five _ _ (is_handed _ _ c.from_residual-in_err-batches.ensures.1)
      (fault_on (IsDamaged old) (NoBatches four) old four five c.in_err-batches.field-0.0 same counts c.check_batches.ensures.survives.counts
      (λ none. by_batches (none_on select_batches [] batches_simple AreBatchRows old four same limit none)) (c.in_err-batches.ensures.shows clean));
  mode = first_of (search rules, grind (arith, common_steps));
  survives = first_of (search rules, grind (arith, common_steps));
}

pub returns : goal.returns
returns g c = record {
  shows = λ clean.
      let old = state g.S.Store c.args.conn.now in
      let one = state g.S.Store c.check_format.new.conn in
      let two = state g.S.Store c.check_collections.new.conn in
      let three = state g.S.Store c.check_all_features.new.conn in
      let four = state g.S.Store c.check_owners.new.conn in
      let five = state g.S.Store c.check_batches.new.conn in
      let clean4 = clean_before four five _ c.check_batches.ensures.survives clean in
      let clean3 = clean_before three four _ c.check_owners.ensures.survives clean4 in
      let clean2 = clean_before two three _ c.check_all_features.ensures.survives clean3 in
      let format = c.in_ok-check_format.ensures.shows (clean_before one two _ c.check_collections.ensures.survives clean2) in
      let heads = c.in_ok-heads.ensures.shows clean2 in
      let features = c.in_ok-features.ensures.shows clean3 heads.1.0.is_open in
      let owners = c.in_ok-check_owners.ensures.shows clean4 in
      let batches = c.in_ok-batches.ensures.shows clean in
      let same2 = unchanged_then old one two format.1 heads.1 in
      let same3 = unchanged_then old two three same2 features.1 in
      let same4 = unchanged_then old three four same3 owners.1 in
      let is : c.as_slice.result.now ≡ c.in_ok-heads.heads.items = search rules in
      let all = known c.in_ok-heads.heads.items in
      let count : c.len-collections.result ≡ length c.in_ok-heads.heads.items = search rules in (
        record {
          format = format.0;
          heads = all;
          collections = heads_on all old one format.1 heads.0;
          counted = count ∙ sym (as_many_known c.in_ok-heads.heads.items);
          features = all_features_on all c.in_ok-features.features old two same2 (subst (λ l. SeesAllFeatures (known l) c.in_ok-features.features two) is
              features.0);
          owners = owners_on all old three same3 owners.0;
          batches = batches_on c.in_ok-batches.batches old four same4 batches.0;
        },
        unchanged_then old four five same4 batches.1,
      );
  mode = first_of (search rules, grind (arith, common_steps));
  survives = first_of (search rules, grind (arith, common_steps));
}
