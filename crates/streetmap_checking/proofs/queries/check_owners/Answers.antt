use Rattle.std.proofs.Common.{[], refl, map}
use Rattle.sqlite.specs.Held.{state}
use Rattle.streetmap_checking.specs.Good.{AreOwnerRows}
use Rattle.streetmap_checking.specs.Held.{HoldsOwnerRows, IsGoodOwners, known}
use Rattle.streetmap_checking.specs.Statements.{select_owners}
use Rattle.streetmap_checking.specs.QueryResults.{Known, SeesOwners}
use Rattle.streetmap_checking.proofs.Found.{owners_of, of_owners}
use Rattle.streetmap_checking.proofs.ReadResults.{was_read}
use Rattle.streetmap_checking.proofs.Simple.{query_so, owners_simple}
use Rattle.streetmap_checking.proofs.queries.check_owners.Goals as goal

pub returns : goal.returns
returns g c =
    query_so select_owners _ owners_simple c.fold_rows.ensures (λ clean.
    let heads = c.args.heads.items in
    let old = state g.S.Store c.args.conn.now in
    was_read HoldsOwnerRows IsGoodOwners select_owners [] _ _ (AreOwnerRows (map (λ (k : Known). k.0) (known heads))) (SeesOwners (known heads) old) old
    (state g.S.Store c.fold_rows.new.conn) c.fold_rows.result (λ rows good. of_owners heads rows good)
    (λ rows sees held. (rows, sees, owners_of heads rows held.1))
    (c.fold_rows.ensures.shows clean (owners_simple _) (refl, tt)))
