use Rattle.std.proofs.Common.{IsSome, sym, subst, refl}
use Rattle.std.specs.FinMap.{get}
use Rattle.streetmap_batch.specs.Text.{Text}
use Rattle.streetmap_batch.specs.BatchView.{edit_value}
use Rattle.streetmap_index.specs.Index.{IsOutlinedIf}
use Rattle.streetmap_outlines.proofs.Results.{on_ok_map}
use Rattle.streetmap_index.proofs.Following.{still_known, followed, all_followed}
use Rattle.streetmap_index.proofs.index.Index.follow_edit.Goals as goal

pub returns-in-Some : goal.returns-in-Some
returns-in-Some c = λ s t done index.
    let e = edit_value c.args.edit.now in
    let name = c.collection_of.result.now in
    let named = c.collection_of.ensures in
    let es = c.args.self.now.known.entries in
    let there = c.in-Some.ensures.value in
    let fs = (c.get_mut.follows.lender c.follow.new.self).entries in
    let writes = (c.get_mut.follows.holds c.follow.new.self).3 (subst (λ o. IsSome o) there refl) in
    let was = subst (λ (k : Text). IsOutlinedIf c.in-Some.outlined.now (get s.collections k)) named (index.0 name c.in-Some.outlined.now (sym there)) in
    on_ok_map c.follow.result
    (λ now. (
      followed s t e name named done es fs c.follow.new.self writes.3 writes.1 index.0 now,
      λ whole. all_followed s t e name named done es fs c.follow.new.self writes.3 writes.1 (index.1 whole),
    ))
    (c.follow.ensures s t done was)

pub returns-in-None : goal.returns-in-None
returns-in-None c = λ s t done index.
    rw c.get_mut.follows.holds-at-none (
      still_known s t (edit_value c.args.edit.now) c.collection_of.result.now c.collection_of.ensures done c.args.self.now.known.entries index.0
          (sym c.in-None.ensures.value),
      λ whole. absurd cc,
    )
