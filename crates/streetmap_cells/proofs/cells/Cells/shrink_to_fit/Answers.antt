use Rattle.std.proofs.Common.{Contains, ◌<◌, ◌∙◌, length, refl, sym, subst, arith, rules}
use Rattle.std.proofs.lemmas.List.{length-set}
use Rattle.streetmap_cells.proofs.Listing.{kept}
use Rattle.streetmap_cells.proofs.cells.Cells.shrink_to_fit.Goals as goal

pub loop-bucket-init : goal.loop-bucket-init
loop-bucket-init c = record { count = search rules; kept = λ n box h. h }

pub loop-bucket-preserved : goal.loop-bucket-preserved
loop-bucket-preserved c =
    let inv = c.loop-bucket.invariant in
    let bucket = c.loop-bucket.bucket in
    let within : bucket < length c.loop-bucket.self.buckets.items = omega (arith, inv.count, c.loop-bucket-test.true) in
    record {
      count = length-set c.loop-bucket.self.buckets.items bucket c.shrink_to_fit.new.self ∙ inv.count;
      kept = λ n box h.
          let was = inv.kept n box h in (
            was.0,
            (
              was.1.0,
              kept c.loop-bucket.self _ bucket c.index_mut.result.now c.shrink_to_fit.new.self within c.index_mut.ensures.value refl
                  (λ x has. subst (λ items. Contains items x) (sym c.shrink_to_fit.ensures.items) has) n was.0 was.1.1,
            ),
          );
    }
