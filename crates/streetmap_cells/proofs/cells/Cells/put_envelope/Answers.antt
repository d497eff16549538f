use Rattle.std.proofs.Common.{Contains, refl, sym, subst}
use Rattle.std.specs.Prelude.{is_ok}
use Rattle.streetmap_cells.proofs.Listing.{pushed, kept}
use Rattle.streetmap_cells.proofs.cells.Cells.put_envelope.Goals as goal

pub returns-clause-kept : goal.returns-clause-kept
returns-clause-kept c =
    kept c.args.self.now _ c.bucket_of-bucket.result c.index_mut.result.now c.push.new.self c.bucket_of-bucket.ensures.bound c.index_mut.ensures.value refl
    (λ x has. subst (λ items. Contains items x) (sym c.push.ensures.items) (pushed (is_ok c.push.result) _ _ x has))

pub returns-in_err-push-clause-kept : goal.returns-in_err-push-clause-kept
returns-in_err-push-clause-kept c =
    kept c.args.self.now _ c.bucket_of-bucket.result c.index_mut.result.now c.push.new.self c.bucket_of-bucket.ensures.bound c.index_mut.ensures.value refl
    (λ x has. subst (λ items. Contains items x) (sym c.push.ensures.items) (pushed (is_ok c.push.result) _ _ x has))
