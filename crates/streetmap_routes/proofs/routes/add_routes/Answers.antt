use Rattle.std.proofs.Common.{◌∙◌, ap, codes}
use Rattle.streetmap_routes.specs.Routes.{the_rows, put}
use Rattle.streetmap_routes.specs.declared.routes.Route.TheVariants.{Landing, Api, Conformance, Collections, Collection, Items, Item, Batches}
use Rattle.streetmap_routes.proofs.routes.add_routes.Goals as goal

pub returns : goal.returns
unfolding the_rows
returns c =
    c.in_ok-add-8.ensures ∙ ap (put (codes "/batches") Batches) (
    c.in_ok-add-7.ensures ∙ ap (put (codes "/collections/{collectionId}/items/{featureId}") Item) (
    c.in_ok-add-6.ensures ∙ ap (put (codes "/collections/{collectionId}/items") Items) (
    c.in_ok-add-5.ensures ∙ ap (put (codes "/collections/{collectionId}") Collection) (
    c.in_ok-add-4.ensures ∙ ap (put (codes "/collections") Collections) (
    c.in_ok-add-3.ensures ∙ ap (put (codes "/conformance") Conformance) (
    c.in_ok-add-2.ensures ∙ ap (put (codes "/api") Api) (
    c.in_ok-add.ensures ∙ ap (put (codes "/") Landing) c.requires)))))))
