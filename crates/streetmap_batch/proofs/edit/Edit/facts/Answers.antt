use Rattle.std.proofs.Common.{◌≡◌, sym, subst}
use Rattle.std.specs.Str.{is_utf8, IsUtf8}
use Rattle.std.proofs.lemmas.Str.{is_utf8-from_IsUtf8}
use Rattle.std.specs.Prelude.{IsTrue, List, ℕ}
use Rattle.streetmap_batch.specs.BatchFacts.{IsTitle, IsTimePropertyIf, IsSoundEdit}
use Rattle.streetmap_batch.specs.BatchView.{edit_value}
use Rattle.streetmap_batch.specs.declared.edit.Edit.{Edit}
use Rattle.streetmap_batch.proofs.edit.Edit.facts.Goals as goal

as_text : (s t : List ℕ) → s ≡ t → IsUtf8 s → IsTrue (is_utf8 t)
as_text s t e h = subst (λ x. IsTrue (is_utf8 x)) e (is_utf8-from_IsUtf8 s h)

pub returns-in-Some : goal.returns-in-Some
returns-in-Some c =
    let title : IsTitle c.in-Open.title = (c.as_str-title.ensures.named, as_text _ _ c.as_str-title.ensures.value c.as_str-title.utf8) in
    let time : IsTimePropertyIf c.in-Open.time = subst IsTimePropertyIf (sym c.in-Some.is) (c.as_str-property.ensures.named, as_text _ _ c.as_str-property.ensures.value c.as_str-property.utf8) in
    subst (λ (e : Edit). IsSoundEdit (edit_value e)) (sym c.in-Open.is) (c.as_str-name.ensures.named, title, time)

pub returns-in-None : goal.returns-in-None
returns-in-None c =
    let title : IsTitle c.in-Open.title = (c.as_str-title.ensures.named, as_text _ _ c.as_str-title.ensures.value c.as_str-title.utf8) in
    let time : IsTimePropertyIf c.in-Open.time = subst IsTimePropertyIf (sym c.in-None.is) tt in
    subst (λ (e : Edit). IsSoundEdit (edit_value e)) (sym c.in-Open.is) (c.as_str-name.ensures.named, title, time)
