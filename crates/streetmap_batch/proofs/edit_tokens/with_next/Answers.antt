use Rattle.std.proofs.Common.{◌≡◌, ◌++◌, ◌∷◌, [], Err, Ok, refl, sym, ap, subst, ◌∙◌, arith}
use Rattle.std.proofs.lemmas.List.{map_push}
use Rattle.streetmap_batch.specs.BatchFaults.{Gives}
use Rattle.streetmap_batch.specs.ParsedBatches.{edits_after}
use Rattle.streetmap_batch.specs.BatchTokens.{edits_view}
use Rattle.streetmap_batch.specs.BatchView.{edit_value}
use Rattle.streetmap_batch.proofs.EditLists.{faulty_before, faulty_last, one_more_edit}
use Rattle.streetmap_batch.proofs.edit_tokens.with_next.Goals as goal

pub returns-in_err-edits : goal.returns-in_err-edits
returns-in_err-edits c ds d following read given =
    let fault = c.in_err-edits.field-0.0 in
    let was : c.args.edits ≡ Err fault = c.in_err-edits.was in
    let same : c.from_residual.result ≡ Err fault = grind arith in
    subst (λ r. Gives edits_view r (edits_after 0 (ds ++ d ∷ []))) (sym same)
    (faulty_before ds d c.args.place following fault (subst (λ r. Gives edits_view r (edits_after 0 ds)) was given))

pub returns-in_err-edit : goal.returns-in_err-edit
returns-in_err-edit c ds d following read given =
    let fault = c.in_err-edit.field-0.0 in
    let was : c.args.edits ≡ Ok c.in_ok-edits.edits = c.in_ok-edits.was in
    let same : c.from_residual-in_err-edit.result ≡ Err fault = grind arith in
    let before = subst (λ r. Gives edits_view r (edits_after 0 ds)) was given in
    subst (λ r. Gives edits_view r (edits_after 0 (ds ++ d ∷ []))) (sym same)
    (faulty_last ds d c.args.place following fault (edits_view c.in_ok-edits.edits) before (c.in_err-edit.ensures d read))

pub returns : goal.returns
returns c ds d following read given =
    let was : c.args.edits ≡ Ok c.in_ok-edits.edits = c.in_ok-edits.was in
    let pushed : edits_view c.push.new.self ≡ edits_view c.in_ok-edits.edits ++ edit_value c.in_ok-edit.edit ∷ [] =
    rw (c.in_ok-push.ensures.items, map_push edit_value c.in_ok-edits.edits.items c.in_ok-edit.edit) refl in
    let before = subst (λ r. Gives edits_view r (edits_after 0 ds)) was given in
    one_more_edit ds d c.args.place following (edits_view c.in_ok-edits.edits) (edit_value c.in_ok-edit.edit) before (c.in_ok-edit.ensures d read)
    ∙ ap (λ es. Ok es) (sym pushed)
