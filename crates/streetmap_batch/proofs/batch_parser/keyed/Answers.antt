use Rattle.std.proofs.Common.{rules, ◌≡◌, true, Some, refl, sym, subst, arith}
use Rattle.std.specs.Prelude.{option_map, string_bytes}
use Rattle.streetmap_batch.specs.BatchFaults.{Gives}
use Rattle.streetmap_batch.specs.ParsedBatches.{batch_from}
use Rattle.streetmap_batch.specs.BatchTokens.{edits_view, few_edits}
use Rattle.streetmap_batch.specs.BatchView.{batch_value, edit_values}
use Rattle.streetmap_batch.specs.Names.{is_key}
use Rattle.streetmap_batch.proofs.EditLists.{keyed_read}
use Rattle.streetmap_batch.specs.ParsedBatches.{keyed}
use Rattle.streetmap_batch.proofs.batch_parser.keyed.Goals as goal

pub returns : goal.returns
returns c ds given =
    let es = edits_view c.in_ok-edits.edits in
    let key = c.in-Some.key.now in
    let named : is_key key ≡ true = grind arith in
    let read = subst (λ r. Gives edits_view r (few_edits ds)) c.in_ok-edits.was given in
    let stated : option_map (λ t. t.now) c.args.stated ≡ Some key = rw c.in-Some.is refl in
    let made : Gives batch_value c.new.result (batch_from key es) = subst (λ k. Gives batch_value c.new.result (batch_from k es)) c.in_ok-key.ensures.ok (subst (λ items. Gives batch_value c.new.result (batch_from (string_bytes c.in_ok-key.key) (edit_values items))) c.shrink_to_fit.ensures.items c.new.ensures) in
    subst (λ r. Gives batch_value c.new.result r) (sym (keyed_read (option_map (λ t. t.now) c.args.stated) key ds es stated named read)) made

pub returns-in_err-edits : goal.returns-in_err-edits
unfolding keyed
returns-in_err-edits c = search rules
