use Rattle.std.proofs.Common.{◌≡◌, ℕ, ◌+◌, [], ◌∷◌, Ok, Err, true, false, sym, ap, subst, ◌∙◌}
use Rattle.streetmap_loading.specs.Sources.{TakesOff, FirstIs, StaysKnown, placed_value}
use Rattle.streetmap_loading.specs.Texts.{text_on, item_of_text, is_skipped, items_left}
use Rattle.streetmap_loading.specs.Texts.{skips_left}
use Rattle.streetmap_loading.specs.TextView.{rules_value}
use Rattle.streetmap_loading.specs.declared.text_fault.TextFault.TheVariants.{LineTooLong}
use Rattle.streetmap_loading.proofs.TextLemmas.{one_edit, one_skipped, one_fault, too_long}
use Rattle.streetmap_loading.proofs.TextLemmas.{some_text}
use Rattle.streetmap_loading.proofs.SkipLemmas.{long_skips, edit_skips, skipped_skips, fault_skips}
use Rattle.streetmap_loading.proofs.text_edits.TextEdits.step.Goals as goal

pub returns-in-Err-LineTooLong-clause-steps : goal.returns-in-Err-LineTooLong-clause-steps
returns-in-Err-LineTooLong-clause-steps g c =
    let s = c.args.self.now in
    let r = rules_value s.rules in
    let was = g.R.Read.remaining s.reader in
    let long = c.in-Err-LineTooLong.ensures.too_long (ap Err c.in-Err-LineTooLong.field-0-is) in
    subst (λ (n : ℕ). FirstIs (items_left r s.features was) (LineTooLong n))
    (sym c.in-Some.ensures.1) (too_long r s.features was long)

pub returns-in-Ok-clause-steps : goal.returns-in-Ok-clause-steps
returns-in-Ok-clause-steps g c =
    let s = c.args.self.now in
    let r = rules_value s.rules in
    let was = g.R.Read.remaining s.reader in
    let now = g.R.Read.remaining c.read_line.new.reader in
    let line = c.read_line.new.line.items in
    let e = c.in-Some.ensures.1 in
    let text = c.text_on-text.result.now in
    let is : text ≡ text_on (s.features + 1) line = c.text_on-text.ensures ∙
    (ap (λ n. text_on n c.deref.result.now) e ∙ ap (λ t. text_on (s.features + 1) t)
    c.deref.ensures.value) in
    let some = some_text text c.is_empty.result c.is_empty.ensures c.if-is_empty.false in
    let first = rw c.in-Ok-Line.field-0-is at c.in-Ok-Line.ensures.read in
    let item : item_of_text r (s.features + 1) (text_on (s.features + 1) line) ≡ Ok
    (placed_value c.in-Ok.placed) =
    ap (λ t. item_of_text r (s.features + 1) t) (sym is) ∙
    (ap (λ n. item_of_text r n text) (sym e) ∙ c.in-Ok.ensures) in
    subst (λ (n : ℕ). TakesOff (items_left r s.features was) (items_left r n now)
    (Ok (placed_value c.in-Ok.placed) ∷ [])) (sym e)
    (one_edit r s.features was now line (placed_value c.in-Ok.placed) first
    (λ none. some (is ∙ none)) item)

pub returns-in-Some-checked_add-clause-steps : goal.returns-in-Some-checked_add-clause-steps
returns-in-Some-checked_add-clause-steps g c =
    let s = c.args.self.now in
    let r = rules_value s.rules in
    let was = g.R.Read.remaining s.reader in
    let now = g.R.Read.remaining c.read_line.new.reader in
    let line = c.read_line.new.line.items in
    let e = c.in-Some.ensures.1 in
    let text = c.text_on-text.result.now in
    let fault = c.in-Err-AtFault.fault in
    let is : text ≡ text_on (s.features + 1) line = c.text_on-text.ensures ∙
    (ap (λ n. text_on n c.deref.result.now) e ∙ ap (λ t. text_on (s.features + 1) t)
    c.deref.ensures.value) in
    let some = some_text text c.is_empty.result c.is_empty.ensures c.if-is_empty.false in
    let first = rw c.in-Ok-Line.field-0-is at c.in-Ok-Line.ensures.read in
    let read = rw c.in-Err-AtFault.field-0-is at c.in-Err-AtFault.ensures in
    let item : item_of_text r (s.features + 1) (text_on (s.features + 1) line) ≡ Err fault =
    ap (λ t. item_of_text r (s.features + 1) t) (sym is) ∙
    (ap (λ n. item_of_text r n text) (sym e) ∙ read) in
    let skipped : is_skipped r fault ≡ true = sym c.skips.ensures ∙ c.if-skips.true in
    subst (λ (n : ℕ). TakesOff (items_left r s.features was) (items_left r n now) []) (sym e)
    (one_skipped r s.features was now line fault first (λ none. some (is ∙ none)) item skipped)

pub returns-else-skips-clause-steps : goal.returns-else-skips-clause-steps
returns-else-skips-clause-steps g c =
    let s = c.args.self.now in
    let r = rules_value s.rules in
    let was = g.R.Read.remaining s.reader in
    let now = g.R.Read.remaining c.read_line.new.reader in
    let line = c.read_line.new.line.items in
    let e = c.in-Some.ensures.1 in
    let text = c.text_on-text.result.now in
    let fault = c.in-Err-AtFault.fault in
    let is : text ≡ text_on (s.features + 1) line = c.text_on-text.ensures ∙
    (ap (λ n. text_on n c.deref.result.now) e ∙ ap (λ t. text_on (s.features + 1) t)
    c.deref.ensures.value) in
    let some = some_text text c.is_empty.result c.is_empty.ensures c.if-is_empty.false in
    let first = rw c.in-Ok-Line.field-0-is at c.in-Ok-Line.ensures.read in
    let read = rw c.in-Err-AtFault.field-0-is at c.in-Err-AtFault.ensures in
    let item : item_of_text r (s.features + 1) (text_on (s.features + 1) line) ≡ Err fault =
    ap (λ t. item_of_text r (s.features + 1) t) (sym is) ∙
    (ap (λ n. item_of_text r n text) (sym e) ∙ read) in
    let not : is_skipped r fault ≡ false = sym c.skips.ensures ∙ c.if-skips.false in
    one_fault r s.features was now line fault first (λ none. some (is ∙ none)) item not

pub returns-in-Err-LineTooLong-clause-skips : goal.returns-in-Err-LineTooLong-clause-skips
returns-in-Err-LineTooLong-clause-skips g c =
    let s = c.args.self.now in
    let r = rules_value s.rules in
    let was = g.R.Read.remaining s.reader in
    let long = c.in-Err-LineTooLong.ensures.too_long (ap Err c.in-Err-LineTooLong.field-0-is) in
    long_skips r s.skipped s.features was long

pub returns-in-Ok-clause-skips : goal.returns-in-Ok-clause-skips
returns-in-Ok-clause-skips g c =
    let s = c.args.self.now in
    let r = rules_value s.rules in
    let was = g.R.Read.remaining s.reader in
    let now = g.R.Read.remaining c.read_line.new.reader in
    let line = c.read_line.new.line.items in
    let e = c.in-Some.ensures.1 in
    let text = c.text_on-text.result.now in
    let is : text ≡ text_on (s.features + 1) line = c.text_on-text.ensures ∙
    (ap (λ n. text_on n c.deref.result.now) e ∙ ap (λ t. text_on (s.features + 1) t)
    c.deref.ensures.value) in
    let some = some_text text c.is_empty.result c.is_empty.ensures c.if-is_empty.false in
    let first = rw c.in-Ok-Line.field-0-is at c.in-Ok-Line.ensures.read in
    let item : item_of_text r (s.features + 1) (text_on (s.features + 1) line) ≡ Ok
    (placed_value c.in-Ok.placed) =
    ap (λ t. item_of_text r (s.features + 1) t) (sym is) ∙
    (ap (λ n. item_of_text r n text) (sym e) ∙ c.in-Ok.ensures) in
    subst (λ (n : ℕ). StaysKnown (skips_left r s.skipped s.features was) (skips_left r s.skipped n now)) (sym e)
    (edit_skips r s.skipped s.features was now line (placed_value c.in-Ok.placed) first
    (λ none. some (is ∙ none)) item)

pub returns-in-Some-checked_add-clause-skips : goal.returns-in-Some-checked_add-clause-skips
returns-in-Some-checked_add-clause-skips g c =
    let s = c.args.self.now in
    let r = rules_value s.rules in
    let was = g.R.Read.remaining s.reader in
    let now = g.R.Read.remaining c.read_line.new.reader in
    let line = c.read_line.new.line.items in
    let e = c.in-Some.ensures.1 in
    let text = c.text_on-text.result.now in
    let fault = c.in-Err-AtFault.fault in
    let is : text ≡ text_on (s.features + 1) line = c.text_on-text.ensures ∙
    (ap (λ n. text_on n c.deref.result.now) e ∙ ap (λ t. text_on (s.features + 1) t)
    c.deref.ensures.value) in
    let some = some_text text c.is_empty.result c.is_empty.ensures c.if-is_empty.false in
    let first = rw c.in-Ok-Line.field-0-is at c.in-Ok-Line.ensures.read in
    let read = rw c.in-Err-AtFault.field-0-is at c.in-Err-AtFault.ensures in
    let item : item_of_text r (s.features + 1) (text_on (s.features + 1) line) ≡ Err fault =
    ap (λ t. item_of_text r (s.features + 1) t) (sym is) ∙
    (ap (λ n. item_of_text r n text) (sym e) ∙ read) in
    let skipped : is_skipped r fault ≡ true = sym c.skips.ensures ∙ c.if-skips.true in
    subst (λ (n : ℕ). StaysKnown (skips_left r s.skipped s.features was) (skips_left r n c.in-Some.place now)) (sym c.in-Some-checked_add.ensures.1)
    (subst (λ (n : ℕ). StaysKnown (skips_left r s.skipped s.features was) (skips_left r (s.skipped + 1) n now)) (sym e)
    (skipped_skips r s.skipped s.features was now line fault first (λ none. some (is ∙ none)) item skipped))

pub returns-else-skips-clause-skips : goal.returns-else-skips-clause-skips
returns-else-skips-clause-skips g c =
    let s = c.args.self.now in
    let r = rules_value s.rules in
    let was = g.R.Read.remaining s.reader in
    let now = g.R.Read.remaining c.read_line.new.reader in
    let line = c.read_line.new.line.items in
    let e = c.in-Some.ensures.1 in
    let text = c.text_on-text.result.now in
    let fault = c.in-Err-AtFault.fault in
    let is : text ≡ text_on (s.features + 1) line = c.text_on-text.ensures ∙
    (ap (λ n. text_on n c.deref.result.now) e ∙ ap (λ t. text_on (s.features + 1) t)
    c.deref.ensures.value) in
    let some = some_text text c.is_empty.result c.is_empty.ensures c.if-is_empty.false in
    let first = rw c.in-Ok-Line.field-0-is at c.in-Ok-Line.ensures.read in
    let read = rw c.in-Err-AtFault.field-0-is at c.in-Err-AtFault.ensures in
    let item : item_of_text r (s.features + 1) (text_on (s.features + 1) line) ≡ Err fault =
    ap (λ t. item_of_text r (s.features + 1) t) (sym is) ∙
    (ap (λ n. item_of_text r n text) (sym e) ∙ read) in
    let not : is_skipped r fault ≡ false = sym c.skips.ensures ∙ c.if-skips.false in
    fault_skips r s.skipped s.features was now line fault first (λ none. some (is ∙ none)) item not
