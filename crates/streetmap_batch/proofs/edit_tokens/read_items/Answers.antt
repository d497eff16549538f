use Rattle.std.proofs.Common.{◌≡◌, ℕ, ◌+◌, ◌-◌, ◌<◌, ◌≤◌, [], ◌∷◌, ◌++◌, length, Some, None, Ok, Err, refl, sym, ap, subst, ◌∙◌, arith, length-append}
use Rattle.json.specs.Json.{value, parse_map, after_end_array}
use Rattle.serde_json.specs.Data.{no_items}
use Rattle.streetmap_json.specs.Values.{items_at}
use Rattle.streetmap_json.proofs.Fronts.{next_item, no_item, items_done, before, one_more_front, none_before, handed_on}
use Rattle.streetmap_batch.specs.BatchFaults.{Gives}
use Rattle.streetmap_batch.specs.ParsedBatches.{edits_after, most_edits}
use Rattle.streetmap_batch.specs.BatchTokens.{Takes, edits_view, AreItemsRead, few_edits}
use Rattle.streetmap_batch.proofs.EditLists.{few_are, too_many, list_of-before}
use Rattle.streetmap_batch.proofs.edit_tokens.read_items.Goals as goal

pub items-init : goal.items-init
unfolding edits_after
items-init c =
    let none : [] ≡ edits_view c.new.result = rw c.new.ensures.items refl in
    ([], length c.args.reader.now, omega arith, none_before (items_at c.args.depth c.args.reader.now), omega arith, (λ h. refl), (λ h. h), omega arith, ap (λ es. Ok es) none)

pub returns-in_err-members-clause-takes : goal.returns-in_err-members-clause-takes
returns-in_err-members-clause-takes c =
    let p = value c.args.depth in
    let l = c.items in
    let ds = l.invariant.0 in
    let n = l.invariant.1 in
    let going : (after_end_array l.reader ≡ None) × (c.take_end_array.new.self ≡ l.reader) = grind arith in
    let fault = c.in_err-members.field-0.0 in
    let same : c.from_residual.result ≡ Err fault = grind arith in
    subst (λ r. Takes AreItemsRead r c.read.new.reader (items_at c.args.depth c.args.reader.now)) (sym same)
    (handed_on fault _ _ (λ none. l.invariant.3 ∙ ap (parse_map (before ds)) (no_item p n l.reader going.0 (rw (← going.1) none))) c.in_err-members.ensures.takes)

pub items-preserved-then-count-lt-MOST_EDITS : goal.items-preserved-then-count-lt-MOST_EDITS
items-preserved-then-count-lt-MOST_EDITS c =
    let p = value c.args.depth in
    let l = c.items in
    let ds = l.invariant.0 in
    let n = l.invariant.1 in
    let r = c.read.new.reader in
    let taken = c.in_ok-members.ensures.takes in
    let d = taken.0 in
    let going : (after_end_array l.reader ≡ None) × (c.take_end_array.new.self ≡ l.reader) = grind arith in
    let less : length r < length l.reader = rw (← going.1) c.in_ok-members.ensures.shorter in
    let turn = next_item p n l.reader r d (omega (arith, l.invariant.2)) going.0 (rw (← going.1) taken.1) in
    let longer : length (ds ++ d ∷ []) ≡ length ds + 1 = length-append ds (d ∷ []) in
    let below : l.count < most_edits = c.if-count-lt-MOST_EDITS.true in
    let is : l.count ≡ length ds = l.invariant.5 below in
    let more : length (ds ++ d ∷ []) ≤ most_edits = omega (arith, is, longer, below) in
    let given : Gives edits_view l.edits (edits_after 0 ds) =
    subst (λ read. Gives edits_view l.edits read) (few_are ds (omega (arith, is, below))) l.invariant.8 in
    let gathered = c.with_next-edits.ensures ds d (omega (arith, is)) taken.2 given in (
      ds ++ d ∷ [],
      n - 1,
      omega (arith, l.invariant.2),
      l.invariant.3 ∙ ap (parse_map (before ds)) turn ∙ one_more_front ds d _,
      omega (arith, l.invariant.4),
      (λ h. omega (arith, is, longer)),
      (λ h. omega (arith, is, longer, h)),
      omega (arith, below),
      subst (λ read. Gives edits_view c.with_next-edits.result read) (sym (few_are (ds ++ d ∷ []) more)) gathered,
    )

never : (n : ℕ) → n < most_edits → most_edits ≤ n → ⊥
never n h k = omega (arith, h, k)

pub items-preserved : goal.items-preserved
items-preserved c =
    let p = value c.args.depth in
    let l = c.items in
    let ds = l.invariant.0 in
    let n = l.invariant.1 in
    let r = c.read.new.reader in
    let taken = c.in_ok-members.ensures.takes in
    let d = taken.0 in
    let going : (after_end_array l.reader ≡ None) × (c.take_end_array.new.self ≡ l.reader) = grind arith in
    let less : length r < length l.reader = rw (← going.1) c.in_ok-members.ensures.shorter in
    let turn = next_item p n l.reader r d (omega (arith, l.invariant.2)) going.0 (rw (← going.1) taken.1) in
    let longer : length (ds ++ d ∷ []) ≡ length ds + 1 = length-append ds (d ∷ []) in
    let above : most_edits ≤ l.count = c.if-count-lt-MOST_EDITS.false in
    let many : most_edits ≤ length ds = l.invariant.6 above in (
      ds ++ d ∷ [],
      n - 1,
      omega (arith, l.invariant.2),
      l.invariant.3 ∙ ap (parse_map (before ds)) turn ∙ one_more_front ds d _,
      omega (arith, l.invariant.4),
      (λ h. absurd (never l.count h above)),
      (λ h. omega (arith, many, longer)),
      l.invariant.7,
      subst (λ r. Gives edits_view r (few_edits (ds ++ d ∷ []))) (sym c.refuse_more-edits.ensures) (too_many (ds ++ d ∷ []) (omega (arith, many, longer))),
    )

pub returns-clause-takes : goal.returns-clause-takes
returns-clause-takes c =
    let p = value c.args.depth in
    let l = c.items in
    let ds = l.invariant.0 in
    let n = l.invariant.1 in
    let r = c.take_end_array.new.self in
    let ends : after_end_array l.reader ≡ Some r = grind arith in
    (before ds no_items, l.invariant.3 ∙ ap (parse_map (before ds)) (items_done p n l.reader r l.invariant.2 ends), subst (λ es. Gives edits_view l.edits (few_edits es)) (sym (list_of-before ds)) l.invariant.8)
