use Rattle.std.proofs.Common.{◌≡◌, [], ◌∷◌, ◌++◌, length, refl, ap, sym, ◌∙◌, append_assoc, append-nil, rules}
use Rattle.std.specs.Map.{values_of}
use Rattle.streetmap_query.specs.Views.{query_value}
use Rattle.streetmap_memory.specs.Slots.{live_values}
use Rattle.streetmap_ledger.specs.Pages.{candidates, page_over}
use Rattle.std.proofs.lemmas.Result.{IfOk-weaker}
use Rattle.streetmap_ledger.proofs.Examining.{same_page}
use Rattle.streetmap_memory.proofs.collection.page_over.Goals as goal

pub loop-slot-init : goal.loop-slot-init
loop-slot-init c =
    let all : c.into_iter-slot-iterator.result ≡ values_of c.args.slots.now.entries = search rules in
    ([], ap live_values all, record { holds = c.new-fold.ensures; whole = refl })

pub loop-slot-preserved-in-Continue-1 : goal.loop-slot-preserved-in-Continue-1
loop-slot-preserved-in-Continue-1 c =
    let fs = c.loop-slot.invariant.0 in
    let f = c.in-Some-slot.feature in
    let met : c.loop-slot.slot-iterator ≡ c.in-Some.slot.now ∷ c.next.new.self = search rules in (
      fs ++ f ∷ [],
      append_assoc fs (f ∷ []) (live_values c.next.new.self) ∙ (ap (λ o. fs ++ live_values (o ∷ c.next.new.self)) (sym c.in-Some-slot.is)
          ∙ (ap (λ os. fs ++ live_values os) (sym met) ∙ c.loop-slot.invariant.1)),
      c.in_ok-examine.ensures (query_value c.args.query.now) fs c.loop-slot.invariant.2,
    )

pub loop-slot-preserved : goal.loop-slot-preserved
loop-slot-preserved c =
    let fs = c.loop-slot.invariant.0 in
    let met : c.loop-slot.slot-iterator ≡ c.in-Some.slot.now ∷ c.next.new.self = search rules in (
      fs,
      ap (λ o. fs ++ live_values (o ∷ c.next.new.self)) (sym c.in_default.is) ∙ (ap (λ os. fs ++ live_values os) (sym met) ∙ c.loop-slot.invariant.1),
      c.loop-slot.invariant.2,
    )

pub returns-clause-page : goal.returns-clause-page
returns-clause-page c =
    let fs = c.loop-slot.invariant.0 in
    let held = c.loop-slot.invariant.2 in
    let q = query_value c.args.query.now in
    let none : c.loop-slot.slot-iterator ≡ [] = search rules in
    let whole : fs ≡ live_values (values_of c.args.slots.now.entries) = sym (append-nil fs)
    ∙ (ap (λ os. fs ++ live_values os) (sym none) ∙ c.loop-slot.invariant.1) in
    IfOk-weaker c.end.result _ _ (λ page is. is ∙ (same_page q (length (candidates q fs)) (candidates q fs) fs held.whole ∙ ap (page_over q) whole))
    (c.end.ensures q (candidates q fs) held.holds)
