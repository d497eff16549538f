use Rattle.std.proofs.Common.{IsSome, string_bytes, sym, subst, refl, ◌∙◌}
use Rattle.std.proofs.lemmas.Option.{same_Some}
use Rattle.std.specs.FinMap.{get}
use Rattle.streetmap_batch.specs.Text.{Text}
use Rattle.streetmap_index.specs.Index.{IsOutlinedIf}
use Rattle.streetmap_index.specs.declared.outlined.OutlinedCollection.{OutlinedCollection}
use Rattle.streetmap_index.proofs.Known.{known_after, all_known_after}
use Rattle.streetmap_index.proofs.index.Index.keep.Goals as goal

pub returns-in-Ok-insert : goal.returns-in-Ok-insert
returns-in-Ok-insert c = λ s index known.
    let says = c.in-Ok-insert.ensures in
    let key = string_bytes c.in-Ok.key in
    let es = c.args.self.now.known.entries in
    let fs = c.insert.new.self.entries in
    let own = subst (λ (k : Text). IsOutlinedIf c.args.outlined (get s.collections k)) (sym c.in-Ok.ensures.ok) known in (
      known_after es fs s s key says.updates.3 index.0 (λ other off. refl)
          (λ o there. subst (λ (x : OutlinedCollection). IsOutlinedIf x (get s.collections key)) (same_Some c.args.outlined o (sym says.updates.1 ∙ there))
          own),
      λ whole. all_known_after es fs s s key says.updates.3 (λ other off. refl) (subst (λ o. IsSome o) (sym says.updates.1) refl) (index.1 whole),
    )

pub returns-in_default : goal.returns-in_default
returns-in_default c = λ s index known. c.give_up.ensures.index s

pub returns : goal.returns
returns c = λ s index known. c.give_up-in-Err.ensures.index s
