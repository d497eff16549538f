-- A batch on the plain keeper, by what is kept for its key.
use Rattle.std.proofs.Common.{◌≡◌, ℕ, ◌+◌, ◌≤◌, ◌<◌, true, false, cond, Option, None, Some, nat_eq, nat_lt, refl, ap, ◌∙◌, arith}
use Rattle.std.proofs.lemmas.Bool.Decides.{nat_tests}
use Rattle.std.specs.Cmp.Lexicographic.{pointwise}
use Rattle.std.specs.FinMap.{get, len}
use Rattle.std.specs.Option.{option_map, option_flatten, option_and_then}
use Rattle.streetmap_batch.specs.Text.{Text}
use Rattle.streetmap_ledger.specs.Pages.{feature_in}
use Rattle.streetmap_memory.specs.Slots.{SlotCollections, SlotCollection, collected}
use Rattle.streetmap_memory.specs.Does.{Keys, state_of}
use Rattle.streetmap_memory.proofs.SlotLemmas.{get_collection, get_live}
use Rattle.streetmap_batch.specs.BatchValue.{BatchValue}
use Rattle.streetmap_batch.specs.BatchText.{batch_text}
use Rattle.streetmap_ledger.specs.State.{State, Collection, AcceptedBatch}
use Rattle.streetmap_ledger.specs.Batches.{Outcome, act, by_key, fresh, edited, most_batches}
use Rattle.streetmap_ledger.specs.declared.reply.Reply.TheVariants.{Repeated, Refused}
use Rattle.streetmap_ledger.specs.declared.reply.Refusal.TheVariants.{KeyUsed, Full}

pub repeats : (s : State) (b : BatchValue) (kept : AcceptedBatch) → get s.keys b.key ≡ Some kept → pointwise nat_eq kept.text (batch_text b) ≡ true → act s b
    ≡ record { reply = Repeated kept.counts kept.serial; state = s }
repeats s b kept e same = ap (by_key s b) e ∙ ap (λ t. cond {A = Outcome} t (record { reply = Repeated kept.counts kept.serial; state = s })
    (record { reply = Refused KeyUsed None; state = s })) same

pub key_used : (s : State) (b : BatchValue) (kept : AcceptedBatch) → get s.keys b.key ≡ Some kept → pointwise nat_eq kept.text (batch_text b) ≡ false → act s b
    ≡ record { reply = Refused KeyUsed None; state = s }
key_used s b kept e same = ap (by_key s b) e ∙ ap (λ t. cond {A = Outcome} t (record { reply = Repeated kept.counts kept.serial; state = s })
    (record { reply = Refused KeyUsed None; state = s })) same

less_true : (a b : ℕ) → a < b → nat_lt a b ≡ true
less_true a b h = grind (arith, nat_tests)

less_false : (a b : ℕ) → b ≤ a → nat_lt a b ≡ false
less_false a b h = grind (arith, nat_tests)

pub is_full : (s : State) (b : BatchValue) → get s.keys b.key ≡ None → most_batches ≤ len s.keys → act s b ≡ record { reply = Refused Full None; state = s }
is_full s b e full = ap (by_key s b) e ∙ ap (λ t. cond {A = Outcome} t (fresh s b (len s.keys + 1) (edited 1 s b.edits))
    (record { reply = Refused Full None; state = s })) (less_false _ _ full)

pub is_fresh : (s : State) (b : BatchValue) → get s.keys b.key ≡ None → len s.keys < most_batches → act s b ≡ fresh s b (len s.keys + 1) (edited 1 s b.edits)
is_fresh s b e room = ap (by_key s b) e ∙ ap (λ t. cond {A = Outcome} t (fresh s b (len s.keys + 1) (edited 1 s b.edits))
    (record { reply = Refused Full None; state = s })) (less_true _ _ room)

-- a feature, by what the slot of its collection holds
pub feature_on : (t : SlotCollections) (keys : Keys) (name id : Text) (o : Option SlotCollection) → get t name ≡ o → feature_in (state_of t keys) name id
    ≡ option_and_then (λ (s : SlotCollection). option_flatten (get s.slots id)) o
feature_on t keys name id o e = ap (option_and_then (λ (c : Collection). get c.features id)) (get_collection t name ∙ ap (option_map collected) e) ∙ go o where
  go : (o : Option SlotCollection) → option_and_then (λ (c : Collection). get c.features id) (option_map collected o)
      ≡ option_and_then (λ (s : SlotCollection). option_flatten (get s.slots id)) o
  go None = refl
  go (Some s) = get_live s.slots id
