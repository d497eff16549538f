-- Batches that were acknowledged are acknowledged again.
use Rattle.std.proofs.Common.{◌≡◌, List, [], ◌∷◌, refl, sym, ap, subst, ◌∙◌}
use Rattle.streetmap_batch.specs.BatchValue.{BatchValue}
use Rattle.streetmap_ledger.specs.State.{State}
use Rattle.streetmap_ledger.specs.Batches.{act, after_all}
use Rattle.streetmap_ledger.proofs.Repeat.{IsThere, all_keep, again, after_append}
use Rattle.streetmap_ledger.proofs.Repeat.{acknowledged_there, there_again}
use Rattle.streetmap_loading.specs.KeeperLoads.{AreAcknowledged}
use Rattle.streetmap_loading.specs.LoadLaws.{LoadedAgain, GoesOnAgain}

abbrev AreThere : State → List BatchValue → Type 0
AreThere t [] = Unit {0}
AreThere t (b ∷ bs) = IsThere t b × AreThere t bs

all_there : (s : State) (bs : List BatchValue) → AreAcknowledged s bs → AreThere (after_all s bs)
    bs
all_there s [] h = tt
all_there s (b ∷ bs) h =
    let there = acknowledged_there s b h.0 in (
      (there.0, all_keep (act s b).state bs b.key there.0 there.1, there.2),
      all_there
          (act s b).state bs h.1,
    )

all_again : (t : State) (bs : List BatchValue) → AreThere t bs →
    AreAcknowledged t bs × (after_all t bs ≡ t)
all_again t [] h = (tt, refl)
all_again t (b ∷ bs) h =
    let rest = all_again t bs h.1 in
    let same = again t b h.0 in (
      (there_again t b h.0, subst (λ (u : State). AreAcknowledged u bs) (sym same) rest.0),
      ap
          (λ (u : State). after_all u bs) same ∙ rest.1,
    )

pub loaded_again : LoadedAgain
loaded_again s bs h = all_again (after_all s bs) bs (all_there s bs h)

pub goes_on_again : GoesOnAgain
goes_on_again s bs later h =
    after_append (after_all s bs) bs later
    ∙ (ap (λ (u : State). after_all u later) (loaded_again s bs h).1 ∙ sym
    (after_append s bs later))
