-- What is guaranteed if no client was accepted.
use Rattle.std.proofs.Common.{◌≡◌, List, [], ◌∷◌, ◌++◌, Option, Some, refl, sym, subst}
use Rattle.std.proofs.lemmas.List.Elements.{All-nil}
use Rattle.streetmap_ledger.specs.State.{State}
use Rattle.streetmap_ledger.specs.Keep.{LeavesOnly}
use Rattle.streetmap_connections.specs.History.{History}
use Rattle.streetmap_connections.specs.Interleaving as interleaving
use Rattle.streetmap_connections.specs.Timeline as timeline
use Rattle.streetmap_web.specs.Site.{SiteValue}
use Rattle.streetmap_guarantee.specs.Server.{serving}
use Rattle.streetmap_guarantee.specs.Histories.{Event}
use Rattle.streetmap_guarantee.specs.Guarantee.{IsInOrder, RefusesForMemory}
use Rattle.streetmap_guarantee.specs.Town.{GuaranteeOfTown}
use Rattle.streetmap_guarantee.proofs.Guarantees.{LeavesStates}

no_event : {B : Type 0} (before later : List Event) (e : Event) → [] ≡ before ++ e ∷ later → B
no_event [] later e is = absurd (let bad : ◌≡◌ {A = List Event} [] (e ∷ later) = is in cc)
no_event (first ∷ before) later e is = absurd (let bad : ◌≡◌ {A = List Event} [] (first ∷ (before ++ e ∷ later)) = is in cc)

same_state : (s t : State) → Some s ≡ Some t → s ≡ t
same_state s t e = cc

module _ {Image : Type 0} (holds : Image → State → Type 0) (leaves : Image → Type 0) (site : SiteValue) (s : State) (left : Option State → Type 0)
    (states : LeavesStates holds leaves left) (only : LeavesOnly left (Some s)) where
  -- a crash leaves the state alone
  none_served : GuaranteeOfTown holds leaves site s []
  none_served = record {
    guarantee = record {
      history = [];
      in_order = All-nil IsInOrder;
      refused = All-nil RefusesForMemory;
      interleaved = interleaving.none;
      server = serving s;
      sequential = refl;
      pages = λ before later e name q is has_page ok. no_event before later e is;
      acts = refl;
      survives = λ image gone. let it = states image gone in (it.0, it.1, same_state it.0 s (only (Some it.0) it.2));
    };
    timeline = timeline.none refl refl;
  }

  pub nobody_came : (connections : List History) → connections ≡ [] → GuaranteeOfTown holds leaves site s connections
  nobody_came connections none = subst (GuaranteeOfTown holds leaves site s) (sym none) none_served
