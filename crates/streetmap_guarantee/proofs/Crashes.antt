-- What a crash leaves after requests that were answered in turn.
use Rattle.std.proofs.Common.{◌≡◌, ◌⊎◌, inl, inr, List, [], ◌∷◌, Option, Some, sym, subst}
use Rattle.streetmap_ledger.specs.State.{State}
use Rattle.streetmap_ledger.specs.Model.{Model}
use Rattle.streetmap_ledger.specs.Keep.{LeavesEither}
use Rattle.streetmap_web.specs.Response.{Wanted}
use Rattle.streetmap_web.specs.Site.{SiteValue}
use Rattle.streetmap_web.specs.Conditions.{Condition, RequestOutcome, as_requested, no_memory, device_failed, of_keeper, after, IsInCondition, Leaves}
use Rattle.streetmap_web.specs.Exchanges as web
use Rattle.streetmap_web.specs.Transitions.{ComesAll}
use Rattle.streetmap_guarantee.specs.Server.{Server, serving, failed, HasKept}
use Rattle.streetmap_guarantee.proofs.Histories.{condition_of, server_by, next_server, last_server, after_is}

same_state : (s t : State) → Some s ≡ Some t → s ≡ t
same_state s t e = cc

-- a crash leaves one of two states
one_of_two : (left : Option State → Type 0) (s u t : State) → LeavesEither left (Some s) (Some u) → left (Some t) → (t ≡ s) ⊎ (t ≡ u)
one_of_two left s u t either is = elim (either (Some t) is) [
  | inl e ↦ inl (same_state t s e)
  | inr e ↦ inr (same_state t u e)
]

module _ {K : Type 0} (model : Model K) where
  -- the keeper of a server represents the state that this serves; or a crash leaves one of the two that it has kept
  abbrev pub IsKeeperOf : K → Server → Type 0
  IsKeeperOf k (serving s) = model.represents k s
  IsKeeperOf k (failed before after) = LeavesEither (model.may_leave k) (Some before) (Some after)

  keeper_after : (y : Server) (wanted : Wanted) (outcome : RequestOutcome) (old new : K) → IsInCondition model new (after (condition_of y) wanted outcome)
      → Leaves (condition_of y) wanted outcome (model.may_leave old) (model.may_leave new) → IsKeeperOf old y → IsKeeperOf new (server_by y wanted outcome)
  keeper_after (serving s) wanted as_requested old new represented leaves is = represented
  keeper_after (serving s) wanted no_memory old new represented leaves is = represented
  keeper_after (serving s) wanted (of_keeper shown) old new represented leaves is = represented
  keeper_after (serving s) wanted device_failed old new represented leaves is = leaves
  keeper_after (failed before after) wanted outcome old new represented leaves is = λ o left. is o ((leaves o).0 left)

  pub keeper_after_all : (site : SiteValue) (y : Server) (old new : K) (ws : List web.HttpExchange) → ComesAll model site (condition_of y) old ws new
      → IsKeeperOf old y → IsKeeperOf new (last_server y ws)
  keeper_after_all site y old new [] comes is = subst (λ (k : K). IsKeeperOf k y) (sym comes) is
  keeper_after_all site y old new (w ∷ ws) comes is =
      let mid : K = comes.0 in
      let next = next_server y w in
      let rest : ComesAll model site (condition_of next) mid ws new = subst (λ (x : Condition). ComesAll model site x mid ws new) (after_is y w.request.wanted w.outcome) comes.2 in
      keeper_after_all site next mid new ws rest (keeper_after y w.request.wanted w.outcome old mid comes.1.condition comes.1.leaves is)

  -- a state that a crash leaves is one that the server has kept
  pub has_kept : (k : K) (y : Server) (t : State) → IsKeeperOf k y → model.may_leave k (Some t) → HasKept y t
  has_kept k (serving s) t is left = same_state t s (model.leaves_it k s is (Some t) left)
  has_kept k (failed before after) t is left = one_of_two (model.may_leave k) before after t is left
