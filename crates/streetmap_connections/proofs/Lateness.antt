-- Clients that are late.
use Rattle.std.proofs.Common.{◌≡◌, ◌⊎◌, inl, inr, true, false, List, [], ◌∷◌, ◌++◌, Option, Some, None, IsSome, rules, subst, sym}
use Rattle.std.specs.List.{All}
use Rattle.std.proofs.lemmas.List.Elements.{All-nil, All-cons, All-head}
use Rattle.streetmap_connections.specs.declared.client.Client.{Client}
use Rattle.streetmap_connections.specs.declared.client.Work.TheVariants.{Rests, Goes, Ends}
use Rattle.streetmap_connections.specs.declared.slot.Slot.{Slot}
use Rattle.streetmap_connections.specs.Slots.{past_of, present}

pub rests_is_not_ends : ¬ (Rests ≡ Ends)
rests_is_not_ends e = search rules

pub goes_is_not_ends : ¬ (Goes ≡ Ends)
goes_is_not_ends e = search rules

-- the slot is free, and the client has ended as its last one
abbrev pub HasEnded : {S : Type 0} → List (Client S) → Slot S → Client S → Type 0
HasEnded past new c = (new.client ≡ None) × (past_of new ≡ past ++ c ∷ [])

module _ {S : Type 0} (Late : Client S → Type 0) {F : Type 0} (past : List (Client S)) where
  -- if a late client would imply a falsehood, the client is not late
  pub not_late : (o : Option (Client S)) (new : Slot S) → ¬ F → All (λ c. Late c → F) (present o) → All (λ c. Late c → HasEnded past new c) (present o)
  not_late None new none said = All-nil (λ c. Late c → HasEnded past new c)
  not_late (Some c) new none said = All-cons (λ d. Late d → HasEnded past new d) c [] (λ late. absurd (none (All-head (λ d. Late d → F) c [] said late))) (All-nil (λ d. Late d → HasEnded past new d))

  pub ended_late : (o : Option (Client S)) (new : Slot S) → (F → (new.client ≡ None) × (past_of new ≡ past ++ present o)) → All (λ c. Late c → F) (present o)
      → All (λ c. Late c → HasEnded past new c) (present o)
  ended_late None new ends said = All-nil (λ c. Late c → HasEnded past new c)
  ended_late (Some c) new ends said = All-cons (λ d. Late d → HasEnded past new d) c [] (λ late. ends (All-head (λ d. Late d → F) c [] said late)) (All-nil (λ d. Late d → HasEnded past new d))

none_is_no_some : ¬ (false ≡ true)
none_is_no_some e = search rules

module _ {S : Type 0} (Late Left : Client S → Type 0) where
  -- if the slot had no client, none was late
  pub none_there : (was : Option (Client S)) → was ≡ None → All Late (present was)
  none_there was none = subst (λ (o : Option (Client S)). All Late (present o)) (sym none) (All-nil Late)

  pub ends_rightly : (past after : List (Client S)) (was taken : Option (Client S)) → IsSome taken → after ≡ past ++ present taken
      → All Late (present was) ⊎ All Left (present taken) → All Late (present was) ⊎ ((c : Client S) × (after ≡ past ++ c ∷ []) × Left c)
  ends_rightly past after was None some e why = absurd (none_is_no_some some)
  ends_rightly past after was (Some c) some e (inl late) = inl late
  ends_rightly past after was (Some c) some e (inr left) = inr (c, e, All-head Left c [] left)
