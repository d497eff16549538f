-- The clients of a listener, as connections.
use Rattle.std.proofs.Common.{◌≡◌, List, [], ◌∷◌, ◌++◌, map, refl, sym, subst, ap, ◌∙◌}
use Rattle.std.proofs.lemmas.Grind.{flat_map-append}
use Rattle.std.proofs.lemmas.List.Elements.{All-nil, All-cons, All-head, All-tail, All-map}
use Rattle.std.specs.Prelude.{All, flat_map}
use Rattle.streetmap_connections.specs.declared.client.Client.{Client}
use Rattle.streetmap_connections.specs.declared.slot.Slot.{Slot}
use Rattle.streetmap_connections.specs.Clients as clients
use Rattle.streetmap_connections.specs.History.{Exchange, Refusal}
use Rattle.streetmap_connections.specs.Interleaving as interleaving
use Rattle.streetmap_connections.specs.Interleaving.{IsInterleaving, GoesOnAs}
use Rattle.streetmap_connections.specs.RefusedRequests.{AreRefused}
use Rattle.streetmap_connections.specs.Slots.{client_history, clients_in, refusals_in}
use Rattle.streetmap_web.specs.Refusals.{IsRefusal}
use Rattle.streetmap_guarantee.specs.Guarantee.{IsInOrder, RefusesForMemory, exchanges_of}

module _ {A : Type 0} (P : A → Type 0) where
  all_front : (xs ys : List A) → All P (xs ++ ys) → All P xs
  all_front [] ys all = All-nil P
  all_front (x ∷ xs) ys all = All-cons P x xs (All-head P x (xs ++ ys) all) (all_front xs ys (All-tail P x (xs ++ ys) all))

  all_back : (xs ys : List A) → All P (xs ++ ys) → All P ys
  all_back [] ys all = all
  all_back (x ∷ xs) ys all = all_back xs ys (All-tail P x (xs ++ ys) all)

  -- what holds of all items of the joined lists holds of the items of each list
  all_parts : {X : Type 0} (f : X → List A) (xs : List X) → All P (flat_map f xs) → All (λ x. All P (f x)) xs
  all_parts f [] all = All-nil (λ x. All P (f x))
  all_parts f (x ∷ xs) all = All-cons (λ x. All P (f x)) x xs (all_front (f x) (flat_map f xs) all) (all_parts f xs (all_back (f x) (flat_map f xs) all))

module _ {S : Type 0} where
  -- their exchanges
  pub lists_are : (cs : List (Client S)) → map clients.exchanges_of cs ≡ map exchanges_of (map client_history cs)
  lists_are [] = refl
  lists_are (c ∷ cs) = ap (λ (l : List (List Exchange)). clients.exchanges_of c ∷ l) (lists_are cs)

  -- each is in order
  pub all_in_order : (cs : List (Client S)) → All clients.IsOrderly cs → All IsInOrder (map client_history cs)
  all_in_order cs h = All-map IsInOrder client_history cs h

  -- if no client came before, what was answered is an interleaving of the clients' lists
  pub all_interleaved : (before after : List (Client S)) (es : List Exchange) → before ≡ [] → GoesOnAs (map clients.exchanges_of before) es (map clients.exchanges_of after)
      → IsInterleaving (map exchanges_of (map client_history after)) es
  all_interleaved before after es none goes =
      let from_none : GoesOnAs [] es (map clients.exchanges_of after) = subst (λ (cs : List (Client S)). GoesOnAs (map clients.exchanges_of cs) es (map clients.exchanges_of after)) none goes in
      subst (λ (l : List (List Exchange)). IsInterleaving l es) (lists_are after) (from_none [] interleaving.none)

  -- what was refused in the slots is what was refused of their clients
  refusals_are : (slots : List (Slot S)) → flat_map refusals_in slots ≡ flat_map clients.refusals_of (flat_map clients_in slots)
  refusals_are [] = refl
  refusals_are (s ∷ slots) = ap (λ (rs : List Refusal). refusals_in s ++ rs) (refusals_are slots) ∙ sym (flat_map-append clients.refusals_of (clients_in s) (flat_map clients_in slots))

  -- if no client came before, each refusal is for lack of memory
  pub all_refused : (before after : List (Slot S)) → flat_map clients_in before ≡ []
      → (AreRefused IsRefusal (flat_map refusals_in before) → AreRefused IsRefusal (flat_map refusals_in after))
      → All RefusesForMemory (map client_history (flat_map clients_in after))
  all_refused before after none refused =
      let P : Refusal → Type 0 = λ r. IsRefusal r.bytes r.text in
      let nothing : flat_map refusals_in before ≡ [] = refusals_are before ∙ ap (λ (cs : List (Client S)). flat_map clients.refusals_of cs) none in
      let all = refused (subst (λ (rs : List Refusal). All P rs) (sym nothing) (All-nil P)) in
      All-map RefusesForMemory client_history (flat_map clients_in after)
      (all_parts P clients.refusals_of (flat_map clients_in after) (subst (λ (rs : List Refusal). All P rs) (refusals_are after) all))
