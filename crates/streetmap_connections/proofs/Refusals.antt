-- What was refused of many clients.
use Rattle.std.proofs.Common.{◌≡◌, ℕ, ◌<◌, List, [], ◌∷◌, ◌++◌, get_or, length, set, sym, subst, ap, ◌∙◌}
use Rattle.std.specs.List.{All, flat_map}
use Rattle.std.proofs.lemmas.List.{append-nil}
use Rattle.std.proofs.lemmas.List.Elements.{All-nil, All-cons, All-append, All-head, All-tail}
use Rattle.std.proofs.lemmas.Grind.{flat_map-append}
use Rattle.streetmap_connections.specs.declared.client.Client.{Client}
use Rattle.streetmap_connections.specs.Clients.{refusals_of}
use Rattle.streetmap_connections.specs.History.{Refusal}
use Rattle.streetmap_connections.specs.RefusedRequests.{AddsRefusals, AreRefused, Refusing}
use Rattle.streetmap_connections.proofs.Changed.{set_differs}
use Rattle.streetmap_connections.proofs.MoveLemmas.{all_refused}

module _ {A : Type 0} (P : A → Type 0) where
  all_front : (xs ys : List A) → All P (xs ++ ys) → All P xs
  all_front [] ys all = All-nil P
  all_front (x ∷ xs) ys all = All-cons P x xs (All-head P x (xs ++ ys) all) (all_front xs ys (All-tail P x (xs ++ ys) all))

  all_back : (xs ys : List A) → All P (xs ++ ys) → All P ys
  all_back [] ys all = all
  all_back (x ∷ xs) ys all = all_back xs ys (All-tail P x (xs ++ ys) all)

module _ {A : Type 0} (xs : List A) (i : ℕ) (x y : A) (lt : i < length xs) (is : x ≡ get_or xs i x) where
  pub same_in_places : {B : Type 0} (f : A → List B) → f y ≡ f x → flat_map f (set xs i y) ≡ flat_map f xs
  same_in_places {B} f same =
      let d = set_differs f xs i x y lt is in
      d.after ∙ (ap (λ (l : List B). d.front ++ (l ++ d.back)) same ∙ sym d.before)

  pub refused_in_places : (f : A → List Refusal) (refuses : Refusing) → AddsRefusals refuses (f x) (f y)
      → AreRefused refuses (flat_map f xs) → AreRefused refuses (flat_map f (set xs i y))
  refused_in_places f refuses adds were =
      let d = set_differs f xs i x y lt is in
      let P : Refusal → Type 0 = λ r. refuses r.bytes r.text in
      let all : All P (d.front ++ (f x ++ d.back)) = subst (λ (rs : List Refusal). All P rs) d.before were in
      let rest : All P (f x ++ d.back) = all_back P d.front (f x ++ d.back) all in
      subst (λ (rs : List Refusal). All P rs) (sym d.after)
      (All-append P d.front (f y ++ d.back) (all_front P d.front (f x ++ d.back) all)
      (All-append P (f y) d.back (all_refused refuses (f x) (f y) adds (all_front P (f x) d.back rest)) (all_back P (f x) d.back rest)))

-- one more client, of whom nothing was refused
pub newcomer_unrefused : {S : Type 0} (before after : List (Client S)) (c : Client S) → after ≡ before ++ c ∷ [] → refusals_of c ≡ [] → flat_map refusals_of after ≡ flat_map refusals_of before
newcomer_unrefused {S} before after c one none =
    ap (λ (cs : List (Client S)). flat_map refusals_of cs) one
    ∙ (flat_map-append refusals_of before (c ∷ [])
    ∙ (ap (λ (rs : List Refusal). flat_map refusals_of before ++ (rs ++ [])) none ∙ append-nil (flat_map refusals_of before)))
