-- What many clients were answered, one turn after another.
use Rattle.std.proofs.Common.{◌≡◌, inl, inr, ℕ, ◌<◌, List, [], ◌∷◌, ◌++◌, length, map, get_or, set, All, Option, refl, sym, subst, ◌∙◌, ap, append_assoc}
use Rattle.std.specs.List.{flat_map}
use Rattle.std.proofs.lemmas.List.{append-nil, map-append}
use Rattle.std.proofs.lemmas.List.Elements.{All-nil, All-cons}
use Rattle.std.proofs.lemmas.Simd.{map-map}
use Rattle.streetmap_connections.specs.declared.client.Client.{Client}
use Rattle.streetmap_connections.specs.declared.slot.Slot.{Slot}
use Rattle.streetmap_connections.specs.declared.limits.TheConstants.{MOST_INPUT}
use Rattle.streetmap_connections.specs.Clients.{exchanges_of, refusals_of, place_of, IsOrderly}
use Rattle.streetmap_connections.specs.History.{Exchange, History, Refusal, new_history}
use Rattle.streetmap_connections.specs.Interleaving.{GoesOnAs, IsInterleaving}
use Rattle.streetmap_connections.specs.Leads.{Answering, Leads}
use Rattle.streetmap_connections.specs.Services.{EachMoves, Serves, TakesTurn}
use Rattle.streetmap_connections.specs.RefusedRequests.{AddsRefusals, AreRefused, Refusing}
use Rattle.streetmap_connections.specs.Slots.{client_history, clients_in, exchanges_in, histories_in, refusals_in}
use Rattle.streetmap_connections.specs.Timeline.{Steps, Timeline}
use Rattle.streetmap_connections.proofs.Changed.{Differs, set_differs}
use Rattle.streetmap_connections.proofs.InTurn.{grows_in_slots, in_turn_kept, in_turn_then, last_gives}
use Rattle.streetmap_connections.proofs.Interleavings.{goes_on, goes_on_then, same_goes_on}
use Rattle.streetmap_connections.proofs.MoveLemmas.{leads_then, moves_then, none_refused, stays_put}
use Rattle.streetmap_connections.proofs.Refusals.{refused_in_places}
use Rattle.streetmap_connections.proofs.Timelines.{comes_among, steps_among, steps_made}
use Rattle.streetmap_connections.proofs.Timelines.{timeline_goes_on, timeline_stays, timeline_then}

-- what a turn adds: exchanges that continue the list of the last client
record Adds {V S : Type 0} (answers : Answering V) (old new : V) (before after : List (Client S)) : Type 0 where
  made : List Exchange
  leads : Leads answers old made new
  interleaved : (front back : List (Client S)) → GoesOnAs (map exchanges_of (front ++ (before ++ back))) made (map exchanges_of (front ++ (after ++ back)))
  timeline : (front back : List (Client S))
      → Timeline (map client_history (front ++ (before ++ back))) made
      (map client_history (front ++ (after ++ back)))
  grown : flat_map exchanges_of after ≡ flat_map exchanges_of before ++ made

module _ {S : Type 0} where
  all_in_order : (cs : List (Client S)) → All IsOrderly cs
  all_in_order [] = All-nil IsOrderly
  all_in_order (c ∷ cs) = All-cons IsOrderly c cs c.connection.in_order (all_in_order cs)

  -- the lists of clients, one of whom comes after others in its slot
  lists_with : (front others back : List (Client S)) (c : Client S)
      → map exchanges_of (front ++ ((others ++ c ∷ []) ++ back)) ≡ (map exchanges_of front ++ map exchanges_of others) ++ (exchanges_of c ∷ map exchanges_of back)
  lists_with front others back c = simp (map-append, append_assoc) refl

  -- the same of their histories
  histories_with : (front others back : List (Client S)) (c : Client S)
      → map client_history (front ++ ((others ++ c ∷ []) ++ back))
      ≡ (map client_history front ++ map client_history others)
      ++ (client_history c ∷ map client_history back)
  histories_with front others back c = simp (map-append, append_assoc) refl

  histories_without : (front others back : List (Client S))
      → map client_history (front ++ (others ++ back))
      ≡ (map client_history front ++ map client_history others) ++ map client_history back
  histories_without front others back = simp (map-append, append_assoc) refl

  -- one of them takes steps
  steps_at : (front others back : List (Client S)) (c d : Client S) (made : List Exchange)
      → Steps (client_history c) made (client_history d)
      → Timeline (map client_history (front ++ ((others ++ c ∷ []) ++ back))) made
      (map client_history (front ++ ((others ++ d ∷ []) ++ back)))
  steps_at front others back c d made steps =
      let before = map client_history front ++ map client_history others in
      let later = map client_history back in
      subst (λ (hs : List History). Timeline hs made
      (map client_history (front ++ ((others ++ d ∷ []) ++ back))))
      (sym (histories_with front others back c))
      (subst (λ (hs : List History). Timeline (before ++ (client_history c ∷ later)) made hs)
      (sym (histories_with front others back d)) (steps_among before later steps))

  -- one more client comes
  pub comes_at : (front others back : List (Client S)) (c : Client S)
      → client_history c ≡ new_history
      → Timeline (map client_history (front ++ (others ++ back))) []
      (map client_history (front ++ ((others ++ c ∷ []) ++ back)))
  comes_at front others back c new =
      let before = map client_history front ++ map client_history others in
      let later = map client_history back in
      subst (λ (hs : List History). Timeline hs []
      (map client_history (front ++ ((others ++ c ∷ []) ++ back))))
      (sym (histories_without front others back))
      (subst (λ (hs : List History). Timeline (before ++ later) [] hs)
      (sym (histories_with front others back c
      ∙ ap (λ (h : History). before ++ (h ∷ later)) new)) (comes_among before later))

  -- the lists of exchanges are those of the histories
  exchanges_reported : (cs : List (Client S))
      → map (λ (h : History). h.exchanges) (map client_history cs) ≡ map exchanges_of cs
  exchanges_reported cs = map-map (λ (h : History). h.exchanges) client_history cs

  pub goes_on_by_timeline : (xs ys : List (Client S)) (made : List Exchange)
      → Timeline (map client_history xs) made (map client_history ys)
      → GoesOnAs (map exchanges_of xs) made (map exchanges_of ys)
  goes_on_by_timeline xs ys made timeline =
      subst (λ (ls : List (List Exchange)). GoesOnAs ls made (map exchanges_of ys))
      (exchanges_reported xs)
      (subst (λ (ls : List (List Exchange)). GoesOnAs (map (λ (h : History). h.exchanges)
      (map client_history xs)) made ls) (exchanges_reported ys) (timeline_goes_on timeline))

  -- and if the histories are the same, the lists are
  pub same_exchanges : (xs ys : List (Client S)) → map client_history ys ≡ map client_history xs
      → map exchanges_of ys ≡ map exchanges_of xs
  same_exchanges xs ys same =
      sym (exchanges_reported ys)
      ∙ (ap (λ (hs : List History). map (λ (h : History). h.exchanges) hs) same
      ∙ exchanges_reported xs)

  grow_at : (front others back : List (Client S)) (c c' : Client S) (made : List Exchange) → exchanges_of c' ≡ exchanges_of c ++ made
      → GoesOnAs (map exchanges_of (front ++ ((others ++ c ∷ []) ++ back))) made (map exchanges_of (front ++ ((others ++ c' ∷ []) ++ back)))
  grow_at front others back c c' made e all i =
      let before = map exchanges_of front ++ map exchanges_of others in
      let after_it = map exchanges_of back in
      let was = subst (λ (ls : List (List Exchange)). IsInterleaving ls all) (lists_with front others back c) i in
      subst (λ (ls : List (List Exchange)). IsInterleaving ls (all ++ made))
      (sym (lists_with front others back c' ∙ ap (λ (l : List Exchange). before ++ (l ∷ after_it)) e))
      (goes_on before after_it (exchanges_of c) made all was)

  module _ {V : Type 0} (answers : Answering V) (refuses : Refusing) where
    pub serves_none : (s : V) (slots : List (Slot S)) → Serves answers refuses s s slots slots
    serves_none s slots = record { exchanges = []; leads = refl; interleaved = same_goes_on _ _ refl; in_turn = in_turn_kept slots slots refl; timeline = timeline_stays _ _ refl; in_order = all_in_order _; refused = λ were. were }

    pub serves_then : (a b c : V) (xs ys zs : List (Slot S)) → Serves answers refuses a b xs ys → Serves answers refuses b c ys zs → Serves answers refuses a c xs zs
    serves_then a b c xs ys zs x y = record {
      exchanges = x.exchanges ++ y.exchanges;
      leads = leads_then answers x.exchanges y.exchanges a b c x.leads y.leads;
      interleaved = goes_on_then (map exchanges_of (flat_map clients_in xs)) (map exchanges_of (flat_map clients_in ys)) (map exchanges_of (flat_map clients_in zs))
          x.exchanges y.exchanges x.interleaved y.interleaved;
      in_turn = in_turn_then xs ys zs x.exchanges y.exchanges x.in_turn y.in_turn;
      timeline = timeline_then x.timeline y.timeline;
      in_order = y.in_order;
      refused = λ were. y.refused (x.refused were);
    }

    -- only the clients changed
    pub serves_by : (s : V) (xs ys : List (Slot S)) → Timeline (histories_in xs) [] (histories_in ys)
        → map exchanges_in ys ≡ map exchanges_in xs → flat_map refusals_in ys ≡ flat_map refusals_in xs → Serves answers refuses s s xs ys
    serves_by s xs ys timeline kept unrefused = record {
      exchanges = [];
      leads = refl;
      interleaved = goes_on_by_timeline (flat_map clients_in xs) (flat_map clients_in ys) [] timeline;
      in_turn = in_turn_kept xs ys kept;
      timeline = timeline;
      in_order = all_in_order _;
      refused = λ were. subst (λ (rs : List Refusal). AreRefused refuses rs) (sym unrefused) were;
    }

    pub serves_same : (s : V) (xs ys : List (Slot S)) → histories_in ys ≡ histories_in xs
        → map exchanges_in ys ≡ map exchanges_in xs → flat_map refusals_in ys ≡ flat_map refusals_in xs → Serves answers refuses s s xs ys
    serves_same s xs ys same kept unrefused = serves_by s xs ys (timeline_stays _ _ same) kept unrefused

    turn_adds : (remaining contents : S → Option (List ℕ)) (old new : V) (before after : List (Client S))
        → TakesTurn remaining contents answers refuses old new before after → Adds answers old new before after
    turn_adds remaining contents old new before after (inl t) = record {
      made = t.calls.0;
      leads = t.calls.2;
      interleaved = λ front back all i. subst (λ (cs : List (Client S)). IsInterleaving (map exchanges_of (front ++ (cs ++ back))) (all ++ t.calls.0)) (sym t.is)
          (grow_at front t.others back t.client t.served t.calls.0 t.calls.1 all
          (subst (λ (cs : List (Client S)). IsInterleaving (map exchanges_of (front ++ (cs ++ back))) all) t.was i));
      timeline = λ front back. subst (λ (cs : List (Client S)). Timeline (map client_history (front ++ (before ++ back))) t.calls.0 (map client_history (front ++ (cs ++ back)))) (sym t.is)
          (subst (λ (cs : List (Client S)). Timeline (map client_history (front ++ (cs ++ back))) t.calls.0 (map client_history (front ++ ((t.others ++ t.served ∷ []) ++ back)))) (sym t.was)
          (steps_at front t.others back t.client t.served t.calls.0 (steps_made t.moves.steps t.calls.1)));
      grown = ap (λ (cs : List (Client S)). flat_map exchanges_of cs) t.is
          ∙ (last_gives exchanges_of t.others t.client t.served t.calls.0 t.calls.1
          ∙ ap (λ (cs : List (Client S)). flat_map exchanges_of cs ++ t.calls.0) (sym t.was));
    }
    turn_adds remaining contents old new before after (inr (same, still)) = record {
      made = [];
      leads = still;
      interleaved = λ front back. same_goes_on _ _ (ap (λ (cs : List (Client S)). map exchanges_of (front ++ (cs ++ back))) same);
      timeline = λ front back. timeline_stays _ _ (ap (λ (cs : List (Client S)). map client_history (front ++ (cs ++ back))) same);
      grown = ap (λ (cs : List (Client S)). flat_map exchanges_of cs) same ∙ sym (append-nil (flat_map exchanges_of before));
    }

    turn_refuses : (remaining contents : S → Option (List ℕ)) (old new : V) (before after : List (Client S))
        → TakesTurn remaining contents answers refuses old new before after → AddsRefusals refuses (flat_map refusals_of before) (flat_map refusals_of after)
    turn_refuses remaining contents old new before after (inl t) = (
      t.refused.0,
      ap (λ (cs : List (Client S)). flat_map refusals_of cs) t.is
          ∙ (last_gives refusals_of t.others t.client t.served t.refused.0 t.refused.1
          ∙ ap (λ (cs : List (Client S)). flat_map refusals_of cs ++ t.refused.0) (sym t.was)),
      t.refused.2,
    )
    turn_refuses remaining contents old new before after (inr (same, still)) =
        none_refused refuses _ _ (ap (λ (cs : List (Client S)). flat_map refusals_of cs) same)

-- one of the slots changes
module _ {S : Type 0} (slots : List (Slot S)) (i : ℕ) (x y : Slot S) (lt : i < length slots) (is : x ≡ get_or slots i x) where
  differs : Differs clients_in slots (set slots i y) x y
  differs = set_differs clients_in slots i x y lt is

  goes_on_in_slots : (made : List Exchange)
      → GoesOnAs (map exchanges_of (differs.front ++ (clients_in x ++ differs.back))) made (map exchanges_of (differs.front ++ (clients_in y ++ differs.back)))
      → GoesOnAs (map exchanges_of (flat_map clients_in slots)) made (map exchanges_of (flat_map clients_in (set slots i y)))
  goes_on_in_slots made goes =
      subst (λ (cs : List (Client S)). GoesOnAs (map exchanges_of cs) made (map exchanges_of (flat_map clients_in (set slots i y)))) (sym differs.before)
      (subst (λ (cs : List (Client S)). GoesOnAs (map exchanges_of (differs.front ++ (clients_in x ++ differs.back))) made (map exchanges_of cs)) (sym differs.after) goes)

  timeline_in_slots : (made : List Exchange)
      → Timeline (map client_history (differs.front ++ (clients_in x ++ differs.back))) made
      (map client_history (differs.front ++ (clients_in y ++ differs.back)))
      → Timeline (histories_in slots) made (histories_in (set slots i y))
  timeline_in_slots made timeline =
      subst (λ (cs : List (Client S)). Timeline (map client_history cs) made
      (histories_in (set slots i y))) (sym differs.before)
      (subst (λ (cs : List (Client S)). Timeline (map client_history
      (differs.front ++ (clients_in x ++ differs.back))) made (map client_history cs))
      (sym differs.after) timeline)

  pub turn_in_slots : {V : Type 0} (answers : Answering V) (refuses : Refusing) (remaining contents : S → Option (List ℕ)) (old new : V)
      → TakesTurn remaining contents answers refuses old new (clients_in x) (clients_in y) → Serves answers refuses old new slots (set slots i y)
  turn_in_slots answers refuses remaining contents old new turn =
      let adds : Adds answers old new (clients_in x) (clients_in y) = turn_adds answers refuses remaining contents old new (clients_in x) (clients_in y) turn in
      record {
        exchanges = adds.made;
        leads = adds.leads;
        interleaved = goes_on_in_slots adds.made (adds.interleaved differs.front differs.back);
        in_turn = grows_in_slots slots i x y lt is adds.made adds.grown;
        timeline = timeline_in_slots adds.made (adds.timeline differs.front differs.back);
        in_order = all_in_order _;
        refused = refused_in_places slots i x y lt is refusals_in refuses (turn_refuses answers refuses remaining contents old new (clients_in x) (clients_in y) turn);
      }

  pub comes_in_slots : (c : Client S) → clients_in y ≡ clients_in x ++ c ∷ []
      → client_history c ≡ new_history
      → Timeline (histories_in slots) [] (histories_in (set slots i y))
  comes_in_slots c one new =
      timeline_in_slots []
      (subst (λ (cs : List (Client S)). Timeline (map client_history
      (differs.front ++ (clients_in x ++ differs.back))) []
      (map client_history (differs.front ++ (cs ++ differs.back)))) (sym one)
      (comes_at differs.front (clients_in x) differs.back c new))

  histories_around : (front own back : List (Client S))
      → map client_history (front ++ (own ++ back))
      ≡ map client_history front ++ (map client_history own ++ map client_history back)
  histories_around front own back = simp (map-append) refl

  pub same_in_slots : map client_history (clients_in y) ≡ map client_history (clients_in x)
      → histories_in (set slots i y) ≡ histories_in slots
  same_in_slots same =
      let front = differs.front in
      let back = differs.back in
      ap (λ (cs : List (Client S)). map client_history cs) differs.after
      ∙ (histories_around front (clients_in y) back
      ∙ (ap (λ (hs : List History). map client_history front ++ (hs ++ map client_history back)) same
      ∙ (sym (histories_around front (clients_in x) back)
      ∙ ap (λ (cs : List (Client S)). map client_history cs) (sym differs.before))))

-- each client moves
module _ {S : Type 0} (remaining contents : S → Option (List ℕ)) where
  pub each_stays : (cs : List (Client S)) → EachMoves remaining contents cs cs
  each_stays [] = tt
  each_stays (c ∷ cs) = (stays_put MOST_INPUT (place_of remaining contents c), each_stays cs)

  pub each_then : (xs ys zs : List (Client S)) → EachMoves remaining contents xs ys → EachMoves remaining contents ys zs → EachMoves remaining contents xs zs
  each_then [] [] [] a b = tt
  each_then [] [] (z ∷ zs) a b = absurd b
  each_then [] (y ∷ ys) zs a b = absurd a
  each_then (x ∷ xs) [] zs a b = absurd a
  each_then (x ∷ xs) (y ∷ ys) [] a b = absurd b
  each_then (x ∷ xs) (y ∷ ys) (z ∷ zs) a b = (moves_then MOST_INPUT (place_of remaining contents x) (place_of remaining contents y) (place_of remaining contents z) a.0 b.0, each_then xs ys zs a.1 b.1)

  each_append : (xs ys us vs : List (Client S)) → EachMoves remaining contents xs ys → EachMoves remaining contents us vs → EachMoves remaining contents (xs ++ us) (ys ++ vs)
  each_append [] [] us vs a b = b
  each_append [] (y ∷ ys) us vs a b = absurd a
  each_append (x ∷ xs) [] us vs a b = absurd a
  each_append (x ∷ xs) (y ∷ ys) us vs a b = (a.0, each_append xs ys us vs a.1 b)

  turn_moves : {V : Type 0} (answers : Answering V) (refuses : Refusing) (old new : V) (before after : List (Client S)) → TakesTurn remaining contents answers refuses old new before after → EachMoves remaining contents before after
  turn_moves answers refuses old new before after (inl t) =
      subst (λ (cs : List (Client S)). EachMoves remaining contents cs after) (sym t.was)
      (subst (λ (cs : List (Client S)). EachMoves remaining contents (t.others ++ t.client ∷ []) cs) (sym t.is)
      (each_append t.others t.others (t.client ∷ []) (t.served ∷ []) (each_stays t.others) (t.moves, tt)))
  turn_moves answers refuses old new before after (inr (same, still)) = subst (λ (cs : List (Client S)). EachMoves remaining contents before cs) (sym same) (each_stays before)

  pub turn_moves_in_slots : {V : Type 0} (answers : Answering V) (refuses : Refusing) (old new : V) (slots : List (Slot S)) (i : ℕ) (x y : Slot S) → i < length slots → x ≡ get_or slots i x
      → TakesTurn remaining contents answers refuses old new (clients_in x) (clients_in y) → EachMoves remaining contents (flat_map clients_in slots) (flat_map clients_in (set slots i y))
  turn_moves_in_slots answers refuses old new slots i x y lt is turn =
      let d = set_differs clients_in slots i x y lt is in
      subst (λ (cs : List (Client S)). EachMoves remaining contents cs (flat_map clients_in (set slots i y))) (sym d.before)
      (subst (λ (cs : List (Client S)). EachMoves remaining contents (d.front ++ (clients_in x ++ d.back)) cs) (sym d.after)
      (each_append d.front d.front _ _ (each_stays d.front)
      (each_append (clients_in x) (clients_in y) d.back d.back (turn_moves answers refuses old new (clients_in x) (clients_in y) turn) (each_stays d.back))))
