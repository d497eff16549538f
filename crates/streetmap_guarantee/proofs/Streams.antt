-- A stream, as one connection.
use Rattle.std.proofs.Common.{◌≡◌, inl, ℕ, List, [], ◌∷◌, ◌++◌, false, Option, refl, sym, subst, ap, ◌∙◌, append-nil, append_assoc}
use Rattle.std.specs.Prelude.{All}
use Rattle.std.specs.Io.KnownBytes.{Consumes}
use Rattle.std.proofs.KnownBytes.{Consumes-trans, Appends-trans}
use Rattle.std.proofs.lemmas.List.Concat.{flat_map-append}
use Rattle.std.proofs.lemmas.List.Elements.{All-nil, All-cons, All-append}
use Rattle.streetmap_batch.specs.Text.{Text}
use Rattle.streetmap_ledger.specs.State.{State}
use Rattle.streetmap_ledger.specs.Model.{Model}
use Rattle.streetmap_connections.specs.History.{History, Exchange, FitsStream, LeavesOpen, requests_of, texts_of}
use Rattle.streetmap_connections.specs.Interleaving as interleaving
use Rattle.streetmap_connections.specs.Interleaving.{IsInterleaving, Merges}
use Rattle.streetmap_web.specs.Site.{SiteValue}
use Rattle.streetmap_web.specs.Conditions.{Condition, of_state}
use Rattle.streetmap_web.specs.Exchanges as web
use Rattle.streetmap_web.specs.Exchanges.{HttpExchange, GoOn}
use Rattle.streetmap_web.specs.ServedStream.{around, ServesExchanges, last_of}
use Rattle.streetmap_web.specs.Refusals.{IsRefusal}
use Rattle.streetmap_web.specs.ServedClients.{AnsweredInTurn}
use Rattle.streetmap_web.specs.StreamEnds.{EndsSo}
use Rattle.streetmap_web.specs.Turns.{end_of}
use Rattle.streetmap_web.specs.declared.turns.End.{End}
use Rattle.streetmap_web.proofs.LastRequests.{exchange_at, exchanges_at, is_answer, closes_last, IsLast, is_last}
use Rattle.streetmap_guarantee.specs.Guarantee.{IsInOrder, RefusesForMemory}
use Rattle.streetmap_guarantee.specs.Streams.{GuaranteeOfStream}
use Rattle.streetmap_guarantee.proofs.Guarantees.{LeavesStates, is_guaranteed}

answered_all : (site : SiteValue) (x : Condition) (ws last : List HttpExchange) → GoOn site x ws
    → (let y = web.condition_after_all x ws in AnsweredInTurn site y (exchanges_at site y last) last)
    → AnsweredInTurn site x (exchanges_at site x (ws ++ last)) (ws ++ last)
answered_all site x [] last go h = h
answered_all site x (w ∷ ws) last go h = (is_answer site x w go.0, answered_all site (web.condition_after x w) ws last go.2 h)

exchanges-append : (site : SiteValue) (x : Condition) (ws last : List HttpExchange)
    → exchanges_at site x (ws ++ last) ≡ exchanges_at site x ws ++ exchanges_at site (web.condition_after_all x ws) last
exchanges-append site x [] last = refl
exchanges-append site x (w ∷ ws) last = ap (λ (es : List Exchange). exchange_at site x w ∷ es) (exchanges-append site (web.condition_after x w) ws last)

requests_are : (site : SiteValue) (x : Condition) (ws : List HttpExchange) → requests_of (exchanges_at site x ws) ≡ web.all_requests ws
requests_are site x [] = refl
requests_are site x (w ∷ ws) = ap (λ (t : Text). w.bytes ++ t) (requests_are site (web.condition_after x w) ws)

texts_are : (site : SiteValue) (x : Condition) (ws : List HttpExchange) → texts_of (exchanges_at site x ws) ≡ web.all_answers site x ws
texts_are site x [] = refl
texts_are site x (w ∷ ws) = ap (λ (t : Text). web.answer_bytes site x w ++ t) (texts_are site (web.condition_after x w) ws)

all_open : (site : SiteValue) (x : Condition) (ws : List HttpExchange) → GoOn site x ws → All LeavesOpen (exchanges_at site x ws)
all_open site x [] go = All-nil LeavesOpen
all_open site x (w ∷ ws) go =
    All-cons LeavesOpen (exchange_at site x w) (exchanges_at site (web.condition_after x w) ws) go.1 (all_open site (web.condition_after x w) ws go.2)

-- one list alone
merges_alone : {A : Type 0} (xs : List A) → Merges xs [] xs
merges_alone [] = interleaving.none
merges_alone (x ∷ xs) = interleaving.left (merges_alone xs)

pub interleaves_alone : {A : Type 0} (xs : List A) → IsInterleaving (xs ∷ []) xs
interleaves_alone xs = interleaving.more (merges_alone xs) interleaving.none

-- ---- the whole stream

module _ {K Image : Type 0} (model : Model K) (holds : Image → State → Type 0) (leaves : Image → Type 0) (site : SiteValue) (s : State) (old new : K)
    (represented : model.represents old s) (states : LeavesStates holds leaves (model.may_leave new)) where
  pub stream_is_guaranteed : (input rest before now : Option Text) (end : End) (count : ℕ)
      → ServesExchanges model site end count (of_state s) (around input rest before now) old new
      → GuaranteeOfStream holds leaves site s end input rest before now
  stream_is_guaranteed input rest before now end count it =
      let x = of_state s in
      let ws = it.exchanges in
      let y = web.condition_after_all x ws in
      let last = last_of model it.turn site y _ new it.ends in
      let ending : IsLast site y _ (end_of it.turn) last = is_last site y _ model new it.turn it.ends it.closed in
      let front = exchanges_at site x ws in
      let back = exchanges_at site y last in
      let es = exchanges_at site x (ws ++ last) in
      let split : es ≡ front ++ back = exchanges-append site x ws last in
      let requests : requests_of es ≡ web.all_requests ws ++ requests_of back =
      ap requests_of split ∙ flat_map-append (λ (e : Exchange). e.request) front back ∙ ap (λ (t : Text). t ++ requests_of back) (requests_are site x ws) in
      let sent : Text = web.all_answers site x ws ++ ending.part in
      let texts : texts_of es ≡ sent ++ ending.unsent =
      ap texts_of split ∙ flat_map-append (λ (e : Exchange). e.text) front back ∙ ap (λ (t : Text). t ++ texts_of back) (texts_are site x ws)
      ∙ ap (λ (t : Text). web.all_answers site x ws ++ t) ending.parts ∙ sym (append_assoc (web.all_answers site x ws) ending.part ending.unsent) in
      let h : History = record {
        received = requests_of es;
        ended = false;
        unread = [];
        waited = [];
        exchanges = es;
        refusals = [];
        closes = closes_last site y last;
        sent = sent;
        unsent = ending.unsent;
      } in
      let fits : FitsStream h = record {
        received = sym (append-nil (requests_of es));
        answered = append-nil (texts_of es) ∙ texts;
        stays = λ stays. (refl, subst (All LeavesOpen) (sym split) (All-append LeavesOpen front back (all_open site x ws it.go_on) (ending.stays stays)));
        closed = λ closes.
            let c = ending.closed front (all_open site x ws it.go_on) closes in
            inl (refl, c.0, c.1, split ∙ c.2, c.3);
      } in
      record {
        connection = h;
        left = ending.left;
        read = subst (Consumes input ending.left) (sym requests) (Consumes-trans input it.middle ending.left _ _ it.read ending.read);
        written = Appends-trans before it.written now _ _ it.answered ending.written;
        ends = subst (λ (e : End). EndsSo e (closes_last site y last) ending.unsent ending.left rest) (sym it.end_is) ending.ends;
        guarantee = is_guaranteed model holds leaves site s old new represented states (h ∷ []) es (ws ++ last)
            (All-cons IsInOrder h [] ∣ fits ∣₁ (All-nil IsInOrder)) (All-cons RefusesForMemory h [] (All-nil (λ r. IsRefusal r.bytes r.text)) (All-nil RefusesForMemory)) (interleaves_alone es)
            (answered_all site x ws last it.go_on ending.answered) it.comes;
      }
