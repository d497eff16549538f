-- What a client does, one step after another.
use Rattle.std.proofs.Common.{◌≡◌, ℕ, Bool, false, List, [], ◌∷◌, ◌++◌, take, Option, Some, None, refl, sym, subst, ◌∙◌, ap, append_assoc, ◌<◌, ◌≤◌, length, arith, rules, true, Result, Ok, Err, IfOk, OnErr}
use Rattle.std.proofs.lemmas.List.{append-nil}
use Rattle.std.proofs.lemmas.List.Elements.{All-nil, All-cons, All-append}
use Rattle.std.specs.Bool.{OnTrue, OnFalse}
use Rattle.std.specs.Io.KnownBytes.{Appends, Consumes, Keeps}
use Rattle.http_server.proofs.KnownLemmas.{Appends-then, Consumes-then}
use Rattle.streetmap_connections.specs.History.{Exchange, History, Refusal, MayFollow, after_receive, after_answer, after_refusal, after_send}
use Rattle.streetmap_connections.specs.RefusedRequests.{AddsRefusals, AreRefused, Refusing}
use Rattle.streetmap_connections.specs.Leads.{Answering, Calls, Leads}
use Rattle.streetmap_connections.specs.Moves.{Moves, Place}
use Rattle.streetmap_connections.specs.Timeline.Step.{reads, writes}
use Rattle.streetmap_connections.specs.Timeline.Step.{answers as answers_one, refuses as refuses_one}
use Rattle.streetmap_connections.proofs.Timelines.{stays, one_step, steps_then}

consumes_none : (u v : Option (List ℕ)) → v ≡ u → Consumes u v []
consumes_none None v e = tt
consumes_none (Some xs) v e = rw e refl

keeps_none : (u v : Option (List ℕ)) → Keeps u v → Consumes u v []
keeps_none None v k = tt
keeps_none (Some xs) None k = absurd k
keeps_none (Some xs) (Some ys) k = sym k

appends_none : (u v : Option (List ℕ)) → v ≡ u → Appends u v []
appends_none None v e = tt
appends_none (Some xs) v e = rw e (sym (append-nil xs))

kept_appends : (u v : Option (List ℕ)) → Keeps u v → Appends u v []
kept_appends None v k = tt
kept_appends (Some xs) None k = absurd k
kept_appends (Some xs) (Some ys) k = k ∙ sym (append-nil xs)

pub stays_put : (most : ℕ) (p : Place) → Moves most p p
stays_put most p = record {
  more = [];
  received = sym (append-nil p.history.received);
  consumed = λ stays. (stays, consumes_none p.left p.left refl);
  reads = [];
  waited = sym (append-nil p.history.waited);
  within = All-nil (λ n. n < most);
  gone = [];
  sent = sym (append-nil p.history.sent);
  appended = appends_none p.held p.held refl;
  answered = [];
  steps = stays p.history p.history refl;
}

pub moves_then : (most : ℕ) (p q r : Place) → Moves most p q → Moves most q r → Moves most p r
moves_then most p q r a b = record {
  more = a.more ++ b.more;
  received = b.received ∙ (ap (λ (xs : List ℕ). xs ++ b.more) a.received ∙ append_assoc p.history.received a.more b.more);
  consumed = λ stays. let later = b.consumed stays in let earlier = a.consumed later.0 in (earlier.0, Consumes-then p.left q.left r.left a.more b.more earlier.1 later.1);
  reads = a.reads ++ b.reads;
  waited = b.waited ∙ (ap (λ (xs : List ℕ). xs ++ b.reads) a.waited ∙ append_assoc p.history.waited a.reads b.reads);
  within = All-append (λ n. n < most) a.reads b.reads a.within b.within;
  gone = a.gone ++ b.gone;
  sent = b.sent ∙ (ap (λ (xs : List ℕ). xs ++ b.gone) a.sent ∙ append_assoc p.history.sent a.gone b.gone);
  appended = Appends-then p.held q.held r.held a.gone b.gone a.appended b.appended;
  answered = a.answered ++ b.answered;
  steps = steps_then a.steps b.steps;
}

pub moves_within : (most more : ℕ) (p q : Place) → most ≤ more → Moves most p q → Moves more p q
moves_within most more p q le a = record {
  more = a.more;
  received = a.received;
  consumed = a.consumed;
  reads = a.reads;
  waited = a.waited;
  within = λ k d lt. omega (arith, le, a.within k d lt);
  gone = a.gone;
  sent = a.sent;
  appended = a.appended;
  answered = a.answered;
  steps = a.steps;
}

pub moves_to : (most : ℕ) (p q r : Place) → Moves most p q → r ≡ q → Moves most p r
moves_to most p q r a e = subst (λ (x : Place). Moves most p x) (sym e) a

pub moves_from : (most : ℕ) (p q r : Place) → q ≡ p → Moves most q r → Moves most p r
moves_from most p q r e a = subst (λ (x : Place). Moves most x r) e a

abbrev pub place_at : History → Option (List ℕ) → Option (List ℕ) → Bool → Place
place_at h left held finishes = record { history = h; left = left; held = held; finishes = finishes }

pub place_same : {S : Type 0} (remaining contents : S → Option (List ℕ)) (old new : History) (s s' : S) (finishes : Bool) → new ≡ old → s' ≡ s
    → place_at new (remaining s') (contents s') finishes ≡ place_at old (remaining s) (contents s) finishes
place_same remaining contents old new s s' finishes h e = rw (h, e) refl

-- nothing was answered
pub no_calls : {V : Type 0} (answers : Answering V) (s : V) (es : List Exchange) → Calls answers s s es es
no_calls answers s es = ([], sym (append-nil es), refl)

pub leads_then : {V : Type 0} (answers : Answering V) (xs ys : List Exchange) (a b c : V) → Leads answers a xs b → Leads answers b ys c → Leads answers a (xs ++ ys) c
leads_then answers [] ys a b c x y = rw (sym x) y
leads_then answers (e ∷ xs) ys a b c x y = (x.0, x.1, leads_then answers xs ys x.0 b c x.2 y)

pub calls_then : {V : Type 0} (answers : Answering V) (a b c : V) (xs ys zs : List Exchange) → Calls answers a b xs ys → Calls answers b c ys zs → Calls answers a c xs zs
calls_then answers a b c xs ys zs x y =
    (x.0 ++ y.0, y.1 ∙ (ap (λ (es : List Exchange). es ++ y.0) x.1 ∙ append_assoc xs x.0 y.0), leads_then answers x.0 y.0 a b c x.2 y.2)

-- the connection read once
pub moves_by_receive : {E : Type 0} (most : ℕ) (r : Result ℕ E) (old new : History) (left left' held held' : Option (List ℕ)) (finishes : Bool) (A : ℕ → List ℕ → Type 0)
    → length old.unread < most → IfOk r (λ n. (more : List ℕ) × A n more × Consumes left left' more × (new ≡ after_receive old more))
    → OnErr r ((new ≡ old) × Keeps left left') → held' ≡ held
    → Moves most (record { history = old; left = left; held = held; finishes = finishes }) (record { history = new; left = left'; held = held'; finishes = finishes })
moves_by_receive most (Ok n) old new left left' held held' finishes A less ok err kept = record {
  more = ok.0;
  received = ap (λ (h : History). h.received) ok.3;
  consumed = λ stays. (stays, ok.2);
  reads = length old.unread ∷ [];
  waited = ap (λ (h : History). h.waited) ok.3;
  within = All-cons (λ n. n < most) (length old.unread) [] less (All-nil (λ n. n < most));
  gone = [];
  sent = ap (λ (h : History). h.sent) ok.3 ∙ sym (append-nil old.sent);
  appended = appends_none held held' kept;
  answered = [];
  steps = one_step old new [] (reads ok.0 refl ok.3);
}
moves_by_receive most (Err e) old new left left' held held' finishes A less ok err kept = record {
  more = [];
  received = ap (λ (h : History). h.received) err.0 ∙ sym (append-nil old.received);
  consumed = λ stays. (stays, keeps_none left left' err.1);
  reads = [];
  waited = ap (λ (h : History). h.waited) err.0 ∙ sym (append-nil old.waited);
  within = All-nil (λ n. n < most);
  gone = [];
  sent = ap (λ (h : History). h.sent) err.0 ∙ sym (append-nil old.sent);
  appended = appends_none held held' kept;
  answered = [];
  steps = stays old new err.0;
}

-- the connection wrote once
pub moves_by_send : {E : Type 0} (most : ℕ) (r : Result ℕ E) (old new : History) (left left' held held' : Option (List ℕ)) (finishes : Bool)
    → IfOk r (λ n. (new ≡ after_send old n) × Appends held held' (take n old.unsent))
    → OnErr r ((new ≡ old) × Keeps held held') → left' ≡ left
    → Moves most (record { history = old; left = left; held = held; finishes = finishes }) (record { history = new; left = left'; held = held'; finishes = finishes })
moves_by_send most (Ok n) old new left left' held held' finishes ok err kept = record {
  more = [];
  received = ap (λ (h : History). h.received) ok.0 ∙ sym (append-nil old.received);
  consumed = λ stays. (stays, consumes_none left left' kept);
  reads = [];
  waited = ap (λ (h : History). h.waited) ok.0 ∙ sym (append-nil old.waited);
  within = All-nil (λ n. n < most);
  gone = take n old.unsent;
  sent = ap (λ (h : History). h.sent) ok.0;
  appended = ok.1;
  answered = [];
  steps = one_step old new [] (writes n refl ok.0);
}
moves_by_send most (Err e) old new left left' held held' finishes ok err kept = record {
  more = [];
  received = ap (λ (h : History). h.received) err.0 ∙ sym (append-nil old.received);
  consumed = λ stays. (stays, consumes_none left left' kept);
  reads = [];
  waited = ap (λ (h : History). h.waited) err.0 ∙ sym (append-nil old.waited);
  within = All-nil (λ n. n < most);
  gone = [];
  sent = ap (λ (h : History). h.sent) err.0 ∙ sym (append-nil old.sent);
  appended = kept_appends held held' err.1;
  answered = [];
  steps = stays old new err.0;
}

pub unanswered_by_send : {E : Type 0} (r : Result ℕ E) (old new : History) (A : ℕ → Type 0) (K : Type 0)
    → IfOk r (λ n. (new ≡ after_send old n) × A n) → OnErr r ((new ≡ old) × K)
    → new.exchanges ≡ old.exchanges
unanswered_by_send (Ok n) old new A K ok err = ap (λ (h : History). h.exchanges) ok.0
unanswered_by_send (Err e) old new A K ok err = ap (λ (h : History). h.exchanges) err.0

-- the service was called once
pub moves_by_answer : (most : ℕ) (is_request : List ℕ → Type 0) (r : Bool) (old new : History) (left held : Option (List ℕ)) (finishes : Bool) (A : Exchange → Type 0) (K : Type 0)
    → OnTrue r ((e : Exchange) × MayFollow is_request old e × A e × (new ≡ after_answer old e)) → OnFalse r ((new ≡ old) × K)
    → Moves most (record { history = old; left = left; held = held; finishes = finishes }) (record { history = new; left = left; held = held; finishes = finishes })
moves_by_answer most is_request true old new left held finishes A K on off = record {
  more = [];
  received = ap (λ (h : History). h.received) on.3 ∙ sym (append-nil old.received);
  consumed = λ stays. (stays, consumes_none left left refl);
  reads = [];
  waited = ap (λ (h : History). h.waited) on.3 ∙ sym (append-nil old.waited);
  within = All-nil (λ n. n < most);
  gone = [];
  sent = ap (λ (h : History). h.sent) on.3 ∙ sym (append-nil old.sent);
  appended = appends_none held held refl;
  answered = on.0 ∷ [];
  steps = one_step old new (on.0 ∷ []) (answers_one on.0 refl on.3);
}
moves_by_answer most is_request false old new left held finishes A K on off = record {
  more = [];
  received = ap (λ (h : History). h.received) off.0 ∙ sym (append-nil old.received);
  consumed = λ stays. (stays, consumes_none left left refl);
  reads = [];
  waited = ap (λ (h : History). h.waited) off.0 ∙ sym (append-nil old.waited);
  within = All-nil (λ n. n < most);
  gone = [];
  sent = ap (λ (h : History). h.sent) off.0 ∙ sym (append-nil old.sent);
  appended = appends_none held held refl;
  answered = [];
  steps = stays old new off.0;
}

pub calls_by_answer : {V : Type 0} (is_request : List ℕ → Type 0) (answers : Answering V) (r : Bool) (old new : History) (s s' : V)
    → OnTrue r ((e : Exchange) × MayFollow is_request old e × answers s e.request e.text e.closes s' × (new ≡ after_answer old e)) → OnFalse r ((new ≡ old) × (s' ≡ s))
    → Calls answers s s' old.exchanges new.exchanges
calls_by_answer is_request answers true old new s s' on off = (on.0 ∷ [], ap (λ (h : History). h.exchanges) on.3, (s', on.2, refl))
calls_by_answer is_request answers false old new s s' on off = ([], ap (λ (h : History). h.exchanges) off.0 ∙ sym (append-nil old.exchanges), off.1)

is_not_false : (b : Bool) → b ≡ true → ¬ (b ≡ false)
is_not_false true e f = search rules
is_not_false false e f = search rules

-- the client starts to drop what is still read
pub moves_by_finish : (most : ℕ) (h : History) (left left' held held' : Option (List ℕ)) (before after : Bool) → after ≡ true → held' ≡ held
    → Moves most (record { history = h; left = left; held = held; finishes = before }) (record { history = h; left = left'; held = held'; finishes = after })
moves_by_finish most h left left' held held' before after finishes kept = record {
  more = [];
  received = sym (append-nil h.received);
  consumed = λ stays. absurd (is_not_false after finishes stays);
  reads = [];
  waited = sym (append-nil h.waited);
  within = All-nil (λ n. n < most);
  gone = [];
  sent = sym (append-nil h.sent);
  appended = appends_none held held' kept;
  answered = [];
  steps = stays h h refl;
}

-- a request was refused
pub moves_by_refusal : (most : ℕ) (old new : History) (text : List ℕ) (left held : Option (List ℕ)) (finishes : Bool) → new ≡ after_refusal old text
    → Moves most (record { history = old; left = left; held = held; finishes = finishes }) (record { history = new; left = left; held = held; finishes = finishes })
moves_by_refusal most old new text left held finishes is = record {
  more = [];
  received = ap (λ (h : History). h.received) is ∙ sym (append-nil old.received);
  consumed = λ stays. (stays, consumes_none left left refl);
  reads = [];
  waited = ap (λ (h : History). h.waited) is ∙ sym (append-nil old.waited);
  within = All-nil (λ n. n < most);
  gone = [];
  sent = ap (λ (h : History). h.sent) is ∙ sym (append-nil old.sent);
  appended = appends_none held held refl;
  answered = [];
  steps = one_step old new [] (refuses_one text refl is);
}

-- no refusal was added
pub none_refused : (refuses : Refusing) (before after : List Refusal) → after ≡ before → AddsRefusals refuses before after
none_refused refuses before after same = ([], same ∙ sym (append-nil before), All-nil (λ (r : Refusal). refuses r.bytes r.text))

pub refused_then : (refuses : Refusing) (xs ys zs : List Refusal) → AddsRefusals refuses xs ys → AddsRefusals refuses ys zs → AddsRefusals refuses xs zs
refused_then refuses xs ys zs a b =
    (a.0 ++ b.0, b.1 ∙ (ap (λ (rs : List Refusal). rs ++ b.0) a.1 ∙ append_assoc xs a.0 b.0), All-append (λ (r : Refusal). refuses r.bytes r.text) a.0 b.0 a.2 b.2)

pub all_refused : (refuses : Refusing) (before after : List Refusal) → AddsRefusals refuses before after → AreRefused refuses before → AreRefused refuses after
all_refused refuses before after a were = subst (λ (rs : List Refusal). AreRefused refuses rs) (sym a.1) (All-append (λ (r : Refusal). refuses r.bytes r.text) before a.0 were a.2)
