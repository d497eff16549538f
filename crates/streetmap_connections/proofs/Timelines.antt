-- How timelines continue, and what was answered in them.
use Rattle.std.proofs.Common.{◌≡◌, List, [], ◌∷◌, ◌++◌, map, refl, sym, subst, ap, ◌∙◌, append_assoc}
use Rattle.std.proofs.lemmas.List.{append-nil, map-append, append_cancel_left}
use Rattle.streetmap_connections.specs.History.{Exchange, History, new_history}
use Rattle.streetmap_connections.specs.Interleaving.{GoesOnAs, IsInterleaving}
use Rattle.streetmap_connections.specs.Timeline.{Step, Steps, Happens, Timeline}
use Rattle.streetmap_connections.specs.Timeline.Step.{reads, answers, refuses, writes}
use Rattle.streetmap_connections.specs.Timeline.Steps.{none as no_step, first as first_step}
use Rattle.streetmap_connections.specs.Timeline.Happens.{moves, comes}
use Rattle.streetmap_connections.specs.Timeline.Timeline.{none, first}
use Rattle.streetmap_connections.proofs.Interleavings.{begins, goes_on, goes_on_then, same_goes_on}

abbrev pub answered_in : History → List Exchange
answered_in h = h.exchanges

-- steps of one connection

pub stays : (h k : History) → k ≡ h → Steps h [] k
stays h k same = no_step refl same

pub one_step : (h k : History) (made : List Exchange) → Step h made k → Steps h made k
one_step h k made step = first_step step (no_step refl refl) (sym (append-nil made))

pub steps_then : {a b c : History} {xs ys : List Exchange} → Steps a xs b → Steps b ys c
    → Steps a (xs ++ ys) c
steps_then {a} {b} {c} {xs} {ys} (no_step nothing same) more =
    subst (λ (h : History). Steps h (xs ++ ys) c) same
    (subst (λ (l : List Exchange). Steps b (l ++ ys) c) (sym nothing) more)
steps_then {c = c} {ys = ys} (first_step {made = made} {rest = rest} step others is) more =
    first_step step (steps_then others more)
    (ap (λ (l : List Exchange). l ++ ys) is ∙ append_assoc made rest ys)

step_answers : {h k : History} {made : List Exchange} → Step h made k
    → k.exchanges ≡ h.exchanges ++ made
step_answers {h} {k} (reads bytes nothing is) =
    ap (λ (x : History). x.exchanges) is
    ∙ (sym (append-nil h.exchanges) ∙ ap (λ (l : List Exchange). h.exchanges ++ l) (sym nothing))
step_answers {h} {k} (answers e one is) =
    ap (λ (x : History). x.exchanges) is ∙ ap (λ (l : List Exchange). h.exchanges ++ l) (sym one)
step_answers {h} {k} (refuses text nothing is) =
    ap (λ (x : History). x.exchanges) is
    ∙ (sym (append-nil h.exchanges) ∙ ap (λ (l : List Exchange). h.exchanges ++ l) (sym nothing))
step_answers {h} {k} (writes count nothing is) =
    ap (λ (x : History). x.exchanges) is
    ∙ (sym (append-nil h.exchanges) ∙ ap (λ (l : List Exchange). h.exchanges ++ l) (sym nothing))

pub steps_answer : {h k : History} {made : List Exchange} → Steps h made k
    → k.exchanges ≡ h.exchanges ++ made
steps_answer {h} (no_step nothing same) =
    ap (λ (x : History). x.exchanges) same
    ∙ (sym (append-nil h.exchanges) ∙ ap (λ (l : List Exchange). h.exchanges ++ l) (sym nothing))
steps_answer {h} (first_step {made = made} {rest = rest} step others is) =
    steps_answer others
    ∙ (ap (λ (l : List Exchange). l ++ rest) (step_answers step)
    ∙ (append_assoc h.exchanges made rest
    ∙ ap (λ (l : List Exchange). h.exchanges ++ l) (sym is)))

-- what was answered in steps is what the connection's list gained
pub steps_made : {h k : History} {made more : List Exchange} → Steps h made k
    → k.exchanges ≡ h.exchanges ++ more → Steps h more k
steps_made {h} {k} {made} {more} steps goes =
    subst (λ (l : List Exchange). Steps h l k)
    (append_cancel_left h.exchanges made more (sym (steps_answer steps) ∙ goes)) steps

-- timelines

pub timeline_stays : (hs ks : List History) → ks ≡ hs → Timeline hs [] ks
timeline_stays hs ks same = none refl same

pub timeline_then : {a b c : List History} {xs ys : List Exchange} → Timeline a xs b
    → Timeline b ys c → Timeline a (xs ++ ys) c
timeline_then {a} {b} {c} {xs} {ys} (none nothing same) more =
    subst (λ (h : List History). Timeline h (xs ++ ys) c) same
    (subst (λ (l : List Exchange). Timeline b (l ++ ys) c) (sym nothing) more)
timeline_then {c = c} {ys = ys} (first {made = made} {rest = rest} what others is) more =
    first what (timeline_then others more)
    (ap (λ (l : List Exchange). l ++ ys) is ∙ append_assoc made rest ys)

-- one of the connections takes steps
pub steps_among : {h k : History} {made : List Exchange} (front back : List History)
    → Steps h made k → Timeline (front ++ h ∷ back) made (front ++ k ∷ back)
steps_among front back (no_step nothing same) =
    none nothing (ap (λ (x : History). front ++ x ∷ back) same)
steps_among {h} front back (first_step {next = next} step others is) =
    first (moves front back h next refl step refl) (steps_among front back others) is

-- one more connection comes
pub comes_among : (front back : List History)
    → Timeline (front ++ back) [] (front ++ new_history ∷ back)
comes_among front back = first (comes front back refl refl refl) (none refl refl) refl

lists_with : (front back : List History) (h : History)
    → map answered_in (front ++ h ∷ back)
    ≡ map answered_in front ++ (h.exchanges ∷ map answered_in back)
lists_with front back h = map-append answered_in front (h ∷ back)

happens_goes_on : {a b : List History} {made : List Exchange} → Happens a made b
    → GoesOnAs (map answered_in a) made (map answered_in b)
happens_goes_on {a} {b} {made} (moves front back was is before step after) all woven =
    let fronts = map answered_in front in
    let backs = map answered_in back in
    subst (λ (ls : List (List Exchange)). IsInterleaving ls (all ++ made))
    (sym (ap (λ (hs : List History). map answered_in hs) after ∙ (lists_with front back is
    ∙ ap (λ (l : List Exchange). fronts ++ (l ∷ backs)) (step_answers step))))
    (goes_on fronts backs was.exchanges made all
    (subst (λ (ls : List (List Exchange)). IsInterleaving ls all)
    (ap (λ (hs : List History). map answered_in hs) before ∙ lists_with front back was) woven))
happens_goes_on {a} {b} {made} (comes front back nothing before after) all woven =
    let fronts = map answered_in front in
    let backs = map answered_in back in
    subst (λ (l : List Exchange). IsInterleaving (map answered_in b) (all ++ l)) (sym nothing)
    (subst (λ (l : List Exchange). IsInterleaving (map answered_in b) l) (sym (append-nil all))
    (subst (λ (ls : List (List Exchange)). IsInterleaving ls all)
    (sym (ap (λ (hs : List History). map answered_in hs) after
    ∙ lists_with front back new_history))
    (begins fronts backs all
    (subst (λ (ls : List (List Exchange)). IsInterleaving ls all)
    (ap (λ (hs : List History). map answered_in hs) before ∙ map-append answered_in front back)
    woven))))

-- a timeline continues any interleaving of the connections' lists before as one of those after
pub timeline_goes_on : {a b : List History} {made : List Exchange} → Timeline a made b
    → GoesOnAs (map answered_in a) made (map answered_in b)
timeline_goes_on {a} {b} (none nothing same) =
    subst (λ (l : List Exchange). GoesOnAs (map answered_in a) l (map answered_in b)) (sym nothing)
    (same_goes_on (map answered_in a) (map answered_in b)
    (ap (λ (hs : List History). map answered_in hs) same))
timeline_goes_on {a} {b} (first {next = next} {made = made} {rest = rest} what others is) =
    subst (λ (l : List Exchange). GoesOnAs (map answered_in a) l (map answered_in b)) (sym is)
    (goes_on_then (map answered_in a) (map answered_in next) (map answered_in b) made rest
    (happens_goes_on what) (timeline_goes_on others))
