-- States that their journals give again.
use Rattle.std.proofs.Common.{◌≡◌, List, [], ◌∷◌, ◌++◌, Bool, true, false, All, map, None, Some}
use Rattle.std.proofs.Common.{Result, Ok, Err, refl, sym, ap, subst, ◌∙◌}
use Rattle.std.proofs.lemmas.List.{map-append}
use Rattle.std.proofs.lemmas.List.Elements.{All-nil, All-cons, All-head, All-tail}
use Rattle.streetmap_batch.specs.Text.{Text}
use Rattle.streetmap_batch.specs.ParsedBatches.{batch_of}
use Rattle.streetmap_batch.specs.BatchValue.{BatchValue}
use Rattle.streetmap_batch.specs.declared.batch_fault.BatchFault.{BatchFault}
use Rattle.streetmap_ledger.specs.State.{State, opening_state}
use Rattle.streetmap_ledger.specs.Batches.{Outcome, act, after_all}
use Rattle.streetmap_ledger.specs.Laws.{is_accepted}
use Rattle.streetmap_ledger.specs.WellFormed.{IsState}
use Rattle.streetmap_ledger.specs.declared.reply.Reply.{Reply}
use Rattle.streetmap_ledger.specs.declared.reply.Reply.TheVariants.{Accepted, Repeated, Refused}
use Rattle.streetmap_ledger.proofs.StatesStay.{opening_sound, act_sound}
use Rattle.streetmap_batch.specs.BatchFacts.{IsSoundBatch}
use Rattle.streetmap_replay.specs.Journal.{journal, text_if}
use Rattle.streetmap_replay.specs.Lines.{Line, bare}
use Rattle.streetmap_replay.specs.FollowedLines.{LineFault, Followed, unless_refused, acted}
use Rattle.streetmap_replay.specs.FollowedLines.{line_outcome, goes_on, follow, Arrives}
use Rattle.streetmap_replay.specs.Replay.{Replays, StatesReplay}
use Rattle.streetmap_replay.proofs.JournalGrows.{opening_empty, act_grows}
use Rattle.streetmap_replay.proofs.RepeatedBatches.{act_stays, accepted_reported}
use Rattle.streetmap_replay.proofs.Followers.{follow_texts}

no_fault : {A : Type 0} (why : LineFault) → Some why ≡ None → A
no_fault why e = absurd cc

-- lines, and then more of them
on_by : (s t u : State) (xs ys : List Line) →
    ((v : State) → Arrives (follow v xs) t → Arrives (follow v (xs ++ ys)) u) →
    (r : Result Outcome LineFault) → Arrives (goes_on s r (λ v. follow v xs)) t →
    Arrives (goes_on s r (λ v. follow v (xs ++ ys))) u
on_by s t u xs ys rest (Ok o) h =
    let more = rest o.state (record { there = h.there; whole = h.whole }) in
    record { there = more.there; whole = more.whole }
on_by s t u xs ys rest (Err why) h = no_fault why h.whole

pub follow_on : (t u : State) (xs ys : List Line) → Arrives (follow t ys) u → (s : State) →
    Arrives (follow s xs) t → Arrives (follow s (xs ++ ys)) u
follow_on t u [] ys k s h = subst (λ (v : State). Arrives (follow v ys) u) (sym h.there) k
follow_on t u (x ∷ xs) ys k s h =
    on_by s t u xs ys (λ v. follow_on t u xs ys k v) (line_outcome s x) h

-- the text of a batch
follow_text : (s : State) (b : BatchValue) → IsSoundBatch b → (t : Bool) →
    is_accepted (act s b).reply ≡ t → Arrives (follow s (map bare (text_if t b))) (act s b).state
follow_text s b w true e =
    let followed = follow_texts s (b ∷ []) (All-cons IsSoundBatch b [] w (All-nil IsSoundBatch))
    (accepted_reported (act s b).reply e, tt) in
    record {
      there = ap (λ (f : Followed). f.state) followed;
      whole = ap (λ (f : Followed). f.fault) followed;
    }
follow_text s b w false e = record { there = sym (act_stays s b e); whole = refl }

opening_replays : Replays opening_state
opening_replays =
    subst (λ (ts : List Text). Arrives (follow opening_state (map bare ts)) opening_state)
    (sym opening_empty) (record { there = refl; whole = refl })

batch_replays : (s : State) (b : BatchValue) → IsState s → IsSoundBatch b → Replays s →
    Replays (act s b).state
batch_replays s b sound w h =
    let more = text_if (is_accepted (act s b).reply) b in
    subst (λ (ls : List Line). Arrives (follow opening_state ls) (act s b).state)
    (sym (ap (map bare) (act_grows s b sound) ∙ map-append bare (journal s) more))
    (follow_on s (act s b).state (map bare (journal s)) (map bare more)
    (follow_text s b w (is_accepted (act s b).reply) refl) opening_state h)

all_replay : (s : State) (bs : List BatchValue) → IsState s → All IsSoundBatch bs → Replays s →
    Replays (after_all s bs)
all_replay s [] sound w h = h
all_replay s (b ∷ bs) sound w h =
    let head = All-head IsSoundBatch b bs w in
    all_replay (act s b).state bs (act_sound s b sound head) (All-tail IsSoundBatch b bs w)
    (batch_replays s b sound head h)

-- ---- and comes from batches

abbrev Made : State → State → Type 0
Made s t = (bs : List BatchValue) × (after_all s bs ≡ t)

abbrev Rest : State → List Text → Type 0
Rest t texts = (v : State) → Arrives (follow v (map bare texts)) t → Made v t

made_reported : (s t : State) (b : BatchValue) (texts : List Text) → Rest t texts → (r : Reply) →
    Arrives (goes_on s (unless_refused (act s b).state r) (λ v. follow v (map bare texts))) t →
    Made s t
made_reported s t b texts rest (Accepted counts serial) h =
    let more = rest (act s b).state (record { there = h.there; whole = h.whole }) in
    (b ∷ more.0, more.1)
made_reported s t b texts rest (Repeated counts serial) h =
    let more = rest (act s b).state (record { there = h.there; whole = h.whole }) in
    (b ∷ more.0, more.1)
made_reported s t b texts rest (Refused why place) h = no_fault _ h.whole

made_by : (s t : State) (texts : List Text) → Rest t texts →
    (r : Result BatchValue BatchFault) →
    Arrives (goes_on s (acted s r) (λ v. follow v (map bare texts))) t → Made s t
made_by s t texts rest (Ok b) h = made_reported s t b texts rest (act s b).reply h
made_by s t texts rest (Err fault) h = no_fault _ h.whole

made : (t : State) (texts : List Text) (s : State) → Arrives (follow s (map bare texts)) t →
    Made s t
made t [] s h = ([], h.there)
made t (text ∷ texts) s h = made_by s t texts (λ v. made t texts v) (batch_of text) h

pub states_replay : StatesReplay
states_replay = (
  opening_replays,
  batch_replays,
  λ bs w. all_replay opening_state bs opening_sound w opening_replays,
  λ s h. made s (journal s) opening_state h,
)
