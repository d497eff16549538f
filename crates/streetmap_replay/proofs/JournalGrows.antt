-- The journal grows by the texts of the accepted batches.
use Rattle.std.proofs.Common.{◌≡◌, ℕ, suc, ◌+◌, ◌≤◌, List, [], ◌∷◌, ◌++◌, Bool, true, false, cond}
use Rattle.std.proofs.Common.{All, map, Option, None, Some, Result, Ok, Err, IfOk, refl, sym, ap}
use Rattle.std.proofs.Common.{◌∙◌, is_some, nat_eq, nat_lt, arith, append-nil, append_assoc}
use Rattle.std.specs.Cmp.Lexicographic.{pointwise, nat_list_cmp_total}
use Rattle.std.specs.FinMap.{get, insert, len, len-insert, len-empty}
use Rattle.std.proofs.lemmas.List.Elements.{All-head, All-tail}
use Rattle.streetmap_batch.specs.Text.{Text, text_cmp}
use Rattle.streetmap_batch.specs.BatchFacts.{IsSoundBatch}
use Rattle.streetmap_batch.specs.BatchText.{batch_text}
use Rattle.streetmap_batch.specs.BatchValue.{BatchValue}
use Rattle.streetmap_ledger.specs.State.{State, AcceptedBatch, opening_state}
use Rattle.streetmap_ledger.specs.Batches.{Outcome, edited, fresh, by_key, kept_for, act, after_all}
use Rattle.streetmap_ledger.specs.Batches.{most_batches}
use Rattle.streetmap_ledger.specs.Laws.{is_accepted, accepted_of}
use Rattle.streetmap_ledger.specs.WellFormed.{IsState}
use Rattle.streetmap_ledger.specs.declared.reply.Refusal.{Refusal}
use Rattle.streetmap_ledger.proofs.Repeat.{either, edited_keys}
use Rattle.streetmap_ledger.proofs.StatesStay.{opening_sound, act_sound}
use Rattle.streetmap_replay.specs.Journal.{journal, text_if, JournalGrows}
use Rattle.streetmap_replay.proofs.Texts.{Kept, texts_to, texts_in, journal_is}
use Rattle.streetmap_replay.proofs.Serials.{none_beyond, texts_last}

-- one more key under the next serial
one_more : (m : Kept) (key : Text) (k : AcceptedBatch) → get m key ≡ None →
    ((q : Text) (l : AcceptedBatch) → get m q ≡ Some l → l.serial ≤ len m) → k.serial ≡ len m + 1 →
    texts_to (insert m key k) (len (insert m key k)) ≡ texts_to m (len m) ++ k.text ∷ []
one_more m key k new low serial =
    let count : len (insert m key k) ≡ len m + 1 =
    len-insert nat_list_cmp_total m key k
    ∙ ap (λ (o : Option AcceptedBatch). cond (is_some o) (len m) (len m + 1)) new in
    let next : len (insert m key k) ≡ suc (len m) = omega (arith, count) in
    let is : k.serial ≡ suc (len m) = omega (arith, serial) in
    ap (λ (n : ℕ). texts_to (insert m key k) n) next
    ∙ texts_last m key k new (len m) is
    (none_beyond m k.serial (λ q l e. let most = low q l e in omega (arith, most, serial)))

abbrev Grows : State → BatchValue → Outcome → Type 0
Grows s b o = texts_in o.state ≡ texts_in s ++ text_if (is_accepted o.reply) b

same : (s : State) → texts_in s ≡ texts_in s ++ []
same s = sym (append-nil (texts_in s))

fresh_grows : (s : State) (b : BatchValue) → IsState s → get s.keys b.key ≡ None →
    (r : Result State (ℕ × Refusal)) → IfOk r (λ t. t.keys ≡ s.keys) →
    Grows s b (fresh s b (len s.keys + 1) r)
fresh_grows s b sound new (Err e) keys = same s
fresh_grows s b sound new (Ok t) keys =
    ap (λ (m : Kept). texts_to (insert m b.key (kept_for b (len s.keys + 1)))
    (len (insert m b.key (kept_for b (len s.keys + 1))))) keys
    ∙ one_more s.keys b.key (kept_for b (len s.keys + 1)) new sound.to_count refl

by_key_grows : (s : State) (b : BatchValue) → IsState s → (o : Option AcceptedBatch) →
    get s.keys b.key ≡ o → Grows s b (by_key s b o)
by_key_grows s b sound (Some kept) e =
    either (Grows s b) (pointwise nat_eq kept.text (batch_text b)) _ _ (same s) (same s)
by_key_grows s b sound None e =
    either (Grows s b) (nat_lt (len s.keys) most_batches) _ _
    (fresh_grows s b sound e (edited 1 s b.edits) (edited_keys 1 s b.edits)) (same s)

pub act_grows : (s : State) (b : BatchValue) → IsState s →
    journal (act s b).state ≡ journal s ++ text_if (is_accepted (act s b).reply) b
act_grows s b sound =
    journal_is (act s b).state
    ∙ (by_key_grows s b sound (get s.keys b.key) refl
    ∙ ap (λ (ts : List Text). ts ++ text_if (is_accepted (act s b).reply) b) (sym (journal_is s)))

-- a line, and those after it
then_lines : (before : List Text) (b : BatchValue) (rest : List BatchValue) (t : Bool) →
    before ++ text_if t b ++ map batch_text rest ≡ before ++ map batch_text (cond t (b ∷ rest) rest)
then_lines before b rest true = append_assoc before (batch_text b ∷ []) (map batch_text rest)
then_lines before b rest false =
    ap (λ (ts : List Text). ts ++ map batch_text rest) (append-nil before)

pub all_grow : (s : State) (bs : List BatchValue) → IsState s → All IsSoundBatch bs →
    journal (after_all s bs) ≡ journal s ++ map batch_text (accepted_of s bs)
all_grow s [] sound all = sym (append-nil (journal s))
all_grow s (b ∷ bs) sound all =
    let head = All-head IsSoundBatch b bs all in
    all_grow (act s b).state bs (act_sound s b sound head) (All-tail IsSoundBatch b bs all)
    ∙ ap (λ (ts : List Text). ts ++ map batch_text (accepted_of (act s b).state bs))
    (act_grows s b sound)
    ∙ then_lines (journal s) b (accepted_of (act s b).state bs) (is_accepted (act s b).reply)

pub opening_empty : journal opening_state ≡ []
opening_empty =
    journal_is opening_state
    ∙ ap (λ (n : ℕ). texts_to opening_state.keys n) (len-empty text_cmp AcceptedBatch)

pub from_opening : (bs : List BatchValue) → All IsSoundBatch bs →
    journal (after_all opening_state bs) ≡ map batch_text (accepted_of opening_state bs)
from_opening bs all = all_grow opening_state bs opening_sound all
    ∙ ap (λ (ts : List Text). ts ++ map batch_text (accepted_of opening_state bs)) opening_empty

pub journal_grows : JournalGrows
journal_grows = (act_grows, all_grow, from_opening)
