-- A batch does not state the times of its features.
use Rattle.std.proofs.Common.{◌≡◌, ℕ, ◌+◌, List, [], ◌∷◌, map, cond, Option, None, Some, Result, Ok}
use Rattle.std.proofs.Common.{Err, codes, refl, sym, ap, ap₂, ◌∙◌, nat_eq, nat_lt}
use Rattle.std.specs.Cmp.Lexicographic.{pointwise}
use Rattle.std.specs.FinMap.{get, insert, len}
use Rattle.serde_json.specs.Data.{Data, string, array, object, no_members, member}
use Rattle.serde_json.specs.View.{items_of}
use Rattle.serde_json.specs.Written.{compact_text}
use Rattle.streetmap_batch.specs.Text.{Text}
use Rattle.streetmap_batch.specs.BatchValue as edit
use Rattle.streetmap_batch.specs.BatchValue.{EditValue, BatchValue}
use Rattle.streetmap_batch.specs.BatchMeaning.{IsEdit, AreEdits}
use Rattle.streetmap_batch.specs.BatchText.{edit_data, batch_data, batch_text}
use Rattle.streetmap_ledger.specs.State.{State, AcceptedBatch, step, ◌>>=◌}
use Rattle.streetmap_ledger.specs.Batches.{Outcome, placed, edited, counted, counted_all, counts_of}
use Rattle.streetmap_ledger.specs.Batches.{fresh, by_key, act, most_batches}
use Rattle.streetmap_ledger.specs.declared.reply.Counts.{Counts}
use Rattle.streetmap_ledger.specs.declared.reply.Refusal.{Refusal}
use Rattle.streetmap_ledger.specs.declared.reply.Refusal.TheVariants.{KeyUsed, Full}
use Rattle.streetmap_ledger.specs.declared.reply.Reply.TheVariants.{Accepted, Repeated, Refused}
use Rattle.streetmap_replay.specs.Again.{untimed_edit, untimed_batch, ReadBatchIsUntimed}
use Rattle.streetmap_replay.specs.Again.{TimesDoNotMatter}

-- ---- a batch that was read has no times

edit_untimed : (d : Data) (e : EditValue) → IsEdit d e → untimed_edit e ≡ e
edit_untimed d (edit.«open» name title time) h = refl
edit_untimed d (edit.insert name f) h =
    ap (λ time. edit.insert name (record {
      id = f.id;
      geometry = f.geometry;
      properties =
          f.properties;
      time = time;
    })) (sym h.1.2.timed)
edit_untimed d (edit.replace name f) h =
    ap (λ time. edit.replace name (record {
      id = f.id;
      geometry = f.geometry;
      properties =
          f.properties;
      time = time;
    })) (sym h.1.2.timed)
edit_untimed d (edit.delete name id) h = refl

edits_untimed : (ds : List Data) (es : List EditValue) → AreEdits ds es → map untimed_edit es ≡ es
edits_untimed ds [] h = refl
edits_untimed [] (e ∷ es) h = absurd h
edits_untimed (d ∷ ds) (e ∷ es) h =
    ap₂ (λ x xs. x ∷ xs) (edit_untimed d e h.0) (edits_untimed ds es h.1)

pub read_untimed : ReadBatchIsUntimed
read_untimed bytes b h = ap (λ es. record { key = b.key; edits = es })
    (edits_untimed h.2.edits_are.0 b.edits h.2.edits_are.2)

-- ---- and times change nothing

data_untimed : (e : EditValue) → edit_data (untimed_edit e) ≡ edit_data e
unfolding edit_data
data_untimed (edit.«open» name title time) = refl
data_untimed (edit.insert name f) = refl
data_untimed (edit.replace name f) = refl
data_untimed (edit.delete name id) = refl

datas_untimed : (es : List EditValue) → map edit_data (map untimed_edit es) ≡ map edit_data es
datas_untimed [] = refl
datas_untimed (e ∷ es) = ap₂ (λ x xs. x ∷ xs) (data_untimed e) (datas_untimed es)

pub text_untimed : (b : BatchValue) → batch_text (untimed_batch b) ≡ batch_text b
unfolding batch_text batch_data
text_untimed b = ap (λ (ds : List Data).
    compact_text (object (member (codes "edits") (array (items_of ds))
    (member (codes "key") (string b.key) no_members)))) (datas_untimed b.edits)

step_untimed : (s : State) (e : EditValue) → step s (untimed_edit e) ≡ step s e
step_untimed s (edit.«open» name title time) = refl
step_untimed s (edit.insert name f) = refl
step_untimed s (edit.replace name f) = refl
step_untimed s (edit.delete name id) = refl

then_same : {A B : Type 0} (r : Result A (ℕ × Refusal)) (next other : A → Result B (ℕ × Refusal)) →
    ((x : A) → next x ≡ other x) → (r >>= next) ≡ (r >>= other)
then_same (Ok x) next other same = same x
then_same (Err why) next other same = refl

edited_untimed : (place : ℕ) (s : State) (es : List EditValue) →
    edited place s (map untimed_edit es) ≡ edited place s es
edited_untimed place s [] = refl
edited_untimed place s (e ∷ es) =
    ap (λ r. placed place r >>= λ t. edited (place + 1) t (map untimed_edit es)) (step_untimed s e)
    ∙ then_same (placed place (step s e)) (λ t. edited (place + 1) t (map untimed_edit es))
    (λ t. edited (place + 1) t es) (λ t. edited_untimed (place + 1) t es)

counted_untimed : (n : Counts) (es : List EditValue) →
    counted_all n (map untimed_edit es) ≡ counted_all n es
counted_untimed n [] = refl
counted_untimed n (edit.«open» name title time ∷ es) =
    counted_untimed (counted n (edit.«open» name title time)) es
counted_untimed n (edit.insert name f ∷ es) = counted_untimed (counted n (edit.insert name f)) es
counted_untimed n (edit.replace name f ∷ es) = counted_untimed (counted n (edit.replace name f)) es
counted_untimed n (edit.delete name id ∷ es) = counted_untimed (counted n (edit.delete name id)) es

pub counts_untimed : (es : List EditValue) → counts_of (map untimed_edit es) ≡ counts_of es
counts_untimed es = counted_untimed (record { opened = 0; inserted = 0; replaced = 0; deleted = 0 })
    es

abbrev accepted : State → Text → ℕ → Text → Counts → Outcome
accepted t key serial text counts =
    record {
      reply = Accepted counts serial;
      state =
          record t {
            keys = insert t.keys key
                (record { text = text; counts = counts; serial = serial });
          };
    }

abbrev by_text : State → AcceptedBatch → Text → Outcome
by_text s kept text = cond (pointwise nat_eq kept.text text)
    (record { reply = Repeated kept.counts kept.serial; state = s })
    (record { reply = Refused KeyUsed None; state = s })

abbrev by_room : State → Outcome → Outcome
by_room s o = cond (nat_lt (len s.keys) most_batches) o
    (record { reply = Refused Full None; state = s })

fresh_untimed : (s : State) (b : BatchValue) (serial : ℕ) (r : Result State (ℕ × Refusal)) →
    fresh s (untimed_batch b) serial r ≡ fresh s b serial r
fresh_untimed s b serial (Ok t) =
    ap₂ (accepted t b.key serial) (text_untimed b) (counts_untimed b.edits)
fresh_untimed s b serial (Err e) = refl

by_key_untimed : (s : State) (b : BatchValue) (o : Option AcceptedBatch) →
    by_key s (untimed_batch b) o ≡ by_key s b o
by_key_untimed s b (Some kept) = ap (by_text s kept) (text_untimed b)
by_key_untimed s b None =
    ap (λ r. by_room s (fresh s (untimed_batch b) (len s.keys + 1) r)) (edited_untimed 1 s b.edits)
    ∙ ap (by_room s) (fresh_untimed s b (len s.keys + 1) (edited 1 s b.edits))

pub act_untimed : (s : State) (b : BatchValue) → act s (untimed_batch b) ≡ act s b
act_untimed s b = by_key_untimed s b (get s.keys b.key)

pub times_do_not_matter : TimesDoNotMatter
times_do_not_matter = (act_untimed, text_untimed)
