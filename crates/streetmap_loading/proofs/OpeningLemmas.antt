-- An opening is short.
use Rattle.std.proofs.Common.{ℕ, ◌*◌, ◌≤◌, Bool, true, false, cond, nat_lt}
use Rattle.std.proofs.Common.{List, [], ◌∷◌, Option, None, Some, length, IsTrue}
use Rattle.std.proofs.Common.{arith, length-append}
use Rattle.std.proofs.lemmas.Grind.{common_steps}
use Rattle.json.specs.Print.{escape, escape_byte, escape_letter}
use Rattle.serde_json.specs.Written.{compact_text}
use Rattle.streetmap_batch.specs.Text.{Text}
use Rattle.streetmap_batch.specs.BatchFacts.{IsSoundEdit, IsTimePropertyIf}
use Rattle.streetmap_batch.specs.BatchText.{edit_data}
use Rattle.streetmap_batch.specs.BatchValue as edit
use Rattle.streetmap_batch.specs.BatchValue.{EditValue}
use Rattle.streetmap_batch.specs.Names.{is_collection_id, is_title, is_time_property}
use Rattle.streetmap_loading.specs.Options.{IsOpening}

either : (b : Bool) (xs ys : List ℕ) → length xs ≤ 6 → length ys ≤ 6 → length (cond b xs ys) ≤ 6
either true xs ys h k = h
either false xs ys h k = k

byte_short : (b : ℕ) → length (escape_byte b) ≤ 6
unfolding escape_byte
byte_short b = either (nat_lt 0 (escape_letter b)) _ _ (omega arith)
    (either (nat_lt b 32) _ _ (omega arith) (omega arith))

escape_short : (s : Text) → length (escape s) ≤ 6 * length s
escape_short [] = omega arith
escape_short (b ∷ s) =
    let one = byte_short b in
    let more = escape_short s in
    let long = length-append (escape_byte b) (escape s) in
    omega (arith, one, more, long)

within : (s : Text) (n : ℕ) → length s ≤ n → length (escape s) ≤ 6 * n
within s n h = let short = escape_short s in omega (arith, h, short)

id_short : (s : Text) → IsTrue (is_collection_id s) → length s ≤ 64
unfolding is_collection_id
id_short s h = grind (arith, common_steps)

title_short : (s : Text) → IsTrue (is_title s) → length s ≤ 256
unfolding is_title
title_short s h = grind (arith, common_steps)

time_short : (s : Text) → IsTrue (is_time_property s) → length s ≤ 128
unfolding is_time_property
time_short s h = grind (arith, common_steps)

open_short : (collection title : Text) (time : Option Text) → length (escape collection) ≤ 384 →
    length (escape title) ≤ 1536 → IsTimePropertyIf time →
    length (compact_text (edit_data (edit.«open» collection title time))) ≤ 8388480
unfolding edit_data escape_byte
open_short collection title None c t time = simp length-append (omega (arith, c, t))
open_short collection title (Some name) c t time =
    let short : length (escape name) ≤ 768 = within name 128 (time_short name time.0) in
    simp length-append (omega (arith, c, t, short))

pub opening_short : (e : EditValue) → IsSoundEdit e → IsOpening e →
    length (compact_text (edit_data e)) ≤ 8388480
opening_short (edit.«open» collection title time) sound opens =
    open_short collection title time (within collection 64 (id_short collection sound.0))
    (within title 256 (title_short title sound.1.0)) sound.2
opening_short (edit.insert collection f) sound opens = absurd opens
opening_short (edit.replace collection f) sound opens = absurd opens
opening_short (edit.delete collection id) sound opens = absurd opens
