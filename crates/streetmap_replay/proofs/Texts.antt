-- The kept texts by what is kept for each key.
use Rattle.std.proofs.Common.{◌≡◌, ℕ, zero, suc, List, [], ◌∷◌, ◌++◌, Bool, true, false, cond, map}
use Rattle.std.proofs.Common.{◌+◌}
use Rattle.std.proofs.Common.{◌-◌, arith, find, nat_eq, Option, None, Some, option_map, refl, ap}
use Rattle.std.proofs.Common.{◌∙◌}
use Rattle.std.specs.Option.{option_to_list}
use Rattle.std.specs.FinMap.{FinMap, entries, values, len}
use Rattle.std.proofs.lemmas.List.{map-append}
use Rattle.streetmap_batch.specs.Text.{Text, text_cmp}
use Rattle.streetmap_ledger.specs.State.{State, AcceptedBatch}
use Rattle.streetmap_ledger.specs.Kept.{KeyedBatch, has_serial, batch_in, batches_next}
use Rattle.streetmap_replay.specs.Journal.{kept_text, journal}

-- what is kept for each accepted key
abbrev pub Kept : Type 0
Kept = FinMap text_cmp AcceptedBatch

-- what is kept with this serial
abbrev pub kept_with : Kept → ℕ → Option AcceptedBatch
kept_with keys n = find (λ (k : AcceptedBatch). nat_eq k.serial n) (values keys)

-- the text that is kept with this serial
abbrev pub text_with : Kept → ℕ → Option Text
text_with keys n = option_map (λ (k : AcceptedBatch). k.text) (kept_with keys n)

-- the texts with the serials 1 to n
abbrev pub texts_to : Kept → ℕ → List Text
texts_to keys zero = []
texts_to keys (suc n) = texts_to keys n ++ option_to_list (text_with keys (suc n))

-- all of them
abbrev pub texts_in : State → List Text
texts_in s = texts_to s.keys (len s.keys)

found_by : (b : Bool) (e : KeyedBatch) (o : Option KeyedBatch) (p : Option AcceptedBatch) →
    option_map (λ (x : KeyedBatch). x.1) o ≡ p →
    option_map (λ (x : KeyedBatch). x.1) (cond b (Some e) o) ≡ cond b (Some e.1) p
found_by true e o p h = refl
found_by false e o p h = h

found_value : (n : ℕ) (es : List KeyedBatch) →
    option_map (λ (x : KeyedBatch). x.1) (find (has_serial n) es)
    ≡ find (λ (k : AcceptedBatch). nat_eq k.serial n) (map (λ (x : KeyedBatch). x.1) es)
found_value n [] = refl
found_value n (e ∷ es) = found_by (nat_eq e.1.serial n) e _ _ (found_value n es)

twice : (o : Option KeyedBatch) →
    option_map kept_text o
    ≡ option_map (λ (k : AcceptedBatch). k.text) (option_map (λ (x : KeyedBatch). x.1) o)
twice None = refl
twice (Some b) = refl

-- the batch with a serial has the text with that serial
pub text_is : (s : State) (n : ℕ) → option_map kept_text (batch_in s n) ≡ text_with s.keys n
text_is s n =
    twice (batch_in s n)
    ∙ ap (option_map (λ (k : AcceptedBatch). k.text)) (found_value n (entries s.keys))

one_or_none : (o : Option KeyedBatch) →
    map kept_text (option_to_list o) ≡ option_to_list (option_map kept_text o)
one_or_none None = refl
one_or_none (Some b) = refl

pub texts_are : (s : State) (n : ℕ) → map kept_text (batches_next s 0 n) ≡ texts_to s.keys n
texts_are s zero = refl
texts_are s (suc n) =
    let next : 0 + suc n ≡ suc n = omega arith in
    let last = batch_in s (0 + suc n) in
    let is : option_map kept_text last ≡ text_with s.keys (suc n) =
    ap (λ (m : ℕ). option_map kept_text (batch_in s m)) next ∙ text_is s (suc n) in
    map-append kept_text (batches_next s 0 n) (option_to_list last)
    ∙ (ap (λ (ts : List Text). ts ++ map kept_text (option_to_list last)) (texts_are s n)
    ∙ ap (λ (ts : List Text). texts_to s.keys n ++ ts) (one_or_none last ∙ ap option_to_list is))

pub journal_is : (s : State) → journal s ≡ texts_in s
journal_is s =
    let all : len s.keys - 0 ≡ len s.keys = omega arith in
    ap (λ (n : ℕ). map kept_text (batches_next s 0 n)) all ∙ texts_are s (len s.keys)
