-- Items of lists by their places, and texts with serials.
use Rattle.std.proofs.Common.{◌≡◌, ℕ, zero, suc, ◌+◌, ◌<◌, List, [], ◌∷◌, ◌++◌, length}
use Rattle.std.proofs.Common.{take, drop, map, All, Some, refl, sym, ap, subst, ◌∙◌, arith}
use Rattle.std.specs.Prelude.{slice_get}
use Rattle.std.proofs.lemmas.List.Elements.{All-head, All-tail}
use Rattle.streetmap_batch.specs.Text.{Text}
use Rattle.streetmap_replay.specs.Lines.{Line, numbered}
use Rattle.streetmap_replay.specs.JournalText.{numbered_after}

pub get_map : {A B : Type 0} (f : A → B) (xs : List A) (n : ℕ) (y : B) →
    slice_get (map f xs) n ≡ Some y → (x : A) × (slice_get xs n ≡ Some x) × (y ≡ f x)
get_map f [] n y h = absurd cc
get_map f (x ∷ xs) zero y h = let same : f x ≡ y = cc in (x, refl, sym same)
get_map f (x ∷ xs) (suc n) y h = get_map f xs n y h

pub All-at : {A : Type 0} (P : A → Type 0) (xs : List A) (n : ℕ) (x : A) → All P xs →
    slice_get xs n ≡ Some x → P x
All-at P [] n x all h = absurd cc
All-at P (y ∷ xs) zero x all h =
    let same : y ≡ x = cc in subst P same (All-head P y xs all)
All-at P (y ∷ xs) (suc n) x all h = All-at P xs n x (All-tail P y xs all) h

pub get_low : {A : Type 0} (xs : List A) (n : ℕ) (x : A) → slice_get xs n ≡ Some x → n < length xs
get_low [] n x h = absurd cc
get_low (y ∷ xs) zero x h = omega arith
get_low (y ∷ xs) (suc n) x h = let low = get_low xs n x h in omega (arith, low)

pub get_drop : {A : Type 0} (j : ℕ) (xs : List A) (i : ℕ) →
    slice_get (drop j xs) i ≡ slice_get xs (j + i)
get_drop zero xs i = let same : i ≡ 0 + i = omega arith in ap (slice_get xs) same
get_drop (suc j) [] i = refl
get_drop (suc j) (x ∷ xs) i =
    let same : suc j + i ≡ suc (j + i) = omega arith in
    get_drop j xs i ∙ sym (ap (slice_get (x ∷ xs)) same)

pub get_taken : {A : Type 0} (m : ℕ) (xs : List A) (i : ℕ) (x : A) →
    slice_get (take m xs) i ≡ Some x → slice_get xs i ≡ Some x
get_taken zero xs i x h = absurd cc
get_taken (suc m) [] i x h = absurd cc
get_taken (suc m) (y ∷ xs) zero x h = h
get_taken (suc m) (y ∷ xs) (suc i) x h = get_taken m xs i x h

-- ---- texts with serials

pub numbered_at : (m : ℕ) (ts : List Text) (n : ℕ) (line : Line) →
    slice_get (numbered_after m ts) n ≡ Some line →
    (t : Text) × (slice_get ts n ≡ Some t) × (line ≡ numbered (m + n + 1) t)
numbered_at m [] n line h = absurd cc
numbered_at m (t ∷ ts) zero line h =
    let same : numbered (m + 1) t ≡ line = cc in
    let serial : m + 1 ≡ m + 0 + 1 = omega arith in
    (t, refl, sym same ∙ ap (λ (k : ℕ). numbered k t) serial)
numbered_at m (t ∷ ts) (suc n) line h =
    let rest = numbered_at (m + 1) ts n line h in
    let serial : m + 1 + n + 1 ≡ m + suc n + 1 = omega arith in
    (rest.0, rest.1, rest.2 ∙ ap (λ (k : ℕ). numbered k rest.0) serial)

pub take-numbered : (k m : ℕ) (ts : List Text) →
    take k (numbered_after m ts) ≡ numbered_after m (take k ts)
take-numbered zero m ts = refl
take-numbered (suc k) m [] = refl
take-numbered (suc k) m (t ∷ ts) =
    ap (λ (ls : List Line). numbered (m + 1) t ∷ ls) (take-numbered k (m + 1) ts)

pub drop-numbered : (k m : ℕ) (ts : List Text) →
    drop k (numbered_after m ts) ≡ numbered_after (m + k) (drop k ts)
drop-numbered zero m ts =
    let same : m ≡ m + 0 = omega arith in ap (λ (n : ℕ). numbered_after n ts) same
drop-numbered (suc k) m [] = refl
drop-numbered (suc k) m (t ∷ ts) =
    let same : m + 1 + k ≡ m + suc k = omega arith in
    drop-numbered k (m + 1) ts ∙ ap (λ (n : ℕ). numbered_after n (drop k ts)) same

pub length-numbered : (m : ℕ) (ts : List Text) → length (numbered_after m ts) ≡ length ts
length-numbered m [] = refl
length-numbered m (t ∷ ts) = ap suc (length-numbered (m + 1) ts)

pub numbered-append : (m : ℕ) (ts us : List Text) →
    numbered_after m (ts ++ us) ≡ numbered_after m ts ++ numbered_after (m + length ts) us
numbered-append m [] us =
    let same : m ≡ m + 0 = omega arith in ap (λ (n : ℕ). numbered_after n us) same
numbered-append m (t ∷ ts) us =
    let same : m + 1 + length ts ≡ m + suc (length ts) = omega arith in
    ap (λ (ls : List Line). numbered (m + 1) t ∷ ls)
    (numbered-append (m + 1) ts us
    ∙ ap (λ (n : ℕ). numbered_after (m + 1) ts ++ numbered_after n us) same)
