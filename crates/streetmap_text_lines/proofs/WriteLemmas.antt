-- What is written of bytes, whole or in part.
use Rattle.std.proofs.Common.{◌≡◌, ℕ, ◌-◌, ◌≤◌, ◌<◌, List, [], ◌++◌, length, take, drop, refl, sym}
use Rattle.std.proofs.Common.{ap, subst, ◌∙◌, arith, append_assoc, length-append, length-drop}
use Rattle.std.proofs.Common.{length-take-le, take_all, take-append-drop, Option, Result, Ok, Err}
use Rattle.std.proofs.Common.{OnErr, OnOk}
use Rattle.std.proofs.Math.Seq.{take-append-add, take-append_seam, take-length}
use Rattle.std.proofs.lemmas.List.{take-append-le}
use Rattle.std.proofs.KnownBytes.{Appends-nil, Appends-trans, Appends-kept}
use Rattle.std.proofs.Transfers.{starts_with_length}
use Rattle.std.specs.Io.{StartsWith}
use Rattle.std.specs.Io.KnownBytes.{Appends, Keeps}
use Rattle.streetmap_text_lines.specs.Written.{AppendsFirst, AppendsBeginning, AppendsLess}

pub on_ok : {T E : Type 0} (r : Result T E) (P : Type 0) → P → OnOk r P
on_ok (Ok x) P h = h
on_ok (Err e) P h = tt

pub on_err : {T E : Type 0} (r : Result T E) (P : Type 0) → P → OnErr r P
on_err (Ok x) P h = tt
on_err (Err e) P h = h

-- ---- prefixes

pub starts-longer : (xs ys first : List ℕ) → StartsWith xs first → StartsWith (xs ++ ys) first
starts-longer xs ys first h =
    let within : length first ≤ length xs = starts_with_length xs first h in
    take-append-le (length first) xs ys within ∙ h

pub starts-after : (xs ys first : List ℕ) → StartsWith ys first →
    StartsWith (xs ++ ys) (xs ++ first)
starts-after xs ys first h =
    ap (λ n. take n (xs ++ ys)) (length-append xs first)
    ∙ take-append-add xs ys (length first)
    ∙ ap (λ l. xs ++ l) h

pub beginning_longer : (a b : Option (List ℕ)) (xs ys : List ℕ) → AppendsBeginning a b xs →
    AppendsBeginning a b (xs ++ ys)
beginning_longer a b xs ys h = (h.0, starts-longer xs ys h.0 h.1, h.2)

pub beginning_after : (a b c : Option (List ℕ)) (xs ys : List ℕ) → Appends a b xs →
    AppendsBeginning b c ys → AppendsBeginning a c (xs ++ ys)
beginning_after a b c xs ys p h =
    (xs ++ h.0, starts-after xs ys h.0 h.1, Appends-trans a b c xs h.0 p h.2)

pub beginning_all : (a b : Option (List ℕ)) (xs : List ℕ) → Appends a b xs →
    AppendsBeginning a b xs
beginning_all a b xs h = (xs, take-length xs, h)

-- ---- prefixes that are not all

pub less_longer : (a b : Option (List ℕ)) (xs ys : List ℕ) → AppendsLess a b xs →
    AppendsLess a b (xs ++ ys)
less_longer a b xs ys h =
    (h.0, starts-longer xs ys h.0 h.1, omega (arith, h.2, length-append xs ys), h.3)

pub less_after : (a b c : Option (List ℕ)) (xs ys : List ℕ) → Appends a b xs →
    AppendsLess b c ys → AppendsLess a c (xs ++ ys)
less_after a b c xs ys p h = (
  xs ++ h.0,
  starts-after xs ys h.0 h.1,
  omega (arith, h.2, length-append xs ys, length-append xs h.0),
  Appends-trans a b c xs h.0 p h.3,
)

-- the empty prefix of some bytes is not all of them
pub less_none : (a : Option (List ℕ)) (xs : List ℕ) → 0 < length xs → AppendsLess a a xs
less_none a xs some = ([], refl, some, Appends-nil a)

-- ---- prefixes of a given length

pub first_is_beginning : (n : ℕ) (a b : Option (List ℕ)) (bytes : List ℕ) →
    AppendsFirst n a b bytes → AppendsBeginning a b bytes
first_is_beginning n a b bytes h =
    (take n bytes, ap (λ m. take m bytes) (length-take-le n bytes h.0), h.1)

pub first_is_less : (n : ℕ) (a b : Option (List ℕ)) (bytes : List ℕ) →
    AppendsFirst n a b bytes → n < length bytes → AppendsLess a b bytes
first_is_less n a b bytes h few =
    let long = length-take-le n bytes h.0 in
    (take n bytes, ap (λ m. take m bytes) long, omega (arith, long, few), h.1)

-- ---- bytes that are written in part

pub record IsPartWritten (a b : Option (List ℕ)) (bytes rest : List ℕ) : Type 0 where
  pub front : List ℕ
  pub whole : bytes ≡ front ++ rest
  pub written : Appends a b front

pub part_none : (a : Option (List ℕ)) (bytes : List ℕ) → IsPartWritten a a bytes bytes
part_none a bytes = record { front = []; whole = refl; written = Appends-nil a }

pub part_more : (a b c : Option (List ℕ)) (bytes rest : List ℕ) (n : ℕ) →
    IsPartWritten a b bytes rest → Appends b c (take n rest) → IsPartWritten a c bytes (drop n rest)
part_more a b c bytes rest n p h = record {
  front = p.front ++ take n rest;
  whole = p.whole ∙ ap (λ l. p.front ++ l) (sym (take-append-drop n rest))
      ∙ sym (append_assoc p.front (take n rest) (drop n rest));
  written = Appends-trans a b c p.front (take n rest) p.written h;
}

-- the rest as a slice: from n to the end
pub part_sliced : (a b c : Option (List ℕ)) (bytes rest : List ℕ) (n : ℕ) →
    IsPartWritten a b bytes rest → Appends b c (take n rest)
    → IsPartWritten a c bytes (take (length rest - n) (drop n rest))
part_sliced a b c bytes rest n p h =
    let whole : take (length rest - n) (drop n rest) ≡ drop n rest =
    take_all (length rest - n) (drop n rest) (omega (arith, length-drop n rest)) in
    subst (IsPartWritten a c bytes) (sym whole) (part_more a b c bytes rest n p h)

pub part_kept : (a b c : Option (List ℕ)) (bytes rest : List ℕ) → IsPartWritten a b bytes rest →
    Keeps b c → IsPartWritten a c bytes rest
part_kept a b c bytes rest p h =
    record { front = p.front; whole = p.whole; written = Appends-kept a b c p.front p.written h }

-- the front is as long as the rest is short
pub part_first : (a b : Option (List ℕ)) (bytes rest : List ℕ) (n : ℕ) →
    IsPartWritten a b bytes rest → n ≡ length bytes - length rest → AppendsFirst n a b bytes
part_first a b bytes rest n p is =
    let whole = ap length p.whole in
    let long = length-append p.front rest in
    let size : n ≡ length p.front = omega (arith, whole, long, is) in
    let front : take n bytes ≡ p.front =
    ap (λ (m : ℕ). take m bytes) size
    ∙ (ap (take (length p.front)) p.whole ∙ take-append_seam p.front rest) in
    (omega (arith, whole, long, size), subst (Appends a b) (sym front) p.written)
