-- What comes next in an input if a line is due, or if none is.
use Rattle.std.proofs.Common.{◌≡◌, ◌≢◌, ◌≤◌, ◌<◌, ◌+◌, ◌-◌, ◌^◌, ℕ, zero, suc, List, [], ◌∷◌, ◌++◌}
use Rattle.std.proofs.Common.{length, take, drop, Option, None, Some, Bool, true, false, refl, sym, ap}
use Rattle.std.proofs.Common.{◌∙◌, arith, length-append, IfSome, cond, inl, inr, ◌&&◌}
use Rattle.std.proofs.Common.{IsTrue}
use Rattle.std.proofs.Math.Seq.{drop-append-add, drop-append_seam}
use Rattle.std.proofs.lemmas.Bool.{cases_lt}
use Rattle.std.proofs.lemmas.Bool.Decides.{nat_tests}
use Rattle.std.proofs.lemmas.List.{length-take-le}
use Rattle.std.specs.Io.{StartsWith}
use Rattle.std.specs.Prelude.{slice_get, decimal, nat_le, ◌==◌}
use Rattle.streetmap_replay.proofs.NoControls.{is_printed, decimal_printed}
use Rattle.streetmap_journal.specs.Front.{TakesFront, are_zeros, IsLeft}
use Rattle.streetmap_journal.specs.declared.front.Left.{Left}
use Rattle.streetmap_journal.specs.declared.front.Left.TheVariants.{Nothing, Zeros, Other}
use Rattle.streetmap_journal.specs.declared.comparison.MatchEnd.TheVariants as ends
use Rattle.streetmap_journal.specs.declared.comparison.MatchEnd.{MatchEnd}
use Rattle.streetmap_journal.specs.Comparison.{IsCutOf, EndsWithin, EndsAfterLast, ends_of, line_head}
use Rattle.streetmap_journal.specs.Comparison.{IsOwn, IsUnread}
use Rattle.streetmap_journal.proofs.FrontLemmas.{get_take}

-- ---- bytes

get_within : {A : Type 0} (xs ys : List A) (n : ℕ) → n < length xs →
    slice_get (xs ++ ys) n ≡ slice_get xs n
get_within [] ys n low = absurd (omega (arith, low))
get_within (x ∷ xs) ys zero low = refl
get_within (x ∷ xs) ys (suc n) low = get_within xs ys n (omega (arith, low))

zeros_later : (n : ℕ) (xs : List ℕ) → are_zeros xs ≡ true → are_zeros (drop n xs) ≡ true
zeros_later zero xs h = h
zeros_later (suc n) [] h = refl
zeros_later (suc n) (x ∷ xs) h = zeros_later n xs (rest (x == 0) h)
  where
    rest : (b : Bool) → (b && are_zeros xs) ≡ true → are_zeros xs ≡ true
    rest true k = k
    rest false k = absurd (let no : false ≡ true = k in cc)

no_bytes : (xs : List ℕ) → length xs ≡ 0 → xs ≡ []
no_bytes [] e = refl
no_bytes (x ∷ xs) e = absurd (omega (arith, e))

-- ---- a prefix of a line, and then zeros

module _ (line rest more : List ℕ) (n : ℕ) (low : n ≤ length line)
    (is : rest ≡ take n line ++ more) where
  size : length (take n line) ≡ n
  size = length-take-le n line low

  pub is_cut : are_zeros more ≡ true → 0 < length rest → IsCutOf line rest
  is_cut alone some = record {
    part = take n line;
    zeros = more;
    is = is;
    begins = ap (λ (m : ℕ). take m line) size;
    alone = alone;
    some = some;
  }

  is_more : drop n rest ≡ more
  is_more =
      ap (drop n) is
      ∙ (ap (λ (m : ℕ). drop m (take n line ++ more)) (sym size)
      ∙ drop-append_seam (take n line) more)

  pub is_not_cut : (slice_get rest n ≡ slice_get line n → ⊥) → are_zeros more ≡ false →
      IsCutOf line rest → ⊥
  is_not_cut other some h =
      elim (cases_lt n (length h.part)) [
        | inl low ↦
            other (ap (λ (l : List ℕ). slice_get l n) h.is
            ∙ (get_within h.part h.zeros n low
            ∙ (ap (λ (l : List ℕ). slice_get l n) (sym h.begins)
            ∙ get_take (length h.part) n line low)))
        | inr high ↦
            let up : n ≡ length h.part + (n - length h.part) = omega (arith, high) in
            let later : drop n rest ≡ drop (n - length h.part) h.zeros =
            ap (drop n) h.is
            ∙ (ap (λ (m : ℕ). drop m (h.part ++ h.zeros)) up
            ∙ drop-append-add h.part h.zeros (n - length h.part)) in
            let no : false ≡ true =
            sym some
            ∙ (ap are_zeros (sym is_more ∙ later)
            ∙ zeros_later (n - length h.part) h.zeros h.alone) in
            absurd cc
      ]

  pub is_some : are_zeros more ≡ false → rest ≡ [] → ⊥
  is_some some none =
      let count = length-append (take n line) more in
      let all = ap length (sym is ∙ none) in
      let nothing : more ≡ [] = no_bytes more (omega (arith, count, all)) in
      let no : false ≡ true = sym some ∙ ap are_zeros nothing in
      absurd cc

-- an input that begins with a line has its byte at each place
begins_same : (line rest : List ℕ) (n : ℕ) → n < length line → StartsWith rest line →
    slice_get rest n ≡ slice_get line n
begins_same line rest n low starts =
    sym (get_take (length line) n rest low) ∙ ap (λ (l : List ℕ). slice_get l n) starts

-- ---- a line is due

ended : (line rest : List ℕ) (n : ℕ) → n < length line → rest ≡ take n line ++ [] →
    (slice_get rest n ≡ slice_get line n → ⊥) → (b : Bool) →
    (n == 0) ≡ b → EndsWithin line rest (cond b ends.All ends.Cut)
ended line rest n few is other true e =
    let none : n ≡ 0 = grind (arith, nat_tests, e) in
    is ∙ ap (λ (m : ℕ). take m line ++ []) none
ended line rest n few is other false e =
    let low : n ≤ length line = omega (arith, few) in
    let some : 0 < n = grind (arith, nat_tests, e) in
    let size = length-take-le n line low in
    let all = ap length is in
    let count = length-append (take n line) [] in (
      is_cut line rest [] n low is refl (omega (arith, size, all, count, some)),
      λ starts. other (begins_same line rest n few starts),
    )

within : (line rest more : List ℕ) (n : ℕ) (left : Left) → n < length line →
    rest ≡ take n line ++ more → (slice_get rest n ≡ slice_get line n → ⊥) → IsLeft left more →
    EndsWithin line rest (ends_of left n)
within line rest more n Nothing few is other left =
    ended line rest n few
    (is ∙ ap (λ (l : List ℕ). take n line ++ l) left) other (n == 0) refl
within line rest more n Zeros few is other left =
    let all = ap length is in
    let count = length-append (take n line) more in (
      is_cut line rest more n (omega (arith, few)) is left.1 (omega (arith, left.0, all, count)),
      λ starts. other (begins_same line rest n few starts),
    )
within line rest more n Other few is other left =
    let low : n ≤ length line = omega (arith, few) in (
      is_some line rest more n low is left,
      is_not_cut line rest more n low is other left,
      λ starts. other (begins_same line rest n few starts),
    )

pub line_ends : (line : List ℕ) (old new : Option (List ℕ)) (n : ℕ) (left : Left) →
    TakesFront old new line n → n < length line → IfSome new (IsLeft left) →
    IfSome old (λ rest. EndsWithin line rest (ends_of left n))
line_ends line None new n left took few is = tt
line_ends line (Some rest) None n left took few is = absurd took.1
line_ends line (Some rest) (Some more) n left took few is =
    within line rest more n left few took.1 (took.2 few) is

-- ---- after the last line

no_part : (part : List ℕ) → StartsWith [] part → part ≡ []
no_part [] h = refl
no_part (x ∷ xs) h = absurd (let no : [] ≡ x ∷ xs = h in cc)

-- what is cut of no line is zeros
zeros_alone : (rest : List ℕ) → IsCutOf [] rest → are_zeros rest ≡ true
zeros_alone rest h =
    let none = no_part h.part h.begins in
    let all : rest ≡ h.zeros = h.is ∙ ap (λ (l : List ℕ). l ++ h.zeros) none in
    ap are_zeros all ∙ h.alone

after : (serial : ℕ) (rest more : List ℕ) (left : Left) → 0 < length (line_head serial) →
    rest ≡ more → (slice_get rest 0 ≡ slice_get (line_head serial) 0 → ⊥) → IsLeft left more →
    EndsAfterLast serial rest (ends_of left 0)
after serial rest more Nothing some is other left = is ∙ left
after serial rest more Zeros some is other left =
    let all = ap length is in
    record {
      part = [];
      zeros = more;
      is = is;
      begins = refl;
      alone = left.1;
      some = omega (arith, left.0, all);
    }
after serial rest more Other some is other left = (
  λ none. (let no : false ≡ true = sym left ∙ ap are_zeros (sym is ∙ none) in absurd cc),
  λ cut.
      let no : false ≡ true = sym left ∙ (ap are_zeros (sym is) ∙ zeros_alone rest cut) in
      absurd cc,
  λ starts. other (begins_same (line_head serial) rest 0 some starts),
)

-- a digit or the tab is no zero
first_printed : (xs : List ℕ) → IsTrue (is_printed xs) → (n : ℕ) → 0 < n → (more : List ℕ) →
    are_zeros (take n (xs ++ 9 ∷ []) ++ more) ≡ false
first_printed xs h zero some more = absurd (omega (arith, some))
first_printed [] h (suc n) some more = refl
first_printed (x ∷ xs) h (suc n) some more =
    by_test (nat_le 32 x) refl h where
      by_test : (b : Bool) → nat_le 32 x ≡ b → IsTrue (b && is_printed xs) →
          are_zeros (take (suc n) (x ∷ xs ++ 9 ∷ []) ++ more) ≡ false
      by_test true e k =
          let no : (x == 0) ≡ false = grind (arith, nat_tests, e) in
          ap (λ (b : Bool). b && are_zeros (take n (xs ++ 9 ∷ []) ++ more)) no
      by_test false e k = absurd (let no : false ≡ true = k in cc)

pub last_other : (serial n : ℕ) (old new : Option (List ℕ)) → serial < 2 ^ 64 →
    TakesFront old new (line_head serial) n → 0 < n → n < length (line_head serial) →
    IfSome old (λ rest. EndsAfterLast serial rest ends.Other)
last_other serial n None new small took some few = tt
last_other serial n (Some rest) None small took some few = absurd took.1
last_other serial n (Some rest) (Some more) small took some few =
    let other : are_zeros rest ≡ false =
    ap are_zeros took.1
    ∙ first_printed (decimal serial) (decimal_printed serial small) n some more in (
      λ none. (let no : false ≡ true = sym other ∙ ap are_zeros none in absurd cc),
      λ cut. (let no : false ≡ true = sym other ∙ zeros_alone rest cut in absurd cc),
      λ starts. took.2 few (begins_same (line_head serial) rest n few starts),
    )

-- ---- a reader that fails

pub unread_within : (line : List ℕ) (input : Option (List ℕ)) (end : MatchEnd) → IsUnread end →
    IfSome input (λ rest. EndsWithin line rest end)
unread_within line None end h = tt
unread_within line (Some rest) ends.NotRead h = tt
unread_within line (Some rest) (ends.Stopped fault) h = tt
unread_within line (Some rest) ends.All h = absurd h
unread_within line (Some rest) ends.Cut h = absurd h
unread_within line (Some rest) ends.Other h = absurd h
unread_within line (Some rest) ends.Ahead h = absurd h

pub unread_last : (serial : ℕ) (input : Option (List ℕ)) (end : MatchEnd) → IsUnread end →
    IfSome input (λ rest. EndsAfterLast serial rest end)
unread_last serial None end h = tt
unread_last serial (Some rest) ends.NotRead h = tt
unread_last serial (Some rest) (ends.Stopped fault) h = tt
unread_last serial (Some rest) ends.All h = absurd h
unread_last serial (Some rest) ends.Cut h = absurd h
unread_last serial (Some rest) ends.Other h = absurd h
unread_last serial (Some rest) ends.Ahead h = absurd h

pub unread_own : (end : MatchEnd) → IsUnread end → IsOwn end
unread_own ends.NotRead h = tt
unread_own (ends.Stopped fault) h = h
unread_own ends.All h = absurd h
unread_own ends.Cut h = absurd h
unread_own ends.Other h = absurd h
unread_own ends.Ahead h = absurd h

pub left_own : (left : Left) (n : ℕ) → IsOwn (ends_of left n)
left_own Nothing n = nothing_own (n == 0)
  where
    nothing_own : (b : Bool) → IsOwn (cond b ends.All ends.Cut)
    nothing_own true = tt
    nothing_own false = tt
left_own Zeros n = tt
left_own Other n = tt
