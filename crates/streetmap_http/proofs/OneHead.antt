-- Where a head ends; and a stream begins with at most one head.
use Rattle.std.proofs.Common.{◌≡◌, ◌≢◌, ◌<◌, ◌+◌, ◌-◌, ◌∙◌, ◌++◌, ◌∷◌, [], ℕ, List, length, take, set, sym, ap, subst, arith, append_assoc, length-take, take-append-drop, drop, inl, inr, get_or}
use Rattle.std.proofs.lemmas.Bool.{cases_order}
use Rattle.std.proofs.lemmas.List.{take_more, take_more_set, length_push, take-take, take-append-le}
use Rattle.std.proofs.Math.Seq.{take-append_seam}
use Rattle.streetmap_http.specs.declared.limits.TheConstants.{HEAD_LIMIT}
use Rattle.streetmap_http.specs.declared.head.HeadProgress.{HeadProgress}
use Rattle.streetmap_http.specs.declared.head.HeadProgress.TheVariants.{Blank, BlankCr, Text, Start, StartCr, Done}
use Rattle.streetmap_http.specs.Head.{IsEmptyText, nothing, carriage_return, lines_of, IsLinesOfHead, IsHead, HasNoHead, IsBlank}
use Rattle.streetmap_http.specs.Progress.{HasReached, step}
use Rattle.streetmap_http.proofs.Heads.{progress_after, front_of_more, done_stays, progress_append}
use Rattle.streetmap_http.proofs.ByLines.{AtLast, past_blank, past_all, head_is, reached_is, lines_end, step_reached, EndsThere, ends_there}

-- ---- one more byte

-- the next byte ends a head
head_more : (xs : List ℕ) (b : ℕ) (p : HeadProgress) → length xs < HEAD_LIMIT → HasReached p xs → p ≢ Done → step p b ≡ Done → IsHead (xs ++ b ∷ [])
head_more xs b p room here not_yet ends =
    let there : EndsThere p b = ends_there p b not_yet ends in
    let found = lines_end p xs there.0 here in
    record { short = omega (arith, length_push xs b); lines = found.0; are = subst (λ c. IsLinesOfHead (xs ++ c ∷ []) found.0) (sym there.1) found.1 }

-- the same for bytes that are read into a buffer
pub head_set : (buf : List ℕ) (i b : ℕ) (p : HeadProgress) → i < HEAD_LIMIT → length buf ≡ HEAD_LIMIT → HasReached p (take i buf) → p ≢ Done → step p b ≡ Done → IsHead (take (i + 1) (set buf i b))
head_set buf i b p small room here not_yet ends =
    let fits : i < length buf = omega arith in
    let front : length (take i buf) < HEAD_LIMIT = simp length-take (omega arith) in
    subst IsHead (sym (take_more_set buf i b fits)) (head_more (take i buf) b p front here not_yet ends)

pub reached_set : (buf : List ℕ) (i b : ℕ) (p : HeadProgress) → i < HEAD_LIMIT → length buf ≡ HEAD_LIMIT → HasReached p (take i buf) → HasReached (step p b) (take (i + 1) (set buf i b))
reached_set buf i b p small room here =
    let fits : i < length buf = omega arith in
    subst (HasReached (step p b)) (sym (take_more_set buf i b fits)) (step_reached p (take i buf) b here)

-- the same for bytes that were received
pub head_take : (bytes : List ℕ) (i : ℕ) (p : HeadProgress) → i < length bytes → i < HEAD_LIMIT → HasReached p (take i bytes) → p ≢ Done → step p (get_or bytes i 0) ≡ Done → IsHead (take (i + 1) bytes)
head_take bytes i p more small here not_yet ends =
    let front : length (take i bytes) < HEAD_LIMIT = simp length-take (omega arith) in
    subst IsHead (sym (take_more bytes i 0 more)) (head_more (take i bytes) (get_or bytes i 0) p front here not_yet ends)

pub reached_take : (bytes : List ℕ) (i : ℕ) (p : HeadProgress) → i < length bytes → HasReached p (take i bytes) → HasReached (step p (get_or bytes i 0)) (take (i + 1) bytes)
reached_take bytes i p more here = subst (HasReached (step p (get_or bytes i 0))) (sym (take_more bytes i 0 more)) (step_reached p (take i bytes) (get_or bytes i 0) here)

-- ---- bytes without a head

head_done : (head : List ℕ) → IsHead head → progress_after Blank head ≡ Done
head_done head h = head_is head h.lines h.are

-- bytes of a head that has not ended begin with no head
pub not_ended : (p : HeadProgress) (xs : List ℕ) → HasReached p xs → p ≢ Done → HasNoHead xs
not_ended p xs here not_yet = λ head rest e h.
    not_yet (sym (reached_is p xs here) ∙ ap (progress_after Blank) e ∙ progress_append Blank head rest ∙ ap (λ q. progress_after q rest) (head_done head h) ∙ done_stays rest)

-- and they are blank only if the head has come no further than empty lines
pub not_blank : (p : HeadProgress) (xs : List ℕ) → HasReached p xs → p ≢ Blank → IsBlank xs → ⊥
not_blank p xs here other blank = other (sym (reached_is p xs here) ∙ reached_is Blank xs blank.blank)

-- ---- a stream begins with at most one head

last_leads : (text : List ℕ) → IsEmptyText text → AtLast (progress_after Start text)
last_leads text (nothing e) = subst (λ t. AtLast (progress_after Start t)) (sym e) tt
last_leads text (carriage_return e) = subst (λ t. AtLast (progress_after Start t)) (sym e) tt

at_last_not_done : (p : HeadProgress) → AtLast p → p ≢ Done
at_last_not_done Blank at = absurd at
at_last_not_done BlankCr at = absurd at
at_last_not_done Text at = absurd at
at_last_not_done Start at = λ e. cc
at_last_not_done StartCr at = λ e. cc
at_last_not_done Done at = absurd at

-- a head without its last byte has not ended
front_not_done : (bytes : List ℕ) (lines : List (List ℕ)) → IsLinesOfHead bytes lines → progress_after Blank (take (length bytes - 1) bytes) ≢ Done
front_not_done bytes lines h =
    let front : List ℕ = lines_of h.blank ++ (lines_of lines ++ h.last) in
    let joined : bytes ≡ front ++ 10 ∷ [] =
    h.joined ∙ ap (λ l. lines_of h.blank ++ l) (sym (append_assoc (lines_of lines) h.last (10 ∷ []))) ∙ sym (append_assoc (lines_of h.blank) (lines_of lines ++ h.last) (10 ∷ [])) in
    let leads : progress_after Blank front ≡ progress_after Start h.last =
    past_blank h.blank (lines_of lines ++ h.last) h.skipped ∙ past_all lines h.last h.some h.full in
    let at : AtLast (progress_after Blank front) = subst AtLast (sym leads) (last_leads h.last h.ends) in
    λ done. at_last_not_done (progress_after Blank front) at (ap (progress_after Blank) (sym (front_of_more front 10)) ∙ ap (λ l. progress_after Blank (take (length l - 1) l)) (sym joined) ∙ done)

-- a head does not begin another
not_longer : (a b : List ℕ) → IsHead a → IsHead b → length a < length b → take (length a) b ≡ a → ⊥
not_longer a b ha hb short front =
    let n = length b - 1 in
    let split : take n b ≡ a ++ drop (length a) (take n b) =
    sym (take-append-drop (length a) (take n b)) ∙ ap (λ l. l ++ drop (length a) (take n b)) (take-take (length a) n b (omega arith) ∙ front) in
    front_not_done b hb.lines hb.are
    (ap (progress_after Blank) split ∙ progress_append Blank a _ ∙ ap (λ p. progress_after p (drop (length a) (take n b))) (head_done a ha) ∙ done_stays (drop (length a) (take n b)))

pub head_unique : (a b x y : List ℕ) → IsHead a → IsHead b → a ++ x ≡ b ++ y → a ≡ b
head_unique a b x y ha hb e = elim (cases_order (length a) (length b)) [
  | inl same ↦ sym (take-append_seam a x) ∙ ap (λ n. take n (a ++ x)) same ∙ ap (take (length b)) e ∙ take-append_seam b y
  | inr (inl less) ↦ absurd (not_longer a b ha hb less (sym (take-append-le (length a) b y (omega arith)) ∙ sym (ap (take (length a)) e) ∙ take-append_seam a x))
  | inr (inr more) ↦ absurd (not_longer b a hb ha more (sym (take-append-le (length b) a x (omega arith)) ∙ ap (take (length b)) e ∙ take-append_seam b y))
]
