-- Bytes, cut at their first tab.
use Rattle.std.proofs.Common.{◌≡◌, ℕ, suc, ◌+◌, ◌<◌, ◌≤◌, ◌^◌, Bool, true, false, ◌==◌, cond}
use Rattle.std.proofs.Common.{not}
use Rattle.std.proofs.Common.{All, List, [], ◌∷◌, ◌++◌, length, take, drop, get_or, Option, None}
use Rattle.std.proofs.Common.{Some}
use Rattle.std.proofs.Common.{MatchOption, nat_lt, refl, sym, ap, ◌∙◌, arith, decimal}
use Rattle.std.proofs.Common.{length-append}
use Rattle.std.specs.List.{position_from, position_or_len}
use Rattle.std.proofs.Math.Seq.{take-append_seam}
use Rattle.std.proofs.lemmas.Bool.Decides.{nat_tests}
use Rattle.std.proofs.lemmas.Iterator.Adapters.{position_from-zero}
use Rattle.std.proofs.lemmas.List.Elements.{All-head, All-tail}
use Rattle.std.proofs.lemmas.List.Sums.{split_at_first, passes_at_first, prefix_len-le-length}
use Rattle.streetmap_replay.proofs.LineBytes.{no_tab}
use Rattle.streetmap_replay.proofs.NoControls.{decimal_printed}

abbrev pub is_tab : ℕ → Bool
is_tab b = b == 9

abbrev pub before_tab : List ℕ → ℕ
before_tab bs = position_or_len is_tab bs

-- ---- a search for the first tab finds the number of bytes before it

cut-none : (m n : ℕ) → m ≤ n → cond (nat_lt m n) (Some m) None ≡ None → n ≡ m
cut-none m n h e = grind (arith, nat_tests)

cut-some : (m n k : ℕ) → cond (nat_lt m n) (Some m) None ≡ Some k → k ≡ m
cut-some m n k e = grind (arith, nat_tests)

pub found_length : (bs : List ℕ) (o : Option ℕ) → o ≡ position_from is_tab 0 bs →
    MatchOption o (length bs ≡ before_tab bs) (λ n. n ≡ before_tab bs)
found_length bs None e =
    cut-none (before_tab bs) (length bs) (prefix_len-le-length (λ x. not (is_tab x)) bs)
    (position_from-zero is_tab bs ∙ sym e)
found_length bs (Some n) e =
    cut-some (before_tab bs) (length bs) n (position_from-zero is_tab bs ∙ sym e)

-- ---- a number and a tab

passed : (v : Bool) (n m : ℕ) → v ≡ false → n ≡ m → cond (not v) (1 + n) 0 ≡ suc m
passed true n m e f = absurd cc
passed false n m e f = omega (arith, f)

tab_after : (xs ts : List ℕ) → All (λ b. (b == 9) ≡ false) xs →
    before_tab (xs ++ 9 ∷ ts) ≡ length xs
tab_after [] ts h = refl
tab_after (x ∷ xs) ts h =
    passed (x == 9) (before_tab (xs ++ 9 ∷ ts)) (length xs)
    (All-head (λ b. (b == 9) ≡ false) x xs h)
    (tab_after xs ts (All-tail (λ b. (b == 9) ≡ false) x xs h))

-- the bytes of a serial come before the first tab, which exists
pub serial_first : (bs : List ℕ) (n : ℕ) (ts : List ℕ) → n < 2 ^ 64 → decimal n ++ 9 ∷ ts ≡ bs →
    (before_tab bs < length bs) × (decimal n ≡ take (before_tab bs) bs)
serial_first bs n ts small is =
    let here : before_tab bs ≡ length (decimal n) =
    ap before_tab (sym is)
    ∙ tab_after (decimal n) ts (no_tab (decimal n) (decimal_printed n small)) in
    let long = length-append (decimal n) (9 ∷ ts) in
    let same = ap length is in (
      omega (arith, here, long, same),
      sym (ap (λ (m : ℕ). take m bs) here
          ∙ (ap (take (length (decimal n))) (sym is) ∙ take-append_seam (decimal n) (9 ∷ ts))),
    )

tab_is : (b : ℕ) → (b == 9) ≡ true → b ≡ 9
tab_is b e = grind (arith, nat_tests)

-- bytes with a tab, cut there
pub cut_tab : (bs : List ℕ) → before_tab bs < length bs →
    bs ≡ take (before_tab bs) bs ++ 9 ∷ drop (before_tab bs + 1) bs
cut_tab bs low =
    let tab = tab_is (get_or bs (before_tab bs) 0) (passes_at_first is_tab bs 0 low) in
    split_at_first is_tab bs 0 low
    ∙ ap (λ (b : ℕ). take (before_tab bs) bs ++ b ∷ drop (before_tab bs + 1) bs) tab
