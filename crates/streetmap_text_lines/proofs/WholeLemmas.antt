-- Whole lines, taken off the bytes that a reader has left.
use Rattle.std.proofs.Common.{◌≡◌, ◌<◌, ℕ, List, [], ◌∷◌, ◌++◌, length, Option, None, Some}
use Rattle.std.proofs.Common.{sym, ap, subst, ◌∙◌, append-nil}
use Rattle.std.specs.Io.KnownBytes.{Consumes, Keeps, IsAtEnd, prepend_known}
use Rattle.std.proofs.KnownBytes.{Keeps-trans}
use Rattle.streetmap_text_lines.specs.LineReads.{HasNoLineFeed, WhereKnown}
use Rattle.streetmap_text_lines.specs.Whole.{EndsWithin}
use Rattle.streetmap_text_lines.proofs.LineLemmas.{IsPartRead}

as_consumed : (a b : Option (List ℕ)) (bs : List ℕ) → Keeps a (prepend_known bs b) →
    Consumes a b bs
as_consumed None b bs k = tt
as_consumed (Some xs) None bs k = absurd k
as_consumed (Some xs) (Some ys) bs k = sym k

-- the line that is read in part ended with a line feed
pub whole_ended : (most : ℕ) (a b c : Option (List ℕ)) (line longer : List ℕ) →
    IsPartRead most a b line →
    Keeps (prepend_known line b) (prepend_known (longer ++ 10 ∷ []) c) →
    Consumes a c (longer ++ 10 ∷ [])
whole_ended most a b c line longer p more =
    as_consumed a c (longer ++ 10 ∷ []) (Keeps-trans _ _ _ p.whole more)

-- the input ended within it
pub whole_cut : (most : ℕ) (a b c : Option (List ℕ)) (line longer : List ℕ) →
    IsPartRead most a b line → (longer ≡ line) × Keeps b c × IsAtEnd b → 0 < length longer →
    WhereKnown a c EndsWithin
whole_cut most None b c line longer p end some = tt
whole_cut most (Some input) None c line longer p end some = absurd p.whole
whole_cut most (Some input) (Some rest) None line longer p end some = absurd end.1
whole_cut most (Some input) (Some rest) (Some later) line longer p end some =
    let is : longer ≡ input =
    end.0 ∙ (sym (append-nil line) ∙ (ap (λ (r : List ℕ). line ++ r) (sym end.2) ∙ p.whole))
    in
    record {
      unended = subst HasNoLineFeed (sym end.0 ∙ is) p.one_line;
      some = subst (λ (l : List ℕ). 0 < length l) is some;
      all = end.1 ∙ end.2;
    }
