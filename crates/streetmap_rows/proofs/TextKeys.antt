-- Keys of texts, under BINARY.
use Rattle.std.proofs.Common.{◌≡◌, ℕ, suc, [], ◌∷◌, Bool, true, false, ◌&&◌, drop, refl, sym, ap, ◌∙◌, Less, Equal, Greater, Ordering, Some}
use Rattle.std.specs.Ordering.{is_eq}
use Rattle.std.specs.FinMap.{IsAntisymmetric, slice_cmp-IsAntisymmetric, nat_cmp-IsAntisymmetric}
use Rattle.std.specs.Cmp.Lexicographic.{nat_list_cmp_total}
use Rattle.std.proofs.lemmas.Bool.{and_parts, and_from}
use Rattle.std.proofs.lemmas.Cmp.{tied_itself}
use Rattle.sqlite_value.specs.declared.value.Value.TheVariants.{Text as Words}
use Rattle.sqlite_value.specs.declared.keys.Collation.TheVariants.{Binary}
use Rattle.sqlite_value.specs.Order.{Row, column, bytes, value_cmp}
use Rattle.sqlite_value.proofs.OrderLemmas.{value_cmp-Text}
use Rattle.sqlite_value.specs.Keys.{plain, first_key as key_at}
use Rattle.sqlite_sql.specs.Ops.{binary, is_true, from_truth}
use Rattle.sqlite_schema.specs.Rules.{equal, agree}
use Rattle.streetmap_batch.specs.Text.{Text, text_cmp}
use Rattle.streetmap_rows.specs.Holds.{same_text, first_key, is_first, KeyPair, pair_key, has_pair}

pub one_text : IsAntisymmetric text_cmp
one_text = slice_cmp-IsAntisymmetric nat_cmp-IsAntisymmetric

tied : (o : Ordering) → is_eq o ≡ true → o ≡ Equal
tied o h = elim o as (λ x. is_eq x ≡ true → x ≡ Equal) [ Less ↦ λ e. absurd (cc) | Equal ↦ λ e. refl | Greater ↦ λ e. absurd (cc) ] h

pub text_is : (a b : Text) → same_text a b ≡ true → a ≡ b
text_is a b h = one_text a b (tied _ h)

pub text_self : (a : Text) → same_text a a ≡ true
text_self a = rw (tied_itself nat_list_cmp_total a)

pub first_is : (k : Text) (r : Row) → is_first k r ≡ true → first_key r ≡ k
first_is k r h = sym (text_is k (first_key r) h)

pub first_self : (r : Row) → is_first (first_key r) r ≡ true
first_self r = text_self (first_key r)

pub pair_is : (p : KeyPair) (r : Row) → has_pair p r ≡ true → pair_key r ≡ p
pair_is p r h = let parts = and_parts (same_text p.0 (bytes (column r 1))) (same_text p.1 (bytes (column r 2))) h in λ i.
    (sym (text_is p.0 _ parts.0) i, sym (text_is p.1 _ parts.1) i)

pub pair_self : (r : Row) → has_pair (pair_key r) r ≡ true
pair_self r = and_from _ _ (text_self (bytes (column r 1))) (text_self (bytes (column r 2)))

pub truth_is : (b : Bool) → is_true (from_truth (Some b)) ≡ b
truth_is true = refl
truth_is false = refl

pub equal_texts : (a b : Text) → equal Binary (Words a) (Words b) ≡ same_text a b
unfolding binary
equal_texts a b = truth_is (is_eq (value_cmp (Words a) (Words b))) ∙ ap is_eq (value_cmp-Text a b)

pub column_later : (r : Row) (at : ℕ) → column r (suc at) ≡ column (drop 1 r) at
column_later [] at = refl
column_later (v ∷ r) at = refl

pub agree_one : (r s : Row) (a b : Text) → column r 1 ≡ Words a → column s 1 ≡ Words b → agree plain (1 ∷ []) r (1 ∷ []) s ≡ (same_text a b && true)
unfolding key_at
agree_one r s a b p q = rw (p, q, equal_texts a b)

pub agree_two : (r s : Row) (a b c d : Text) → column r 1 ≡ Words a → column r 2 ≡ Words b → column s 1 ≡ Words c → column s 2 ≡ Words d
    → agree plain (1 ∷ 2 ∷ []) r (1 ∷ 2 ∷ []) s ≡ (same_text a c && (same_text b d && true))
unfolding key_at
agree_two r s a b c d p q u v = rw (p, q, u, v, equal_texts a c, equal_texts b d)
