-- Members put among others, one after the other.
use Rattle.std.proofs.Common.{◌≡◌, Bool, true, false, ◌&&◌, Ordering, Less, Equal, Greater, refl, sym, ap, ◌∙◌}
use Rattle.std.specs.Ordering.{nat_cmp, match_ordering, ordering_reverse, is_eq}
use Rattle.std.specs.Cmp.Lexicographic.{slice_cmp}
use Rattle.std.proofs.lemmas.Cmp.{nat_list_cmp_total, tied_itself}
use Rattle.std.proofs.lemmas.Map.Text.{is_eq-slice_cmp}
use Rattle.std.proofs.lemmas.Slice.Eq.{bytes_eq-Decides}
use Rattle.serde_json.specs.Data.{Data, Members, no_members, member, put}
use Rattle.streetmap_batch.specs.Text.{Text}
use Rattle.streetmap_batch.specs.ParsedBatches.{names_pass}

-- ---- the same name twice

again_at : (o : Ordering) (k l : Text) (d e f : Data) (ms : Members) → slice_cmp nat_cmp k l ≡ o → put k d (put k e ms) ≡ put k d ms
    → put k d (match_ordering o (member k e (member l f ms)) (member l e ms) (member l f (put k e ms)))
    ≡ match_ordering o (member k d (member l f ms)) (member l d ms) (member l f (put k d ms))
again_at Less k l d e f ms is later = rw (tied_itself nat_list_cmp_total k)
again_at Equal k l d e f ms is later = rw is
again_at Greater k l d e f ms is later = rw is (ap (member l f) later)

-- the later is kept
pub put_again : (k : Text) (d e : Data) (ms : Members) → put k d (put k e ms) ≡ put k d ms
put_again k d e no_members = rw (tied_itself nat_list_cmp_total k)
put_again k d e (member l f ms) = again_at _ k l d e f ms refl (put_again k d e ms)

-- ---- two names

same : (k q : Text) → slice_cmp nat_cmp k q ≡ Equal → k ≡ q
same k q is = (bytes_eq-Decides k q).0 (sym (is_eq-slice_cmp k q) ∙ ap is_eq is)

turned : (k q : Text) (o : Ordering) → slice_cmp nat_cmp k q ≡ o → slice_cmp nat_cmp q k ≡ ordering_reverse o
turned k q o is = nat_list_cmp_total.antisymm q k ∙ ap ordering_reverse is

module _ (k q : Text) (d e : Data) (apart : k ≡ q → ⊥) where
  with_none : (o : Ordering) → slice_cmp nat_cmp k q ≡ o → put k d (put q e no_members) ≡ put q e (put k d no_members)
  with_none Less is = rw (is, turned k q Less is)
  with_none Equal is = absurd (apart (same k q is))
  with_none Greater is = rw (is, turned k q Greater is)

  both_below : (l : Text) (f : Data) (ms : Members) (o : Ordering) → slice_cmp nat_cmp k l ≡ Less → slice_cmp nat_cmp q l ≡ Less → slice_cmp nat_cmp k q ≡ o
      → put k d (put q e (member l f ms)) ≡ put q e (put k d (member l f ms))
  both_below l f ms Less kl ql is = rw (kl, ql, is, turned k q Less is)
  both_below l f ms Equal kl ql is = absurd (apart (same k q is))
  both_below l f ms Greater kl ql is = rw (kl, ql, is, turned k q Greater is, kl)

  with_more : (l : Text) (f : Data) (ms : Members) → put k d (put q e ms) ≡ put q e (put k d ms) → (a b : Ordering)
      → slice_cmp nat_cmp k l ≡ a → slice_cmp nat_cmp q l ≡ b
      → put k d (put q e (member l f ms)) ≡ put q e (put k d (member l f ms))
  with_more l f ms later Less Less kl ql = both_below l f ms _ kl ql refl
  with_more l f ms later Less Equal kl ql =
      let qk : slice_cmp nat_cmp q k ≡ Greater = ap (λ (x : Text). slice_cmp nat_cmp x k) (same q l ql) ∙ turned k l Less kl in
      simp (ql, kl, qk)
  with_more l f ms later Less Greater kl ql =
      let qk : slice_cmp nat_cmp q k ≡ Greater = turned k q Less (nat_list_cmp_total.trans k l q kl (turned q l Greater ql)) in
      simp (kl, ql, qk)
  with_more l f ms later Equal Less kl ql =
      let kq : slice_cmp nat_cmp k q ≡ Greater = ap (λ (x : Text). slice_cmp nat_cmp x q) (same k l kl) ∙ turned q l Less ql in
      simp (kl, ql, kq)
  with_more l f ms later Equal Equal kl ql = absurd (apart (same k l kl ∙ sym (same q l ql)))
  with_more l f ms later Equal Greater kl ql = simp (kl, ql)
  with_more l f ms later Greater Less kl ql =
      let kq : slice_cmp nat_cmp k q ≡ Greater = turned q k Less (nat_list_cmp_total.trans q l k ql (turned k l Greater kl)) in
      simp (kl, ql, kq)
  with_more l f ms later Greater Equal kl ql = simp (kl, ql)
  with_more l f ms later Greater Greater kl ql = simp (kl, ql) (ap (member l f) later)

-- members of different names may be put in any order
pub put_swap : (k q : Text) (d e : Data) → (k ≡ q → ⊥) → (ms : Members) → put k d (put q e ms) ≡ put q e (put k d ms)
put_swap k q d e apart no_members = with_none k q d e apart _ refl
put_swap k q d e apart (member l f ms) = with_more k q d e apart l f ms (put_swap k q d e apart ms) _ _ refl refl

-- ---- the names of the members

swapped : (a b c : Bool) → (a && (b && c)) ≡ (b && (a && c))
swapped true true c = refl
swapped true false c = refl
swapped false true c = refl
swapped false false c = refl

once : (a b : Bool) → (a && b) ≡ (a && (a && b))
once true b = refl
once false b = refl

names_put_at : (test : Text → Bool) (o : Ordering) (name other : Text) (d e : Data) (ms : Members) → slice_cmp nat_cmp name other ≡ o
    → names_pass test (put name d ms) ≡ (test name && names_pass test ms)
    → names_pass test (match_ordering o (member name d (member other e ms)) (member other d ms) (member other e (put name d ms)))
    ≡ (test name && (test other && names_pass test ms))
names_put_at test Less name other d e ms is later = refl
names_put_at test Equal name other d e ms is later =
    once (test other) (names_pass test ms) ∙ ap (λ n. test n && (test other && names_pass test ms)) (sym (same name other is))
names_put_at test Greater name other d e ms is later = ap (λ b. test other && b) later ∙ swapped (test other) (test name) (names_pass test ms)

pub names_put : (test : Text → Bool) (name : Text) (d : Data) (ms : Members) → names_pass test (put name d ms) ≡ (test name && names_pass test ms)
names_put test name d no_members = refl
names_put test name d (member other e ms) = names_put_at test _ name other d e ms refl (names_put test name d ms)
