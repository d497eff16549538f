-- What cells contain stays in them.
use Rattle.std.proofs.Common.{◌≡◌, ◌<◌, ℕ, List, ◌++◌, Bool, true, false, cond, Contains, length, get_or, set, sym, subst, inl, inr}
use Rattle.std.specs.List.{HoldsAt}
use Rattle.std.specs.declared.vec.Vec.{Vec}
use Rattle.std.specs.declared.alloc.Global.{Global}
use Rattle.std.proofs.lemmas.Bool.{cases_eq}
use Rattle.std.proofs.lemmas.List.{length-set, get_or-set_same, get_or-set_other}
use Rattle.std.proofs.lemmas.List.Elements.{Contains-append_left}
use Rattle.streetmap_cells.specs.Cells.{bucket_at, HasEntry, KeepsListed}
use Rattle.streetmap_cells.specs.declared.cells.Entry.{Entry}
use Rattle.streetmap_cells.specs.declared.cells.Cells.{Cells}

abbrev Bucket : Type 0
Bucket = Vec Entry Global

-- an entry of a bucket is still in it after others were added
pub pushed : (b : Bool) (xs ys : List Entry) (e : Entry) → Contains xs e → Contains (cond b (xs ++ ys) xs) e
pushed true xs ys e h = Contains-append_left xs ys e h
pushed false xs ys e h = h

still_there : (bs : List Bucket) (n : ℕ) (old new : Bucket) (e : Entry) → n < length bs → old ≡ get_or bs n old → (Contains old.items e → Contains new.items e)
    → (k : ℕ) → HoldsAt (HasEntry e) bs k → HoldsAt (HasEntry e) (set bs n new) k
still_there bs n old new e within is grows k h d = elim (cases_eq k n) [
  | inl same ↦
      let here : HasEntry e old = subst (HasEntry e) (sym is) (subst (λ j. HasEntry e (get_or bs j old)) same (h old)) in
      subst (λ j. HasEntry e (get_or (set bs n new) j d)) (sym same) (subst (HasEntry e) (sym (get_or-set_same bs n new d within)) (grows here))
  | inr other ↦ subst (HasEntry e) (sym (get_or-set_other bs n k new d other)) (h d)
]

-- when one bucket gains entries, all that the cells contain stays in them
pub kept : (old new : Cells) (n : ℕ) (before after : Bucket) → n < length old.buckets.items → before ≡ get_or old.buckets.items n before → new.buckets.items ≡ set old.buckets.items n after
    → ((e : Entry) → Contains before.items e → Contains after.items e) → KeepsListed old new
kept old new n before after within is set_so grows c e h =
    let entry : Entry = record { extent = e; chunk = c } in
    let P : List Bucket → Type 0 = λ bs. HoldsAt (HasEntry entry) bs (bucket_at (length bs) h.level e.x0 e.y0) in
    let old_bs = old.buckets.items in
    let next = set old_bs n after in
    let place = bucket_at (length old_bs) h.level e.x0 e.y0 in
    let there : HoldsAt (HasEntry entry) next place = still_there old_bs n before after entry within is (grows entry) place h.there in
    let moved : P next = subst (λ count. HoldsAt (HasEntry entry) next (bucket_at count h.level e.x0 e.y0)) (sym (length-set old_bs n after)) there in
    record { level = h.level; known = h.known; narrow = h.narrow; short = h.short; there = subst P (sym set_so) moved }
