use Rattle.std.proofs.Common.{◌≡◌, ℕ, List, ◌∷◌, ◌++◌, ◌+◌, ◌-◌, ◌<◌, length, take, drop}
use Rattle.std.proofs.Common.{decimal}
use Rattle.std.proofs.Common.{refl, sym, ap, subst, ◌∙◌, arith}
use Rattle.std.proofs.lemmas.List.{take_all, length-drop}
use Rattle.streetmap_replay.proofs.FirstTab.{serial_first, cut_tab, before_tab}
use Rattle.streetmap_replay.proofs.line_bytes.read_line.Goals as goal

pub returns-then-tab-bytes : goal.returns-then-tab-bytes
returns-then-tab-bytes c = (
  refl,
  λ n rest small is.
      let first = serial_first c.args.bytes.now n rest small is in
      let here = c.field_length-tab.ensures in
      let high = c.if-tab-bytes.true in
      omega (arith, first.0, here, high),
)

pub returns-in-Some : goal.returns-in-Some
returns-in-Some c =
    let bs = c.args.bytes.now in
    let tab = c.field_length-tab.result in
    let here : tab ≡ before_tab bs = c.field_length-tab.ensures in
    let low : before_tab bs < length bs = omega (arith, here, c.if-tab-bytes.false) in
    let cut = subst (λ (n : ℕ). bs ≡ take n bs ++ 9 ∷ drop (n + 1) bs) (sym here)
    (cut_tab bs low) in
    let rest = take_all (length bs - (tab + 1)) (drop (tab + 1) bs)
    (omega (arith, length-drop (tab + 1) bs)) in (
      ap (λ (ds : List ℕ). decimal c.in-Some.serial ++ 9 ∷ ds) rest
          ∙ (ap (λ (ds : List ℕ). ds ++ 9 ∷ drop (tab + 1) bs) c.in-Some.ensures.found ∙ sym cut),
      c.in-Some.ensures.fits,
    )

pub returns-in-None : goal.returns-in-None
returns-in-None c = (
  refl,
  λ n rest small is.
      let first = serial_first c.args.bytes.now n rest small is in
      let same = ap (λ (m : ℕ). take m c.args.bytes.now) (sym c.field_length-tab.ensures) in
      c.in-None.ensures.none refl n small (first.1 ∙ same),
)
