use Rattle.std.proofs.Common.{◌≡◌, ℕ, List, ◌∷◌, cond, find, Some, nat_eq, true, false}
use Rattle.std.proofs.Common.{string_bytes, sym, ap, ◌∙◌, arith}
use Rattle.std.proofs.lemmas.Bool.Decides.{nat_tests}
use Rattle.streetmap_ledger.specs.Kept.{KeyedBatch, has_serial}
use Rattle.streetmap_memory.specs.Slots.{by_text}
use Rattle.streetmap_memory.proofs.batches.batch_with.Goals as goal

-- the first has the serial, or not
first_on : (n : ℕ) (b : KeyedBatch) (bs : List KeyedBatch)
    → nat_eq b.1.serial n ≡ true → find (has_serial n) (b ∷ bs) ≡ Some b
first_on n b bs on = ap (λ x. cond x (Some b) (find (has_serial n) bs)) on

first_off : (n : ℕ) (b : KeyedBatch) (bs : List KeyedBatch)
    → nat_eq b.1.serial n ≡ false → find (has_serial n) (b ∷ bs) ≡ find (has_serial n) bs
first_off n b bs off = ap (λ x. cond x (Some b) (find (has_serial n) bs)) off

is_same : (a b n : ℕ) → a ≡ b → a ≡ n → nat_eq b n ≡ true
is_same a b n e f = grind (arith, nat_tests)

is_other : (a b n : ℕ) → a ≡ b → (a ≡ n → ⊥) → nat_eq b n ≡ false
is_other a b n e f = grind (arith, nat_tests)

pub returns-then-serial-clause-finds : goal.returns-then-serial-clause-finds
returns-then-serial-clause-finds c =
    let n = c.args.serial in
    let kept = c.in-Some.kept.now in
    let rest = by_text c.next.new.self in
    let on = is_same c.serial.result kept.serial n c.serial.ensures c.if-serial.true in
    let left = ap (λ es. find (has_serial n) (by_text es)) c.in-Some.ensures.steps in
    let here = first_on n (string_bytes c.in-Some.key.now, kept) rest on in
    let copied = c.in_ok-copy_of.ensures ∙ ap (λ key. (key, kept)) c.as_str.ensures.value in
    ap Some copied ∙ (sym here ∙ (sym left ∙ c.loop-key.invariant))

pub returns-clause-finds : goal.returns-clause-finds
returns-clause-finds c =
    let left = ap (λ es. find (has_serial c.args.serial) (by_text es)) c.in-None.ensures.steps.0 in
    sym left ∙ c.loop-key.invariant

pub loop-key-preserved : goal.loop-key-preserved
loop-key-preserved c =
    let n = c.args.serial in
    let kept = c.in-Some.kept.now in
    let rest = by_text c.next.new.self in
    let off = is_other c.serial.result kept.serial n c.serial.ensures c.if-serial.false in
    let left = ap (λ es. find (has_serial n) (by_text es)) c.in-Some.ensures.steps in
    let past = first_off n (string_bytes c.in-Some.key.now, kept) rest off in
    sym past ∙ (sym left ∙ c.loop-key.invariant)
