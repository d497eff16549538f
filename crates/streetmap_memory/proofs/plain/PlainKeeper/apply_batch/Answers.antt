use Rattle.std.proofs.Common.{◌≡◌, ◌+◌, nat_eq, true, false, ap, sym, ◌∙◌, arith}
use Rattle.std.specs.Cmp.Lexicographic.{pointwise}
use Rattle.std.specs.FinMap.{get, len}
use Rattle.streetmap_ledger.specs.Batches.{Outcome, fresh, edited}
use Rattle.streetmap_batch.specs.BatchText.{batch_text}
use Rattle.streetmap_batch.specs.BatchView.{batch_value}
use Rattle.streetmap_memory.specs.Plain.{plain_state}
use Rattle.streetmap_ledger.specs.declared.reply.Reply.TheVariants.{Repeated}
use Rattle.streetmap_memory.proofs.Maps.{get_of}
use Rattle.streetmap_memory.proofs.Ordered.{len_of}
use Rattle.streetmap_memory.proofs.PlainLemmas.{repeats, key_used, is_full, is_fresh}
use Rattle.streetmap_memory.proofs.plain.PlainKeeper.apply_batch.Goals as goal

pub returns-then-eq-clause-reply : goal.returns-then-eq-clause-reply
returns-then-eq-clause-reply c =
    let s = plain_state c.args.self.now in
    let b = batch_value c.args.batch.now in
    let there = ap (get s.keys) (sym c.key.ensures.value) ∙ (get_of c.args.self.now.keys.entries c.key.result.now ∙ sym c.in-Some.ensures.value) in
    let same : pointwise nat_eq c.in-Some.kept.now.text (batch_text b) ≡ true = sym (c.if-eq.ensures
    ∙ (ap (λ x. pointwise nat_eq x c.as_slice.result.now) c.text-in-Some.ensures ∙ ap (pointwise nat_eq c.in-Some.kept.now.text)
    (c.as_slice.ensures ∙ c.in_ok-text.ensures))) in
    ap (λ n. Repeated n c.serial.result) c.counts.ensures ∙ (ap (Repeated c.in-Some.kept.now.counts) c.serial.ensures
    ∙ sym (ap (λ (o : Outcome). o.reply) (repeats s b c.in-Some.kept.now there same)))

pub returns-then-eq-clause-state : goal.returns-then-eq-clause-state
returns-then-eq-clause-state c =
    let s = plain_state c.args.self.now in
    let b = batch_value c.args.batch.now in
    let there = ap (get s.keys) (sym c.key.ensures.value) ∙ (get_of c.args.self.now.keys.entries c.key.result.now ∙ sym c.in-Some.ensures.value) in
    let same : pointwise nat_eq c.in-Some.kept.now.text (batch_text b) ≡ true = sym (c.if-eq.ensures
    ∙ (ap (λ x. pointwise nat_eq x c.as_slice.result.now) c.text-in-Some.ensures ∙ ap (pointwise nat_eq c.in-Some.kept.now.text)
    (c.as_slice.ensures ∙ c.in_ok-text.ensures))) in
    sym (ap (λ (o : Outcome). o.state) (repeats s b c.in-Some.kept.now there same))

pub returns-in-Some-clause-reply : goal.returns-in-Some-clause-reply
returns-in-Some-clause-reply c =
    let s = plain_state c.args.self.now in
    let b = batch_value c.args.batch.now in
    let there = ap (get s.keys) (sym c.key.ensures.value) ∙ (get_of c.args.self.now.keys.entries c.key.result.now ∙ sym c.in-Some.ensures.value) in
    let other : pointwise nat_eq c.in-Some.kept.now.text (batch_text b) ≡ false = sym (c.if-eq.ensures
    ∙ (ap (λ x. pointwise nat_eq x c.as_slice.result.now) c.text-in-Some.ensures ∙ ap (pointwise nat_eq c.in-Some.kept.now.text)
    (c.as_slice.ensures ∙ c.in_ok-text.ensures))) in
    sym (ap (λ (o : Outcome). o.reply) (key_used s b c.in-Some.kept.now there other))

pub returns-in-Some-clause-state : goal.returns-in-Some-clause-state
returns-in-Some-clause-state c =
    let s = plain_state c.args.self.now in
    let b = batch_value c.args.batch.now in
    let there = ap (get s.keys) (sym c.key.ensures.value) ∙ (get_of c.args.self.now.keys.entries c.key.result.now ∙ sym c.in-Some.ensures.value) in
    let other : pointwise nat_eq c.in-Some.kept.now.text (batch_text b) ≡ false = sym (c.if-eq.ensures
    ∙ (ap (λ x. pointwise nat_eq x c.as_slice.result.now) c.text-in-Some.ensures ∙ ap (pointwise nat_eq c.in-Some.kept.now.text)
    (c.as_slice.ensures ∙ c.in_ok-text.ensures))) in
    sym (ap (λ (o : Outcome). o.state) (key_used s b c.in-Some.kept.now there other))

pub returns-then-count-ge-MOST_BATCHES-clause-reply : goal.returns-then-count-ge-MOST_BATCHES-clause-reply
returns-then-count-ge-MOST_BATCHES-clause-reply c =
    let s = plain_state c.args.self.now in
    let b = batch_value c.args.batch.now in
    let none = ap (get s.keys) (sym c.key.ensures.value) ∙ (get_of c.args.self.now.keys.entries c.key.result.now ∙ sym c.in_default.ensures.value) in
    let n : c.len-count.result ≡ len s.keys = c.len-count.ensures.len ∙ sym (len_of c.args.self.now.keys.entries c.len-count.ensures.ordered) in
    sym (ap (λ (o : Outcome). o.reply) (is_full s b none (omega arith)))

pub returns-then-count-ge-MOST_BATCHES-clause-state : goal.returns-then-count-ge-MOST_BATCHES-clause-state
returns-then-count-ge-MOST_BATCHES-clause-state c =
    let s = plain_state c.args.self.now in
    let b = batch_value c.args.batch.now in
    let none = ap (get s.keys) (sym c.key.ensures.value) ∙ (get_of c.args.self.now.keys.entries c.key.result.now ∙ sym c.in_default.ensures.value) in
    let n : c.len-count.result ≡ len s.keys = c.len-count.ensures.len ∙ sym (len_of c.args.self.now.keys.entries c.len-count.ensures.ordered) in
    sym (ap (λ (o : Outcome). o.state) (is_full s b none (omega arith)))

pub accept-requires : goal.accept-requires
accept-requires c =
    let s = plain_state c.args.self.now in
    let b = batch_value c.args.batch.now in
    record {
      new = ap (get s.keys) (sym c.key.ensures.value) ∙ (get_of c.args.self.now.keys.entries c.key.result.now ∙ sym c.in_default.ensures.value);
      its_text
          = c.in_ok-text.ensures;
    }

pub returns-clause-reply : goal.returns-clause-reply
returns-clause-reply c =
    let s = plain_state c.args.self.now in
    let b = batch_value c.args.batch.now in
    let none = ap (get s.keys) (sym c.key.ensures.value) ∙ (get_of c.args.self.now.keys.entries c.key.result.now ∙ sym c.in_default.ensures.value) in
    let n : c.len-count.result ≡ len s.keys = c.len-count.ensures.len ∙ sym (len_of c.args.self.now.keys.entries c.len-count.ensures.ordered) in
    c.in_ok-accept.ensures.ok.0 ∙ (ap (λ m. (fresh s b (m + 1) (edited 1 s b.edits)).reply) n
    ∙ sym (ap (λ (o : Outcome). o.reply) (is_fresh s b none (omega arith))))

pub returns-clause-state : goal.returns-clause-state
returns-clause-state c =
    let s = plain_state c.args.self.now in
    let b = batch_value c.args.batch.now in
    let none = ap (get s.keys) (sym c.key.ensures.value) ∙ (get_of c.args.self.now.keys.entries c.key.result.now ∙ sym c.in_default.ensures.value) in
    let n : c.len-count.result ≡ len s.keys = c.len-count.ensures.len ∙ sym (len_of c.args.self.now.keys.entries c.len-count.ensures.ordered) in
    c.in_ok-accept.ensures.ok.1 ∙ (ap (λ m. (fresh s b (m + 1) (edited 1 s b.edits)).state) n
    ∙ sym (ap (λ (o : Outcome). o.state) (is_fresh s b none (omega arith))))
