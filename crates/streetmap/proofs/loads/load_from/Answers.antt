use Rattle.std.proofs.Common.{◌≡◌, List, ℕ, Option, None, Some, rules, refl, sym, subst, ◌∙◌}
use Rattle.std.specs.Prelude.{is_none, true}
use Rattle.std.specs.Io.Buffered.{reader_remaining}
use Rattle.streetmap_loading.specs.Options.{load_value, load_items, load_skips}
use Rattle.streetmap.specs.Changes.{Loaded, SkipsNone}
use Rattle.streetmap.proofs.Readers.{remaining_is}
use Rattle.streetmap.proofs.Commands.{hold_one_of, hold_still, nothing_loaded, loaded_all, loaded_as, leaves_only, skips_none}
use Rattle.streetmap.proofs.loads.load_from.Goals as goal

none_is : {A : Type 0} (o : Option A) → is_none o ≡ true → o ≡ None
none_is None e = refl
none_is (Some x) e = cc

pub returns-in_default-clause-leaves : goal.returns-in_default-clause-leaves
returns-in_default-clause-leaves g c clean s is =
    hold_still g.K.Keeper.model g.met.K.Durable.images_hold_states _ s _ is clean (nothing_loaded g.K.Keeper.model s _ _ _ _)

pub returns-then-is_none-clause-leaves : goal.returns-then-is_none-clause-leaves
returns-then-is_none-clause-leaves g c clean s is =
    let model = g.K.Keeper.model in
    let says = c.load_text-loaded.ensures in
    let none : c.is_none.result ≡ is_none c.load_text-loaded.result.fault = search rules in
    let kept = c.warn_of_degrees.ensures in
    let old = c.args.sink.now.keeper in
    let mid = c.load_text-loaded.new.sink.keeper in
    let last = c.warn_of_degrees.new.keeper in
    let load = load_value c.args.load in
    let known = c.in-Ok.ensures in
    let same = remaining_is g.R.Read.remaining c.in-Ok.reader c.args.input known.inner known.empty known.capacity in
    hold_one_of model g.met.K.Durable.images_hold_states old last s (Loaded s c.args.load.each load.key (load_items load (g.R.Read.remaining c.args.input))
    c.end-done.result) is
    (model.preserves_then old mid last says.calls.preserved kept.preserved) clean
    (λ t left. subst (λ (text : Option (List ℕ)). Loaded s c.args.load.each load.key (load_items load text) c.end-done.result t) same
    (loaded_all model old mid s t c.args.load.each load.key (load_items load (reader_remaining g.R.Read.remaining c.in-Ok.reader)) c.load_text-loaded.result
    c.end-done.result (none_is c.load_text-loaded.result.fault (sym none ∙ c.if-is_none.true))
    (says.loads (kept.began_clean clean) s is) (λ u represents. leaves_only model last u t (kept.leaves clean u represents) left)))

pub returns-else-is_none-clause-leaves : goal.returns-else-is_none-clause-leaves
returns-else-is_none-clause-leaves g c clean s is =
    let model = g.K.Keeper.model in
    let says = c.load_text-loaded.ensures in
    let old = c.args.sink.now.keeper in
    let new = c.load_text-loaded.new.sink.keeper in
    let load = load_value c.args.load in
    let known = c.in-Ok.ensures in
    let same = remaining_is g.R.Read.remaining c.in-Ok.reader c.args.input known.inner known.empty known.capacity in
    hold_one_of model g.met.K.Durable.images_hold_states old new s (Loaded s c.args.load.each load.key (load_items load (g.R.Read.remaining c.args.input))
    c.end-done.result) is says.calls.preserved clean
    (λ t left. subst (λ (text : Option (List ℕ)). Loaded s c.args.load.each load.key (load_items load text) c.end-done.result t) same
    (loaded_as model old new s t c.args.load.each load.key (load_items load (reader_remaining g.R.Read.remaining c.in-Ok.reader)) c.load_text-loaded.result
    c.end-done.result c.end-done.ensures.whole
    (says.loads clean s is) left))

pub returns-then-is_none-clause-none_skipped : goal.returns-then-is_none-clause-none_skipped
returns-then-is_none-clause-none_skipped g c ok =
    let known = c.in-Ok.ensures in
    let same = remaining_is g.R.Read.remaining c.in-Ok.reader c.args.input known.inner known.empty known.capacity in
    subst (λ (text : Option (List ℕ)). SkipsNone (load_skips (load_value c.args.load) text)) same
    (skips_none (load_skips (load_value c.args.load) (reader_remaining g.R.Read.remaining c.in-Ok.reader)) c.load_text-loaded.result
    (c.end-done.ensures.whole ok) (c.end-done.ensures.none_skipped ok) c.load_text-loaded.ensures.skips)

pub returns-else-is_none-clause-none_skipped : goal.returns-else-is_none-clause-none_skipped
returns-else-is_none-clause-none_skipped g c ok =
    let known = c.in-Ok.ensures in
    let same = remaining_is g.R.Read.remaining c.in-Ok.reader c.args.input known.inner known.empty known.capacity in
    subst (λ (text : Option (List ℕ)). SkipsNone (load_skips (load_value c.args.load) text)) same
    (skips_none (load_skips (load_value c.args.load) (reader_remaining g.R.Read.remaining c.in-Ok.reader)) c.load_text-loaded.result
    (c.end-done.ensures.whole ok) (c.end-done.ensures.none_skipped ok) c.load_text-loaded.ensures.skips)

pub returns-then-is_none-clause-began_clean : goal.returns-then-is_none-clause-began_clean
returns-then-is_none-clause-began_clean g c clean = c.load_text-loaded.ensures.calls.began_clean (c.warn_of_degrees.ensures.began_clean clean)

pub returns-else-is_none-clause-began_clean : goal.returns-else-is_none-clause-began_clean
returns-else-is_none-clause-began_clean g c clean = c.load_text-loaded.ensures.calls.began_clean clean
