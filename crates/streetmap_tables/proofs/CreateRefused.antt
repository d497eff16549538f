-- Why a CREATE TABLE of ours may fail.
use Rattle.std.proofs.Common.{◌≡◌, ◌⊎◌, inl, inr, ℕ, ◌^◌, ◌<◌, ◌≤◌, ◌+◌, List, [], ◌∷◌, length, Ok, Err, Result, refl, None, Some, true, false, ◌==◌, ap, sym}
use Rattle.std.proofs.Common.{subst, ◌∙◌, arith, IsUtf8, codes, MatchBool}
use Rattle.sqlite.specs.Schema.{Schema}
use Rattle.sqlite.specs.Table.{Table}
use Rattle.sqlite.specs.Command.TheVariants.{CreateTable}
use Rattle.sqlite.specs.Does.{Does, MakesTable, MakesSequence, lacks_sequence, no_rows, sequence_text}
use Rattle.sqlite.specs.Rows.{Then, Gives}
use Rattle.sqlite.specs.Effect.{Database, alter_error}
use Rattle.sqlite.specs.Listing.{understood}
use Rattle.sqlite.specs.State.{State as Seen, mode_of, ExecutesInside}
use Rattle.sqlite.specs.declared.error.Error.{Error}
use Rattle.sqlite.proofs.Callers.{statement_of}
use Rattle.sqlite_value.specs.declared.value.Value.TheVariants.{Text}
use Rattle.sqlite_schema.specs.Rules.{table_reals, index_reals}
use Rattle.sqlite_catalog.specs.Change.{created, is_used, next_tree}
use Rattle.sqlite_catalog.specs.Calls.{RefusesTable, IsBadName}
use Rattle.sqlite_catalog.specs.Listing.{is_fit, is_formed}
use Rattle.sqlite_catalog.specs.Change as change
use Rattle.sqlite_catalog.specs.declared.error.Refusal.{Refusal}
use Rattle.sqlite_catalog.specs.declared.error.Refusal.TheVariants.{Invalid, NameTaken, BadName, TooBig, BadKey, BadText, Violates}
use Rattle.sqlite_catalog.proofs.StepLemmas.{no_table, no_index, no_view}
use Rattle.std.specs.List.{AllByRecursion}
use Rattle.sqlite_rules.specs.Lists.{Has}
use Rattle.sqlite_rules.proofs.ListLemmas.{all_has}
use Rattle.sqlite_resolve.specs.Compile.{compiled, planned, meaning, returning, command, timed, create_table, creates, is_attached, is_reserved}
use Rattle.sqlite_resolve.specs.Compile.{table_defined_by, table_in}
use Rattle.sqlite_resolve.specs.Define as define
use Rattle.streetmap_rows.proofs.StoreErrors.{failure_is}
use Rattle.streetmap_rows.proofs.FixedRefused.{refused_as, stopped}
use Rattle.streetmap_rows.proofs.Resolving.{Means, command_is, is_plain, is_fit as runs_so, understood_is}
use Rattle.streetmap_rows.proofs.InsertRuns.{never_misplaced, never_ends}
use Rattle.streetmap_tables.specs.Made.{creating, IsTableText}
use Rattle.streetmap_tables.specs.CreationRefusals.{IsCreateError}

-- no rule of the language or of the database is against the text or the table
pub record IsAllowed (text : List ℕ) (table : Table) : Type 0 where
  pub is : IsTableText text table
  pub named : is.written.name ≡ table.name
  pub resolved : is.written.resolves ≡ false
  pub uncomputed : (length table.computed == length table.stamps.places) ≡ true
  pub bare : 0 ≡ length is.parsed.names
  pub whole : length text ≤ is.parsed.tail
  pub unreserved : change.is_reserved table.name ≡ false
  pub utf8 : IsUtf8 text
  pub name_utf8 : IsUtf8 table.name
  pub formed : is_formed table ≡ true
  pub fit : is_fit (Text (codes "table")) (Text table.name) (Text table.name) (Text text) ≡ true
  pub few : table_reals table < 2 ^ 64
  pub keys_few : AllByRecursion (λ key. index_reals (table_reals table) key < 2 ^ 64) table.uniques

same_ok : {A E : Type 0} (a b : A) (r : Result A E) → r ≡ Ok a → r ≡ Ok b → a ≡ b
same_ok {A = A} {E = E} a b r p q = let both : ◌≡◌ {A = Result A E} (Ok a) (Ok b) = sym p ∙ q in cc

module _ (text : List ℕ) (table : Table) (it : IsAllowed text table) where
  defines : define.table [] it.is.written ≡ Ok table
  unfolding table_defined_by table_in
  defines = rw (it.is.is, it.is.plain, it.is.makes) at it.is.defined

  module _ (schema : Schema) (free : is_used schema table.name ≡ false) where
    creates_it : create_table schema [] it.is.written ≡ Ok CreateTable
    unfolding create_table creates is_attached is_reserved
    creates_it = rw (
      defines,
      it.resolved,
      it.named,
      no_table schema table.name free,
      no_index schema table.name free,
      no_view schema table.name free,
      it.unreserved,
      it.uncomputed,
    ) refl

    plan : planned schema it.is.parsed ≡ Ok ([], (CreateTable, None))
    unfolding planned meaning returning command timed
    plan = rw (it.is.makes, it.is.plain, creates_it) refl

    compiles : compiled schema text ≡ Ok (creating it.is.parsed)
    unfolding compiled
    compiles = rw (it.is.is, plan) refl

    abbrev meant : Means schema text 0 CreateTable
    meant = record { compiled_as = creating it.is.parsed; is = compiles; command_is = refl; plain_is = (refl, refl); whole_is = it.whole; count_is = it.bare }

    text_is : statement_of text (understood schema text) ≡ text
    text_is = rw (understood_is schema text 0 CreateTable meant) it.is.whole

    only_full : (e : Error) (why : Refusal) → RefusesTable schema text why → e ≡ alter_error why → IsCreateError (table ∷ []) schema e
    only_full e (Invalid fault) h is = absurd (let clash = sym it.is.defined ∙ h in cc)
    only_full e NameTaken h is =
        let same : h.0 ≡ table = same_ok h.0 table _ h.1 it.is.defined in
        elim h.2 [
          | inl taken ↦ absurd (let clash = sym free ∙ ap (λ (t : Table). is_used schema t.name) (sym same) ∙ taken in cc)
          | inr key ↦ inr (inr (is, table, inl refl, key.0, subst (λ (t : Table). Has (change.automatics t 0 0 t.uniques) key.0) same key.1, key.2))
        ]
    only_full e BadName h is =
        let same : h.0 ≡ table = same_ok h.0 table _ h.1 it.is.defined in
        absurd (elim (subst (λ (t : Table). IsBadName t.name (length t.uniques == 0)) same h.2)
        [ inl other ↦ other it.name_utf8 | inr reserved ↦ (let clash = sym it.unreserved ∙ reserved.0 in cc) ])
    only_full e TooBig h is =
        let same : h.0 ≡ table = same_ok h.0 table _ h.1 it.is.defined in
        elim h.2 [
          | inl many ↦ inr (inl (is, let more = subst (λ (t : Table). 65536 ≤ next_tree schema + length t.uniques) same many in omega (arith, more)))
          | inr wide ↦ elim wide [
            | inl reals ↦ absurd (let high = subst (λ (t : Table). 2 ^ 64 ≤ table_reals t) same reals in let low = it.few in omega (arith, high, low))
            | inr key ↦ absurd (let high = subst (λ (t : Table). 2 ^ 64 ≤ index_reals (table_reals t) key.0) same key.2 in let low =
                all_has _ table.uniques key.0 it.keys_few (subst (λ (t : Table). Has t.uniques key.0) same key.1) in omega (arith, high, low))
          ]
        ]
    only_full e BadKey h is = absurd (let same : h.0 ≡ table = same_ok h.0 table _ h.1 it.is.defined in let clash = sym it.formed ∙ ap is_formed (sym same)
        ∙ h.2 in cc)
    only_full e BadText h is =
        let same : h.0 ≡ table = same_ok h.0 table _ h.1 it.is.defined in
        absurd (let clash = sym it.fit ∙ ap (λ (t : Table). is_fit (Text (codes "table")) (Text t.name) (Text t.name) (Text text)) (sym same) ∙ h.2 in cc)
    only_full e (Violates rule) h is = absurd h

  pub reported_created : (old new : Seen) → is_used old.now.schema table.name ≡ false → lacks_sequence (created old.now.schema table) ≡ false → (e : Error) →
      ExecutesInside 0 text [] old new (Err e) → IsCreateError (table ∷ []) old.now.schema e
  reported_created old new free counts e (inr ended) =
      absurd (never_ends text [] old old.now.schema CreateTable refl (command_is old.now.schema text 0 CreateTable (meant old.now.schema free))
      (λ q. absurd (cc)) (λ q. absurd (cc)) (λ n q. absurd (cc)) (λ n q. absurd (cc)) ended.0)
  reported_created old new free counts e (inl h) =
      let m = meant old.now.schema free in
      elim (refused_as text [] old new old.now.schema refl CreateTable (command_is old.now.schema text 0 CreateTable m)
      (is_plain old.now.schema text 0 CreateTable m) (runs_so old.now.schema text 0 CreateTable m refl) e h.0) [
        | inl refused ↦ elim refused.0 [
          | inl misplaced ↦ absurd (never_misplaced old CreateTable e (λ q. absurd (cc)) (λ q. absurd (cc)) (λ q. absurd (cc)) (λ n q. absurd (cc))
              (λ n q. absurd (cc)) misplaced)
          | inr done ↦ refuses (subst (λ t. Does old.step_limit (mode_of old) [] old.now t None CreateTable (Err (Some e))) (text_is old.now.schema free) done)
        ]
        | inr failed ↦ inl (failure_is e failed.1.0 failed.1.1)
      ]
    where
      full : MakesTable text old.now (Err (Some e)) → IsCreateError (table ∷ []) old.now.schema e
      full (inl other) = absurd (other.0 it.utf8)
      full (inr why) = only_full old.now.schema free e why.0 why.1 why.2

      refuses : Does old.step_limit (mode_of old) [] old.now text None CreateTable (Err (Some e)) → IsCreateError (table ∷ []) old.now.schema e
      refuses done = elim (stopped (Then (MakesTable text old.now) MakesSequence) (λ after. Gives (no_rows (mode_of old).in_doubt, after)) (Some e) done) [
        | inl early ↦ elim (stopped (MakesTable text old.now) MakesSequence (Some e) early) [
          | inl table ↦ full table
          | inr sequence ↦ absurd (quiet sequence.0 sequence.1 sequence.2)
        ]
        | inr gave ↦ absurd (let no = gave.2 in cc)
      ]
        where
          quiet : (mid : Database) → MakesTable text old.now (Ok mid) → MakesSequence mid (Err (Some e)) → ⊥
          quiet mid made more =
              let named = same_ok made.table table _ made.defined it.is.defined in
              let none : lacks_sequence mid.schema ≡ false = ap lacks_sequence (made.is ∙ ap (created old.now.schema) named) ∙ counts in
              absurd (let no = subst (λ b. MatchBool b (MakesTable sequence_text mid (Err (Some e))) (Gives mid (Err (Some e)))) none more in cc)
