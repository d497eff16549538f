-- No rule is against our four tables.
use Rattle.std.proofs.Common.{◌≡◌, ℕ, ◌^◌, ◌<◌, ◌≤◌, Bool, List, [], ◌∷◌, length, Ok, Err, refl, true, false, ◌==◌, sym, arith, codes, ltb-true}
use Rattle.std.specs.List.{AllByRecursion, list_all}
use Rattle.std.specs.Prelude.{IsAscii, nat_lt}
use Rattle.std.proofs.lemmas.Bool.{and_parts}
use Rattle.std.proofs.lemmas.Str.{IsUtf8-from_ascii}
use Rattle.std.proofs.lemmas.Str.Ascii.{IsAscii-nil, IsAscii-cons}
use Rattle.sqlite.specs.Table.{Table}
use Rattle.sqlite_ast.specs.declared.Statement.{Statement}
use Rattle.sqlite_ast.specs.declared.Statement.TheVariants as written
use Rattle.sqlite_syntax.specs.declared.statement.Parsed.{Parsed}
use Rattle.sqlite_value.specs.declared.value.Value.TheVariants.{Text}
use Rattle.sqlite_value.specs.Order.{value_cmp}
use Rattle.sqlite_schema.specs.Rules.{table_reals, index_reals}
use Rattle.sqlite_catalog.specs.Change.{is_reserved}
use Rattle.sqlite_catalog.specs.Listing.{is_fit, is_formed}
use Rattle.sqlite_trees.specs.Sound.{fits_kind, is_free_name, begins, same_name}
use Rattle.sqlite_resolve.specs.Compile.{first}
use Rattle.sqlite_resolve.specs.Lowering.{Checked}
use Rattle.sqlite_tied.specs.Compute.{everything}
use Rattle.streetmap_rows.specs.Tables.{meta, meta_text, meta_name, collections, collections_text, collections_name, batches, batches_text, batches_name}
use Rattle.streetmap_rows.specs.Tables.{features, features_text, features_name}
use Rattle.streetmap_tables.specs.Made.{IsTableText}
use Rattle.streetmap_tables.proofs.TableTexts.{meta_is, collections_is, batches_is, features_is}
use Rattle.streetmap_tables.proofs.CreateRefused.{IsAllowed}

-- ---- what is parsed of a text

name_of : Statement → List ℕ
name_of (written.CreateTable def) = def.name
name_of _ = []

resolves_of : Statement → Bool
resolves_of (written.CreateTable def) = def.resolves
resolves_of _ = true

name_in : Checked Parsed → List ℕ
name_in (Ok p) = name_of p.statement
name_in (Err e) = []

resolves_in : Checked Parsed → Bool
resolves_in (Ok p) = resolves_of p.statement
resolves_in (Err e) = true

count_in : Checked Parsed → ℕ
count_in (Ok p) = length p.names
count_in (Err e) = 1

tail_in : Checked Parsed → ℕ
tail_in (Ok p) = p.tail
tail_in (Err e) = 0

ascii : (text : List ℕ) → list_all (λ b. nat_lt b 128) text ≡ true → IsAscii text
ascii [] h = IsAscii-nil
ascii (b ∷ text) h =
    let both = and_parts (nat_lt b 128) (list_all (λ c. nat_lt c 128) text) h in
    IsAscii-cons b text (ltb-true b 128 both.0) (ascii text both.1)

record Says (text name : List ℕ) : Type 0 where
  name_is : name_in (first text) ≡ name
  resolves_is : resolves_in (first text) ≡ false
  count_is : count_in (first text) ≡ 0
  tail_is : length text ≤ tail_in (first text)
  ascii_is : list_all (λ b. nat_lt b 128) text ≡ true
  name_ascii_is : list_all (λ b. nat_lt b 128) name ≡ true
  reserved_is : is_reserved name ≡ false
  fit_is : is_fit (Text (codes "table")) (Text name) (Text name) (Text text) ≡ true

allowed : (text : List ℕ) (table : Table) → IsTableText text table → Says text table.name → (length table.computed == length table.stamps.places) ≡ true →
    is_formed table ≡ true → table_reals table < 2 ^ 64
    → AllByRecursion (λ key. index_reals (table_reals table) key < 2 ^ 64) table.uniques → IsAllowed text table
unfolding name_in name_of resolves_in resolves_of count_in tail_in
allowed text table it says uncomputed formed few keys_few = record {
  is = it;
  named = rw (it.is, it.makes) at says.name_is;
  resolved = rw (it.is, it.makes) at says.resolves_is;
  uncomputed = uncomputed;
  bare = sym (rw (it.is) at says.count_is);
  whole = rw (it.is) at says.tail_is;
  unreserved = says.reserved_is;
  utf8 = IsUtf8-from_ascii text (ascii text says.ascii_is);
  name_utf8 = IsUtf8-from_ascii table.name (ascii table.name says.name_ascii_is);
  formed = formed;
  fit = says.fit_is;
  few = few;
  keys_few = keys_few;
}

meta_says : Says meta_text meta_name
unfolding everything name_in name_of resolves_in resolves_of count_in tail_in fits_kind is_free_name begins same_name value_cmp lib.Ieee.is_nan lib.Ieee.lt
meta_says = record {
  name_is = refl;
  resolves_is = refl;
  count_is = refl;
  tail_is = omega arith;
  ascii_is = refl;
  name_ascii_is = refl;
  reserved_is =
      refl;
  fit_is = refl;
}

pub meta_allowed : IsAllowed meta_text (meta 0)
meta_allowed = allowed meta_text (meta 0) meta_is meta_says refl refl (omega arith) (omega arith, tt)

collections_says : Says collections_text collections_name
unfolding everything name_in name_of resolves_in resolves_of count_in tail_in fits_kind is_free_name begins same_name value_cmp lib.Ieee.is_nan lib.Ieee.lt
collections_says = record {
  name_is = refl;
  resolves_is = refl;
  count_is = refl;
  tail_is = omega arith;
  ascii_is = refl;
  name_ascii_is = refl;
  reserved_is =
      refl;
  fit_is = refl;
}

pub collections_allowed : IsAllowed collections_text (collections 0)
collections_allowed = allowed collections_text (collections 0) collections_is collections_says refl refl (omega arith) (omega arith, tt)

batches_says : Says batches_text batches_name
unfolding everything name_in name_of resolves_in resolves_of count_in tail_in fits_kind is_free_name begins same_name value_cmp lib.Ieee.is_nan lib.Ieee.lt
batches_says = record {
  name_is = refl;
  resolves_is = refl;
  count_is = refl;
  tail_is = omega arith;
  ascii_is = refl;
  name_ascii_is = refl;
  reserved_is =
      refl;
  fit_is = refl;
}

pub batches_allowed : IsAllowed batches_text (batches 0)
batches_allowed = allowed batches_text (batches 0) batches_is batches_says refl refl (omega arith) (omega arith, (omega arith, tt))

features_says : Says features_text features_name
unfolding everything name_in name_of resolves_in resolves_of count_in tail_in fits_kind is_free_name begins same_name value_cmp lib.Ieee.is_nan lib.Ieee.lt
features_says = record {
  name_is = refl;
  resolves_is = refl;
  count_is = refl;
  tail_is = omega arith;
  ascii_is = refl;
  name_ascii_is = refl;
  reserved_is =
      refl;
  fit_is = refl;
}

pub features_allowed : IsAllowed features_text (features 0)
features_allowed = allowed features_text (features 0) features_is features_says refl refl (omega arith) (omega arith, tt)
