-- At most one outcome.
use Rattle.std.proofs.Common.{◌≡◌, Bool, true, false, inl, inr, ℕ, suc, List, Option, Some, None, Result, Ok, Err, sym, ap, subst, ◌∙◌}
use Rattle.json.specs.Json as json
use Rattle.serde_json.specs.Data.{array, object, item, Members, no_members, put}
use Rattle.streetmap_decimal.specs.Axes.{shift_of}
use Rattle.streetmap_decimal.specs.declared.axis.Axis.{Axis}
use Rattle.streetmap_decimal.specs.declared.placement.Placement.{Placement}
use Rattle.streetmap_decimal.proofs.Once.{placed_once}
use Rattle.streetmap_placing.specs.Placed.{Then, Made, IsPlacedCoordinate, NumberBy, Becomes, ItemsBecome, MembersBecome, items_count, coordinate_or_fault}
use Rattle.streetmap_placing.specs.Roles.{member_role, element_role}
use Rattle.streetmap_placing.specs.Text.{IsReadAs, ReadsBy, TextBecomes, is_requested, utf8_tree}
use Rattle.streetmap_placing.specs.declared.fault.PlacingFault.{PlacingFault}
use Rattle.streetmap_placing.specs.declared.numbers.Numbers.{Numbers}
use Rattle.streetmap_placing.specs.declared.numbers.Fractions.{Fractions}
use Rattle.streetmap_placing.specs.declared.numbers.Fractions.TheVariants.{Number, Text}
use Rattle.streetmap_placing.specs.declared.role.Role.{Role}
use Rattle.streetmap_placing.specs.declared.role.Role.TheVariants.{Feature, Geometry, Geometries, Coordinates, Coordinate, Properties, Other}

-- a relation of at most one outcome
abbrev Once : {A : Type 0} → (Result A PlacingFault → Type 0) → Type 0
Once {A} R = (r s : Result A PlacingFault) → R r → R s → r ≡ s

same_ok : {A : Type 0} (a b : A) → ◌≡◌ {A = Result A PlacingFault} (Ok a) (Ok b) → a ≡ b
same_ok a b e = cc

not_both : {A : Type 0} (a : A) (f : PlacingFault) → ◌≡◌ {A = Result A PlacingFault} (Ok a) (Err f)
    → ⊥
not_both a f e = cc

same_err : {A : Type 0} (f g : PlacingFault) → ◌≡◌ {A = Result A PlacingFault} (Err f) (Err g)
    → f ≡ g
same_err f g e = cc

then_once : {A B : Type 0} (First : Result A PlacingFault → Type 0)
    (Next : A → Result B PlacingFault → Type 0) → Once First → ((a : A) → Once (Next a))
    → Once (Then First Next)
then_once First Next first next (Ok b) (Ok c) h k =
    let same = same_ok h.0 k.0 (first (Ok h.0) (Ok k.0) h.1.0 k.1.0) in
    next k.0 (Ok b) (Ok c) (subst (λ a. Next a (Ok b)) same h.1.1) k.1.1
then_once First Next first next (Ok b) (Err f) h (inl k) =
    absurd (not_both h.0 f (first (Ok h.0) (Err f) h.1.0 k))
then_once First Next first next (Ok b) (Err f) h (inr k) =
    let same = same_ok h.0 k.0 (first (Ok h.0) (Ok k.0) h.1.0 k.1.0) in
    next k.0 (Ok b) (Err f) (subst (λ a. Next a (Ok b)) same h.1.1) k.1.1
then_once First Next first next (Err f) (Ok c) (inl h) k =
    absurd (not_both k.0 f (first (Ok k.0) (Err f) k.1.0 h))
then_once First Next first next (Err f) (Ok c) (inr h) k =
    let same = same_ok h.0 k.0 (first (Ok h.0) (Ok k.0) h.1.0 k.1.0) in
    next k.0 (Err f) (Ok c) (subst (λ a. Next a (Err f)) same h.1.1) k.1.1
then_once First Next first next (Err f) (Err g) (inl h) (inl k) =
    ap Err (same_err f g (first (Err f) (Err g) h k))
then_once First Next first next (Err f) (Err g) (inl h) (inr k) =
    absurd (not_both k.0 f (first (Ok k.0) (Err f) k.1.0 h))
then_once First Next first next (Err f) (Err g) (inr h) (inl k) =
    absurd (not_both h.0 g (first (Ok h.0) (Err g) h.1.0 k))
then_once First Next first next (Err f) (Err g) (inr h) (inr k) =
    let same = same_ok h.0 k.0 (first (Ok h.0) (Ok k.0) h.1.0 k.1.0) in
    next k.0 (Err f) (Err g) (subst (λ a. Next a (Err f)) same h.1.1) k.1.1

is_once : {A : Type 0} (q : Result A PlacingFault) → Once (λ r. r ≡ q)
is_once q r s h k = h ∙ sym k

made_once : {A B : Type 0} (make : A → B) (First : Result A PlacingFault → Type 0) → Once First
    → Once (Made make First)
made_once make First first = then_once First (λ a r. r ≡ Ok (make a)) first
    (λ a. is_once (Ok (make a)))

coordinate_once : (p : Placement) (axis : Axis) (text : List ℕ) → Once (IsPlacedCoordinate p axis text)
coordinate_once p axis text r s h k =
    h.1.1 ∙ ap coordinate_or_fault
    (placed_once (shift_of axis p.shift) p.scale.count p.rounding text h.0 k.0 h.1.0 k.1.0)
    ∙ sym k.1.1

number_once : (p : Option Placement) (f : Fractions) (role : Role) (text : List ℕ)
    → Once (NumberBy p f role text)
number_once None f (Coordinate axis) text = is_once _
number_once (Some p) f (Coordinate axis) text = coordinate_once p axis text
number_once p Number Properties text = is_once _
number_once p Text Properties text = is_once _
number_once p f Feature text = is_once _
number_once p f Geometry text = is_once _
number_once p f Geometries text = is_once _
number_once p f Coordinates text = is_once _
number_once p f Other text = is_once _

mutual
  pub becomes_once : (n : Numbers) (role : Role) (j : json.Json) → Once (Becomes n role j)
  becomes_once n role json.null = is_once _
  becomes_once n role (json.boolean b) = is_once _
  becomes_once n role (json.number text) = number_once n.placement n.fractions role text
  becomes_once n role (json.string s) = is_once _
  becomes_once n role (json.array js) = made_once array (ItemsBecome n role (items_count js) 0 js)
      (items_once n role (items_count js) 0 js)
  becomes_once n role (json.object ms) = made_once object (MembersBecome n role ms no_members)
      (members_once n role ms no_members)

  items_once : (n : Numbers) (role : Role) (count index : ℕ) (js : json.Items)
      → Once (ItemsBecome n role count index js)
  items_once n role count index json.no_items = is_once _
  items_once n role count index (json.item j js) =
      then_once (Becomes n (element_role role count index) j)
      (λ d. Made (item d) (ItemsBecome n role count (suc index) js))
      (becomes_once n (element_role role count index) j)
      (λ d. made_once (item d) (ItemsBecome n role count (suc index) js)
      (items_once n role count (suc index) js))

  members_once : (n : Numbers) (role : Role) (ms : json.Members) (found : Members)
      → Once (MembersBecome n role ms found)
  members_once n role json.no_members found = is_once _
  members_once n role (json.member name j ms) found =
      then_once (Becomes n (member_role role name) j)
      (λ d. MembersBecome n role ms (put name d found))
      (becomes_once n (member_role role name) j) (λ d. members_once n role ms (put name d found))

tree_once : (n : Numbers) (o : Option json.Json) → Once (TextBecomes n o)
tree_once n None = is_once _
tree_once n (Some j) = becomes_once n Feature j

pub read_once : (n : Numbers) (text : List ℕ) → Once (IsReadAs n text)
read_once n text = by (is_requested n.placement n.fractions) where
  by : (b : Bool) → Once (ReadsBy b n text)
  by true = tree_once n (utf8_tree text)
  by false = is_once _
