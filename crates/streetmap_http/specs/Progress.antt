-- How far a head has come, by its lines, and with one more byte.
use Rattle.std.specs.Prelude.{◌≡◌, ℕ, ◌<◌, List, [], ◌∷◌, ◌++◌, length, All, ◌==◌, if◌then◌else◌}
use Rattle.streetmap_http.specs.Head.{IsEmptyText, IsLineText, lines_of, AreEmptyLines}
use Rattle.streetmap_http.specs.Head.{IsLinesOfHead}
use Rattle.streetmap_http.specs.declared.head.HeadProgress.{HeadProgress}
use Rattle.streetmap_http.specs.declared.head.HeadProgress.TheVariants.{Blank, BlankCr, Text}
use Rattle.streetmap_http.specs.declared.head.HeadProgress.TheVariants.{Start, StartCr, Done}

-- empty lines, and then one or more lines that are not
pub record BeginsHead (bytes : List ℕ) : Type 0 where
  pub blank : List (List ℕ)
  pub lines : List (List ℕ)
  pub skipped : All IsEmptyText blank
  pub some : 0 < length lines
  pub full : All IsLineText lines
  pub joined : bytes ≡ lines_of blank ++ lines_of lines

-- empty lines, then lines that are not, if any, and then a line that is not, without its end
pub record BreaksOffInLine (bytes : List ℕ) : Type 0 where
  pub blank : List (List ℕ)
  pub lines : List (List ℕ)
  pub text : List ℕ
  pub skipped : All IsEmptyText blank
  pub full : All IsLineText lines
  pub line : IsLineText text
  pub joined : bytes ≡ lines_of blank ++ (lines_of lines ++ text)

-- such bytes, and a carriage return
abbrev pub FollowsReturn : (List ℕ → Type 0) → List ℕ → Type 0
FollowsReturn P bytes = (front : List ℕ) × P front × (bytes ≡ front ++ 13 ∷ [])

-- the lines of a head, and any bytes
abbrev pub FollowsHead : List ℕ → Type 0
FollowsHead bytes = (head : List ℕ) × (rest : List ℕ) × (lines : List (List ℕ))
    × IsLinesOfHead head lines × (bytes ≡ head ++ rest)

-- the bytes are those of a head that has come this far
abbrev pub HasReached : HeadProgress → List ℕ → Type 0
HasReached Blank bytes = AreEmptyLines bytes
HasReached BlankCr bytes = FollowsReturn AreEmptyLines bytes
HasReached Text bytes = BreaksOffInLine bytes
HasReached Start bytes = BeginsHead bytes
HasReached StartCr bytes = FollowsReturn BeginsHead bytes
HasReached Done bytes = FollowsHead bytes

-- how far it has come with one more byte
abbrev pub step : HeadProgress → ℕ → HeadProgress
step Blank b = if b == 10 then Blank else (if b == 13 then BlankCr else Text)
step BlankCr b = if b == 10 then Blank else Text
step Text b = if b == 10 then Start else Text
step Start b = if b == 10 then Done else (if b == 13 then StartCr else Text)
step StartCr b = if b == 10 then Done else Text
step Done b = Done
