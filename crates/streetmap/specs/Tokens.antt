-- The token of a follower's script, as a file has it, and the guard that is requested.
use Rattle.std.specs.Prelude.{◌≡◌, ℕ, Bool, true, ◌&&◌, ◌==◌, nat_le, length, take}
use Rattle.std.specs.Prelude.{Option, None, Some, position}
use Rattle.std.specs.List.{list_all}
use Rattle.streetmap_batch.specs.Text.{Text}
use Rattle.streetmap_command.specs.Program.{GuardWords, free_guard, fenced_guard, follower_guard}
use Rattle.streetmap_web.specs.Guards.{GuardValue, free, fenced, follower}

-- visible ASCII
abbrev pub is_visible : ℕ → Bool
is_visible b = nat_le 33 b && nat_le b 126

-- 16 to 128 visible characters of ASCII
abbrev pub is_token : Text → Bool
is_token text = nat_le 16 (length text) && nat_le (length text) 128 && list_all is_visible text

-- the text before this place, if it is one
abbrev pub before_place : Text → Option ℕ → Text
before_place text None = text
before_place text (Some at) = take at text

-- the first line, without its line feed
abbrev pub first_line : Text → Text
first_line text = before_place text (position (λ b. b == 10) text)

-- the guard that is requested; a follower's token is one
abbrev pub IsGuardOf : GuardWords → GuardValue → Type 0
IsGuardOf free_guard guard = guard ≡ free
IsGuardOf fenced_guard guard = guard ≡ fenced
IsGuardOf (follower_guard path) guard =
    (its : Text) × (guard ≡ follower its) × (is_token its ≡ true)
