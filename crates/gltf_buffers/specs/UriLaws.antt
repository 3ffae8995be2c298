-- Laws over the definitions.
use Rattle.std.specs.Prelude.{◌≡◌, ◌≢◌, ℕ, ◌<◌, ◌≤◌, List, ◌++◌, length, MatchOption}
use Rattle.gltf_buffers.specs.Uri.{cut_at, text_behind}

-- n stands in s between these parts, and nowhere with less before it
pub record IsFirstCut (n s front back : List ℕ) : Type 0 where
  pub stands : s ≡ front ++ n ++ back
  pub first : (before behind : List ℕ) → s ≡ before ++ n ++ behind → length front ≤ length before

-- n stands nowhere in s
abbrev pub IsNowhere : List ℕ → List ℕ → Type 0
IsNowhere n s = (before behind : List ℕ) → s ≢ before ++ n ++ behind

-- `cut_at` cuts at the first place, wherever there is one
abbrev pub CutsAtFirst : Type 0
CutsAtFirst =
    (n s : List ℕ) → 0 < length n
    → MatchOption (cut_at n s) (IsNowhere n s) (λ parts. IsFirstCut n s parts.0 parts.1)

-- `stripped` gives what follows a prefix, wherever it is one
abbrev pub StripsPrefix : Type 0
StripsPrefix =
    (n s : List ℕ)
    → MatchOption (text_behind n s) ((rest : List ℕ) → s ≢ n ++ rest) (λ rest. s ≡ n ++ rest)
