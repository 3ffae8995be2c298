-- The same by marks: of each node, whether it was named.
use Rattle.std.specs.Prelude.{◌≡◌, ℕ, ◌+◌, Bool, true, false, ◌&&◌, not, get_or, set, length, List}
use Rattle.std.specs.Prelude.{[], ◌∷◌}
use Rattle.gltf_json_record.specs.Place.{numbered}
use Rattle.gltf_findings.specs.Checks.{Checks, Nothing, At, ◌&◌}
use Rattle.gltf_inspect_nodes.specs.Named.{is_named}

abbrev pub is_marked : List Bool → ℕ → Bool
is_marked marks k = get_or marks k false

-- with marks at these
abbrev pub marked : List Bool → List ℕ → List Bool
marked marks [] = marks
marked marks (k ∷ ks) = marked (set marks k true) ks

-- with marks at the numbers of these, and with none there
abbrev pub keyed : {T : Type 0} → (T → ℕ) → List Bool → List T → List Bool
keyed key marks [] = marks
keyed key marks (x ∷ xs) = keyed key (set marks (key x) true) xs

abbrev pub cleared : {T : Type 0} → (T → ℕ) → List Bool → List T → List Bool
cleared key marks [] = marks
cleared key marks (x ∷ xs) = cleared key (set marks (key x) false) xs

-- with marks at all that the elements of a list name
abbrev pub marked_all : {T : Type 0} → (T → List ℕ) → List Bool → List T → List Bool
marked_all named marks [] = marks
marked_all named marks (x ∷ xs) = marked_all named (marked marks (named x)) xs

-- none of these has a mark when it comes
abbrev pub are_new : List Bool → List ℕ → Bool
are_new marks [] = true
are_new marks (k ∷ ks) = not (is_marked marks k) && are_new (set marks k true) ks

-- none of all that the elements of a list name has one when it comes
abbrev pub are_all_new : {T : Type 0} → (T → List ℕ) → List Bool → List T → Bool
are_all_new named marks [] = true
are_all_new named marks (x ∷ xs) =
    are_new marks (named x) && are_all_new named (marked marks (named x)) xs

-- the marks of what was named, of so many nodes
pub record AreMarks (count : ℕ) (named : List ℕ) (marks : List Bool) : Type 0 where
  pub len : length marks ≡ count
  pub each : (k : ℕ) → is_marked marks k ≡ is_named count named k

abbrev pub marked_unique_checks : {T : Type 0} → (T → ℕ) → (Bool → Checks) → List Bool → ℕ
    → List T → Checks
marked_unique_checks key told marks k [] = Nothing
marked_unique_checks key told marks k (x ∷ xs) =
    At (numbered k) (told (not (is_marked marks (key x))))
    & marked_unique_checks key told (set marks (key x) true) (k + 1) xs
