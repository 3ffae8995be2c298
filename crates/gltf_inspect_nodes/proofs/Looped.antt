-- Loops by marks.
use Rattle.std.proofs.Common.{◌≡◌, ◌+◌, ℕ, Bool, List, [], ◌∷◌, refl}
use Rattle.gltf_json_scene.specs.declared.scene.Node.{Node}
use Rattle.std.proofs.Common.{ap}
use Rattle.std.proofs.Math.Path.{fun_ext}
use Rattle.gltf_json_scene.specs.declared.skin.Skin.{Skin}
use Rattle.gltf_inspect_nodes.specs.Roots.{loop_checks, skins_checks}

pub same_loops : (f g f2 g2 : ℕ → Bool) (i : ℕ) (ns : List Node) → ((k : ℕ) → f k ≡ g k)
    → ((k : ℕ) → f2 k ≡ g2 k) → loop_checks f f2 i ns ≡ loop_checks g g2 i ns
same_loops f g f2 g2 i [] same other = refl
same_loops f g f2 g2 i (n ∷ ns) same other =
    rw (same i, other i, same_loops f g f2 g2 (i + 1) ns same other) refl

pub same_skins : (f g : ℕ → Bool) (ends : List ℕ) (ss : List Skin) → ((k : ℕ) → f k ≡ g k)
    → skins_checks f ends ss ≡ skins_checks g ends ss
same_skins f g ends ss same = ap (λ (c : ℕ → Bool). skins_checks c ends ss) (fun_ext same)
